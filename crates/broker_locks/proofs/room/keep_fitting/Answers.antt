use Rattle.std.proofs.Common.{◌<◌, length, sym, ◌∙◌, arith}
use Rattle.std.proofs.lemmas.List.Filters.{FiltersInPlace, FiltersInPlace-more_no, FiltersInPlace-more_set}
use Rattle.broker_locks.specs.Room.{fits}
use Rattle.broker_locks.proofs.Hearing.{heard_then}
use Rattle.broker_locks.proofs.Waiting.{kept_told}
use Rattle.broker_locks.proofs.room.keep_fitting.Goals.{then-takes, else-takes}
use Rattle.broker_locks.proofs.room.keep_fitting.Goals as goal

pub loop-index-preserved : goal.loop-index-preserved
loop-index-preserved g c = record {
  heard = heard_then c.args.place.now c.loop-index.place c.takes.new.place c.loop-index.invariant.heard c.takes.ensures.heard;
  kept = elim c.if-takes.branch [
    | then-takes w ↦ rw (w.waited-is, w.kept-is) (FiltersInPlace-more_set told within (sym c.takes.ensures.answer ∙ w.if-takes.true) c.index-number.ensures)
    | else-takes w ↦ rw (w.waited-is, w.kept-is) (FiltersInPlace-more_no told within (sym c.takes.ensures.answer ∙ w.if-takes.false) c.index-number.ensures)
  ];
}
  where
    within : c.loop-index.index < length c.loop-index.waited.items
    within = omega (arith, c.loop-index-test.true, c.len-index-end.ensures, c.loop-index.invariant.kept.long)

    told : FiltersInPlace (fits c.args.due c.takes.new.place.cells.group) c.args.waited.now.items c.loop-index.waited.items c.loop-index.kept c.loop-index.index
    told = kept_told c.args.due c.args.waited.now.items c.loop-index.waited.items c.loop-index.kept c.loop-index.index c.index-number.result.now c.loop-index.place.cells.group c.takes.new.place.cells.group c.requires within c.index-number.ensures c.takes.ensures.told c.loop-index.invariant.kept
