use Rattle.std.proofs.Common.{sym, ap, ◌∙◌}
use Rattle.broker_locks.proofs.Hearing.{heard_then}
use Rattle.broker_locks.proofs.Waiting.{lack_none, lack_one, on_err_anyway, pushed_first}
use Rattle.broker_locks.proofs.room.add_lacking.Goals.{then-not-takes+in_ok-push, else-not-takes}
use Rattle.broker_locks.proofs.room.add_lacking.Goals as goal

pub returns-in_err-push-clause-err : goal.returns-in_err-push-clause-err
returns-in_err-push-clause-err g c =
    on_err_anyway c.from_residual.result
    (pushed_first c.args.due c.args.waited.now c.loop-number.number-index 0 c.loop-number.place.cells.group c.takes.new.place.cells.group c.args.list.now.items c.push.new.self.items c.requires c.loop-number-test.true c.takes.ensures.told
    (c.in_err-push.ensures.items ∙ c.loop-number.invariant.added))

pub loop-number-preserved : goal.loop-number-preserved
loop-number-preserved g c = record {
  heard = heard_then c.args.place.now c.loop-number.place c.takes.new.place c.loop-number.invariant.heard c.takes.ensures.heard;
  added = elim c.if-not-takes.branch [
    | then-not-takes+in_ok-push w ↦
        let one = lack_one c.args.due c.args.waited.now c.loop-number.number-index 0 c.loop-number.place.cells.group c.takes.new.place.cells.group c.args.list.now.items c.loop-number.list.items c.requires c.loop-number-test.true c.takes.ensures.told
        (sym c.takes.ensures.answer ∙ w.if-not-takes.true) c.loop-number.invariant.added in
        ap (λ v. v.items) w.list-is ∙ (w.in_ok-push.ensures.items ∙ one)
    | else-not-takes w ↦
        let none = lack_none c.args.due c.args.waited.now c.loop-number.number-index 0 c.loop-number.place.cells.group c.takes.new.place.cells.group c.args.list.now.items c.loop-number.list.items c.requires c.loop-number-test.true c.takes.ensures.told
        (sym c.takes.ensures.answer ∙ w.if-not-takes.false) c.loop-number.invariant.added in
        ap (λ v. v.items) w.list-is ∙ none
  ];
}
