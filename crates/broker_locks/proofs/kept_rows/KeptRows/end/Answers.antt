use Rattle.std.proofs.Common.{List, map, Some, sym, ap, subst, ◌∙◌}
use Rattle.mcast_txn.specs.Lists.{RisesBy}
use Rattle.mcast_txn.proofs.Rising.{IsAt}
use Rattle.broker_locks.specs.declared.kept_span.KeptSpan.{KeptSpan}
use Rattle.broker_locks.specs.Inner.KeptRows.{RowsKept, span_after_end, span_number}
use Rattle.broker_locks.proofs.Spans.{gap_ended, rises_ended, set_ended}
use Rattle.broker_locks.proofs.kept_rows.KeptRows.end.Goals as goal

pub invariant_of-self : goal.invariant_of-self
invariant_of-self c =
    let at = subst (λ (k : RowsKept). IsAt span_number k.spans c.args.number c.in-Ok.index) (sym c.self.view_is) c.in-Ok.ensures.found in
    let m = c.index_mut.result.now in
    let ended = set_ended c.self.inside.spans.items c.args.number c.in-Ok.index c.args.to m (record { number = m.number; from = m.from; to = Some c.args.to }) c.self.invariant at
    (ap (λ (z : KeptSpan). record { number = z.number; from = z.from; to = Some c.args.to }) c.index_mut.ensures.value) in
    subst (RisesBy span_number) (sym ended) (rises_ended c.self.inside.spans.items c.args.number c.args.to c.self.invariant)

pub returns-in-Ok : goal.returns-in-Ok
returns-in-Ok c =
    let at = subst (λ (k : RowsKept). IsAt span_number k.spans c.args.number c.in-Ok.index) (sym c.self.view_is) c.in-Ok.ensures.found in
    let m = c.index_mut.result.now in
    let ended = set_ended c.self.inside.spans.items c.args.number c.in-Ok.index c.args.to m (record { number = m.number; from = m.from; to = Some c.args.to }) c.self.invariant at
    (ap (λ (z : KeptSpan). record { number = z.number; from = z.from; to = Some c.args.to }) c.index_mut.ensures.value) in
    ap (λ (ss : List KeptSpan). record { drained = c.self.inside.drained.items; spans = ss }) ended
    ∙ ap (λ (k : RowsKept). record { drained = k.drained; spans = map (span_after_end c.args.number c.args.to) k.spans }) c.self.view_is

pub returns-in_default : goal.returns-in_default
returns-in_default c =
    ap (λ (ss : List KeptSpan). record { drained = c.args.self.now.drained; spans = ss }) (sym (gap_ended c.args.self.now.spans c.args.number c.in_default.field-0 c.args.to c.in_default.ensures.absent))
