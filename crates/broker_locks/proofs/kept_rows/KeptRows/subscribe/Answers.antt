use Rattle.std.proofs.Common.{◌≡◌, List, None, refl, sym, ap, subst, ◌∙◌, rules}
use Rattle.std.specs.List.{insert}
use Rattle.mcast_txn.specs.Lists.{RisesBy, insert_by_number}
use Rattle.mcast_txn.specs.declared.stamp.Stamp.{Stamp}
use Rattle.mcast_txn.proofs.Inserting.{puts_in_gap, rises_inserted}
use Rattle.mcast_txn.proofs.Rising.{IsGap}
use Rattle.broker_locks.specs.declared.kept_span.KeptSpan.{KeptSpan}
use Rattle.broker_locks.specs.Inner.KeptRows.{RowsKept, span_number}
use Rattle.broker_locks.proofs.PlaceTraces.{unused_allowed}
use Rattle.broker_locks.proofs.Spans.{unused_at, used_at}
use Rattle.broker_locks.proofs.TraceKept.{unused}
use Rattle.broker_locks.proofs.kept_rows.KeptRows.subscribe.Goals as goal

pub returns-in_default-clause-fault : goal.returns-in_default-clause-fault
returns-in_default-clause-fault g c =
    let e = used_at c.args.self.now.spans c.args.number c.in_default.field-0 c.in_default.ensures.found in rw e refl

pub returns-in_default-reserve-clause-fault : goal.returns-in_default-reserve-clause-fault
returns-in_default-reserve-clause-fault g c =
    let e = unused_at c.args.self.now.spans c.args.number c.in-Err.index c.in-Err.ensures.absent in
    let allowed = unused_allowed c.args.self.now c.args.group.now.group.topic c.args.number c.requires.traced e in
    rw (e, allowed) refl

pub returns-in_err-from-clause-fault : goal.returns-in_err-from-clause-fault
returns-in_err-from-clause-fault g c =
    let e = unused_at c.args.self.now.spans c.args.number c.in-Err.index c.in-Err.ensures.absent in
    rw e (search rules)

pub invariant_of-self-2 : goal.invariant_of-self-2
invariant_of-self-2 g c =
    let new : KeptSpan = record { number = c.args.number; from = c.in_ok-from.from; to = None } in
    let gap = subst (λ (k : RowsKept). IsGap span_number k.spans c.args.number c.in-Err.index) (sym c.self.view_is) c.in-Err.ensures.absent in
    let items : c.insert.new.self.items ≡ insert_by_number span_number new c.self.inside.spans.items =
    c.in-Ok-insert.ensures.items ∙ (ap (λ (ss : List KeptSpan). insert ss c.in-Err.index new) c.in-Ok.ensures.items ∙ puts_in_gap span_number c.self.inside.spans.items c.in-Err.index new gap) in
    subst (RisesBy span_number) (sym items)
    (rises_inserted span_number new c.self.inside.spans.items c.self.invariant (unused span_number c.args.number c.self.inside.spans.items (unused_at c.self.inside.spans.items c.args.number c.in-Err.index gap)))

pub returns-clause-unused : goal.returns-clause-unused
returns-clause-unused g c = unused_at c.args.self.now.spans c.args.number c.in-Err.index c.in-Err.ensures.absent

pub returns-clause-spans : goal.returns-clause-spans
returns-clause-spans g c =
    let new : KeptSpan = record { number = c.args.number; from = c.in_ok-from.from; to = None } in
    let gap = subst (λ (k : RowsKept). IsGap span_number k.spans c.args.number c.in-Err.index) (sym c.self.view_is) c.in-Err.ensures.absent in
    let items : c.insert.new.self.items ≡ insert_by_number span_number new c.self.inside.spans.items =
    c.in-Ok-insert.ensures.items ∙ (ap (λ (ss : List KeptSpan). insert ss c.in-Err.index new) c.in-Ok.ensures.items ∙ puts_in_gap span_number c.self.inside.spans.items c.in-Err.index new gap) in
    ap (λ (ss : List KeptSpan). record { drained = c.self.inside.drained.items; spans = ss }) items
    ∙ (ap (λ (f : Stamp). record { drained = c.self.inside.drained.items; spans = insert_by_number span_number (record { number = c.args.number; from = f; to = None }) c.self.inside.spans.items }) c.in_ok-from.ensures.from
    ∙ ap (λ (k : RowsKept). record { drained = k.drained; spans = insert_by_number span_number (record { number = c.args.number; from = c.args.group.now.group.topic.frontier; to = None }) k.spans }) c.self.view_is)
