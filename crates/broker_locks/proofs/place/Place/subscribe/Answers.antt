use Rattle.std.proofs.Common.{◌≡◌, Option, Some, None, IfErr, refl, sym, ap, subst, ◌∙◌}
use Rattle.std.specs.Option.{option_map}
use Rattle.sub_queue.specs.Ends.{shown_of_source}
use Rattle.mcast_group.specs.CellGroup.{CellGroupState}
use Rattle.mcast_group.specs.Group.{group_after_subscribe, sub_refusal}
use Rattle.mcast_group.specs.declared.fault.SubFault.{SubFault}
use Rattle.broker_locks.specs.Inner.KeptRows.{RowsKept, place_with}
use Rattle.broker_locks.specs.Place.{PlaceState, place_after_subscribe, place_subscribe_fault}
use Rattle.broker_locks.proofs.Adding.{on_err, on_ok, on_ok_two}
use Rattle.broker_locks.proofs.Balance.{allowed_some, balanced_subscribed, fault_some, viewed_subscribed}
use Rattle.broker_locks.proofs.PlaceTraces.{Traced, rows_subscribed}
use Rattle.broker_locks.proofs.place.Place.subscribe.Goals as goal

pub subscribe-requires-clause-traced : goal.subscribe-requires-clause-traced
subscribe-requires-clause-traced g c = subst (Traced c.self.inside.group.group.topic) c.in-Some.is c.self.invariant.trace

pub invariant_of-self : goal.invariant_of-self
invariant_of-self g c =
    let x = c.self.inside.group.group.topic in
    let some = c.in-Some.is in
    let s = c.subscribe in
    balanced_subscribed c.self.inside.group c.self.inside.tickets c.self.inside.released c.self.inside.cancelled c.self.inside.kept c.self.invariant s.result s.new.group (Some s.new.self) c.args.number (shown_of_source c.args.source).gauge
    (on_ok_two s.result (λ unused allowed. subst (λ (o : Option RowsKept). place_subscribe_fault c.args.number (place_with c.self.inside.group c.self.inside.tickets c.self.inside.released c.self.inside.cancelled o) ≡ None) (sym some) (allowed_some c.self.inside.group c.self.inside.tickets c.self.inside.released c.self.inside.cancelled c.args.number c.in-Some.kept unused allowed)) s.ensures.unused s.ensures.allowed)
    s.ensures.group
    (on_ok s.result (λ spans. ap (λ (z : RowsKept). Some z) spans ∙ sym (ap (λ (o : Option RowsKept). option_map (rows_subscribed c.args.number x.frontier) o) some)) s.ensures.spans)
    (on_err s.result (λ h. (h.1, ap (λ (z : RowsKept). Some z) h.0 ∙ sym some)) s.ensures.err)

pub invariant_of-self-in-None : goal.invariant_of-self-in-None
invariant_of-self-in-None g c =
    let x = c.self.inside.group.group.topic in
    let none = c.in-None.is in
    let s = c.subscribe-in-None in
    balanced_subscribed c.self.inside.group c.self.inside.tickets c.self.inside.released c.self.inside.cancelled c.self.inside.kept c.self.invariant s.result s.new.self c.self.inside.kept c.args.number (shown_of_source c.args.source).gauge
    (on_ok s.result (λ allowed. ap (λ (o : Option RowsKept). place_subscribe_fault c.args.number (place_with c.self.inside.group c.self.inside.tickets c.self.inside.released c.self.inside.cancelled o)) none ∙ allowed) s.ensures.allowed)
    s.ensures.ok
    (on_ok s.result (λ allowed. none ∙ sym (ap (λ (o : Option RowsKept). option_map (rows_subscribed c.args.number x.frontier) o) none)) s.ensures.allowed)
    (on_err s.result (λ h. (h, refl)) s.ensures.err)

pub returns-in-Some-clause-allowed : goal.returns-in-Some-clause-allowed
returns-in-Some-clause-allowed g c =
    let base : place_with c.self.inside.group c.self.inside.tickets c.self.inside.released c.self.inside.cancelled (Some c.in-Some.kept) ≡ c.args.self.now = ap (λ (o : Option RowsKept). place_with c.self.inside.group c.self.inside.tickets c.self.inside.released c.self.inside.cancelled o) (sym c.in-Some.is) ∙ c.self.view_is in
    on_ok_two c.subscribe.result (λ unused allowed. subst (λ (p : PlaceState). place_subscribe_fault c.args.number p ≡ None) base (allowed_some c.self.inside.group c.self.inside.tickets c.self.inside.released c.self.inside.cancelled c.args.number c.in-Some.kept unused allowed)) c.subscribe.ensures.unused c.subscribe.ensures.allowed

pub returns-in-Some-clause-ok : goal.returns-in-Some-clause-ok
returns-in-Some-clause-ok g c =
    let base : place_with c.self.inside.group c.self.inside.tickets c.self.inside.released c.self.inside.cancelled (Some c.in-Some.kept) ≡ c.args.self.now = ap (λ (o : Option RowsKept). place_with c.self.inside.group c.self.inside.tickets c.self.inside.released c.self.inside.cancelled o) (sym c.in-Some.is) ∙ c.self.view_is in
    let gauge = (shown_of_source c.args.source).gauge in
    on_ok_two c.subscribe.result (λ group spans.
    ap (λ (z : CellGroupState). place_with z c.self.inside.tickets c.self.inside.released c.self.inside.cancelled (Some c.subscribe.new.self)) group
    ∙ (ap (λ (z : RowsKept). place_with (record c.self.inside.group { group = group_after_subscribe c.args.number gauge c.self.inside.group.group }) c.self.inside.tickets c.self.inside.released c.self.inside.cancelled (Some z)) spans
    ∙ (viewed_subscribed c.self.inside.group c.self.inside.tickets c.self.inside.released c.self.inside.cancelled c.args.number gauge c.in-Some.kept
    ∙ ap (place_after_subscribe c.args.number gauge) base))) c.subscribe.ensures.group c.subscribe.ensures.spans

pub returns-in-Some-clause-fault : goal.returns-in-Some-clause-fault
returns-in-Some-clause-fault g c =
    let base : place_with c.self.inside.group c.self.inside.tickets c.self.inside.released c.self.inside.cancelled (Some c.in-Some.kept) ≡ c.args.self.now = ap (λ (o : Option RowsKept). place_with c.self.inside.group c.self.inside.tickets c.self.inside.released c.self.inside.cancelled o) (sym c.in-Some.is) ∙ c.self.view_is in
    subst (λ (f : Option SubFault). IfErr c.subscribe.result (λ e. e.0 ≡ sub_refusal f)) (fault_some c.self.inside.group c.self.inside.tickets c.self.inside.released c.self.inside.cancelled c.args.number c.in-Some.kept ∙ ap (place_subscribe_fault c.args.number) base) c.subscribe.ensures.fault

pub returns-in-Some-clause-err : goal.returns-in-Some-clause-err
returns-in-Some-clause-err g c =
    let base : place_with c.self.inside.group c.self.inside.tickets c.self.inside.released c.self.inside.cancelled (Some c.in-Some.kept) ≡ c.args.self.now = ap (λ (o : Option RowsKept). place_with c.self.inside.group c.self.inside.tickets c.self.inside.released c.self.inside.cancelled o) (sym c.in-Some.is) ∙ c.self.view_is in
    on_err c.subscribe.result (λ h.
    ap (λ (z : CellGroupState). place_with z c.self.inside.tickets c.self.inside.released c.self.inside.cancelled (Some c.subscribe.new.self)) h.1
    ∙ (ap (λ (z : RowsKept). place_with c.self.inside.group c.self.inside.tickets c.self.inside.released c.self.inside.cancelled (Some z)) h.0 ∙ base)) c.subscribe.ensures.err
