use Rattle.std.proofs.Common.{get_or, set, List, map, Option, Some, refl, sym, ap, subst, ◌∙◌}
use Rattle.sub_queue.specs.Shown.{Gauge}
use Rattle.mcast_group.specs.declared.subscription.Subscription.{Subscription}
use Rattle.mcast_group.specs.Group.{gauge_at, shown_with, topic_state}
use Rattle.mcast_group.specs.Counted.{group_after_take, next_at, next_in}
use Rattle.mcast_group.specs.Inner.GroupInvariant.{IsKept, entry_of, gauge_of}
use Rattle.mcast_group.specs.Machine.{Entry}
use Rattle.mcast_group.proofs.Subscribing.{ends_found, no_entry}
use Rattle.mcast_group.proofs.Taking.{kept_taken, map_set, some_sub, taken_at, untouched}
use Rattle.mcast_group.proofs.group.Group+VecOutlet.take.Goals as goal
use Rattle.sub_queue.specs.declared.vec_outlet.VecOutlet.{VecOutlet}
use Rattle.sub_queue.specs.VecQueue.{after_take, shown_of}

pub returns-in_err-at-clause-next : goal.returns-in_err-at-clause-next
returns-in_err-at-clause-next c =
    let subs = c.self.inside.subscriptions in
    let at = c.index_of.ensures in
    c.from_residual.ensures
    ∙ (ap (λ (o : Option Entry). next_in (shown_with o (gauge_at c.args.number (map (entry_of shown_of) subs) (map (gauge_of shown_of) subs)))) (sym (no_entry shown_of c.args.number subs (sym at ∙ c.in_err-at.was)))
    ∙ ap (next_at c.args.number) c.self.view_is)

pub returns-in_err-at-clause-taken : goal.returns-in_err-at-clause-taken
returns-in_err-at-clause-taken c =
    let s = c.self.inside in
    let subs = s.subscriptions in
    let at = c.index_of.ensures in
    let x = topic_state s.topic s.clock s.log_limit s.pending s.base s.rows.items s.frontier (map (entry_of shown_of) subs) in
    sym c.self.view_is
    ∙ (ap (λ (rs : List Gauge). record { topic = x; gauges = rs }) (sym (untouched shown_of c.args.number subs (sym at ∙ c.in_err-at.was)))
    ∙ ap (group_after_take c.args.number) c.self.view_is)

pub take-requires : goal.take-requires
take-requires c =
    (ends_found shown_of c.args.number c.self.inside.subscriptions c.in_ok-at.at some_sub (sym c.index_of.ensures ∙ c.in_ok-at.was)).0

pub invariant_of-self : goal.invariant_of-self
invariant_of-self c =
    let s = c.self.inside in
    let subs = s.subscriptions in
    let index = c.in_ok-at.at in
    let at = sym c.index_of.ensures ∙ c.in_ok-at.was in
    let ends = ends_found shown_of c.args.number subs index some_sub at in
    let old = get_or subs index some_sub in
    let new : Subscription VecOutlet = record old { outlet = after_take old.outlet } in
    let x = topic_state s.topic s.clock s.log_limit s.pending s.base s.rows.items s.frontier in
    subst (λ (zs : List (Subscription VecOutlet)). IsKept (λ (o : VecOutlet). o.spare) (x (map (entry_of shown_of) zs)) s.rows.capacity s.copies.items zs) (sym (c.take.ensures.taken some_sub))
    (kept_taken (λ (o : VecOutlet). o.spare) (x (map (entry_of shown_of) subs)) _ s.rows.capacity s.copies.items subs index some_sub new c.self.invariant
    (ap x (map_set (entry_of shown_of) subs index new some_sub refl ends.0)) ends.0 refl refl)

pub returns-clause-next : goal.returns-clause-next
returns-clause-next c =
    let subs = c.self.inside.subscriptions in
    let index = c.in_ok-at.at in
    let ends = ends_found shown_of c.args.number subs index some_sub (sym c.index_of.ensures ∙ c.in_ok-at.was) in
    let z = get_or subs index some_sub in
    c.take.ensures.next some_sub
    ∙ (sym (ap (λ (o : Option Entry). next_in (shown_with o (gauge_at c.args.number (map (entry_of shown_of) subs) (map (gauge_of shown_of) subs)))) ends.1.found
    ∙ ap (λ (r : Option Gauge). next_in (shown_with (Some (entry_of shown_of z)) r)) ends.1.gauged)
    ∙ ap (next_at c.args.number) c.self.view_is)

pub returns-clause-taken : goal.returns-clause-taken
returns-clause-taken c =
    let s = c.self.inside in
    let subs = s.subscriptions in
    let index = c.in_ok-at.at in
    let at = sym c.index_of.ensures ∙ c.in_ok-at.was in
    let ends = ends_found shown_of c.args.number subs index some_sub at in
    let old = get_or subs index some_sub in
    let new : Subscription VecOutlet = record old { outlet = after_take old.outlet } in
    let x = topic_state s.topic s.clock s.log_limit s.pending s.base s.rows.items s.frontier in
    ap (λ (zs : List (Subscription VecOutlet)). record { topic = x (map (entry_of shown_of) zs); gauges = map (gauge_of shown_of) zs }) (c.take.ensures.taken some_sub)
    ∙ (ap (λ (es : List Entry). record { topic = x es; gauges = map (gauge_of shown_of) (set subs index new) }) (map_set (entry_of shown_of) subs index new some_sub refl ends.0)
    ∙ (ap (λ (rs : List Gauge). record { topic = x (map (entry_of shown_of) subs); gauges = rs }) (sym (taken_at shown_of c.args.number subs index some_sub new at refl))
    ∙ ap (group_after_take c.args.number) c.self.view_is))
