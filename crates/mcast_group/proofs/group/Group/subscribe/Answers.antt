use Rattle.std.proofs.Common.{◌≡◌, ◌≤◌, ℕ, ◌+◌, [], List, map, length, None, refl, sym, ap, subst, ◌∙◌}
use Rattle.mcast_group.specs.CellGroup.{open_count}
use Rattle.mcast_group.specs.Group.{GroupState, group_after_subscribe, gauges_with, topic_state, sub_refusal}
use Rattle.mcast_txn.specs.Span.{Item}
use Rattle.sub_queue.specs.Shown.{Gauge, Shown}
use Rattle.mcast_group.specs.declared.subscription.Subscription.{Subscription}
use Rattle.mcast_group.specs.Inner.Copies.{HaveCopies}
use Rattle.mcast_group.specs.Inner.GroupInvariant.{IsKept, entry_of, gauge_of}
use Rattle.mcast_group.specs.Machine.{Entry, TopicState, after_subscribe, subscribe_fault}
use Rattle.mcast_group.proofs.Releasing.{copies_length}
use Rattle.mcast_group.proofs.Subscribing.{in_use, not_in_use, kept_subscribed, gauges_are_with, subscribed_state}
use Rattle.mcast_group.proofs.group.Group.subscribe.Given as given
use Rattle.mcast_group.proofs.group.Group.subscribe.Goals as goal

pub returns-in_default-clause-fault : goal.returns-in_default-clause-fault
returns-in_default-clause-fault g c =
    let s = c.self.inside in
    let x = topic_state s.topic s.clock s.log_limit s.pending s.base s.rows.items s.frontier (map (entry_of g.Q.Outlet.shown) s.subscriptions) in
    let e = in_use g.Q.Outlet.shown x c.args.number c.in_default.field-0 s.subscriptions refl c.in_default.ensures.found in
    sym (ap sub_refusal (ap (λ (z : GroupState). subscribe_fault c.args.number z.topic) (sym c.self.view_is) ∙ e))

pub make_room-requires : goal.make_room-requires
make_room-requires g c =
    let s = c.self.inside in
    sym (copies_length _ s.pending s.copies.items c.self.invariant.copied)

pub returns-in_default-make_room-clause-fault : goal.returns-in_default-make_room-clause-fault
returns-in_default-make_room-clause-fault g c =
    let s = c.self.inside in
    let x = topic_state s.topic s.clock s.log_limit s.pending s.base s.rows.items s.frontier (map (entry_of g.Q.Outlet.shown) s.subscriptions) in
    let e = not_in_use g.Q.Outlet.shown x c.args.number s.subscriptions refl c.in-Err.ensures.absent in
    sym (ap sub_refusal (ap (λ (z : GroupState). subscribe_fault c.args.number z.topic) (sym c.self.view_is) ∙ e))

pub returns-in-Err-insert-clause-fault : goal.returns-in-Err-insert-clause-fault
returns-in-Err-insert-clause-fault g c =
    let s = c.self.inside in
    let x = topic_state s.topic s.clock s.log_limit s.pending s.base s.rows.items s.frontier (map (entry_of g.Q.Outlet.shown) s.subscriptions) in
    let e = not_in_use g.Q.Outlet.shown x c.args.number s.subscriptions refl c.in-Err.ensures.absent in
    sym (ap sub_refusal (ap (λ (z : GroupState). subscribe_fault c.args.number z.topic) (sym c.self.view_is) ∙ e))

-- the machine's new subscription, with this number
numbered : (g : given.Over) (c : goal.After-result-1 g) → entry_of g.Q.Outlet.shown c.make_room.new.sub ≡ record { number = c.args.number; from = c.self.inside.frontier; to = None; accepted = [] }
numbered g c =
    c.in-Ok.ensures.entry ∙ ap (λ (z : List Item). record { number = c.args.number; from = c.self.inside.frontier; to = None; accepted = z }) c.requires

-- the topic after it
begun : (g : given.Over) (c : goal.After-result-1 g) → topic_state c.self.inside.topic c.self.inside.clock c.self.inside.log_limit c.self.inside.pending c.self.inside.base c.self.inside.rows.items c.self.inside.frontier (map (entry_of g.Q.Outlet.shown) c.insert.new.self) ≡ after_subscribe c.args.number (topic_state c.self.inside.topic c.self.inside.clock c.self.inside.log_limit c.self.inside.pending c.self.inside.base c.self.inside.rows.items c.self.inside.frontier (map (entry_of g.Q.Outlet.shown) c.self.inside.subscriptions))
begun g c =
    let s = c.self.inside in
    let shown = g.Q.Outlet.shown in
    let new = c.make_room.new.sub in
    let number : new.number ≡ c.args.number = ap (λ (z : Entry). z.number) (numbered g c) in
    let entry : entry_of shown new ≡ record { number = new.number; from = s.frontier; to = None; accepted = [] } = numbered g c ∙ ap (λ (n : ℕ). record { number = n; from = s.frontier; to = None; accepted = [] }) (sym number) in
    let x = topic_state s.topic s.clock s.log_limit s.pending s.base s.rows.items s.frontier (map (entry_of shown) s.subscriptions) in
    ap (λ (zs : List (Subscription g.row.Q.Denot)). topic_state s.topic s.clock s.log_limit s.pending s.base s.rows.items s.frontier (map (entry_of shown) zs)) c.in_default-insert.ensures.ok
    ∙ (subscribed_state shown s.topic s.clock s.log_limit s.pending s.base s.rows.items s.frontier s.subscriptions new entry
    ∙ ap (λ (n : ℕ). after_subscribe n x) number)

pub invariant_of-self-2 : goal.invariant_of-self-2
invariant_of-self-2 g c =
    let s = c.self.inside in
    let shown = g.Q.Outlet.shown in
    let new = c.make_room.new.sub in
    let x = topic_state s.topic s.clock s.log_limit s.pending s.base s.rows.items s.frontier (map (entry_of shown) s.subscriptions) in
    let number : new.number ≡ c.args.number = ap (λ (z : Entry). z.number) (numbered g c) in
    let none = not_in_use shown x c.args.number s.subscriptions refl c.in-Err.ensures.absent in
    let free : subscribe_fault new.number x ≡ None = subst (λ (n : ℕ). subscribe_fault n x ≡ None) (sym number) none in
    let is = begun g c ∙ ap (λ (n : ℕ). after_subscribe n x) (sym number) in
    let copied : HaveCopies (open_count (map (entry_of shown) s.subscriptions) + 1) s.pending c.make_room.new.copies.items = (c.in-Ok.ensures.more) (open_count (map (entry_of shown) s.subscriptions)) c.self.invariant.copied in
    let left : new.to ≡ None → length s.pending ≤ g.Q.Outlet.spare new.outlet = c.in-Ok.ensures.spare in
    let kept = kept_subscribed shown g.Q.Outlet.spare x _ s.rows.capacity s.copies.items c.make_room.new.copies.items s.subscriptions new c.self.invariant free is left copied in
    subst (λ (zs : List (Subscription g.row.Q.Denot)). IsKept g.Q.Outlet.spare (topic_state s.topic s.clock s.log_limit s.pending s.base s.rows.items s.frontier (map (entry_of shown) c.insert.new.self)) s.rows.capacity c.make_room.new.copies.items zs) (sym c.in_default-insert.ensures.ok) kept

pub returns-clause-allowed : goal.returns-clause-allowed
returns-clause-allowed g c =
    let s = c.self.inside in
    let x = topic_state s.topic s.clock s.log_limit s.pending s.base s.rows.items s.frontier (map (entry_of g.Q.Outlet.shown) s.subscriptions) in
    let e = not_in_use g.Q.Outlet.shown x c.args.number s.subscriptions refl c.in-Err.ensures.absent in
    ap (λ (z : GroupState). subscribe_fault c.args.number z.topic) (sym c.self.view_is) ∙ e

pub returns-clause-ok : goal.returns-clause-ok
returns-clause-ok g c =
    let s = c.self.inside in
    let shown = g.Q.Outlet.shown in
    let new = c.make_room.new.sub in
    let x = topic_state s.topic s.clock s.log_limit s.pending s.base s.rows.items s.frontier (map (entry_of shown) s.subscriptions) in
    let number : new.number ≡ c.args.number = ap (λ (z : Entry). z.number) (numbered g c) in
    let gauge : gauge_of shown new ≡ (shown c.args.outlet).gauge = ap (λ (z : Shown). z.gauge) c.in-Ok.ensures.shown in
    let gauges : map (gauge_of shown) c.insert.new.self ≡ gauges_with c.args.number (shown c.args.outlet).gauge (map (entry_of shown) s.subscriptions) (map (gauge_of shown) s.subscriptions) =
    ap (map (gauge_of shown)) c.in_default-insert.ensures.ok
    ∙ (gauges_are_with shown new s.subscriptions
    ∙ (ap (λ (n : ℕ). gauges_with n (gauge_of shown new) (map (entry_of shown) s.subscriptions) (map (gauge_of shown) s.subscriptions)) number
    ∙ ap (λ (r : Gauge). gauges_with c.args.number r (map (entry_of shown) s.subscriptions) (map (gauge_of shown) s.subscriptions)) gauge)) in
    ap (λ (y : TopicState). record { topic = y; gauges = map (gauge_of shown) c.insert.new.self }) (begun g c)
    ∙ (ap (λ (rs : List Gauge). record { topic = after_subscribe c.args.number x; gauges = rs }) gauges
    ∙ ap (group_after_subscribe c.args.number (shown c.args.outlet).gauge) c.self.view_is)
