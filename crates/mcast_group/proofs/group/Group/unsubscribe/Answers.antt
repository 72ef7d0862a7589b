use Rattle.std.proofs.Common.{◌≡◌, ◌==◌, not, get_or, List, map, Some, refl, sym, ap, subst, ◌∙◌, arith}
use Rattle.std.specs.List.{filter}
use Rattle.sub_queue.specs.Shown.{Gauge}
use Rattle.mcast_group.specs.declared.subscription.Subscription.{Subscription}
use Rattle.mcast_group.specs.CellGroup.{open_count}
use Rattle.mcast_group.specs.Inner.Copies.{HaveCopies}
use Rattle.mcast_group.specs.Group.{GroupState, HasLeft, topic_state, group_after_unsubscribe}
use Rattle.mcast_group.specs.Inner.GroupInvariant.{IsKept, entry_of, gauge_of}
use Rattle.mcast_group.specs.Machine.{Entry, unsubscribe_fault}
use Rattle.mcast_group.proofs.Numbers.{numbers_differ}
use Rattle.mcast_group.proofs.Opens.{open_filtered}
use Rattle.mcast_group.proofs.Subscribing.{ends_found, kept_unsubscribed, no_sub}
use Rattle.mcast_group.proofs.group.Group.unsubscribe.Goals as goal

pub returns-in_default-clause-fault : goal.returns-in_default-clause-fault
returns-in_default-clause-fault g c =
    let s = c.self.inside in
    let shown = g.Q.Outlet.shown in
    let subs = s.subscriptions in
    let x = topic_state s.topic s.clock s.log_limit s.pending s.base s.rows.items s.frontier (map (entry_of shown) subs) in
    let at = c.index_of.ensures in
    ap (λ (z : GroupState). unsubscribe_fault c.args.number z.topic) (sym c.self.view_is) ∙ no_sub shown x c.args.number subs refl (sym at ∙ c.in_default.is)

-- no more are open than were
pub cut_copies-requires : goal.cut_copies-requires
cut_copies-requires g c =
    let shown = g.Q.Outlet.shown in
    let subs = c.self.inside.subscriptions in
    let at = c.index_of.ensures in
    let ends = ends_found shown c.args.number subs c.in-Some.index c.remove-sub.result (sym at ∙ c.in-Some.is) in
    let es : map (entry_of shown) c.remove-sub.new.self ≡ filter (λ (e : Entry). not (e.number == c.args.number)) (map (entry_of shown) subs) = ap (map (entry_of shown)) c.remove-sub.ensures.items ∙ sym (ends.1.left (numbers_differ _ c.self.invariant.sound.numbers)) in
    let fewer = open_filtered (λ (e : Entry). not (e.number == c.args.number)) (map (entry_of shown) subs) in
    let left : c.open_len.result ≡ open_count (filter (λ (e : Entry). not (e.number == c.args.number)) (map (entry_of shown) subs)) = c.open_len.ensures ∙ ap (λ (zs : List Entry). open_count zs) es in
    let had = c.open_len-had.ensures in
    omega arith

pub invariant_of-self : goal.invariant_of-self
invariant_of-self g c =
    let s = c.self.inside in
    let shown = g.Q.Outlet.shown in
    let subs = s.subscriptions in
    let x = topic_state s.topic s.clock s.log_limit s.pending s.base s.rows.items s.frontier (map (entry_of shown) subs) in
    let at = c.index_of.ensures in
    let ends = ends_found shown c.args.number subs c.in-Some.index c.remove-sub.result (sym at ∙ c.in-Some.is) in
    let es : map (entry_of shown) c.remove-sub.new.self ≡ filter (λ (e : Entry). not (e.number == c.args.number)) (map (entry_of shown) subs) = ap (map (entry_of shown)) c.remove-sub.ensures.items ∙ sym (ends.1.left (numbers_differ _ c.self.invariant.sound.numbers)) in
    let copied : HaveCopies (open_count (filter (λ (e : Entry). not (e.number == c.args.number)) (map (entry_of shown) subs))) s.pending c.cut_copies.new.copies.items =
    subst (λ k. HaveCopies k s.pending c.cut_copies.new.copies.items) (c.open_len.ensures ∙ ap (λ (zs : List Entry). open_count zs) es)
    (c.cut_copies.ensures s.pending (subst (λ k. HaveCopies k s.pending s.copies.items) (sym c.open_len-had.ensures) c.self.invariant.copied)) in
    let kept = kept_unsubscribed shown g.Q.Outlet.spare x _ s.rows.capacity s.copies.items c.cut_copies.new.copies.items subs c.args.number c.in-Some.index c.self.invariant (ap (λ (zs : List Entry). topic_state s.topic s.clock s.log_limit s.pending s.base s.rows.items s.frontier zs) es) copied in
    let y = topic_state s.topic s.clock s.log_limit s.pending s.base s.rows.items s.frontier (map (entry_of shown) c.remove-sub.new.self) in
    subst (λ (zs : List (Subscription g.row.Q.Denot)). IsKept g.Q.Outlet.spare y s.rows.capacity c.cut_copies.new.copies.items zs) (sym c.remove-sub.ensures.items) kept

pub returns-clause-left : goal.returns-clause-left
returns-clause-left g c =
    let s = c.self.inside in
    let shown = g.Q.Outlet.shown in
    let subs = s.subscriptions in
    let x = topic_state s.topic s.clock s.log_limit s.pending s.base s.rows.items s.frontier (map (entry_of shown) subs) in
    let at = c.index_of.ensures in
    let ends = ends_found shown c.args.number subs c.in-Some.index c.remove-sub.result (sym at ∙ c.in-Some.is) in
    let es : map (entry_of shown) c.remove-sub.new.self ≡ filter (λ (e : Entry). not (e.number == c.args.number)) (map (entry_of shown) subs) = ap (map (entry_of shown)) c.remove-sub.ensures.items ∙ sym (ends.1.left (numbers_differ _ c.self.invariant.sound.numbers)) in
    let sub = c.remove-sub.result in
    let v : get_or subs c.in-Some.index sub ≡ sub = sym c.remove-sub.ensures.value in
    subst (λ (z : GroupState). HasLeft c.args.number z (shown c.end.result.outlet) c.end.result.to c.end.result.cause) c.self.view_is (record {
      entry = entry_of shown sub;
      gauge = gauge_of shown sub;
      found = ends.1.found ∙ ap (λ (z : Subscription g.row.Q.Denot). Some (entry_of shown z)) v;
      gauged = ends.1.gauged ∙ ap (λ (z : Subscription g.row.Q.Denot). Some (gauge_of shown z)) v;
      shows_it = ap shown c.end.ensures.outlet;
      end = c.end.ensures.to;
      why = c.end.ensures.cause;
    })

pub returns-clause-ok : goal.returns-clause-ok
returns-clause-ok g c =
    let s = c.self.inside in
    let shown = g.Q.Outlet.shown in
    let subs = s.subscriptions in
    let x = topic_state s.topic s.clock s.log_limit s.pending s.base s.rows.items s.frontier (map (entry_of shown) subs) in
    let at = c.index_of.ensures in
    let ends = ends_found shown c.args.number subs c.in-Some.index c.remove-sub.result (sym at ∙ c.in-Some.is) in
    let es : map (entry_of shown) c.remove-sub.new.self ≡ filter (λ (e : Entry). not (e.number == c.args.number)) (map (entry_of shown) subs) = ap (map (entry_of shown)) c.remove-sub.ensures.items ∙ sym (ends.1.left (numbers_differ _ c.self.invariant.sound.numbers)) in
    let gauges = ap (map (gauge_of shown)) c.remove-sub.ensures.items ∙ sym ends.1.gauges in
    ap (λ (zs : List Entry). record { topic = topic_state s.topic s.clock s.log_limit s.pending s.base s.rows.items s.frontier zs; gauges = map (gauge_of shown) c.remove-sub.new.self }) es
    ∙ (ap (λ (rs : List Gauge). record { topic = topic_state s.topic s.clock s.log_limit s.pending s.base s.rows.items s.frontier (filter (λ (e : Entry). not (e.number == c.args.number)) (map (entry_of shown) subs)); gauges = rs }) gauges
    ∙ ap (group_after_unsubscribe c.args.number) c.self.view_is)
