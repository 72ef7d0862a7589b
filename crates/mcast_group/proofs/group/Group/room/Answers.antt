use Rattle.std.proofs.Common.{◌≡◌, ◌≤◌, ◌==◌, IfSome, get_or, set, List, map, Option, Some, None, refl, sym, ap, subst, ◌∙◌}
use Rattle.std.specs.Option.{option_map}
use Rattle.mcast_txn.specs.Span.{Item}
use Rattle.sub_queue.specs.Shown.{Shown, Gauge, known_taken, room, shown_told}
use Rattle.mcast_group.specs.declared.subscription.Subscription.{Subscription}
use Rattle.mcast_group.specs.Group.{gauge_at, group_told, shown_at, shown_with, topic_state}
use Rattle.mcast_group.specs.Inner.GroupInvariant.{IsKept, entry_of, gauge_of}
use Rattle.mcast_group.specs.Machine.{Entry}
use Rattle.mcast_group.proofs.Indices.{in_range}
use Rattle.mcast_group.proofs.Subscribing.{no_entry}
use Rattle.mcast_group.proofs.Taking.{kept_changed, map_set}
use Rattle.mcast_group.proofs.Telling.{shown_after_told, shown_found, some_of, told_at, untold}
use Rattle.mcast_group.proofs.group.Group.room.Goals as goal

-- the entry of a subscription whose outlet accepted these items
abbrev entry : {Q : Type 0} → Subscription Q → List Item → Entry
entry s items = record { number = s.number; from = s.from; to = s.to; accepted = items }

pub returns-in_err-index-clause-told : goal.returns-in_err-index-clause-told
returns-in_err-index-clause-told g c =
    let shown = g.Q.Outlet.shown in
    let s = c.self.inside in
    let subs = s.subscriptions in
    let at = sym c.index_of.ensures ∙ c.in_err-index.was in
    let x = topic_state s.topic s.clock s.log_limit s.pending s.base s.rows.items s.frontier (map (entry_of shown) subs) in
    let none : shown_at c.args.number c.args.self.now ≡ None =
    ap (shown_at c.args.number) (sym c.self.view_is)
    ∙ ap (λ (o : Option Entry). shown_with o (gauge_at c.args.number (map (entry_of shown) subs) (map (gauge_of shown) subs))) (no_entry shown c.args.number subs at) in (
      0,
      subst (λ (o : Option Shown). IfSome o (λ (z : Shown). known_taken z.gauge.taken ≤ 0)) (sym none) tt,
      sym c.self.view_is
          ∙ (ap (λ (rs : List Gauge). record { topic = x; gauges = rs }) (sym (untold shown c.args.number 0 subs at))
          ∙ ap (group_told c.args.number 0) c.self.view_is),
    )

pub returns-in_err-index-clause-room : goal.returns-in_err-index-clause-room
returns-in_err-index-clause-room g c =
    let shown = g.Q.Outlet.shown in
    let subs = c.self.inside.subscriptions in
    let at = sym c.index_of.ensures ∙ c.in_err-index.was in
    let none : shown_at c.args.number c.args.self.now ≡ None =
    ap (shown_at c.args.number) (sym c.self.view_is)
    ∙ ap (λ (o : Option Entry). shown_with o (gauge_at c.args.number (map (entry_of shown) subs) (map (gauge_of shown) subs))) (no_entry shown c.args.number subs at) in
    c.from_residual.ensures ∙ ap (option_map room) (sym none)

pub room-requires : goal.room-requires
room-requires g c =
    in_range (λ (z : Subscription g.row.Q.Denot). z.number == c.args.number) c.self.inside.subscriptions c.in_ok-index.index (sym c.index_of.ensures ∙ c.in_ok-index.was)

pub invariant_of-self : goal.invariant_of-self
invariant_of-self g c =
    let shown = g.Q.Outlet.shown in
    let spare = g.Q.Outlet.spare in
    let s = c.self.inside in
    let subs = s.subscriptions in
    let i = c.in_ok-index.index in
    let at = sym c.index_of.ensures ∙ c.in_ok-index.was in
    let within = in_range (λ (z : Subscription g.row.Q.Denot). z.number == c.args.number) subs i at in
    let d = some_of subs i within in
    let heard = c.room.ensures d in
    let old = get_or subs i d in
    let new : Subscription g.row.Q.Denot = record old { outlet = heard.0 } in
    let same : entry_of shown new ≡ entry_of shown old = ap (λ (z : Shown). entry old z.accepted) heard.1.shows in
    let x = topic_state s.topic s.clock s.log_limit s.pending s.base s.rows.items s.frontier in
    subst (λ (zs : List (Subscription g.row.Q.Denot)). IsKept spare (x (map (entry_of shown) zs)) s.rows.capacity s.copies.items zs) (sym heard.3)
    (kept_changed spare (x (map (entry_of shown) subs)) _ s.rows.capacity s.copies.items subs i d new c.self.invariant
    (ap x (map_set (entry_of shown) subs i new d same within)) within refl heard.1.spare_kept)

pub returns-clause-told : goal.returns-clause-told
returns-clause-told g c =
    let shown = g.Q.Outlet.shown in
    let s = c.self.inside in
    let subs = s.subscriptions in
    let i = c.in_ok-index.index in
    let at = sym c.index_of.ensures ∙ c.in_ok-index.was in
    let within = in_range (λ (z : Subscription g.row.Q.Denot). z.number == c.args.number) subs i at in
    let d = some_of subs i within in
    let heard = c.room.ensures d in
    let taken = heard.1.taken in
    let old = get_or subs i d in
    let new : Subscription g.row.Q.Denot = record old { outlet = heard.0 } in
    let same : entry_of shown new ≡ entry_of shown old = ap (λ (z : Shown). entry old z.accepted) heard.1.shows in
    let x = topic_state s.topic s.clock s.log_limit s.pending s.base s.rows.items s.frontier in
    let there : shown_at c.args.number c.args.self.now ≡ Some (shown old.outlet) = ap (shown_at c.args.number) (sym c.self.view_is) ∙ shown_found shown c.args.number subs i d at (x (map (entry_of shown) subs)) refl in (
      taken,
      subst (λ (o : Option Shown). IfSome o (λ (z : Shown). known_taken z.gauge.taken ≤ taken)) (sym there) heard.1.least,
      ap (λ (zs : List (Subscription g.row.Q.Denot)). record { topic = x (map (entry_of shown) zs); gauges = map (gauge_of shown) zs }) heard.3
          ∙ (ap (λ (es : List Entry). record { topic = x es; gauges = map (gauge_of shown) (set subs i new) }) (map_set (entry_of shown) subs i new d same within)
          ∙ (ap (λ (rs : List Gauge). record { topic = x (map (entry_of shown) subs); gauges = rs }) (sym (told_at shown c.args.number taken subs i d new at heard.1.shows))
          ∙ ap (group_told c.args.number taken) c.self.view_is)),
    )

pub returns-clause-room : goal.returns-clause-room
unfolding returns-clause-told
returns-clause-room g c =
    let shown = g.Q.Outlet.shown in
    let s = c.self.inside in
    let subs = s.subscriptions in
    let i = c.in_ok-index.index in
    let at = sym c.index_of.ensures ∙ c.in_ok-index.was in
    let within = in_range (λ (z : Subscription g.row.Q.Denot). z.number == c.args.number) subs i at in
    let d = some_of subs i within in
    let heard = c.room.ensures d in
    let taken = heard.1.taken in
    let old = get_or subs i d in
    let x = topic_state s.topic s.clock s.log_limit s.pending s.base s.rows.items s.frontier in
    let there : shown_at c.args.number c.args.self.now ≡ Some (shown old.outlet) = ap (shown_at c.args.number) (sym c.self.view_is) ∙ shown_found shown c.args.number subs i d at (x (map (entry_of shown) subs)) refl in
    let told = returns-clause-told g c in
    ap (λ n. Some n) heard.2
    ∙ ap (option_map room) (sym (ap (shown_at c.args.number) told.2
    ∙ (shown_after_told c.args.number taken c.args.self.now
    ∙ (ap (option_map (shown_told taken)) there
    ∙ ap (λ (z : Shown). Some z) (sym heard.1.shows)))))
