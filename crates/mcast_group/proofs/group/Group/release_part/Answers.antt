use Rattle.std.proofs.Common.{◌≡◌, ◌<◌, ◌≤◌, ◌+◌, ◌++◌, ◌∷◌, [], ℕ, List, map, length, get_or, Some, refl, sym, ap, subst, ◌∙◌, arith}
use Rattle.std.specs.Option.{option_map}
use Rattle.mcast_txn.specs.declared.stamp.Stamp.{Stamp}
use Rattle.mcast_txn.specs.Span.{LogRow}
use Rattle.mcast_txn.specs.Transaction.{TopicPart}
use Rattle.mcast_group.specs.declared.subscription.Subscription.{Subscription}
use Rattle.mcast_group.specs.CellGroup.{open_count}
use Rattle.mcast_group.specs.Inner.Copies.{HaveCopies}
use Rattle.mcast_group.specs.Group.{GroupState, Releases, topic_state}
use Rattle.mcast_group.specs.Inner.GroupInvariant.{Gave, entry_of, gauge_of}
use Rattle.mcast_group.specs.Machine.{Pending, due_part, item_of, key, after_release_of}
use Rattle.mcast_group.proofs.Indices.{without_at}
use Rattle.mcast_group.proofs.Groups.{released_state}
use Rattle.mcast_group.proofs.Numbers.{numbers_differ}
use Rattle.mcast_group.proofs.Parts.{map_length}
use Rattle.mcast_group.proofs.Releasing.{Taken, taken, copies_at, copies_length, copies_remove, due_found, kept_released, none_learnt, none_pending, none_released, ready, some_released}
use Rattle.mcast_group.proofs.Opens.{left_open}
use Rattle.mcast_group.proofs.group.Group.release_part.Given as given
use Rattle.mcast_group.proofs.group.Group.release_part.Goals as goal

pub returns-in_err-index-clause-released : goal.returns-in_err-index-clause-released
returns-in_err-index-clause-released g c =
    let s = c.self.inside in
    let x = topic_state s.topic s.clock s.log_limit s.pending s.base s.rows.items s.frontier (map (entry_of g.Q.Outlet.shown) s.subscriptions) in
    let none = none_pending x c.in_err-index.ensures in
    none_released g.Q.Outlet.may_accept c.args.self.now (subst (λ (z : GroupState). due_part z.topic ≡ _) c.self.view_is none)

pub returns-then-not-is_learnt-clause-released : goal.returns-then-not-is_learnt-clause-released
returns-then-not-is_learnt-clause-released g c =
    let s = c.self.inside in
    let x = topic_state s.topic s.clock s.log_limit s.pending s.base s.rows.items s.frontier (map (entry_of g.Q.Outlet.shown) s.subscriptions) in
    let none = none_learnt x c.in_ok-index.index c.at.result.now (c.in_ok-index.ensures.1) c.at.ensures (sym c.is_learnt.ensures ∙ c.if-not-is_learnt.true) in
    none_released g.Q.Outlet.may_accept c.args.self.now (subst (λ (z : GroupState). due_part z.topic ≡ _) c.self.view_is none)

pub take_at-copies-requires : goal.take_at-copies-requires
take_at-copies-requires g c =
    let s = c.self.inside in
    let within : c.in_ok-index.index < length s.pending = c.in_ok-index.ensures.0 in
    let many = copies_length _ s.pending s.copies.items c.self.invariant.copied in
    let l : s.copies.len ≡ length s.copies.items = s.copies.ok.0 in
    omega arith

pub give_all-requires-clause-ready : goal.give_all-requires-clause-ready
give_all-requires-clause-ready g c =
    let s = c.self.inside in
    let x = topic_state s.topic s.clock s.log_limit s.pending s.base s.rows.items s.frontier (map (entry_of g.Q.Outlet.shown) s.subscriptions) in
    let within : c.in_ok-index.index < length s.pending = c.in_ok-index.ensures.0 in
    let due = due_found x c.in_ok-index.index c.at.result.now c.remove_least-part.result (c.in_ok-index.ensures.1) within c.at.ensures c.remove_least-part.ensures.value (sym c.is_learnt.ensures ∙ c.if-not-is_learnt.false) in
    (ready g.Q.Outlet.shown g.Q.Outlet.spare x s.rows.capacity s.copies.items s.subscriptions c.self.invariant refl c.remove_least-part.result due)

pub give_all-requires-clause-copies : goal.give_all-requires-clause-copies
give_all-requires-clause-copies g c =
    let s = c.self.inside in
    let within : c.in_ok-index.index < length s.pending = c.in_ok-index.ensures.0 in
    (copies_at _ s.pending s.copies.items c.in_ok-index.index c.remove_least-part.result c.take_at-copies.result c.self.invariant.copied within c.remove_least-part.ensures.value c.take_at-copies.ensures.value).1

pub give_all-requires-clause-many : goal.give_all-requires-clause-many
give_all-requires-clause-many g c =
    let s = c.self.inside in
    let within : c.in_ok-index.index < length s.pending = c.in_ok-index.ensures.0 in
    let copies = (copies_at _ s.pending s.copies.items c.in_ok-index.index c.remove_least-part.result c.take_at-copies.result c.self.invariant.copied within c.remove_least-part.ensures.value c.take_at-copies.ensures.value).0 in
    omega arith

-- the part that was taken out was due
due : (g : given.Over) (c : goal.After-drop-copies g) → due_part (topic_state c.self.inside.topic c.self.inside.clock c.self.inside.log_limit c.self.inside.pending c.self.inside.base c.self.inside.rows.items c.self.inside.frontier (map (entry_of g.Q.Outlet.shown) c.self.inside.subscriptions)) ≡ Some c.remove_least-part.result
due g c =
    let s = c.self.inside in
    let x = topic_state s.topic s.clock s.log_limit s.pending s.base s.rows.items s.frontier (map (entry_of g.Q.Outlet.shown) s.subscriptions) in
    let within : c.in_ok-index.index < length s.pending = c.in_ok-index.ensures.0 in
    due_found x c.in_ok-index.index c.at.result.now c.remove_least-part.result (c.in_ok-index.ensures.1) within c.at.ensures c.remove_least-part.ensures.value (sym c.is_learnt.ensures ∙ c.if-not-is_learnt.false)

-- each subscription got its item, and nothing else changed
gave : (g : given.Over) (c : goal.After-drop-copies g) → Gave g.Q.Outlet.shown g.Q.Outlet.may_accept c.self.inside.frontier (item_of c.remove_least-part.result) c.self.inside.subscriptions c.give_all.new.self
gave g c = c.give_all.ensures.gave

-- no more are open than were
pub cut_copies-requires : goal.cut_copies-requires
cut_copies-requires g c =
    let s = c.self.inside in
    let shown = g.Q.Outlet.shown in
    let within : c.in_ok-index.index < length s.pending = c.in_ok-index.ensures.0 in
    let had = (copies_at _ s.pending s.copies.items c.in_ok-index.index c.remove_least-part.result c.take_at-copies.result c.self.invariant.copied within c.remove_least-part.ensures.value c.take_at-copies.ensures.value).0 in
    let fewer = left_open shown g.Q.Outlet.may_accept s.frontier (item_of c.remove_least-part.result) s.subscriptions c.give_all.new.self (numbers_differ _ c.self.invariant.sound.numbers) c.give_all.ensures.gave in
    let a = c.len-had.ensures in
    let b = c.open_len.ensures in
    omega arith

many : (g : given.Over) (c : goal.After-drop-copies g) → length c.give_all.new.self ≡ length c.self.inside.subscriptions
many g c =
    sym (map_length (gauge_of g.Q.Outlet.shown) c.give_all.new.self) ∙ (ap (λ (rs : List _). length rs) (gave g c).gauges ∙ map_length (gauge_of g.Q.Outlet.shown) c.self.inside.subscriptions)

took : (g : given.Over) (c : goal.After-drop-copies g) → Taken g.Q.Outlet.may_accept c.self.inside.frontier (item_of c.remove_least-part.result) (map (entry_of g.Q.Outlet.shown) c.self.inside.subscriptions) (map (entry_of g.Q.Outlet.shown) c.give_all.new.self) (map (gauge_of g.Q.Outlet.shown) c.self.inside.subscriptions)
took g c = taken g.Q.Outlet.shown g.Q.Outlet.may_accept c.self.inside.frontier (item_of c.remove_least-part.result) c.self.inside.subscriptions c.give_all.new.self (numbers_differ _ c.self.invariant.sound.numbers) (gave g c)

gone : (g : given.Over) (c : goal.After-drop-copies g) → c.in_ok-index.index < length c.self.inside.pending
gone g c = c.in_ok-index.ensures.0

-- the machine's release
moved : (g : given.Over) (c : goal.After-drop-copies g) → topic_state c.self.inside.topic c.self.inside.clock c.self.inside.log_limit c.remove_least-part.new.self c.self.inside.base c.push.new.self.items c.stamp-self-inside.result (map (entry_of g.Q.Outlet.shown) c.give_all.new.self) ≡ after_release_of (took g c).takes c.remove_least-part.result (topic_state c.self.inside.topic c.self.inside.clock c.self.inside.log_limit c.self.inside.pending c.self.inside.base c.self.inside.rows.items c.self.inside.frontier (map (entry_of g.Q.Outlet.shown) c.self.inside.subscriptions))
moved g c =
    let s = c.self.inside in
    let p = c.remove_least-part.result in
    released_state s.topic s.clock s.log_limit s.pending s.base s.rows.items s.frontier (map (entry_of g.Q.Outlet.shown) s.subscriptions) (took g c).takes p _ _ _ _
    (c.remove_least-part.ensures.items ∙ sym (without_at s.pending c.in_ok-index.index p c.self.invariant.sound.by_id (gone g c) (sym c.remove_least-part.ensures.value)))
    (c.push.ensures.items ∙ ap (λ (r : LogRow). s.rows.items ++ r ∷ []) c.depart-row.ensures.row)
    (c.stamp-self-inside.ensures.stamp ∙ c.depart-row.ensures.stamp)
    (took g c).is

-- each part has a copy for each subscription that is open then
copied : (g : given.Over) (c : goal.After-drop-copies g) → HaveCopies (open_count (map (entry_of g.Q.Outlet.shown) c.give_all.new.self)) c.remove_least-part.new.self c.cut_copies.new.copies.items
copied g c =
    let s = c.self.inside in
    let within : c.in_ok-index.index < length s.pending = c.in_ok-index.ensures.0 in
    let had = (copies_at _ s.pending s.copies.items c.in_ok-index.index c.remove_least-part.result c.take_at-copies.result c.self.invariant.copied within c.remove_least-part.ensures.value c.take_at-copies.ensures.value).0 in
    let many : c.len-had.result ≡ open_count (map (entry_of g.Q.Outlet.shown) s.subscriptions) = c.len-had.ensures ∙ had in
    let left : HaveCopies c.len-had.result c.remove_least-part.new.self c.take_at-copies.new.copies.items = rw (c.remove_least-part.ensures.items, c.take_at-copies.ensures.items, many) (copies_remove _ s.pending s.copies.items c.in_ok-index.index c.self.invariant.copied) in
    subst (λ (n : ℕ). HaveCopies n c.remove_least-part.new.self c.cut_copies.new.copies.items) c.open_len.ensures (c.cut_copies.ensures c.remove_least-part.new.self left)

pub invariant_of-self : goal.invariant_of-self
invariant_of-self g c =
    let s = c.self.inside in
    let x = topic_state s.topic s.clock s.log_limit s.pending s.base s.rows.items s.frontier (map (entry_of g.Q.Outlet.shown) s.subscriptions) in
    let y = λ (zs : List (Subscription g.row.Q.Denot)). topic_state s.topic s.clock s.log_limit c.remove_least-part.new.self s.base c.push.new.self.items c.stamp-self-inside.result (map (entry_of g.Q.Outlet.shown) zs) in
    let left : (k : ℕ) (d : Subscription g.row.Q.Denot) → k < length s.subscriptions → g.Q.Outlet.spare (get_or s.subscriptions k d).outlet ≤ g.Q.Outlet.spare (get_or c.give_all.new.self k d).outlet + 1 =
    c.give_all.ensures.spare in
    let kept = kept_released g.Q.Outlet.shown g.Q.Outlet.spare x s.rows.capacity s.copies.items s.subscriptions c.self.invariant refl (took g c).takes c.remove_least-part.result c.in_ok-index.index (y c.give_all.new.self) c.give_all.new.self c.cut_copies.new.copies.items (due g c) (gone g c) (moved g c) c.remove_least-part.ensures.items refl (many g c) left (copied g c) in
    rw c.push.ensures.capacity kept

pub returns-clause-due : goal.returns-clause-due
returns-clause-due g c =
    ap (λ (z : TopicPart). Some z) c.depart-row.ensures.part ∙ (sym (ap (option_map (λ (p : Pending). p.part)) (due g c)) ∙ ap (λ (z : GroupState). option_map (λ (p : Pending). p.part) (due_part z.topic)) c.self.view_is)

pub returns-clause-stamp : goal.returns-clause-stamp
returns-clause-stamp g c =
    ap (λ (z : Stamp). Some z) c.depart-row.ensures.stamp ∙ (sym (ap (option_map key) (due g c)) ∙ ap (λ (z : GroupState). option_map key (due_part z.topic)) c.self.view_is)

pub returns-clause-released : goal.returns-clause-released
returns-clause-released g c =
    let s = c.self.inside in
    let shown = g.Q.Outlet.shown in
    let x = topic_state s.topic s.clock s.log_limit s.pending s.base s.rows.items s.frontier (map (entry_of shown) s.subscriptions) in
    let y = λ (zs : List (Subscription g.row.Q.Denot)). topic_state s.topic s.clock s.log_limit c.remove_least-part.new.self s.base c.push.new.self.items c.stamp-self-inside.result (map (entry_of shown) zs) in
    let done = some_released g.Q.Outlet.may_accept x (y c.give_all.new.self) (map (gauge_of shown) s.subscriptions) (map (gauge_of shown) c.give_all.new.self) c.remove_least-part.result (map (entry_of shown) c.give_all.new.self) (due g c) (took g c) (moved g c) (gave g c).gauges in
    subst (λ (z : GroupState). Releases g.Q.Outlet.may_accept z (record { topic = y c.give_all.new.self; gauges = map (gauge_of shown) c.give_all.new.self })) c.self.view_is done
