use Rattle.std.proofs.Common.{◌≤◌, map, length, refl, arith}
use Rattle.mcast_group.specs.Group.{topic_state}
use Rattle.mcast_group.specs.Inner.GroupInvariant.{entry_of}
use Rattle.mcast_group.proofs.Entering.{kept_drained, kept_grown}
use Rattle.mcast_group.proofs.group.Group.drain_log.Goals as goal

pub invariant_of-self : goal.invariant_of-self
invariant_of-self g c =
    let s = c.self.inside in
    let x = topic_state s.topic s.clock s.log_limit s.pending s.base s.rows.items s.frontier (map (entry_of g.Q.Outlet.shown) s.subscriptions) in
    rw c.in_err-rows.ensures.err (kept_grown g.Q.Outlet.shown g.Q.Outlet.spare x s.rows.capacity c.drain.new.self.capacity s.copies.items s.subscriptions s.subscriptions c.self.invariant c.in_err-rows.ensures.capacity refl (λ k d l. omega arith))

pub invariant_of-self-2 : goal.invariant_of-self-2
invariant_of-self-2 g c =
    let s = c.self.inside in
    let x = topic_state s.topic s.clock s.log_limit s.pending s.base s.rows.items s.frontier (map (entry_of g.Q.Outlet.shown) s.subscriptions) in
    let room : length s.pending ≤ c.drain.new.self.capacity = (let a = c.in_ok-rows.ensures.room in let e = c.len.ensures in omega arith) in
    rw c.in_ok-rows.ensures.none (kept_drained g.Q.Outlet.spare x s.rows.capacity c.drain.new.self.capacity s.copies.items s.subscriptions c.self.invariant room)
