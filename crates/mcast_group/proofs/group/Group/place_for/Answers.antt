use Rattle.std.proofs.Common.{◌+◌, ◌≤◌, map, length, sym, ap, subst, ◌∙◌, arith}
use Rattle.mcast_txn.specs.Ids.{id_lt, same_id}
use Rattle.mcast_txn.specs.Part.{data_of}
use Rattle.mcast_group.specs.Group.{GroupState, topic_state}
use Rattle.mcast_group.specs.Inner.GroupInvariant.{entry_of}
use Rattle.mcast_group.specs.Inner.Keys.{IsIndexPast}
use Rattle.mcast_group.specs.Machine.{Pending, propose_fault}
use Rattle.mcast_group.proofs.Indices.{some_at, none_at}
use Rattle.mcast_group.proofs.Groups.{fault_twice, fault_clock, fault_log, fault_none}
use Rattle.mcast_group.proofs.group.Group.place_for.Goals as goal

pub returns-in_default-clause-fault : goal.returns-in_default-clause-fault
returns-in_default-clause-fault g c =
    let s = c.self.inside in
    let part = data_of c.args.part.now in
    let x = topic_state s.topic s.clock s.log_limit s.pending s.base s.rows.items s.frontier (map (entry_of g.Q.Outlet.shown) s.subscriptions) in
    let e = fault_twice c.args.floor part x (some_at (λ (p : Pending). same_id p.part.id part.id) s.pending c.in_default.field-0 (rw c.id.ensures at c.in_default.ensures.found)) in
    sym e ∙ ap (λ (z : GroupState). propose_fault c.args.floor part z.topic) c.self.view_is

pub returns-then-max-clause-fault : goal.returns-then-max-clause-fault
returns-then-max-clause-fault g c =
    let s = c.self.inside in
    let part = data_of c.args.part.now in
    let x = topic_state s.topic s.clock s.log_limit s.pending s.base s.rows.items s.frontier (map (entry_of g.Q.Outlet.shown) s.subscriptions) in
    let e = fault_clock c.args.floor part x (none_at (λ (p : Pending). same_id p.part.id part.id) s.pending (rw c.id.ensures at c.in-Err.ensures.absent)) (sym c.max.ensures ∙ c.if-max.true) in
    sym e ∙ ap (λ (z : GroupState). propose_fault c.args.floor part z.topic) c.self.view_is

pub overflow_add-len : goal.overflow_add-len
overflow_add-len g c =
    let s = c.self.inside in
    let n = c.len.ensures in
    let m = c.len-2.ensures in
    let l : length s.pending + length s.rows.items ≤ s.log_limit = c.self.invariant.sound.limit in
    omega arith

pub returns-then-len-limit-clause-fault : goal.returns-then-len-limit-clause-fault
returns-then-len-limit-clause-fault g c =
    let s = c.self.inside in
    let part = data_of c.args.part.now in
    let x = topic_state s.topic s.clock s.log_limit s.pending s.base s.rows.items s.frontier (map (entry_of g.Q.Outlet.shown) s.subscriptions) in
    let e = fault_log c.args.floor part x (none_at (λ (p : Pending). same_id p.part.id part.id) s.pending (rw c.id.ensures at c.in-Err.ensures.absent)) (omega arith) (omega arith) in
    sym e ∙ ap (λ (z : GroupState). propose_fault c.args.floor part z.topic) c.self.view_is

pub returns-clause-fault : goal.returns-clause-fault
returns-clause-fault g c =
    let s = c.self.inside in
    let part = data_of c.args.part.now in
    let x = topic_state s.topic s.clock s.log_limit s.pending s.base s.rows.items s.frontier (map (entry_of g.Q.Outlet.shown) s.subscriptions) in
    let e = fault_none c.args.floor part x (none_at (λ (p : Pending). same_id p.part.id part.id) s.pending (rw c.id.ensures at c.in-Err.ensures.absent)) (omega arith) (omega arith) in
    sym e ∙ ap (λ (z : GroupState). propose_fault c.args.floor part z.topic) c.self.view_is

pub returns-clause-index : goal.returns-clause-index
returns-clause-index g c =
    let part = data_of c.args.part.now in
    subst (λ (z : GroupState). IsIndexPast (λ (q : Pending). id_lt q.part.id part.id) z.topic.pending c.in-Err.index) c.self.view_is
    (rw c.id.ensures at c.in-Err.ensures.index)
