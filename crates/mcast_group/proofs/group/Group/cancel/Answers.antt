use Rattle.std.proofs.Common.{◌≡◌, map, sym, ap, ◌∙◌, arith}
use Rattle.mcast_group.specs.Group.{GroupState, result_of, topic_state}
use Rattle.mcast_group.specs.Inner.GroupInvariant.{entry_of, gauge_of}
use Rattle.mcast_group.specs.Machine.{TopicState, cancel_fault, cancel_fault_of, after_cancel}
use Rattle.mcast_group.proofs.Indices.{found_at, none_found, part_at, without_found}
use Rattle.mcast_group.proofs.Groups.{cancel_decided, cancel_none, cancelled_state}
use Rattle.mcast_group.proofs.Releasing.{copies_length}
use Rattle.mcast_group.proofs.Entering.{kept_cancelled}
use Rattle.mcast_group.proofs.group.Group.cancel.Given as given
use Rattle.mcast_group.proofs.group.Group.cancel.Goals as goal

pub returns-in_default-clause-answer : goal.returns-in_default-clause-answer
returns-in_default-clause-answer g c =
    let at = c.index_of.ensures in
    let none = none_found c.args.id c.self.inside.pending (sym at ∙ c.in_default.is) in
    sym (ap (λ (z : GroupState). result_of (cancel_fault c.args.id z.topic)) (sym c.self.view_is) ∙ ap (λ o. result_of (cancel_fault_of o)) none)

pub returns-then-is_learnt-clause-answer : goal.returns-then-is_learnt-clause-answer
returns-then-is_learnt-clause-answer g c =
    let s = c.self.inside in
    let at = c.index_of.ensures in
    let found = found_at c.args.id s.pending c.in-Some.index c.at.result.now (sym at ∙ c.in-Some.is) c.at.ensures in
    let e = cancel_decided c.args.id (topic_state s.topic s.clock s.log_limit s.pending s.base s.rows.items s.frontier (map (entry_of g.Q.Outlet.shown) s.subscriptions)) c.at.result.now found (sym c.is_learnt.ensures ∙ c.if-is_learnt.true) in
    sym (ap (λ (z : GroupState). result_of (cancel_fault c.args.id z.topic)) (sym c.self.view_is) ∙ ap result_of e)

pub take_at-requires : goal.take_at-requires
take_at-requires g c =
    let s = c.self.inside in
    let at = c.index_of.ensures in
    let within = (part_at c.args.id s.pending c.in-Some.index c.remove.result (sym at ∙ c.in-Some.is)).in_range in
    let many = copies_length _ s.pending s.copies.items c.self.invariant.copied in
    let l = s.copies.ok.0 in
    omega arith

-- the part at the index is gone
gone : (g : given.Over) (c : goal.After-drop-take_at g) → topic_state c.self.inside.topic c.self.inside.clock c.self.inside.log_limit c.remove.new.self c.self.inside.base c.self.inside.rows.items c.self.inside.frontier (map (entry_of g.Q.Outlet.shown) c.self.inside.subscriptions) ≡ after_cancel c.args.id (topic_state c.self.inside.topic c.self.inside.clock c.self.inside.log_limit c.self.inside.pending c.self.inside.base c.self.inside.rows.items c.self.inside.frontier (map (entry_of g.Q.Outlet.shown) c.self.inside.subscriptions))
gone g c =
    let s = c.self.inside in
    let at = c.index_of.ensures in
    cancelled_state s.topic s.clock s.log_limit s.pending s.base s.rows.items s.frontier (map (entry_of g.Q.Outlet.shown) s.subscriptions) c.args.id _
    (c.remove.ensures.items ∙ without_found c.args.id s.pending c.in-Some.index c.remove.result c.self.invariant.sound.by_id (sym at ∙ c.in-Some.is) c.remove.ensures.value)

pub invariant_of-self : goal.invariant_of-self
invariant_of-self g c =
    let s = c.self.inside in
    let at = c.index_of.ensures in
    let within = (part_at c.args.id s.pending c.in-Some.index c.remove.result (sym at ∙ c.in-Some.is)).in_range in
    rw c.take_at.ensures.items (kept_cancelled g.Q.Outlet.spare (topic_state s.topic s.clock s.log_limit s.pending s.base s.rows.items s.frontier (map (entry_of g.Q.Outlet.shown) s.subscriptions)) _ _ s.copies.items s.subscriptions c.args.id c.in-Some.index c.self.invariant (gone g c) c.remove.ensures.items within)

pub returns-clause-answer : goal.returns-clause-answer
returns-clause-answer g c =
    let s = c.self.inside in
    let at = c.index_of.ensures in
    let found = found_at c.args.id s.pending c.in-Some.index c.at.result.now (sym at ∙ c.in-Some.is) c.at.ensures in
    let e = cancel_none c.args.id (topic_state s.topic s.clock s.log_limit s.pending s.base s.rows.items s.frontier (map (entry_of g.Q.Outlet.shown) s.subscriptions)) c.at.result.now found (sym c.is_learnt.ensures ∙ c.if-is_learnt.false) in
    sym (ap (λ (z : GroupState). result_of (cancel_fault c.args.id z.topic)) (sym c.self.view_is) ∙ ap result_of e)

pub returns-clause-ok : goal.returns-clause-ok
returns-clause-ok g c =
    ap (λ (x : TopicState). record { topic = x; gauges = map (gauge_of g.Q.Outlet.shown) c.self.inside.subscriptions }) (gone g c)
    ∙ ap (λ (z : GroupState). record { topic = after_cancel c.args.id z.topic; gauges = z.gauges }) c.self.view_is
