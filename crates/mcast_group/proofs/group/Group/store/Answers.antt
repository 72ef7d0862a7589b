use Rattle.std.proofs.Common.{◌≡◌, get_or, map, Some, refl, sym, ap, subst, ◌∙◌}
use Rattle.std.proofs.lemmas.List.{get_or_default}
use Rattle.mcast_group.proofs.Turns.{some_part}
use Rattle.mcast_group.specs.Group.{CanLearn, GroupState, topic_state}
use Rattle.mcast_group.specs.Inner.GroupInvariant.{entry_of, gauge_of}
use Rattle.mcast_group.specs.Machine.{TopicState, after_learn}
use Rattle.mcast_group.proofs.Indices.{part_at, told_found}
use Rattle.mcast_group.proofs.Groups.{learned_state}
use Rattle.mcast_group.proofs.Learning.{kept_learned, may_learn}
use Rattle.mcast_group.proofs.group.Group.store.Given as given
use Rattle.mcast_group.proofs.group.Group.store.Goals as goal

pub learn-requires-clause-past : goal.learn-requires-clause-past
learn-requires-clause-past g c =
    let s = c.self.inside in
    let can = subst (λ (z : GroupState). CanLearn c.args.id c.args.index c.args.stamp z.topic) (sym c.self.view_is) c.requires in
    (may_learn c.args.id c.args.index c.args.stamp (topic_state s.topic s.clock s.log_limit s.pending s.base s.rows.items s.frontier (map (entry_of g.Q.Outlet.shown) s.subscriptions)) c.self.invariant.sound can).past

pub learn-requires-clause-free : goal.learn-requires-clause-free
learn-requires-clause-free g c =
    let s = c.self.inside in
    let can = subst (λ (z : GroupState). CanLearn c.args.id c.args.index c.args.stamp z.topic) (sym c.self.view_is) c.requires in
    (may_learn c.args.id c.args.index c.args.stamp (topic_state s.topic s.clock s.log_limit s.pending s.base s.rows.items s.frontier (map (entry_of g.Q.Outlet.shown) s.subscriptions)) c.self.invariant.sound can).free

-- the part at the index has learnt the stamp
written : (g : given.Over) (c : goal.After-self-1 g) → topic_state c.self.inside.topic c.max-self-inside.result c.self.inside.log_limit c.learn.new.self c.self.inside.base c.self.inside.rows.items c.self.inside.frontier (map (entry_of g.Q.Outlet.shown) c.self.inside.subscriptions) ≡ after_learn c.args.id c.args.stamp (topic_state c.self.inside.topic c.self.inside.clock c.self.inside.log_limit c.self.inside.pending c.self.inside.base c.self.inside.rows.items c.self.inside.frontier (map (entry_of g.Q.Outlet.shown) c.self.inside.subscriptions))
written g c =
    let s = c.self.inside in
    let can = subst (λ (z : GroupState). CanLearn c.args.id c.args.index c.args.stamp z.topic) (sym c.self.view_is) c.requires in
    let within = (part_at c.args.id s.pending c.args.index some_part can.at).in_range in
    let p = get_or s.pending c.args.index some_part in
    learned_state s.topic s.clock s.log_limit s.pending s.base s.rows.items s.frontier (map (entry_of g.Q.Outlet.shown) s.subscriptions) c.args.id c.args.stamp c.max-self-inside.result _
    c.max-self-inside.ensures
    (c.learn.ensures some_part ∙ told_found c.args.id c.args.stamp s.pending c.args.index p (record p { learnt = Some c.args.stamp }) c.self.invariant.sound.by_id can.at (get_or_default s.pending c.args.index some_part p within) refl)

pub invariant_of-self : goal.invariant_of-self
invariant_of-self g c =
    let s = c.self.inside in
    let can = subst (λ (z : GroupState). CanLearn c.args.id c.args.index c.args.stamp z.topic) (sym c.self.view_is) c.requires in
    kept_learned g.Q.Outlet.spare (topic_state s.topic s.clock s.log_limit s.pending s.base s.rows.items s.frontier (map (entry_of g.Q.Outlet.shown) s.subscriptions)) _ _ _ _ c.args.id c.args.index c.args.stamp c.self.invariant can (written g c)

pub returns : goal.returns
returns g c =
    ap (λ (x : TopicState). record { topic = x; gauges = map (gauge_of g.Q.Outlet.shown) c.self.inside.subscriptions }) (written g c)
    ∙ ap (λ (z : GroupState). record { topic = after_learn c.args.id c.args.stamp z.topic; gauges = z.gauges }) c.self.view_is
