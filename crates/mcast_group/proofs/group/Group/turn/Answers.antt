use Rattle.std.proofs.Common.{length, ap, subst, arith}
use Rattle.mcast_group.specs.Group.{GroupState, Turns}
use Rattle.mcast_group.specs.Sound.{IsSound}
use Rattle.mcast_group.proofs.Learning.{turn_holds}
use Rattle.mcast_group.proofs.TurnEmpties.{turns_of}
use Rattle.mcast_group.proofs.Turns.{idle_turn}
use Rattle.mcast_group.proofs.group.Group.turn.Goals as goal

pub overflow_sub-result : goal.overflow_sub-result
overflow_sub-result g c =
    let may = g.Q.Outlet.may_accept in
    let finds = g.V.Verdicts.finds c.args.verdicts.now in
    let sound = subst (λ (z : GroupState). IsSound z.topic) c.self.view_is c.self.invariant.sound in
    let turns : Turns may finds c.args.self.now c.release_all.new.self = turns_of may finds c.args.self.now c.learn_found.new.self c.release_all.new.self sound c.learn_found.ensures c.release_all.ensures in
    let more = turn_holds may finds c.args.self.now c.release_all.new.self turns in
    let a = ap (λ (z : GroupState). length z.topic.held) c.self.view_is in
    let b = ap (λ (z : GroupState). length z.topic.held) c.self-2.view_is in
    let n = c.len-held.ensures in
    let m = c.len.ensures in
    omega arith

pub returns-clause-turned : goal.returns-clause-turned
returns-clause-turned g c =
    turns_of g.Q.Outlet.may_accept (g.V.Verdicts.finds c.args.verdicts.now) c.args.self.now c.learn_found.new.self c.release_all.new.self
    (subst (λ (z : GroupState). IsSound z.topic) c.self.view_is c.self.invariant.sound) c.learn_found.ensures c.release_all.ensures

pub returns-clause-idle : goal.returns-clause-idle
returns-clause-idle g c = λ none e.
    let may = g.Q.Outlet.may_accept in
    let finds = g.V.Verdicts.finds c.args.verdicts.now in
    let sound = subst (λ (z : GroupState). IsSound z.topic) c.self.view_is c.self.invariant.sound in
    let turns : Turns may finds c.args.self.now c.release_all.new.self = turns_of may finds c.args.self.now c.learn_found.new.self c.release_all.new.self sound c.learn_found.ensures c.release_all.ensures in
    idle_turn may finds c.args.self.now c.release_all.new.self turns none e
