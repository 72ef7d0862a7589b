use Rattle.std.proofs.Common.{◌≡◌, ◌-◌, ◌++◌, ◌∷◌, [], length, Some, refl, sym, ap, subst, ◌∙◌, arith}
use Rattle.std.proofs.lemmas.List.{length_push}
use Rattle.mcast_group.specs.Group.{GroupState, OutletsAnswer, group_after_release}
use Rattle.mcast_group.specs.Machine.{Pending, due_part}
use Rattle.mcast_group.proofs.Turns.{some_due, none_due, release_less}
use Rattle.mcast_group.proofs.Releasing.{answers_push, each_push, released_all}
use Rattle.mcast_group.proofs.group.Group.release_all.Goals as goal

pub loop-init : goal.loop-init
loop-init g c = record { answers = []; many = omega arith; may = tt; is = refl }

pub loop-smaller : goal.loop-smaller
loop-smaller g c =
    let r = c.release.ensures.released in
    let w = some_due c.loop.self.topic c.release.result c.release.ensures.due (sym c.is_some.ensures ∙ c.loop-test.true) in
    release_less r.0 c.loop.self.topic c.release.new.self.topic w (ap (λ (z : GroupState). z.topic) r.2)

pub loop-preserved : goal.loop-preserved
loop-preserved g c =
    let inv = c.loop.invariant in
    let r = c.release.ensures.released in
    let w = some_due c.loop.self.topic c.release.result c.release.ensures.due (sym c.is_some.ensures ∙ c.loop-test.true) in
    let less = release_less r.0 c.loop.self.topic c.release.new.self.topic w (ap (λ (z : GroupState). z.topic) r.2) in
    let n = length_push inv.answers r.0 in
    let m = inv.many in
    record {
      answers = inv.answers ++ r.0 ∷ [];
      many = omega arith;
      may = answers_push g.Q.Outlet.may_accept inv.answers r.0 c.args.self.now inv.may (subst (λ (z : GroupState). (p : Pending) → due_part z.topic ≡ Some p → OutletsAnswer g.Q.Outlet.may_accept r.0 z) inv.is r.1);
      is = r.2 ∙ (ap (group_after_release r.0) inv.is ∙ sym (each_push inv.answers r.0 c.args.self.now));
    }

pub returns : goal.returns
returns g c =
    let inv = c.loop.invariant in
    let r = c.release.ensures.released in
    let none = none_due c.loop.self.topic c.release.result c.release.ensures.due (sym c.is_some.ensures ∙ c.loop-test.false) in
    let m = inv.many in
    released_all g.Q.Outlet.may_accept inv.answers r.0 (length c.args.self.now.topic.pending - length inv.answers) c.args.self.now c.loop.self c.release.new.self (omega arith) inv.may inv.is none r.2
