use Rattle.std.proofs.Common.{◌≡◌, None, sym, ap, subst, ◌∙◌, arith}
use Rattle.mcast_group.specs.CellGroup.{CellGroupState, CellTurns, IsRead, waiting_ids}
use Rattle.mcast_group.specs.Group.{GroupState, Turns}
use Rattle.mcast_group.proofs.Learning.{turn_holds}
use Rattle.mcast_group.specs.Machine.{due_part}
use Rattle.mcast_group.proofs.TurnEmpties.{turns_of}
use Rattle.mcast_group.proofs.Turns.{idle_releases}
use Rattle.mcast_group.proofs.Waits.{releases_ids}
use Rattle.mcast_group.proofs.cell_group.CellGroup.turn.Goals as goal

pub overflow_sub-result : goal.overflow_sub-result
overflow_sub-result g c =
    let may = g.Q.Outlet.may_accept in
    let s = c.self.inside in
    let l = c.learn_each.ensures.learns in
    let finds = IsRead s.waiting.items l.taken in
    let turns : Turns may finds s.group c.release_all.new.self = turns_of may finds s.group c.learn_each.new.group c.release_all.new.self c.self.invariant.sound l.tries c.release_all.ensures in
    let more = turn_holds may finds s.group c.release_all.new.self turns in
    let n = c.held_len-held.ensures in
    let m = c.held_len.ensures in
    omega arith

pub invariant_of-self : goal.invariant_of-self
invariant_of-self g c =
    let l = c.learn_each.ensures.learns in
    let r = c.release_all.ensures in
    record {
      sound = c.sound-3.ensures;
      ids = l.ids ∙ sym (ap (λ (z : GroupState). waiting_ids z.topic.pending) r.3 ∙ releases_ids r.0 c.learn_each.new.group c.sound-2.ensures);
      room = c.learn_each.ensures.room;
    }

pub returns-clause-turned : goal.returns-clause-turned
returns-clause-turned g c =
    let may = g.Q.Outlet.may_accept in
    let s = c.self.inside in
    let l = c.learn_each.ensures.learns in
    let finds = IsRead s.waiting.items l.taken in
    let turns : Turns may finds s.group c.release_all.new.self = turns_of may finds s.group c.learn_each.new.group c.release_all.new.self c.self.invariant.sound l.tries c.release_all.ensures in
    subst (λ (z : CellGroupState). CellTurns may z (record { group = c.release_all.new.self; waiting = c.learn_each.new.waiting.items; notes = c.learn_each.new.notes.items })) c.self.view_is
    (record { taken = l.taken; turns = turns; kept = l.kept; stays = l.stays })

pub returns-clause-idle : goal.returns-clause-idle
returns-clause-idle g c = λ e none.
    let may = g.Q.Outlet.may_accept in
    let s = c.self.inside in
    let l = c.learn_each.ensures.learns in
    let notes = e ∙ ap (λ (z : CellGroupState). z.notes) (sym c.self.view_is) in
    let same = l.idle notes in
    let due = subst (λ (z : GroupState). due_part z.topic ≡ None) (sym same.0) (ap (λ (z : CellGroupState). due_part z.group.topic) c.self.view_is ∙ none) in
    let group = idle_releases may c.learn_each.new.group c.release_all.new.self c.release_all.ensures due ∙ same.0 in
    rw (group, same.1, notes) c.self.view_is
