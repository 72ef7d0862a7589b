use Rattle.delivery.proofs.Words.All.{◌<◌, ◌≤◌, length, get_or, sym, ap, subst, ◌∙◌, arith, Event, Outcome, Refusal, Makes, verdict_held, group_turn_count, after_turn_at, View, no_group}
use Rattle.delivery.proofs.Views.Events.TurnStep.{turn_unnamed, turn_makes}
use Rattle.delivery.proofs.Views.Events.ReleaseStep.{topics_held}
use Rattle.delivery.proofs.net_state.NetState.turn.Goals as goal

pub returns-then-index-len : goal.returns-then-index-len
returns-then-index-len c k reached is =
    let topics = topics_held k c.self.inside.groups.items (ap (λ (v : View). v.groups) (c.self.view_is ∙ is)) in
    let none : length k.world.topics ≤ c.args.topic.0 = omega (arith, topics, c.self.inside.groups.ok.0, c.len.ensures, c.if-index-len.true) in
    subst (λ (v : View). Makes k (Event.Turn c.args.topic) (Outcome.Refused Refusal.NotNamed) v) (sym is) (turn_unnamed k c.args.topic none)

pub returns : goal.returns
returns c k reached is =
    let topics = topics_held k c.self.inside.groups.items (ap (λ (v : View). v.groups) (c.self.view_is ∙ is)) in
    let there : c.args.topic.0 < length k.world.topics = omega (arith, topics, c.self.inside.groups.ok.0, c.len.ensures, c.if-index-len.false) in let h = c.turn_at.ensures in
    let new = h.groups no_group ∙ ap (λ (v : View). after_turn_at v c.args.topic.0 no_group) is in
    subst (λ (v : View). Makes k (Event.Turn c.args.topic) (Outcome.Turned c.turn_at.result) v) (sym new)
    (turn_makes k c.args.topic c.turn_at.result reached there
    (h.count no_group ∙ ap (λ (v : View). group_turn_count (verdict_held v) (get_or v.groups c.args.topic.0 no_group)) is))
