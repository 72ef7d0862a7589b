use Rattle.delivery.proofs.Words.All.{◌<◌, ◌≤◌, length, sym, ap, subst, ◌∙◌, arith, Event, Outcome, Refusal, Makes, View, no_group}
use Rattle.delivery.proofs.Views.Events.ReleaseStep.{topics_held, release_some, release_none, release_unnamed, released_at, due_id_at}
use Rattle.delivery.proofs.net_state.NetState.release.Goals as goal

pub returns-then-index-len : goal.returns-then-index-len
returns-then-index-len c k reached is =
    let topics = topics_held k c.self.inside.groups.items (ap (λ (v : View). v.groups) (c.self.view_is ∙ is)) in
    let none : length k.world.topics ≤ c.args.topic.0 = omega (arith, topics, c.self.inside.groups.ok.0, c.len.ensures, c.if-index-len.true) in
    subst (λ (v : View). Makes k (Event.Release c.args.topic) (Outcome.Refused Refusal.NotNamed) v) (sym is) (release_unnamed k c.args.topic none)

pub returns-in-Some : goal.returns-in-Some
returns-in-Some c k reached is =
    let topics = topics_held k c.self.inside.groups.items (ap (λ (v : View). v.groups) (c.self.view_is ∙ is)) in
    let there : c.args.topic.0 < length k.world.topics = omega (arith, topics, c.self.inside.groups.ok.0, c.len.ensures, c.if-index-len.false) in let h = c.in-Some.ensures in
    let new = h.groups no_group ∙ ap (λ (v : View). released_at v c.args.topic) is in
    subst (λ (v : View). Makes k (Event.Release c.args.topic) (Outcome.Released c.in-Some.id) v) (sym new)
    (release_some k c.args.topic c.in-Some.id there (h.due no_group ∙ ap (λ (v : View). due_id_at v c.args.topic) is))

pub returns-in-None : goal.returns-in-None
returns-in-None c k reached is =
    let topics = topics_held k c.self.inside.groups.items (ap (λ (v : View). v.groups) (c.self.view_is ∙ is)) in
    let there : c.args.topic.0 < length k.world.topics = omega (arith, topics, c.self.inside.groups.ok.0, c.len.ensures, c.if-index-len.false) in let h = c.in-None.ensures in
    let new = h.groups no_group ∙ ap (λ (v : View). released_at v c.args.topic) is in
    subst (λ (v : View). Makes k (Event.Release c.args.topic) (Outcome.Refused Refusal.NothingDue) v) (sym new)
    (release_none k c.args.topic there (h.due no_group ∙ ap (λ (v : View). due_id_at v c.args.topic) is))
