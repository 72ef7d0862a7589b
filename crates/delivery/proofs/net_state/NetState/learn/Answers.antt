use Rattle.delivery.proofs.Words.All.{◌≡◌, ◌<◌, ◌≤◌, None, Some, Ok, Err, length, get_or, sym, ap, subst, ◌∙◌, arith, LearnFault, Event, Outcome, Refusal, Makes, verdict_held, learn_result, after_learn_at, View, no_group}
use Rattle.delivery.proofs.Views.Events.LearnStep.{learn_unnamed, learn_makes, never_odd}
use Rattle.delivery.proofs.Views.Events.ReleaseStep.{topics_held}
use Rattle.delivery.proofs.net_state.NetState.learn.Goals as goal

pub returns-then-index-len : goal.returns-then-index-len
returns-then-index-len c k reached is =
    let topics = topics_held k c.self.inside.groups.items (ap (λ (v : View). v.groups) (c.self.view_is ∙ is)) in
    let none : length k.world.topics ≤ c.args.topic.0 = omega (arith, topics, c.self.inside.groups.ok.0, c.len.ensures, c.if-index-len.true) in
    subst (λ (v : View). Makes k (Event.Learn c.args.topic c.args.id) (Outcome.Refused Refusal.NotNamed) v) (sym is) (learn_unnamed k c.args.topic c.args.id none)

pub returns-in-None : goal.returns-in-None
returns-in-None c k reached is =
    let topics = topics_held k c.self.inside.groups.items (ap (λ (v : View). v.groups) (c.self.view_is ∙ is)) in
    let there : c.args.topic.0 < length k.world.topics = omega (arith, topics, c.self.inside.groups.ok.0, c.len.ensures, c.if-index-len.false) in let h = c.in-None.ensures in
    let new = h.groups no_group ∙ ap (λ (v : View). after_learn_at v c.args.topic.0 c.args.id no_group) is in
    subst (λ (v : View). Makes k (Event.Learn c.args.topic c.args.id) (Outcome.Refused Refusal.NotDecided) v) (sym new)
    (learn_makes k c.args.topic c.args.id (None) reached there
    (h.answer no_group ∙ ap (λ (v : View). learn_result c.args.id (verdict_held v c.args.id) (get_or v.groups c.args.topic.0 no_group)) is))

pub returns-in-Some-Ok : goal.returns-in-Some-Ok
returns-in-Some-Ok c k reached is =
    let topics = topics_held k c.self.inside.groups.items (ap (λ (v : View). v.groups) (c.self.view_is ∙ is)) in
    let there : c.args.topic.0 < length k.world.topics = omega (arith, topics, c.self.inside.groups.ok.0, c.len.ensures, c.if-index-len.false) in let h = c.in-Some-Ok.ensures in
    let new = h.groups no_group ∙ ap (λ (v : View). after_learn_at v c.args.topic.0 c.args.id no_group) is in
    subst (λ (v : View). Makes k (Event.Learn c.args.topic c.args.id) (Outcome.Learnt) v) (sym new)
    (learn_makes k c.args.topic c.args.id (Some (Ok c.in-Some-Ok.field-0-0)) reached there
    (ap Some (sym c.in-Some-Ok.field-0-is) ∙ (h.answer no_group ∙ ap (λ (v : View). learn_result c.args.id (verdict_held v c.args.id) (get_or v.groups c.args.topic.0 no_group)) is)))

pub returns-in-Some-Err-NotPending : goal.returns-in-Some-Err-NotPending
returns-in-Some-Err-NotPending c k reached is =
    let topics = topics_held k c.self.inside.groups.items (ap (λ (v : View). v.groups) (c.self.view_is ∙ is)) in
    let there : c.args.topic.0 < length k.world.topics = omega (arith, topics, c.self.inside.groups.ok.0, c.len.ensures, c.if-index-len.false) in
    let h = c.in-Some-Err-NotPending.ensures in let new = h.groups no_group ∙ ap (λ (v : View). after_learn_at v c.args.topic.0 c.args.id no_group) is in
    subst (λ (v : View). Makes k (Event.Learn c.args.topic c.args.id) (Outcome.Refused Refusal.NotPending) v) (sym new)
    (learn_makes k c.args.topic c.args.id (Some (Err c.in-Some-Err-NotPending.field-0-0)) reached there
    (ap Some (sym c.in-Some-Err-NotPending.field-0-is) ∙ (h.answer no_group ∙ ap (λ (v : View). learn_result c.args.id (verdict_held v c.args.id) (get_or v.groups c.args.topic.0 no_group)) is)))

pub unreachable-requires : goal.unreachable-requires
unreachable-requires c =
    let k = c.requires.0 in let is = c.requires.2 in let topics = topics_held k c.self.inside.groups.items (ap (λ (v : View). v.groups) (c.self.view_is ∙ is)) in
    let there : c.args.topic.0 < length k.world.topics = omega (arith, topics, c.self.inside.groups.ok.0, c.len.ensures, c.if-index-len.false) in
    let h = c.in-Some-Err-Foreign.ensures in
    let pending = never_odd k c.args.topic c.args.id c.in-Some-Err-Foreign.field-0-0 c.requires.1 there
    (ap Some (sym c.in-Some-Err-Foreign.field-0-is) ∙ (h.answer no_group ∙ ap (λ (v : View). learn_result c.args.id (verdict_held v c.args.id) (get_or v.groups c.args.topic.0 no_group)) is)) in
    let same : LearnFault.Foreign ≡ LearnFault.NotPending = sym c.in-Some-Err-Foreign.field-0-0-is ∙ pending in cc

pub unreachable-requires-in-Some-Err-Clash : goal.unreachable-requires-in-Some-Err-Clash
unreachable-requires-in-Some-Err-Clash c =
    let k = c.requires.0 in let is = c.requires.2 in let topics = topics_held k c.self.inside.groups.items (ap (λ (v : View). v.groups) (c.self.view_is ∙ is)) in
    let there : c.args.topic.0 < length k.world.topics = omega (arith, topics, c.self.inside.groups.ok.0, c.len.ensures, c.if-index-len.false) in
    let h = c.in-Some-Err-Clash.ensures in
    let pending = never_odd k c.args.topic c.args.id c.in-Some-Err-Clash.field-0-0 c.requires.1 there
    (ap Some (sym c.in-Some-Err-Clash.field-0-is) ∙ (h.answer no_group ∙ ap (λ (v : View). learn_result c.args.id (verdict_held v c.args.id) (get_or v.groups c.args.topic.0 no_group)) is)) in
    let same : LearnFault.Clash ≡ LearnFault.NotPending = sym c.in-Some-Err-Clash.field-0-0-is ∙ pending in cc
