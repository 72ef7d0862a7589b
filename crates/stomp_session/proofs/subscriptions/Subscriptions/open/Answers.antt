use Rattle.std.proofs.Common.{◌∷◌, [], ◌++◌, sym, ap, ◌∙◌}
use Rattle.std.proofs.lemmas.Result.{on_ok_weaker}
use Rattle.stomp_session.specs.declared.subscription.Subscription.{Subscription}
use Rattle.stomp_session.specs.Inner.Stored.{OpenSubscriptions, with_each}
use Rattle.stomp_session.specs.Refusals.{is_open}
use Rattle.stomp_session.proofs.Kept.{is_open-with_each, with_each-push}
use Rattle.stomp_session.proofs.subscriptions.Subscriptions.open.Goals as goal

pub open-requires : goal.open-requires
open-requires c =
    sym (is_open-with_each (λ (s : Subscription). s.topic) c.args.id.now c.self.inside.opened)
    ∙ (ap (λ (o : OpenSubscriptions). is_open c.args.id.now o.topics) c.self.view_is ∙ c.requires)

pub returns-clause-topics : goal.returns-clause-topics
returns-clause-topics c =
    on_ok_weaker c.open.result (λ e. ap (with_each (λ (s : Subscription). s.topic)) e
    ∙ (with_each-push (λ (s : Subscription). s.topic) c.self.inside.opened c.args.id.now (record { topic = c.args.topic; parts = c.args.parts })
    ∙ ap (λ (o : OpenSubscriptions). o.topics ++ (c.args.id.now, c.args.topic) ∷ []) c.self.view_is)) c.open.ensures

pub returns-clause-parts : goal.returns-clause-parts
returns-clause-parts c =
    on_ok_weaker c.open.result (λ e. ap (with_each (λ (s : Subscription). s.parts)) e
    ∙ (with_each-push (λ (s : Subscription). s.parts) c.self.inside.opened c.args.id.now (record { topic = c.args.topic; parts = c.args.parts })
    ∙ ap (λ (o : OpenSubscriptions). o.parts ++ (c.args.id.now, c.args.parts) ∷ []) c.self.view_is)) c.open.ensures
