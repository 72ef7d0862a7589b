use Rattle.std.proofs.Common.{sym}
use Rattle.stomp_session.specs.declared.subscription.Subscription.{Subscription}
use Rattle.stomp_session.proofs.Kept.{is_open-with_each, without-with_each}
use Rattle.stomp_session.proofs.subscriptions.Subscriptions.end.Goals as goal

pub returns-clause-was_open : goal.returns-clause-was_open
returns-clause-was_open c = rw (c.is_some.ensures, c.take.ensures.was_open, ← c.self.view_is) (sym (is_open-with_each (λ (s : Subscription). s.topic) c.args.id.now c.self.inside.opened))

pub returns-clause-topics : goal.returns-clause-topics
returns-clause-topics c = rw (c.take.ensures.after, ← c.self.view_is) (without-with_each (λ (s : Subscription). s.topic) c.args.id.now c.self.inside.opened)

pub returns-clause-parts : goal.returns-clause-parts
returns-clause-parts c = rw (c.take.ensures.after, ← c.self.view_is) (without-with_each (λ (s : Subscription). s.parts) c.args.id.now c.self.inside.opened)
