use Rattle.std.proofs.Common.{sym}
use Rattle.stomp_session.specs.declared.subscription.Subscription.{Subscription}
use Rattle.stomp_session.proofs.Kept.{is_open-with_each}
use Rattle.stomp_session.proofs.subscriptions.Subscriptions.is_open.Goals as goal

pub returns : goal.returns
returns c = rw (c.is_open.ensures, ← c.self.view_is) (sym (is_open-with_each (λ (s : Subscription). s.topic) c.args.id.now c.self.inside.opened))
