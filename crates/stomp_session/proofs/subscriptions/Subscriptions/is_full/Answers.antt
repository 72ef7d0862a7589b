use Rattle.std.proofs.Common.{sym}
use Rattle.stomp_session.specs.declared.subscription.Subscription.{Subscription}
use Rattle.stomp_session.proofs.Kept.{is_full-with_each}
use Rattle.stomp_session.proofs.subscriptions.Subscriptions.is_full.Goals as goal

pub returns : goal.returns
returns c = rw (c.is_full.ensures, ← c.self.view_is) (sym (is_full-with_each (λ (s : Subscription). s.topic) c.self.inside.opened))
