use Rattle.std.specs.Str.{bytes_eq}
use Rattle.stomp_session.specs.declared.subscription.Subscription.{Subscription}
use Rattle.stomp_session.proofs.Kept.{lookup-with_each}
use Rattle.stomp_session.proofs.subscriptions.Subscriptions.asks_parts.Goals as goal

pub returns-in-Some : goal.returns-in-Some
returns-in-Some c =
    rw (← c.self.view_is, lookup-with_each (λ (s : Subscription). s.parts) (bytes_eq c.args.id.now) c.self.inside.opened, ← c.get.ensures, c.in-Some.is)

pub returns-in-None : goal.returns-in-None
returns-in-None c =
    rw (← c.self.view_is, lookup-with_each (λ (s : Subscription). s.parts) (bytes_eq c.args.id.now) c.self.inside.opened, ← c.get.ensures, c.in-None.is)
