use Rattle.delivery.proofs.Words.All.{rules, ◌≡◌, ◌==◌, Some, None, position}
use Rattle.delivery.proofs.Views.Subscriptions.ClosedIsDropped.{forgotten, unforgotten}
use Rattle.delivery.proofs.endpoint.Endpoint.forget.Goals as goal

pub returns-in-Some : goal.returns-in-Some
returns-in-Some c =
    let at : position (λ n. n == c.args.sub) c.self.inside.live.items ≡ Some c.in-Some.index = search rules in
    let rest = forgotten c.args.sub c.self.inside.live.items c.in-Some.index at in search (rules, rest)

pub returns-in_default : goal.returns-in_default
returns-in_default c =
    let at : position (λ n. n == c.args.sub) c.self.inside.live.items ≡ None = search rules in let rest = unforgotten c.args.sub c.self.inside.live.items at in search (rules, rest)
