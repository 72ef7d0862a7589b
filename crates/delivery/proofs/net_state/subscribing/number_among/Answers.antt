use Rattle.delivery.proofs.Words.All.{rules, ◌≡◌, Some, None, position, has_sub_id}
use Rattle.delivery.proofs.Views.Subscriptions.NewSubscription.{found_at, found_none}
use Rattle.delivery.proofs.net_state.subscribing.number_among.Goals as goal

pub returns-in_err-index : goal.returns-in_err-index
returns-in_err-index c =
    let p = has_sub_id c.args.subs.now c.args.id.now in let at : position p c.args.numbers.now ≡ None = search rules in search (rules, found_none p c.args.numbers.now at)

pub returns : goal.returns
returns c =
    let p = has_sub_id c.args.subs.now c.args.id.now in let at : position p c.args.numbers.now ≡ Some c.in_ok-index.index = search rules in
    search (rules, found_at p c.args.numbers.now c.in_ok-index.index 0 at)
