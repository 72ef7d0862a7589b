use Rattle.delivery.proofs.Words.All.{◌≡◌, ℕ, get_or, sym, ap, ◌∙◌, arith, option_map, none_some, some_same, number_by, receipt_text, left_at, LeftView, no_endpoint, written_endpoint}
use Rattle.delivery.proofs.Views.Endpoints.EndpointChanges.{changed_length}
use Rattle.delivery.proofs.Views.Events.NextSubs.{next_finds, next_leaves, next_unsubscribes}
use Rattle.delivery.proofs.net_state.NetState.end_subscription.Goals as goal

pub find_sub-requires : goal.find_sub-requires
find_sub-requires c =
    let v = c.args.self.now in
    let n = changed_length v c.write_receipt.new.self c.args.connection (written_endpoint (receipt_text c.args.receipt.now) (get_or v.endpoints c.args.connection no_endpoint)) (c.in_ok-write_receipt.ensures.ok no_endpoint) in
    omega (arith, n, c.requires.there)

pub unreachable-requires : goal.unreachable-requires
unreachable-requires c =
    let asks = c.requires.asks in
    let found = next_finds asks.0 c.args.connection asks.1 asks.2 c.args.id.now c.args.receipt.now c.args.self.now c.write_receipt.new.self no_endpoint asks.3 (c.in_ok-write_receipt.ensures.ok no_endpoint) in
    cc

pub returns-clause-ok : goal.returns-clause-ok
returns-clause-ok c k f left asks =
    next_unsubscribes k c.args.connection f left c.args.id.now c.args.receipt.now c.args.self.now c.write_receipt.new.self c.close.new.self c.in-Some.sub c.in-Some-close.to no_endpoint asks
    (c.in_ok-write_receipt.ensures.ok no_endpoint) (sym c.in-Some.is ∙ c.find_sub.ensures) (sym c.in-Some-close.is ∙ c.close.ensures.end) c.close.ensures.closed

pub unreachable-requires-in-None : goal.unreachable-requires-in-None
unreachable-requires-in-None c =
    let k = c.requires.asks.0 in let f = c.requires.asks.1 in let left = c.requires.asks.2 in let asks = c.requires.asks.3 in let v = c.args.self.now in
    let mid = c.write_receipt.new.self in let wrote = c.in_ok-write_receipt.ensures.ok no_endpoint in
    let found = next_finds k c.args.connection f left c.args.id.now c.args.receipt.now v mid no_endpoint asks wrote in
    let same : c.in-Some.sub ≡ number_by c.args.connection c.args.id.now k.steps = some_same _ _ (sym c.in-Some.is ∙ (c.find_sub.ensures ∙ found)) in
    let end = next_leaves k c.args.connection f left c.args.id.now c.args.receipt.now v mid no_endpoint asks wrote in
    none_some _ (sym c.in-None.is ∙ (c.close.ensures.end ∙ (ap (λ (n : ℕ). option_map (λ (x : LeftView). x.to) (left_at n mid)) same ∙ end)))
