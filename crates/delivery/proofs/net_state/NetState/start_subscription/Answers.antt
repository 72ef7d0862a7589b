use Rattle.delivery.proofs.Words.All.{ℕ, length, get_or, refl, ap, arith, Result, Ok, Stamp, NoMemory, receipt_text, View, no_endpoint, written_endpoint}
use Rattle.delivery.proofs.Views.Endpoints.EndpointChanges.{changed_length, taken_back}
use Rattle.delivery.proofs.Views.Events.NextSubs.{next_free, next_subscribes}
use Rattle.delivery.proofs.net_state.NetState.start_subscription.Goals as goal

pub subscribe-requires-clause-there : goal.subscribe-requires-clause-there
subscribe-requires-clause-there c =
    let v = c.args.self.now in
    let n = changed_length v c.write_receipt.new.self c.args.connection (written_endpoint (receipt_text c.args.receipt.now) (get_or v.endpoints c.args.connection no_endpoint)) (c.in_ok-write_receipt.ensures.ok no_endpoint) in
    omega (arith, n, c.requires.there)

pub subscribe-requires-clause-topic : goal.subscribe-requires-clause-topic
subscribe-requires-clause-topic c =
    let asks = c.requires.asks in
    (next_free asks.0 c.args.connection asks.1 asks.2 c.args.id c.args.topic c.args.receipt.now c.args.self.now c.write_receipt.new.self no_endpoint asks.3 (c.in_ok-write_receipt.ensures.ok no_endpoint)).0

pub subscribe-requires-clause-free : goal.subscribe-requires-clause-free
subscribe-requires-clause-free c =
    let asks = c.requires.asks in
    (next_free asks.0 c.args.connection asks.1 asks.2 c.args.id c.args.topic c.args.receipt.now c.args.self.now c.write_receipt.new.self no_endpoint asks.3 (c.in_ok-write_receipt.ensures.ok no_endpoint)).1

pub take_back-requires : goal.take_back-requires
take_back-requires c =
    let v = c.args.self.now in
    let n = changed_length v c.write_receipt.new.self c.args.connection (written_endpoint (receipt_text c.args.receipt.now) (get_or v.endpoints c.args.connection no_endpoint)) (c.in_ok-write_receipt.ensures.ok no_endpoint) in
    let m = ap (λ (x : View). length x.endpoints) c.in-Err.ensures.err in omega (arith, n, m, c.requires.there)

pub returns-in-Ok-clause-ok : goal.returns-in-Ok-clause-ok
returns-in-Ok-clause-ok c k f left asks =
    let h = c.in-Ok.ensures in let wrote = c.in_ok-write_receipt.ensures.ok no_endpoint in
    next_subscribes k c.args.connection f left c.args.id c.args.topic c.args.receipt.now c.args.self.now c.write_receipt.new.self c.subscribe.new.self
    c.in-Ok.sub c.in-Ok.from no_endpoint asks wrote (next_free k c.args.connection f left c.args.id c.args.topic c.args.receipt.now c.args.self.now c.write_receipt.new.self no_endpoint asks wrote).0
    (ap (λ (p : ℕ × Stamp). p.0) h.begun) (ap (λ (p : ℕ × Stamp). p.1) h.begun) h.ok

pub returns-in-Err-clause-err : goal.returns-in-Err-clause-err
returns-in-Err-clause-err c =
    let wrote : Result (Unit {0}) NoMemory = Ok tt in
    taken_back c.args.self.now c.write_receipt.new.self c.subscribe.new.self c.take_back.new.self c.args.connection c.written-len.result (receipt_text c.args.receipt.now) wrote no_endpoint
    c.requires.there (c.written-len.ensures no_endpoint) refl (c.in_ok-write_receipt.ensures.ok, tt) c.in-Err.ensures.err (c.take_back.ensures no_endpoint)
