use Rattle.delivery.proofs.Words.All.{◌≡◌, ◌++◌, ◌<◌, ℕ, List, Some, length, sym, ap, ◌∙◌, arith, slice_get, Part, PartMessage, Stamp, Item, message_frame, message_id, spelling_of}
use Rattle.delivery.proofs.Views.Lists.TextOfMessages.{message_of, text_put}
use Rattle.delivery.proofs.messages.put_messages.Goals as goal

pub loop-i-preserved : goal.loop-i-preserved
loop-i-preserved c =
    let item = c.args.item.now in let p = c.get-send.result.now in
    let sends : c.deref.result.now.sends ≡ item.sends = ap (λ (q : Part). q.sends) c.deref.ensures ∙ ap (λ (i : Item). i.sends) c.item.view_is in
    let is : slice_get item.sends c.loop-i.i ≡ Some p = ap (λ (xs : List PartMessage). slice_get xs c.loop-i.i) (sym sends) ∙ c.get-send.ensures in
    let there : c.loop-i.i < length item.sends = omega (arith, c.loop-i-test.true, c.loop-i.auto.i-end, c.len-i-end.ensures, ap (λ (xs : List PartMessage). length xs) sends) in
    let put = c.in_ok-write_server.ensures.ok in
    let frame = λ (stamp : Stamp) (body : List ℕ). message_frame c.args.id.now (message_id stamp.n stamp.topic.0 p.index) p.headers body in
    let stamp = ap (λ (i : Item). i.stamp) c.item.view_is in
    let whole = put
    ∙ (ap (λ (st : Stamp). c.loop-i.out ++ spelling_of (frame st c.as_slice.result.now)) stamp
    ∙ ap (λ (b : List ℕ). c.loop-i.out ++ spelling_of (frame item.stamp b)) c.as_slice.ensures) in
    record { written = text_put (message_of c.args.id.now item.stamp) item.sends c.loop-i.i p c.args.out.now c.loop-i.out c.write_server.new.out there is c.loop-i.invariant.written whole }
