use Rattle.delivery.proofs.Words.All.{◌≡◌, ◌++◌, ◌<◌, ◌≤◌, ◌+◌, ℕ, List, Some, length, sym, ap, ◌∙◌, arith, slice_get, enumerate_from, length-enumerate_from, Part, PartMessage, Stamp, Item, message_id, part_message_frame, spelling_of}
use Rattle.std.proofs.lemmas.List.{take_all}
use Rattle.delivery.proofs.Views.Lists.TextOfMessages.{placed_at, placed_of, text_of, text_put}
use Rattle.delivery.proofs.messages.put_parts.Goals as goal

pub returns-clause-ok : goal.returns-clause-ok
returns-clause-ok c =
    let item = c.args.item.now in let sends : c.deref.result.now.sends ≡ item.sends = ap (λ (q : Part). q.sends) c.deref.ensures ∙ ap (λ (x : Item). x.sends) c.item.view_is in
    let many : c.len-count.result ≡ length item.sends = c.len-count.ensures ∙ ap (λ (xs : List PartMessage). length xs) sends in
    let all : length (enumerate_from 1 item.sends) ≤ c.loop-i.i = omega (arith, c.loop-i-test.false, many, length-enumerate_from 1 item.sends) in
    c.loop-i.invariant.written
    ∙ ap (λ (ps : List (ℕ × PartMessage)). c.args.out.now ++ text_of (placed_of (length item.sends) c.args.id.now item.stamp) ps)
    (take_all c.loop-i.i (enumerate_from 1 item.sends) all)

pub loop-i-preserved : goal.loop-i-preserved
loop-i-preserved c =
    let item = c.args.item.now in let p = c.get-sent.result.now in let i = c.loop-i.i in
    let sends : c.deref.result.now.sends ≡ item.sends = ap (λ (q : Part). q.sends) c.deref.ensures ∙ ap (λ (x : Item). x.sends) c.item.view_is in
    let many : c.len-count.result ≡ length item.sends = c.len-count.ensures ∙ ap (λ (xs : List PartMessage). length xs) sends in
    let is : slice_get item.sends i ≡ Some p = ap (λ (xs : List PartMessage). slice_get xs i) (sym sends) ∙ c.get-sent.ensures in
    let there : i < length item.sends = omega (arith, c.loop-i-test.true, c.loop-i.auto.i-end, many) in
    let placed : i < length (enumerate_from 1 item.sends) = omega (arith, there, length-enumerate_from 1 item.sends) in let put = c.in_ok-write_part_message.ensures.ok in
    let frame = λ (count : ℕ) (stamp : Stamp) (body : List ℕ). part_message_frame (i + 1) count c.args.id.now (message_id stamp.n stamp.topic.0 p.index) p.headers body in
    let stamp = ap (λ (x : Item). x.stamp) c.item.view_is in
    let whole = put
    ∙ (ap (λ (st : Stamp). c.loop-i.out ++ spelling_of (frame c.len-count.result st c.as_slice.result.now)) stamp
    ∙ (ap (λ (n : ℕ). c.loop-i.out ++ spelling_of (frame n item.stamp c.as_slice.result.now)) many
    ∙ ap (λ (b : List ℕ). c.loop-i.out ++ spelling_of (frame (length item.sends) item.stamp b)) c.as_slice.ensures)) in
    record {
      written = text_put (placed_of (length item.sends) c.args.id.now item.stamp) (enumerate_from 1 item.sends) i (i + 1, p) c.args.out.now c.loop-i.out
          c.write_part_message.new.out placed (placed_at item.sends i p there is) c.loop-i.invariant.written whole;
    }
