use Rattle.std.proofs.Common.{◌≡◌, ◌++◌, ◌+◌, ◌<◌, ℕ, List, Some, length, sym, ap, ◌∙◌, arith}
use Rattle.std.specs.Prelude.{slice_get}
use Rattle.stomp_frame.specs.declared.raw_frame.RawFrame.{RawFrame}
use Rattle.stomp_frame.specs.ServerFrames.{message_id, part_message_frame}
use Rattle.mcast_txn.specs.declared.parts.part.Part.{Part}
use Rattle.mcast_txn.specs.declared.parts.part_message.PartMessage.{PartMessage}
use Rattle.mcast_txn.specs.declared.stamp.Stamp.{Stamp}
use Rattle.mcast_txn.specs.Span.{Item}
use Rattle.delivery.specs.Core.Output.{part_messages}
use Rattle.broker_server.specs.Wires.{spelling_with_eol}
use Rattle.broker_server.proofs.EolLemmas.{map_ok, part_at, part_of, so_there}
use Rattle.broker_server.proofs.writing.write_part.Goals as goal

pub overflow_add-message : goal.overflow_add-message
overflow_add-message c =
    let item = c.args.item.now in
    let sends : c.deref.result.now.sends ≡ item.sends = ap (λ (q : Part). q.sends) c.deref.ensures ∙ ap (λ (x : Item). x.sends) c.item.view_is in
    let many : c.len-count.result ≡ length item.sends = c.len-count.ensures ∙ ap (λ (xs : List PartMessage). length xs) sends in
    let there : c.args.at < length item.sends = c.requires in
    let small : c.len-count.result < 18446744073709551616 = c.len-count.type_inv in
    omega (arith, there, many, small)

pub returns-else-is_err-clause-ok : goal.returns-else-is_err-clause-ok
returns-else-is_err-clause-ok c =
    let item = c.args.item.now in
    let id = c.args.id.now in
    let p = c.get-send.result.now in
    let at = c.args.at in
    let out = c.args.out.now in
    let new = c.put_part_with_eol-done.new.out in
    let sends : c.deref.result.now.sends ≡ item.sends = ap (λ (q : Part). q.sends) c.deref.ensures ∙ ap (λ (x : Item). x.sends) c.item.view_is in
    let many : c.len-count.result ≡ length item.sends = c.len-count.ensures ∙ ap (λ (xs : List PartMessage). length xs) sends in
    let is : slice_get item.sends at ≡ Some p = ap (λ (xs : List PartMessage). slice_get xs at) (sym sends) ∙ c.get-send.ensures in
    let frame = λ (count : ℕ) (stamp : Stamp) (body : List ℕ). part_message_frame (at + 1) count id (message_id stamp.n stamp.topic.0 p.index) p.headers body in
    let stamp = ap (λ (x : Item). x.stamp) c.item.view_is in
    let whole = ap (λ (st : Stamp). out ++ spelling_with_eol (frame c.len-count.result st c.as_slice.result.now)) stamp
    ∙ (ap (λ (n : ℕ). out ++ spelling_with_eol (frame n item.stamp c.as_slice.result.now)) many
    ∙ ap (λ (b : List ℕ). out ++ spelling_with_eol (frame (length item.sends) item.stamp b)) c.as_slice.ensures) in
    map_ok c.put_part_with_eol-done.result _ _
    (λ put. so_there (part_messages id item) at (part_of (at + 1) (length item.sends) id item.stamp p) (λ (f : RawFrame). new ≡ out ++ spelling_with_eol f) (part_at id item at p is) (put ∙ whole))
    c.put_part_with_eol-done.ensures.ok
