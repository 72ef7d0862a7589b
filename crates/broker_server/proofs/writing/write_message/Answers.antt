use Rattle.std.proofs.Common.{◌≡◌, ◌++◌, ℕ, Bool, List, Some, IfSome, sym, ap, subst, ◌∙◌}
use Rattle.std.specs.Prelude.{slice_get}
use Rattle.stomp_frame.specs.declared.raw_frame.RawFrame.{RawFrame}
use Rattle.stomp_frame.specs.ServerFrames.{message_frame, message_id}
use Rattle.mcast_txn.specs.declared.parts.part.Part.{Part}
use Rattle.mcast_txn.specs.declared.parts.part_message.PartMessage.{PartMessage}
use Rattle.mcast_txn.specs.declared.stamp.Stamp.{Stamp}
use Rattle.mcast_txn.specs.Span.{Item}
use Rattle.delivery.specs.Core.Output.{item_messages, messages_for}
use Rattle.broker_server.specs.Wires.{spelling_with_eol}
use Rattle.broker_server.proofs.EolLemmas.{map_ok, message_of, plain_at, so_there}
use Rattle.broker_server.proofs.writing.write_message.Goals as goal

pub returns-clause-ok : goal.returns-clause-ok
returns-clause-ok c =
    let item = c.args.item.now in
    let id = c.args.id.now in
    let p = c.get-send.result.now in
    let at = c.args.at in
    let out = c.args.out.now in
    let new = c.write_with_eol.new.out in
    let sends : c.deref.result.now.sends ≡ item.sends = ap (λ (q : Part). q.sends) c.deref.ensures ∙ ap (λ (x : Item). x.sends) c.item.view_is in
    let is : slice_get item.sends at ≡ Some p = ap (λ (xs : List PartMessage). slice_get xs at) (sym sends) ∙ c.get-send.ensures in
    let frame = λ (stamp : Stamp) (body : List ℕ). message_frame id (message_id stamp.n stamp.topic.0 p.index) p.headers body in
    let stamp = ap (λ (x : Item). x.stamp) c.item.view_is in
    let whole = ap (λ (st : Stamp). out ++ spelling_with_eol (frame st c.as_slice.result.now)) stamp
    ∙ ap (λ (b : List ℕ). out ++ spelling_with_eol (frame item.stamp b)) c.as_slice.ensures in
    map_ok c.write_with_eol.result _ _
    (λ put. subst (λ (b : Bool). IfSome (slice_get (messages_for b id item) at) (λ (f : RawFrame). new ≡ out ++ spelling_with_eol f)) (sym c.if-parts.false)
    (so_there (item_messages id item) at (message_of id item.stamp p) (λ (f : RawFrame). new ≡ out ++ spelling_with_eol f) (plain_at id item at p is) (put ∙ whole)))
    c.write_with_eol.ensures.ok
