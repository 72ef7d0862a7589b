use Rattle.std.proofs.Common.{[], ◌∷◌, ◌++◌, ◌<◌, List, length, sym, ap, ◌∙◌, arith}
use Rattle.delivery.proofs.Words.All.{is_flying, flying_count, SenderView}
use Rattle.delivery.proofs.Views.Senders.RoomLasts.{count_pushed, count_same}
use Rattle.delivery.proofs.net_state.NetState.claim.Goals as goal

pub invariant_of-self-then-index-len : goal.invariant_of-self-then-index-len
invariant_of-self-then-index-len c =
    let senders = c.reserve.new.self.items in let s = c.sender-sender.result.0 in
    let there : s < length senders = omega (arith, c.if-index-len.true, c.len.ensures, c.reserve.new.self.ok.0) in
    let same = c.resume.ensures.flying ∙ ap (λ (x : SenderView). is_flying x.sending) c.index_mut-state.ensures.value in
    c.self.invariant ∙ (ap flying_count (sym c.in_ok-reserve.ensures.items) ∙ count_same senders s c.resume.new.self _ there same)

pub invariant_of-self-else-index-len : goal.invariant_of-self-else-index-len
invariant_of-self-else-index-len c =
    let senders = c.self.inside.senders.items in let new = c.new.result in let idle = ap (λ (x : SenderView). is_flying x.sending) c.new.ensures in
    let items = c.push_reserved.ensures.items ∙ ap (λ (xs : List SenderView). xs ++ new ∷ []) c.in_ok-reserve.ensures.items in
    c.self.invariant ∙ sym (ap flying_count items ∙ count_pushed senders new idle)
