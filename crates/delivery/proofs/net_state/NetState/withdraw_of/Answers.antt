use Rattle.std.proofs.Common.{◌<◌, length, ap, ◌∙◌, arith}
use Rattle.delivery.proofs.Words.All.{is_flying, SenderView}
use Rattle.delivery.proofs.Views.Senders.RoomLasts.{count_same}
use Rattle.delivery.proofs.net_state.NetState.withdraw_of.Goals as goal

pub invariant_of-self : goal.invariant_of-self
invariant_of-self c =
    let senders = c.self.inside.senders.items in let there : c.args.sender < length senders = omega (arith, c.if-index-len.false, c.len.ensures, c.self.inside.senders.ok.0) in
    let same = c.withdraw.ensures.flying ∙ ap (λ (x : SenderView). is_flying x.sending) c.index_mut-state.ensures.value in
    c.self.invariant ∙ count_same senders c.args.sender c.withdraw.new.self _ there same
