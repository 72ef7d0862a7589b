use Rattle.std.proofs.Common.{◌<◌, length, sym, ap, ◌∙◌, arith}
use Rattle.delivery.proofs.Words.All.{PromisedRows, is_flying, SenderView}
use Rattle.delivery.proofs.Views.Senders.RoomLasts.{count_ended}
use Rattle.delivery.proofs.net_state.NetState.decide_of.Goals as goal

pub keep-requires : goal.keep-requires
keep-requires c =
    let senders = c.self.inside.senders.items in let there : c.args.sender < length senders = omega (arith, c.if-index-len.false, c.len.ensures, c.self.inside.senders.ok.0) in
    let flying = ap (λ (x : SenderView). is_flying x.sending) (sym c.index_mut-state.ensures.value) ∙ c.in_ok-verdict.ensures.flying in
    let count = count_ended senders c.args.sender c.decide.new.self _ there flying c.in_ok-verdict.ensures.idle in let promised = c.self.invariant in omega (arith, count, promised)

pub invariant_of-self-2 : goal.invariant_of-self-2
invariant_of-self-2 c =
    let senders = c.self.inside.senders.items in let there : c.args.sender < length senders = omega (arith, c.if-index-len.false, c.len.ensures, c.self.inside.senders.ok.0) in
    let flying = ap (λ (x : SenderView). is_flying x.sending) (sym c.index_mut-state.ensures.value) ∙ c.in_ok-verdict.ensures.flying in
    let count = count_ended senders c.args.sender c.decide.new.self _ there flying c.in_ok-verdict.ensures.idle in let promised = c.self.invariant in
    let kept = ap (λ (p : PromisedRows). p.promised) c.keep.ensures in omega (arith, count, promised, kept)
