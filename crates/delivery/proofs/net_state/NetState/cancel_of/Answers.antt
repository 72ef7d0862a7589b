use Rattle.std.proofs.Common.{◌≡◌, ◌<◌, true, length, sym, ap, ◌∙◌, arith}
use Rattle.delivery.proofs.Words.All.{is_flying, is_group, View, SenderView}
use Rattle.delivery.proofs.Views.Events.CancelStep.{cancel_never}
use Rattle.delivery.proofs.Views.Events.ProposeStep.{held_read, group_read}
use Rattle.delivery.proofs.Views.Senders.RoomLasts.{count_same}
use Rattle.delivery.proofs.net_state.NetState.cancel_of.Goals as goal

pub invariant_of-self-2 : goal.invariant_of-self-2
invariant_of-self-2 c =
    let senders = c.self.inside.senders.items in let there : c.args.sender < length senders = omega (arith, c.if-index-len.false, c.len.ensures, c.self.inside.senders.ok.0) in
    let same = ap (λ (x : SenderView). is_flying x.sending) c.drop_leftover.ensures ∙ ap (λ (x : SenderView). is_flying x.sending) c.index_mut-state.ensures.value in
    c.self.invariant ∙ count_same senders c.args.sender c.drop_leftover.new.self _ there same

pub unreachable-requires : goal.unreachable-requires
unreachable-requires c =
    let k = c.requires.0 in let t = c.args.topic in let s = c.args.sender in let senders = c.self.inside.senders.items in let view = c.self.view_is ∙ c.requires.2 in
    let there : s < length senders = omega (arith, c.if-index-len.false, c.len.ensures, c.self.inside.senders.ok.0) in let x = c.index_mut-state.result.now in
    let held = held_read k s senders x (ap (λ (v : View). v.senders) view) there c.index_mut-state.ensures.value in let g = c.index_mut-group.result.now in
    let grouped : is_group t c.self.inside.groups.items ≡ true = sym (c.if-not-has_group.ensures ∙ ap (is_group t) c.deref.ensures.value) in
    let group = group_read k t c.self.inside.groups.items g (ap (λ (v : View). v.groups) view) grouped c.index_mut-group.ensures.value in
    cancel_never k s t c.in-Some.at c.in-Some.id x g c.in-Err-NotPending.field-0 c.cancel.result c.requires.1 held.0 held.1 group.0 group.1
    c.in-Some.ensures.at c.in-Some.ensures.id c.cancel.ensures.answer c.in-Err-NotPending.is

pub unreachable-requires-in-Err-Decided : goal.unreachable-requires-in-Err-Decided
unreachable-requires-in-Err-Decided c =
    let k = c.requires.0 in let t = c.args.topic in let s = c.args.sender in let senders = c.self.inside.senders.items in let view = c.self.view_is ∙ c.requires.2 in
    let there : s < length senders = omega (arith, c.if-index-len.false, c.len.ensures, c.self.inside.senders.ok.0) in let x = c.index_mut-state.result.now in
    let held = held_read k s senders x (ap (λ (v : View). v.senders) view) there c.index_mut-state.ensures.value in let g = c.index_mut-group.result.now in
    let grouped : is_group t c.self.inside.groups.items ≡ true = sym (c.if-not-has_group.ensures ∙ ap (is_group t) c.deref.ensures.value) in
    let group = group_read k t c.self.inside.groups.items g (ap (λ (v : View). v.groups) view) grouped c.index_mut-group.ensures.value in
    cancel_never k s t c.in-Some.at c.in-Some.id x g c.in-Err-Decided.field-0 c.cancel.result c.requires.1 held.0 held.1 group.0 group.1
    c.in-Some.ensures.at c.in-Some.ensures.id c.cancel.ensures.answer c.in-Err-Decided.is
