use Rattle.delivery.proofs.Words.All.{◌≡◌, List, Some, None, get_or, sym, ap, ◌∙◌, get_or_default, GroupState, take_objection, sub_held, next_of, next_held, after_next_item, View, SubView, no_group, no_endpoint, no_sub}
use Rattle.delivery.proofs.Views.Events.TakeStep.{free_there, free_endpoint, next_there, item_put}
use Rattle.delivery.proofs.net_state.NetState.deliver.Goals as goal
use Rattle.delivery.proofs.Views.Subscriptions.ClosedIsDropped.{sub_read}

pub returns-clause-ok : goal.returns-clause-ok
returns-clause-ok c =
    let held = Rattle.delivery.specs.contracts.net_state.NetState.the_view c.self.inside in let y = Rattle.delivery.specs.contracts.sub.Sub.the_view c.subscription.inside in
    let item = c.in-Some.item.now in let free : take_objection held c.args.sub ≡ None = ap (λ (v : View). take_objection v c.args.sub) c.self.view_is ∙ c.requires in
    let there = free_there held c.args.sub free in
    let sub : sub_held held c.args.sub ≡ y =
    get_or_default held.subs c.args.sub no_sub c.index-subscription.result.now there ∙ (sym c.index-subscription.ensures ∙ sym c.subscription.view_is) in
    let due : next_of c.args.sub (get_or held.groups y.topic.0 no_group) ≡ Some item =
    ap (λ (gs : List GroupState). next_of c.args.sub (get_or gs y.topic.0 no_group)) (sym c.deref.ensures.value) ∙ sym c.in-Some.ensures in
    let next : next_held held c.args.sub ≡ Some item = ap (λ (x : SubView). next_of c.args.sub (get_or held.groups x.topic.0 no_group)) sub ∙ due in
    let t = next_there held.groups y.topic.0 c.args.sub item due in
    let l = free_endpoint held c.args.sub y free (sub_read held.subs c.args.sub y there (sym sub ∙ get_or_default held.subs c.args.sub no_sub y there)) in
    item_put held c.args.sub y item c.as_slice.result.now c.index_mut-group.result.now c.take.new.self c.index_mut-endpoint.result.now c.write_item.new.self sub next c.as_slice.ensures
    (get_or_default held.groups y.topic.0 no_group c.index_mut-group.result.now t ∙ sym c.index_mut-group.ensures.value) c.take.ensures.taken
    (get_or_default held.endpoints y.connection no_endpoint c.index_mut-endpoint.result.now l ∙ sym c.index_mut-endpoint.ensures.value) c.in_ok-write_item.ensures.ok
    ∙ ap (λ (v : View). after_next_item v c.args.sub (next_held v c.args.sub)) c.self.view_is
