use Rattle.delivery.proofs.Words.All.{◌<◌, ◌-◌, get_or, set, length, sym, ap, subst, ◌∙◌, get_or_default, GroupState, verdict_held, group_after_turn, group_turn_count, after_turn_at, verdict_at, View}
use Rattle.delivery.proofs.Views.Events.TurnStep.{turn_found}
use Rattle.delivery.proofs.net_state.NetState.turn_at.Goals as goal

pub returns-clause-count : goal.returns-clause-count
returns-clause-count c d =
    let g = c.index_mut-group.result.now in let turned = c.turn_counted.ensures.turned in
    let there = subst (λ (v : View). c.args.index < length v.groups) (sym c.self.view_is) c.requires in
    let new = turn_found c.self.inside.table g c.turn_counted.new.self turned.0 turned.1 turned.2 in
    c.turn_counted.ensures.count
    ∙ (ap (λ (h : GroupState). length h.topic.held - length g.topic.held) new
    ∙ (ap (group_turn_count (λ id. verdict_at id c.self.inside.table)) (sym (get_or_default c.self.inside.groups.items c.args.index d g there ∙ sym c.index_mut-group.ensures.value))
    ∙ ap (λ (v : View). group_turn_count (verdict_held v) (get_or v.groups c.args.index d)) c.self.view_is))

pub returns-clause-groups : goal.returns-clause-groups
returns-clause-groups c d =
    let g = c.index_mut-group.result.now in let turned = c.turn_counted.ensures.turned in
    let there = subst (λ (v : View). c.args.index < length v.groups) (sym c.self.view_is) c.requires in
    let new = turn_found c.self.inside.table g c.turn_counted.new.self turned.0 turned.1 turned.2 in
    let held = Rattle.delivery.specs.contracts.net_state.NetState.the_view c.self.inside in
    let read = new ∙ ap (group_after_turn (verdict_held held)) (sym (get_or_default c.self.inside.groups.items c.args.index d g there ∙ sym c.index_mut-group.ensures.value)) in
    ap (λ (h : GroupState). record held { groups = set held.groups c.args.index h }) read
    ∙ ap (λ (v : View). after_turn_at v c.args.index d) c.self.view_is
