use Rattle.delivery.proofs.Words.All.{rules, ◌≡◌, ◌<◌, ◌≤◌, ℕ, length, get_or, List, Option, Some, None, sym, ap, ◌∙◌, arith, slice_get, option_map, View, SubView, LeftView, left_of, group_in, left_in, closed_with}
use Rattle.delivery.proofs.Views.Subscriptions.ClosedIsDropped.{sub_read, close_none, close_some, unclosed, closed_by, no_group_there, same_groups}
use Rattle.delivery.proofs.net_state.NetState.close.Goals as goal

-- the subscription that was read is held
held_sub : (v : View) (subs : List SubView) (s : ℕ) (x : SubView) → v.subs ≡ subs → s < length subs → x ≡ get_or subs s x → slice_get v.subs s ≡ Some x
held_sub v subs s x is there read = ap (λ (xs : List SubView). slice_get xs s) is ∙ sub_read subs s x there read

pub returns-then-index-len-clause-end : goal.returns-then-index-len-clause-end
returns-then-index-len-clause-end c =
    let v = c.args.self.now in let x = c.in_ok-subscription.subscription.now in let read = c.in_ok-subscription.ensures.lookup in
    let sub = held_sub v c.deref.result.now c.args.sub x (ap (λ (z : View). z.subs) (sym c.self.view_is) ∙ sym c.deref.ensures.value) read.3.0 read.1 in
    let topic : c.subscription.inside.topic.0 ≡ x.topic.0 = ap (λ (z : SubView). z.topic.0) c.subscription.view_is in
    let many : c.len.result ≡ length c.self.inside.groups.items = omega (arith, c.self.inside.groups.ok.0, c.len.ensures) in
    let groups : length c.self.inside.groups.items ≡ length v.groups = ap (λ (z : View). length z.groups) c.self.view_is in
    let far : length v.groups ≤ x.topic.0 = omega (arith, topic, many, groups, c.if-index-len.true) in
    sym (ap (λ (o : Option LeftView). option_map (λ (z : LeftView). z.to) o) (close_none v c.args.sub x sub (no_group_there v x.topic c.args.sub far)))

pub returns-then-index-len-clause-closed : goal.returns-then-index-len-clause-closed
returns-then-index-len-clause-closed c =
    let v = c.args.self.now in let x = c.in_ok-subscription.subscription.now in let read = c.in_ok-subscription.ensures.lookup in
    let sub = held_sub v c.deref.result.now c.args.sub x (ap (λ (z : View). z.subs) (sym c.self.view_is) ∙ sym c.deref.ensures.value) read.3.0 read.1 in
    let topic : c.subscription.inside.topic.0 ≡ x.topic.0 = ap (λ (z : SubView). z.topic.0) c.subscription.view_is in
    let many : c.len.result ≡ length c.self.inside.groups.items = omega (arith, c.self.inside.groups.ok.0, c.len.ensures) in
    let groups : length c.self.inside.groups.items ≡ length v.groups = ap (λ (z : View). length z.groups) c.self.view_is in
    let far : length v.groups ≤ x.topic.0 = omega (arith, topic, many, groups, c.if-index-len.true) in
    sym (unclosed v c.args.sub (close_none v c.args.sub x sub (no_group_there v x.topic c.args.sub far)))

pub returns-in_err-left-clause-end : goal.returns-in_err-left-clause-end
returns-in_err-left-clause-end c =
    let v = c.args.self.now in let x = c.in_ok-subscription.subscription.now in let read = c.in_ok-subscription.ensures.lookup in
    let sub = held_sub v c.deref.result.now c.args.sub x (ap (λ (z : View). z.subs) (sym c.self.view_is) ∙ sym c.deref.ensures.value) read.3.0 read.1 in
    let none : left_in c.args.sub (group_in v x.topic) ≡ None = search rules in
    c.from_residual-in_err-left.ensures
    ∙ sym (ap (λ (o : Option LeftView). option_map (λ (z : LeftView). z.to) o) (close_none v c.args.sub x sub none))

pub returns-in_err-left-clause-closed : goal.returns-in_err-left-clause-closed
returns-in_err-left-clause-closed c =
    let v = c.args.self.now in let x = c.in_ok-subscription.subscription.now in let read = c.in_ok-subscription.ensures.lookup in
    let sub = held_sub v c.deref.result.now c.args.sub x (ap (λ (z : View). z.subs) (sym c.self.view_is) ∙ sym c.deref.ensures.value) read.3.0 read.1 in
    let none : left_in c.args.sub (group_in v x.topic) ≡ None = search rules in let same : c.end_at.new.self ≡ v = search (rules, same_groups v x.topic.0) in
    same ∙ sym (unclosed v c.args.sub (close_none v c.args.sub x sub none))

pub returns-clause-end : goal.returns-clause-end
returns-clause-end c =
    let v = c.args.self.now in let x = c.in_ok-subscription.subscription.now in let read = c.in_ok-subscription.ensures.lookup in
    let sub = held_sub v c.deref.result.now c.args.sub x (ap (λ (z : View). z.subs) (sym c.self.view_is) ∙ sym c.deref.ensures.value) read.3.0 read.1 in
    let left : left_in c.args.sub (group_in v x.topic) ≡ Some (left_of c.in_ok-left.left) = search rules in
    sym (ap (λ (o : Option LeftView). option_map (λ (z : LeftView). z.to) o) (close_some v c.args.sub x (left_of c.in_ok-left.left) sub left))

pub returns-clause-closed : goal.returns-clause-closed
returns-clause-closed c =
    let v = c.args.self.now in let x = c.in_ok-subscription.subscription.now in let read = c.in_ok-subscription.ensures.lookup in
    let sub = held_sub v c.deref.result.now c.args.sub x (ap (λ (z : View). z.subs) (sym c.self.view_is) ∙ sym c.deref.ensures.value) read.3.0 read.1 in
    let left : left_in c.args.sub (group_in v x.topic) ≡ Some (left_of c.in_ok-left.left) = search rules in
    let new : c.forget.new.self ≡ closed_with c.args.sub x (left_of c.in_ok-left.left) v = search rules in
    new ∙ sym (closed_by v c.args.sub x (left_of c.in_ok-left.left) sub (close_some v c.args.sub x (left_of c.in_ok-left.left) sub left))
