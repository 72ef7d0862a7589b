use Rattle.delivery.proofs.Words.All.{◌≡◌, true, false, List, Some, None, refl, sym, ap, ◌∙◌, slice_get, is_some, Objection, endpoint_objection, sub_objection, View, SubView, left_of}
use Rattle.delivery.proofs.Views.Events.TakeStep.{sub_missing, is_some_map, sub_closed, sub_shut, sub_open}
use Rattle.delivery.proofs.net_state.NetState.check_take.Goals as goal
use Rattle.delivery.proofs.Views.Subscriptions.ClosedIsDropped.{sub_read}

pub returns-in_default : goal.returns-in_default
returns-in_default c =
    let subs : c.args.self.now.subs ≡ c.deref.result.now = ap (λ (v : View). v.subs) (sym c.self.view_is) ∙ sym c.deref.ensures.value in
    (Objection.NoSub, ap (λ (xs : List SubView). sub_objection c.args.self.now.endpoints (slice_get xs c.args.sub)) subs ∙ sub_missing c.args.self.now.endpoints c.deref.result.now c.args.sub c.in_default.ensures.lookup.3, refl)

pub returns-then-is_some : goal.returns-then-is_some
returns-then-is_some c =
    let subs : c.args.self.now.subs ≡ c.deref.result.now = ap (λ (v : View). v.subs) (sym c.self.view_is) ∙ sym c.deref.ensures.value in let h = c.in-Some.ensures.lookup in
    let x = c.in-Some.subscription.now in let found = ap (λ (xs : List SubView). slice_get xs c.args.sub) subs ∙ sub_read c.deref.result.now c.args.sub x h.3.0 h.1 in
    let left : is_some x.left ≡ true =
    ap (λ (z : SubView). is_some z.left) (sym c.subscription.view_is) ∙ (is_some_map left_of c.subscription.inside.left ∙ sym c.if-is_some.ensures) in
    (Objection.Gone, ap (sub_objection c.args.self.now.endpoints) found ∙ sub_closed c.args.self.now.endpoints x left, refl)

pub returns-in-Ok : goal.returns-in-Ok
returns-in-Ok c =
    let subs : c.args.self.now.subs ≡ c.deref.result.now = ap (λ (v : View). v.subs) (sym c.self.view_is) ∙ sym c.deref.ensures.value in let h = c.in-Some.ensures.lookup in
    let x = c.in-Some.subscription.now in let found = ap (λ (xs : List SubView). slice_get xs c.args.sub) subs ∙ sub_read c.deref.result.now c.args.sub x h.3.0 h.1 in
    let left : is_some x.left ≡ false =
    ap (λ (z : SubView). is_some z.left) (sym c.subscription.view_is) ∙ (is_some_map left_of c.subscription.inside.left ∙ sym c.if-is_some.ensures) in
    let free : endpoint_objection (slice_get c.args.self.now.endpoints x.connection) ≡ None =
    ap (λ (z : SubView). endpoint_objection (slice_get c.args.self.now.endpoints z.connection)) (sym c.subscription.view_is) ∙ c.in-Ok.ensures in
    ap (sub_objection c.args.self.now.endpoints) found ∙ sub_open c.args.self.now.endpoints x left free

pub returns-in-Err : goal.returns-in-Err
returns-in-Err c =
    let subs : c.args.self.now.subs ≡ c.deref.result.now = ap (λ (v : View). v.subs) (sym c.self.view_is) ∙ sym c.deref.ensures.value in let h = c.in-Some.ensures.lookup in
    let x = c.in-Some.subscription.now in let found = ap (λ (xs : List SubView). slice_get xs c.args.sub) subs ∙ sub_read c.deref.result.now c.args.sub x h.3.0 h.1 in
    let why = c.in-Err.ensures in
    let shut : endpoint_objection (slice_get c.args.self.now.endpoints x.connection) ≡ Some why.0 =
    ap (λ (z : SubView). endpoint_objection (slice_get c.args.self.now.endpoints z.connection)) (sym c.subscription.view_is) ∙ why.1 in
    (Objection.Gone, ap (sub_objection c.args.self.now.endpoints) found ∙ sub_shut c.args.self.now.endpoints x why.0 shut, refl)
