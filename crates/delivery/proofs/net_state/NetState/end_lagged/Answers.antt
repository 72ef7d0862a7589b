use Rattle.delivery.proofs.Words.All.{◌≡◌, ◌<◌, ℕ, Bool, true, false, List, None, length, get_or, sym, ap, subst, ◌∙◌, get_or_default, length-set, GroupState, ConnectionFault, Event, Outcome, Refusal, Makes, take_objection, sub_held, group_held, next_held, has_lagged, View, SubView, no_group, no_endpoint, view_of, no_sub}
use Rattle.delivery.proofs.Views.Events.TakeStep.{free_there, free_endpoint, take_nothing, lag_without, take_lags, after_lag, lag_put}
use Rattle.delivery.proofs.net_state.NetState.end_lagged.Goals as goal
use Rattle.delivery.proofs.Views.Subscriptions.ClosedIsDropped.{sub_read}

-- the subscription that is held is the one that was read
held_is : (held : View) (s : ℕ) (x y : SubView) → take_objection held s ≡ None → x ≡ get_or held.subs s x → y ≡ x → sub_held held s ≡ y
held_is held s x y free read is = get_or_default held.subs s no_sub x (free_there held s free) ∙ (sym read ∙ sym is)

-- whether it has lagged
lag_is : (held : View) (s : ℕ) (y : SubView) (groups : List GroupState) (b : Bool) → sub_held held s ≡ y → groups ≡ held.groups
    → b ≡ has_lagged s (get_or groups y.topic.0 no_group) → has_lagged s (group_held held s) ≡ b
lag_is held s y groups b sub is lag =
    ap (λ (x : SubView). has_lagged s (get_or held.groups x.topic.0 no_group)) sub
    ∙ (ap (λ (gs : List GroupState). has_lagged s (get_or gs y.topic.0 no_group)) (sym is) ∙ sym lag)

-- its connection is there
endpoint_there : (held : View) (s : ℕ) (y : SubView) → take_objection held s ≡ None → sub_held held s ≡ y → y.connection < length held.endpoints
endpoint_there held s y free sub =
    let there = free_there held s free in free_endpoint held s y free (sub_read held.subs s y there (sym sub ∙ get_or_default held.subs s no_sub y there))

pub returns-then-not-has_lagged : goal.returns-then-not-has_lagged
returns-then-not-has_lagged c k reached is =
    let held = Rattle.delivery.specs.contracts.net_state.NetState.the_view c.self.inside in let y = Rattle.delivery.specs.contracts.sub.Sub.the_view c.subscription.inside in
    let free : take_objection held c.args.sub ≡ None = ap (λ (v : View). take_objection v c.args.sub) c.self.view_is ∙ c.requires.open in
    let sub = held_is held c.args.sub c.index-subscription.result.now y free c.index-subscription.ensures c.subscription.view_is in
    let lag = lag_is held c.args.sub y c.deref.result.now false sub c.deref.ensures.value c.if-not-has_lagged.ensures in
    subst (λ (v : View). Makes k (Event.Take c.args.sub) (Outcome.Refused Refusal.NothingDue) v) (sym is)
    (take_nothing k c.args.sub reached
    (ap (λ (v : View). take_objection v c.args.sub) (sym is) ∙ c.requires.open)
    (ap (λ (v : View). next_held v c.args.sub) (sym is) ∙ c.requires.none)
    (ap (λ (v : View). has_lagged c.args.sub (group_held v c.args.sub)) (sym (c.self.view_is ∙ is)) ∙ lag))

pub write-requires : goal.write-requires
write-requires c =
    let held = Rattle.delivery.specs.contracts.net_state.NetState.the_view c.self.inside in let y = Rattle.delivery.specs.contracts.sub.Sub.the_view c.subscription.inside in
    let free : take_objection held c.args.sub ≡ None = ap (λ (v : View). take_objection v c.args.sub) c.self.view_is ∙ c.requires.open in
    let sub = held_is held c.args.sub c.index-subscription.result.now y free c.index-subscription.ensures c.subscription.view_is in
    subst (λ (v : View). y.connection < length v.endpoints) c.self.view_is (endpoint_there held c.args.sub y free sub)

pub returns-in_default : goal.returns-in_default
returns-in_default c k reached is =
    let held = Rattle.delivery.specs.contracts.net_state.NetState.the_view c.self.inside in let y = Rattle.delivery.specs.contracts.sub.Sub.the_view c.subscription.inside in
    let free : take_objection held c.args.sub ≡ None = ap (λ (v : View). take_objection v c.args.sub) c.self.view_is ∙ c.requires.open in
    let sub = held_is held c.args.sub c.index-subscription.result.now y free c.index-subscription.ensures c.subscription.view_is in
    let lag = lag_is held c.args.sub y c.deref.result.now true sub c.deref.ensures.value c.if-not-has_lagged.ensures in
    subst (λ (v : View). Makes k (Event.Take c.args.sub) Outcome.NoMemory v) (sym (c.in_default.ensures.err ∙ is))
    (lag_without k c.args.sub reached
    (ap (λ (v : View). take_objection v c.args.sub) (sym is) ∙ c.requires.open)
    (ap (λ (v : View). next_held v c.args.sub) (sym is) ∙ c.requires.none)
    (ap (λ (v : View). has_lagged c.args.sub (group_held v c.args.sub)) (sym (c.self.view_is ∙ is)) ∙ lag))

pub begin_leaving-requires : goal.begin_leaving-requires
begin_leaving-requires c =
    let held = Rattle.delivery.specs.contracts.net_state.NetState.the_view c.self.inside in let y = Rattle.delivery.specs.contracts.sub.Sub.the_view c.subscription.inside in
    let free : take_objection held c.args.sub ≡ None = ap (λ (v : View). take_objection v c.args.sub) c.self.view_is ∙ c.requires.open in
    let sub = held_is held c.args.sub c.index-subscription.result.now y free c.index-subscription.ensures c.subscription.view_is in
    let endpoints = subst (λ (v : View). y.connection < length v.endpoints) c.self.view_is (endpoint_there held c.args.sub y free sub) in
    subst (λ (v : View). y.connection < length v.endpoints) (sym (c.in-Ok.ensures.ok no_endpoint))
    (subst (λ n. y.connection < n) (sym (length-set c.args.self.now.endpoints y.connection _)) endpoints)

pub returns : goal.returns
returns c k reached is =
    let held = Rattle.delivery.specs.contracts.net_state.NetState.the_view c.self.inside in let y = Rattle.delivery.specs.contracts.sub.Sub.the_view c.subscription.inside in
    let free : take_objection held c.args.sub ≡ None = ap (λ (v : View). take_objection v c.args.sub) c.self.view_is ∙ c.requires.open in
    let sub = held_is held c.args.sub c.index-subscription.result.now y free c.index-subscription.ensures c.subscription.view_is in
    let lag = lag_is held c.args.sub y c.deref.result.now true sub c.deref.ensures.value c.if-not-has_lagged.ensures in
    let put = lag_put c.args.self.now c.write.new.self c.begin_leaving.new.self y.connection c.title.result.now c.title.ensures (c.in-Ok.ensures.ok no_endpoint) (c.begin_leaving.ensures no_endpoint) in
    let new = put
    ∙ (ap (λ (v : View). after_lag v y.connection) is
    ∙ ap (λ n. after_lag (view_of k) n) (ap (λ (x : SubView). x.connection) (sym sub) ∙ ap (λ (v : View). (sub_held v c.args.sub).connection) (c.self.view_is ∙ is))) in
    subst (λ (v : View). Makes k (Event.Take c.args.sub) (Outcome.Faulted ConnectionFault.Lagged false) v) (sym new)
    (take_lags k c.args.sub reached
    (ap (λ (v : View). take_objection v c.args.sub) (sym is) ∙ c.requires.open)
    (ap (λ (v : View). next_held v c.args.sub) (sym is) ∙ c.requires.none)
    (ap (λ (v : View). has_lagged c.args.sub (group_held v c.args.sub)) (sym (c.self.view_is ∙ is)) ∙ lag))
