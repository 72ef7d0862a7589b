use Rattle.delivery.proofs.Words.All.{ℕ, List, ◌-◌, length, Option, sym, ap, subst, ◌∙◌, arith, take, lt-ltb, SendersState, Event, Asks, AsksUnnamed, View, MakesBoth}
use Rattle.delivery.proofs.Views.Events.TopicTaken.{first_use_wants, grouped_asks, grouped_length, made_is, name_taken, named_room, none_taken, topic_taken, has_destination_of, uses_other}
use Rattle.delivery.proofs.net_state.NetState.act.Goals.{then-made, else-made}
use Rattle.delivery.proofs.Views.Clients.BothOfStep.{faulted_both}
use Rattle.delivery.proofs.Views.Events.NextFaults.{may_lack, none_claimed}
use Rattle.delivery.proofs.net_state.NetState.act.Goals as goal

pub make_topic-requires : goal.make_topic-requires
make_topic-requires c less = let asks = c.requires.asks in named_room asks.0 c.args.connection asks.1 asks.2 c.args.step.action c.args.step.receipt c.args.self.now asks.3 less

pub forget_name-requires : goal.forget_name-requires
forget_name-requires c = let less = c.in_default.ensures.lacks in let same = ap (λ (v : View). length v.names) c.in_default.ensures.err in omega (arith, less, same)

pub try_act-requires-clause-there : goal.try_act-requires-clause-there
try_act-requires-clause-there c = let same = ap (λ (v : View). length v.endpoints) c.in-Ok.ensures.ok ∙ grouped_length c.args.self.now in omega (arith, same, c.requires.there)

pub try_act-requires-clause-asks : goal.try_act-requires-clause-asks
try_act-requires-clause-asks c =
    let asks = c.requires.asks in (
      asks.0,
      asks.1,
      asks.2,
      subst (λ (v : View). Asks asks.0 c.args.connection asks.1 asks.2 c.args.step.action c.args.step.receipt v) (sym c.in-Ok.ensures.ok)
          (grouped_asks asks.0 c.args.connection asks.1 asks.2 c.args.step.action c.args.step.receipt c.args.self.now asks.3),
      asks.4,
    )

-- there is no memory for the group: the name is taken back
pub returns-in_default : goal.returns-in_default
returns-in_default c k f left asks kept =
    let held = c.args.self.now in let receipt = c.args.step.receipt in
    let used = sym (made_is k c.args.connection f left c.args.step.action receipt held asks) ∙ lt-ltb (length held.groups) (length held.names) c.in_default.ensures.lacks in
    let unnamed = λ (v : View). record v { names = take (length v.names - 1) v.names } in
    faulted_both k c.args.connection c.end_with.result c.end_with.new.self c.args.clients.now c.end_with.ensures.faulted
    (c.end_with.ensures.ended k f left c.args.step.action
    (subst (λ (v : View). AsksUnnamed k c.args.connection f left c.args.step.action receipt v) (sym (c.forget_name.ensures ∙ ap unnamed c.in_default.ensures.err))
    (name_taken k c.args.connection f left c.args.step.action receipt held asks used))
    (may_lack k c.args.connection f asks.cased asks.free
    (none_claimed k c.args.connection f (uses_other f.command (has_destination_of k f used)))
    (first_use_wants k c.args.connection f left c.args.step.action receipt held used))) kept

pub returns-in-Ok-try_act : goal.returns-in-Ok-try_act
returns-in-Ok-try_act c k f left asks kept =
    c.in-Ok-try_act.ensures.ok k f left
    (subst (λ (v : View). Asks k c.args.connection f left c.args.step.action c.args.step.receipt v) (sym c.in-Ok.ensures.ok)
    (grouped_asks k c.args.connection f left c.args.step.action c.args.step.receipt c.args.self.now asks)) kept

-- the frame can't be done: a topic that it made is taken back
pub returns-after-made : goal.returns-after-made
returns-after-made c k f left asks kept =
    let held = c.args.self.now in let receipt = c.args.step.receipt in
    let made = sym (made_is k c.args.connection f left c.args.step.action receipt held asks) ∙ sym c.in-Ok.ensures.made in
    let grouped = subst (λ (v : View). Asks k c.args.connection f left c.args.step.action receipt v) (sym c.in-Ok.ensures.ok)
    (grouped_asks k c.args.connection f left c.args.step.action receipt held asks) in
    let untopiced = λ (v : View). record v { names = take (length v.names - 1) v.names; groups = take (length v.groups - 1) v.groups } in
    let taken : AsksUnnamed k c.args.connection f left c.args.step.action receipt c.if-made.self =
    elim c.if-made.branch [
      | then-made w ↦ subst (λ (v : View). AsksUnnamed k c.args.connection f left c.args.step.action receipt v)
          (sym (w.self-is ∙ (w.forget_topic.ensures ∙ ap untopiced c.in-Err.ensures.err)))
          (topic_taken k c.args.connection f left c.args.step.action receipt c.make_topic.new.self grouped (made ∙ w.if-made.true))
      | else-made w ↦ subst (λ (v : View). AsksUnnamed k c.args.connection f left c.args.step.action receipt v)
          (sym (w.self-is ∙ c.in-Err.ensures.err))
          (none_taken k c.args.connection f left c.args.step.action receipt c.make_topic.new.self grouped (made ∙ w.if-made.false))
    ] in
    subst (λ (z : SendersState). MakesBoth k (Event.Next c.args.connection) c.end_with-in-Err.result c.end_with-in-Err.new.self z) (sym c.in-Err.ensures.unclaimed)
    (faulted_both k c.args.connection c.end_with-in-Err.result c.end_with-in-Err.new.self c.args.clients.now c.end_with-in-Err.ensures.faulted
    (c.end_with-in-Err.ensures.ended k f left c.args.step.action
    (subst (λ (r : Option (List ℕ)). AsksUnnamed k c.args.connection f left c.args.step.action r c.if-made.self) (sym c.in-Err.ensures.back) taken)
    (c.in-Err.ensures.fault k f left grouped kept)) kept)
