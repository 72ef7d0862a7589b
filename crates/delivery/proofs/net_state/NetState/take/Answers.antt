use Rattle.delivery.proofs.Words.All.{length, sym, ap, subst, ◌∙◌, is_some, option_map, Item, Event, Outcome, Makes, take_objection, next_held, after_next_item, View}
use Rattle.delivery.proofs.Views.Events.TakeStep.{take_refused, take_makes, take_without}
use Rattle.delivery.proofs.net_state.NetState.take.Goals as goal

pub returns-in-Err : goal.returns-in-Err
returns-in-Err c k reached is =
    let h = c.in-Err.ensures in
    subst (λ (v : View). Makes k (Event.Take c.args.sub) (Outcome.Refused c.in-Err.refusal) v) (sym is)
    (take_refused k c.args.sub h.0 c.in-Err.refusal (ap (λ (v : View). take_objection v c.args.sub) (sym is) ∙ h.1) h.2)

pub returns-in-Ok-Some : goal.returns-in-Ok-Some
returns-in-Ok-Some c k reached is =
    let h = c.in-Ok-Some.ensures in let free = ap (λ (v : View). take_objection v c.args.sub) (sym is) ∙ c.in_default.ensures in
    let new = h.ok ∙ ap (λ (v : View). after_next_item v c.args.sub (next_held v c.args.sub)) is in
    let due = sym c.in-Ok-Some.field-0-is ∙ (h.count ∙ ap (λ (v : View). option_map (λ (item : Item). length item.sends) (next_held v c.args.sub)) is) in
    subst (λ (v : View). Makes k (Event.Take c.args.sub) (Outcome.Handed c.in-Ok-Some.count) v) (sym new) (take_makes k c.args.sub c.in-Ok-Some.count reached free due)

pub returns-in-Err-deliver : goal.returns-in-Err-deliver
returns-in-Err-deliver c k reached is =
    let h = c.in-Err-deliver.ensures in let free = ap (λ (v : View). take_objection v c.args.sub) (sym is) ∙ c.in_default.ensures in
    let due = ap (λ (v : View). is_some (next_held v c.args.sub)) (sym is) ∙ h.due in
    subst (λ (v : View). Makes k (Event.Take c.args.sub) Outcome.NoMemory v) (sym (h.err ∙ is)) (take_without k c.args.sub reached free due)
