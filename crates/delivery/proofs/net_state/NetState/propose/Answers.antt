use Rattle.delivery.proofs.Words.All.{ℕ, Result, sym, ap, subst, ◌∙◌, Ok, Err, slice_get, ProposeFault, Event, Outcome, there_objection, speaker_at, sender_in, part_in, propose_refusal_in, taken_view, IsProposed, Makes, View}
use Rattle.delivery.proofs.Views.Events.ProposeStep.{propose_gone, propose_refused, proposes, part_is, proposed_part, propose_made, propose_failed}
use Rattle.delivery.proofs.net_state.NetState.propose.Goals as goal

pub returns-in-Err : goal.returns-in-Err
returns-in-Err c k reached is =
    let h = c.in-Err.ensures in let why = ap (λ (v : View). there_objection (slice_get v.endpoints c.args.connection)) (sym is) ∙ h.1 in
    subst (λ (v : View). Makes k (Event.Propose c.args.connection c.args.topic) (Outcome.Refused c.in-Err.refusal) v) (sym is)
    (propose_gone k c.args.connection c.args.topic h.0 c.in-Err.refusal why h.2)

pub returns-in-Ok-Ok : goal.returns-in-Ok-Ok
returns-in-Ok-Ok c k reached is =
    let t = c.args.topic in let s = c.in-Ok.sender in let h = c.in-Ok.ensures in let d = c.in-Ok-Ok.ensures in
    let free = ap (λ (v : View). there_objection (slice_get v.endpoints c.args.connection)) (sym is) ∙ h.0 in
    let own = h.1 ∙ ap (λ (v : View). speaker_at v c.args.connection) is in
    let p = proposes k c.args.connection s t reached free own (d.refused ∙ ap (propose_refusal_in t s) is) in let part = proposed_part p.can.flight t in
    let made = subst (λ (r : Result ℕ ProposeFault). IsProposed t s part r c.args.self.now c.propose_of.new.self) c.in-Ok-Ok.field-0-is
    (d.made part (ap (λ (v : View). part_in t (sender_in v s).sending) is ∙ part_is k c.args.connection s t p)) in
    propose_made k c.args.connection s t c.in-Ok-Ok.n c.propose_of.new.self p
    (subst (λ (v : View). IsProposed t s part (Ok c.in-Ok-Ok.n) v c.propose_of.new.self) is made)

pub returns-in-Ok-Err : goal.returns-in-Ok-Err
returns-in-Ok-Err c k reached is =
    let t = c.args.topic in let s = c.in-Ok.sender in let h = c.in-Ok.ensures in let d = c.in-Ok-Err.ensures in
    let free = ap (λ (v : View). there_objection (slice_get v.endpoints c.args.connection)) (sym is) ∙ h.0 in
    let own = h.1 ∙ ap (λ (v : View). speaker_at v c.args.connection) is in
    let p = proposes k c.args.connection s t reached free own (d.refused ∙ ap (propose_refusal_in t s) is) in let part = proposed_part p.can.flight t in
    let made = subst (λ (r : Result ℕ ProposeFault). IsProposed t s part r c.args.self.now c.propose_of.new.self) c.in-Ok-Err.field-0-is
    (d.made part (ap (λ (v : View). part_in t (sender_in v s).sending) is ∙ part_is k c.args.connection s t p)) in
    propose_failed k c.args.connection s t c.in-Ok-Err.fault c.propose_of.new.self p
    (subst (λ (v : View). IsProposed t s part (Err c.in-Ok-Err.fault) v c.propose_of.new.self) is made)

pub returns-in-Err-propose_of : goal.returns-in-Err-propose_of
returns-in-Err-propose_of c k reached is =
    let t = c.args.topic in let s = c.in-Ok.sender in let h = c.in-Ok.ensures in let d = c.in-Err-propose_of.ensures in
    let free = ap (λ (v : View). there_objection (slice_get v.endpoints c.args.connection)) (sym is) ∙ h.0 in
    let own = h.1 ∙ ap (λ (v : View). speaker_at v c.args.connection) is in let refused = d.refused ∙ ap (propose_refusal_in t s) is in
    subst (λ (v : View). Makes k (Event.Propose c.args.connection t) (Outcome.Refused c.in-Err-propose_of.refusal) v) (sym (d.err ∙ ap (taken_view t s) is))
    (propose_refused k c.args.connection s t c.in-Err-propose_of.refusal reached free own refused)
