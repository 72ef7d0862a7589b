use Rattle.std.proofs.Common.{◌≡◌, ℕ, List, Option, true, refl, ap, subst, ◌∙◌}
use Rattle.delivery.proofs.Words.All.{Action, claim_fault, Asks, claims_none}
use Rattle.stomp_session.specs.declared.action.Action.TheVariants as actions
use Rattle.delivery.proofs.Views.Clients.BothOfStep.{accepted_both, unclaimed_by}
use Rattle.delivery.proofs.Views.Events.NextFaults.{may_lack}
use Rattle.delivery.proofs.net_state.NetState.try_act.Goals as goal

other_action : (action : Action) → ((client : Option (List ℕ)) → action ≡ actions.Connected client → Prim.⊥) → claims_none action ≡ true
other_action (actions.Connected client) n = absurd (n client refl)
other_action action n = refl

pub returns-in-Ok-clause-ok : goal.returns-in-Ok-clause-ok
returns-in-Ok-clause-ok c k f left asks kept =
    c.in-Ok.ensures.ok k f left c.args.receipt (subst (λ (a : Action). Asks k c.args.connection f left a c.args.receipt c.args.self.now) c.in-Connected.is asks) kept

pub returns-in-Err-clause-fault : goal.returns-in-Err-clause-fault
returns-in-Err-clause-fault c k f left asks kept =
    c.in-Err.ensures.fault k f left c.args.receipt (subst (λ (a : Action). Asks k c.args.connection f left a c.args.receipt c.args.self.now) c.in-Connected.is asks) kept

pub returns-in-Ok-try_other-clause-ok : goal.returns-in-Ok-try_other-clause-ok
returns-in-Ok-try_other-clause-ok c k f left asks kept =
    accepted_both k c.args.connection f left c.args.action c.args.receipt c.args.self.now c.try_other.new.self c.in-Ok-try_other.outcome c.args.clients.now asks
    (other_action c.args.action c.in_default.not-Connected)
    (c.in-Ok-try_other.ensures.ok k f left asks) kept

pub returns-in-Err-try_other-clause-fault : goal.returns-in-Err-try_other-clause-fault
returns-in-Err-try_other-clause-fault c k f left asks kept =
    may_lack k c.args.connection f asks.cased asks.free
    (ap (claim_fault k) asks.does ∙ unclaimed_by k c.args.action (other_action c.args.action c.in_default.not-Connected))
    (c.in-Err-try_other.ensures.lacks k f left asks)
