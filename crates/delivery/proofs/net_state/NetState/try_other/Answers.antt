use Rattle.delivery.proofs.Words.All.{ℕ, List, sym, subst, Result, Ok, Err, OnErr, IfOk-weaker, Action, Asks}
use Rattle.stomp_session.specs.declared.action.Action.TheVariants as actions
use Rattle.delivery.proofs.Views.Events.WantsMemory.{subscribe_wants, end_wants, commit_wants}
use Rattle.delivery.proofs.net_state.NetState.try_other.Goals as goal

always : {A B P : Type 0} (r : Result A B) → P → OnErr r P
always (Ok x) p = tt
always (Err e) p = p

pub returns-in-Ok-clause-ok : goal.returns-in-Ok-clause-ok
returns-in-Ok-clause-ok c k f left asks =
    c.in-Ok.ensures.ok k f left (subst (λ (a : Action). Asks k c.args.connection f left a c.args.receipt c.args.self.now) c.in-Nothing.is asks)

pub returns-in-Ok-start_subscription-clause-ok : goal.returns-in-Ok-start_subscription-clause-ok
returns-in-Ok-start_subscription-clause-ok c k f left asks =
    c.in-Ok-start_subscription.ensures.ok k f left (subst (λ (a : Action). Asks k c.args.connection f left a c.args.receipt c.args.self.now) c.in-Subscribe.is asks)

pub returns-in-Err-start_subscription-clause-lacks : goal.returns-in-Err-start_subscription-clause-lacks
returns-in-Err-start_subscription-clause-lacks c k f left asks =
    subscribe_wants k c.args.connection f left c.in-Subscribe.id c.in-Subscribe.topic c.args.receipt c.args.self.now
    (subst (λ (a : Action). Asks k c.args.connection f left a c.args.receipt c.args.self.now) c.in-Subscribe.is asks)

pub returns-in-Ok-end_subscription-clause-ok : goal.returns-in-Ok-end_subscription-clause-ok
returns-in-Ok-end_subscription-clause-ok c k f left asks =
    c.in-Ok-end_subscription.ensures.ok k f left
    (subst (λ (id : List ℕ). Asks k c.args.connection f left (actions.Unsubscribe id) c.args.receipt c.args.self.now) (sym c.as_slice.ensures)
    (subst (λ (a : Action). Asks k c.args.connection f left a c.args.receipt c.args.self.now) c.in-Unsubscribe.is asks))

pub returns-in-Err-end_subscription-clause-lacks : goal.returns-in-Err-end_subscription-clause-lacks
returns-in-Err-end_subscription-clause-lacks c k f left asks =
    end_wants k c.args.connection f left c.in-Unsubscribe.id c.args.receipt c.args.self.now
    (subst (λ (a : Action). Asks k c.args.connection f left a c.args.receipt c.args.self.now) c.in-Unsubscribe.is asks)
    c.in-Err-end_subscription.ensures.asked

pub returns-in-Commit-clause-ok : goal.returns-in-Commit-clause-ok
returns-in-Commit-clause-ok c =
    IfOk-weaker c.start_txn.result _ _
    (λ outcome h k f left asks. h k f left (subst (λ (a : Action). Asks k c.args.connection f left a c.args.receipt c.args.self.now) c.in-Commit.is asks))
    c.start_txn.ensures.ok

pub returns-in-Commit-clause-lacks : goal.returns-in-Commit-clause-lacks
returns-in-Commit-clause-lacks c =
    always c.start_txn.result
    (λ k f left asks. commit_wants k c.args.connection f left c.in-Commit.txn c.args.receipt c.args.self.now
    (subst (λ (a : Action). Asks k c.args.connection f left a c.args.receipt c.args.self.now) c.in-Commit.is asks))

pub returns-in-Disconnect-clause-ok : goal.returns-in-Disconnect-clause-ok
returns-in-Disconnect-clause-ok c k f left asks =
    c.disconnect.ensures k f left (subst (λ (a : Action). Asks k c.args.connection f left a c.args.receipt c.args.self.now) c.in-Disconnect.is asks)
