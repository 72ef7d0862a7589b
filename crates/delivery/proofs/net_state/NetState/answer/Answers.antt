use Rattle.std.proofs.Common.{refl, sym, subst}
use Rattle.delivery.proofs.Words.All.{Event, MakesBoth}
use Rattle.delivery.proofs.Views.Clients.BothOfStep.{plain_both}
use Rattle.delivery.proofs.net_state.NetState.answer.Goals as goal

pub returns-in-Propose : goal.returns-in-Propose
returns-in-Propose c k reached is kept =
    subst (λ (e : Event). MakesBoth k e c.propose.result c.propose.new.self c.args.clients.now) (sym c.in-Propose.is)
    (plain_both k (Event.Propose c.in-Propose.connection c.in-Propose.topic) c.propose.result c.propose.new.self c.args.clients.now refl (c.propose.ensures k reached is) kept)

pub returns-in-Decide : goal.returns-in-Decide
returns-in-Decide c k reached is kept =
    subst (λ (e : Event). MakesBoth k e c.decide.result c.decide.new.self c.args.clients.now) (sym c.in-Decide.is)
    (plain_both k (Event.Decide c.in-Decide.connection) c.decide.result c.decide.new.self c.args.clients.now refl (c.decide.ensures k reached is) kept)

pub returns-in-Withdraw : goal.returns-in-Withdraw
returns-in-Withdraw c k reached is kept =
    subst (λ (e : Event). MakesBoth k e c.withdraw.result c.withdraw.new.self c.args.clients.now) (sym c.in-Withdraw.is)
    (plain_both k (Event.Withdraw c.in-Withdraw.connection) c.withdraw.result c.withdraw.new.self c.args.clients.now refl (c.withdraw.ensures k reached is) kept)

pub returns-in-Take : goal.returns-in-Take
returns-in-Take c k reached is kept =
    subst (λ (e : Event). MakesBoth k e c.take.result c.take.new.self c.args.clients.now) (sym c.in-Take.is)
    (plain_both k (Event.Take c.in-Take.sub) c.take.result c.take.new.self c.args.clients.now refl (c.take.ensures k reached is) kept)

pub returns-in-Lost : goal.returns-in-Lost
returns-in-Lost c k reached is kept =
    subst (λ (e : Event). MakesBoth k e c.lost.result c.lost.new.self c.args.clients.now) (sym c.in-Lost.is)
    (plain_both k (Event.Lost c.in-Lost.connection) c.lost.result c.lost.new.self c.args.clients.now refl (c.lost.ensures k reached is) kept)
