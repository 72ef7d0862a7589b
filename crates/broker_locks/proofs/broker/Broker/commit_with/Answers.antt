use Rattle.std.proofs.Common.{List, sym, ap, ◌∙◌}
use Rattle.std.specs.declared.sync.ledger.Share.{Share}
use Rattle.sender_gate.specs.Gate.{GateState}
use Rattle.broker_locks.specs.Commits.{IsRefused, some_refusal}
use Rattle.broker_locks.specs.Rows.{PlaceRow}
use Rattle.broker_locks.specs.Tickets.{SharesState}
use Rattle.broker_locks.specs.declared.fault.CommitFault.{CommitFault}
use Rattle.broker_locks.proofs.Committed.{err_too, refused_somewhere}
use Rattle.broker_locks.proofs.broker.Broker.commit_with.Goals as goal

pub returns-clause-refused : goal.returns-clause-refused
returns-clause-refused g c =
    let had = c.new-locked.ensures.tickets
    ∙ (ap (λ (s : Share g.row.W.Denot). s.amount) (c.replace.ensures.value ∙ c.empty-none.ensures.same)
    ∙ ap (λ (s : SharesState). s.tickets) (c.shares.view_is ∙ c.worker.view_is)) in
    err_too c.commit_on-answer.result _ (λ (refused : GateState × CommitFault). (old new : List PlaceRow) × IsRefused some_refusal g.Q.Point.told c.args.flying.state old new c.args.worker.now.tickets c.into_parts-mine.result.0.amount c.args.point.now c.commit_on-answer.new.point refused.0 refused.1)
    (λ (refused : GateState × CommitFault) h. (_, _, refused_somewhere _ g.Q.Point.told c.args.flying.state _ _ _ _ _ _ c.args.point.now c.commit_on-answer.new.point refused.0 refused.1 had (sym c.into_parts-mine.ensures.tickets) h))
    c.commit_on-answer.ensures.refused
