use Rattle.std.proofs.Common.{◌≡◌, Some, sym, ap, ◌∙◌}
use Rattle.std.proofs.lemmas.Option.{same_Some}
use Rattle.mcast_txn.specs.Ballot.{Decision}
use Rattle.mcast_txn.specs.Flight.{Sight}
use Rattle.mcast_txn.specs.Stamp.{greatest}
use Rattle.broker_locks.proofs.law.answered_stamp.Goals as goal

pub returns : goal.returns
returns c flight stamp verdict knows has =
    let same : Some knows.verdict ≡ Some verdict = sym (ap (λ (s : Sight). s.known) knows.is) ∙ (sym (ap (λ (s : Sight). s.known) c.agree.ensures.same) ∙ has) in
    knows.has ∙ ap (λ (v : Decision). greatest v.rows) (same_Some knows.verdict verdict same)
