use Rattle.std.proofs.Common.{◌≡◌, ap, ◌∙◌}
use Rattle.mcast_txn.specs.Flight.{Sight}
use Rattle.mcast_group.proofs.Parts.{some_same}
use Rattle.broker_locks.proofs.law.stamp_at_place.Goals as goal

pub returns-in-Some-clause-stamp : goal.returns-in-Some-clause-stamp
returns-in-Some-clause-stamp g c = λ flight stamp note verdict knows at known.
    let same : c.in-Some.note ≡ note = some_same c.in-Some.note note (c.in-Some.ensures.note ∙ at) in
    c.answered_stamp.ensures flight stamp verdict knows (ap (λ (n : Sight). n.known) same ∙ known)
