-- Only serves proofs: verdicts by sender and seq.
use Rattle.std.specs.Prelude.{◌-◌, ◌==◌, List, slice_get, Option, None, if◌then◌else◌}
use Rattle.std.specs.Option.{option_and_then}
use Rattle.mcast_txn.specs.declared.id.TxnId.{TxnId}
use Rattle.mcast_txn.specs.Ballot.{Decision}

-- the verdict of this transaction in a list that has for each sender those of its transactions, the first of
-- which has seq 1
abbrev pub verdict_at : TxnId → List (List (Option Decision)) → Option Decision
verdict_at id senders =
    if id.seq == 0 then None
    else option_and_then (λ found. found)
    (option_and_then (λ verdicts. slice_get verdicts (id.seq - 1)) (slice_get senders id.sender.0))
