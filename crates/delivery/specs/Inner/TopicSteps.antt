-- Only serves proofs: what a topic learns and releases, as functions of what the core holds.
use Rattle.std.specs.Prelude.{ℕ, Option, Result, get_or, set}
use Rattle.std.specs.Option.{option_map}
use Rattle.mcast_txn.specs.declared.id.TxnId.{TxnId}
use Rattle.mcast_txn.specs.Ballot.{Decision}
use Rattle.mcast_group.specs.declared.fault.LearnFault.{LearnFault}
use Rattle.mcast_group.specs.Counted.{takes_of}
use Rattle.mcast_group.specs.Group.{GroupState, result_of}
use Rattle.mcast_group.specs.Machine.{learn_fault, after_try, after_turn, turn_count}
use Rattle.delivery.specs.Inner.Verdicts.{verdict_at}
use Rattle.delivery.specs.Inner.View.{View}

-- the verdict of this transaction
abbrev pub verdict_held : View → TxnId → Option Decision
verdict_held v id = verdict_at id v.verdicts

-- what a group answers to the verdict that was found for this transaction, if one was
abbrev pub learn_result : TxnId → Option Decision → GroupState → Option (Result Unit LearnFault)
learn_result id found g = option_map (λ v. result_of (learn_fault id v g.topic)) found

-- a group after it tried to learn what was found
abbrev pub group_after_try : TxnId → Option Decision → GroupState → GroupState
group_after_try id found g = record g { topic = after_try id found g.topic }

-- a group after a turn that finds this
abbrev pub group_after_turn : (TxnId → Option Decision) → GroupState → GroupState
group_after_turn finds g = record g { topic = after_turn (takes_of g) finds g.topic }

-- how many parts that turn releases
abbrev pub group_turn_count : (TxnId → Option Decision) → GroupState → ℕ
group_turn_count finds g = turn_count (takes_of g) finds g.topic

-- what is held after the topic at this index tried to learn the verdict of this transaction
abbrev pub after_learn_at : View → ℕ → TxnId → GroupState → View
after_learn_at v index id d = record v {
  groups = set v.groups index (group_after_try id (verdict_held v id) (get_or v.groups index d));
}

-- what is held after a turn of the topic at this index
abbrev pub after_turn_at : View → ℕ → GroupState → View
after_turn_at v index d = record v {
  groups = set v.groups index (group_after_turn (verdict_held v) (get_or v.groups index d));
}
