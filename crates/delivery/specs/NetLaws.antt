-- What the laws of the machine say of a net: it is a run of the machine, so that each law of runs is one of
-- it.
use Rattle.std.specs.Prelude.{◌≡◌, ℕ, Bool, true, false, List, [], ◌∷◌, ◌++◌, filter, get_or}
use Rattle.mcast_txn.specs.declared.id.Topic.{Topic}
use Rattle.mcast_txn.specs.declared.id.TxnId.{TxnId}
use Rattle.mcast_txn.specs.Lists.{In}
use Rattle.mcast_group.specs.declared.fault.ProposeFault.{ProposeFault}
use Rattle.mcast_group.specs.Sound.{IsSound}
use Rattle.delivery.specs.Topics.{TopicList}
use Rattle.delivery.specs.Machine.World.{topic_at}
use Rattle.delivery.specs.Machine.Moves.{Move, Answer}
use Rattle.delivery.specs.Machine.Objections.{Objection}
use Rattle.delivery.specs.Theorem.Laws.{Run, answers_of, final_world, is_odd}
use Rattle.delivery.specs.Theorem.Tied.{IsTied, opening_clock}
use Rattle.delivery.specs.Core.Steps.{CoreStep}
use Rattle.delivery.specs.Core.State.{core_of, moves, log_limit}
use Rattle.delivery.specs.Core.Reports.{Report}
use Rattle.delivery.specs.Nets.{KeptRun, account_of_net, core_of_net, IsRunOfCore}

-- The moves of the machine that these steps are, the oldest first. So a Decide whose RECEIPT was left out is
-- `Decides` and `Lost`, and a refused Next none.
abbrev pub moves_of : TopicList → ℕ → List CoreStep → List Move
moves_of topics capacity [] = []
moves_of topics capacity (step ∷ older) =
    moves_of topics capacity older
    ++ moves (core_of topics capacity older) step.event step.reading step.outcome

-- the run of the machine that a net's steps are: its topics are there from the start
abbrev pub run_of_net : KeptRun → Run
run_of_net net = record {
  capacity = net.capacity;
  log_limit = log_limit;
  clocks = net.topics.clocks;
  events = moves_of net.topics net.capacity net.steps;
}

-- an account tells it: all but refusals, and that something was merely done
abbrev pub is_told : Answer → Bool
is_told (Answer.Refused why) = false
is_told Answer.Done = false
is_told o = true

-- The net is a run of the machine.
-- core: its core is the machine after its moves.
-- account: the account of its steps is what the machine answered to them.
-- opening: the run's topics open with the net's clocks, and those that were made with 0.
pub record IsRunOfMachine (net : KeptRun) : Type 0 where
  pub core : (core_of_net net).world ≡ final_world (run_of_net net)
  pub account : account_of_net net ≡ filter is_told (answers_of (run_of_net net))
  pub opening : (t : Topic) → opening_clock (run_of_net net) t ≡ get_or net.topics.clocks t.0 0

-- what a net reports is that of a run of the machine
abbrev pub NetsAreRuns : Type 0
NetsAreRuns = (net : KeptRun) (r : Report) → IsRunOfCore net r → IsRunOfMachine net

-- ---- so, of each net

-- each topic is tied to the tickets that it gave
abbrev pub NetsAreTied : Type 0
NetsAreTied = (net : KeptRun) (r : Report) → IsRunOfCore net r → (t : Topic) → IsTied (run_of_net net) t

-- each topic that the core holds is sound
abbrev pub NetsAreSound : Type 0
NetsAreSound =
    (net : KeptRun) (r : Report) → IsRunOfCore net r → (t : Topic)
    → IsSound (topic_at (core_of_net net).world t)

-- no move of it was refused because a verdict was another's or clashed, or a part had learnt its stamp
abbrev pub NothingOddComes : Type 0
NothingOddComes =
    (net : KeptRun) (r : Report) → IsRunOfCore net r → (why : Objection)
    → In (Answer.Refused why) (answers_of (run_of_net net)) → is_odd why ≡ false

-- no proposal of it failed because its transaction was pending at the topic
abbrev pub NoneFailsTwice : Type 0
NoneFailsTwice =
    (net : KeptRun) (r : Report) → IsRunOfCore net r → (id : TxnId)
    → In (Answer.Failed id ProposeFault.Twice) (account_of_net net) → Prim.⊥
