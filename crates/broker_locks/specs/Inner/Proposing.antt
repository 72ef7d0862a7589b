-- A flight some of whose parts were entered.
use Rattle.std.specs.Prelude.{◌≡◌, ◌≤◌, ◌++◌, ◌+◌, ℕ, List, [], ◌∷◌, map, length, slice_get, Option, Some, None}
use Rattle.std.specs.List.{AllByRecursion}
use Rattle.mcast_txn.specs.Lists.{RisesBy}
use Rattle.mcast_txn.specs.Slots.{Slots}
use Rattle.mcast_txn.specs.Transaction.{TopicPart}
use Rattle.mcast_txn.specs.declared.id.Topic.{Topic}
use Rattle.mcast_txn.specs.declared.stamp.Stamp.{Stamp}
use Rattle.mcast_group.specs.declared.fault.ProposeFault.{ProposeFault}
use Rattle.sender_gate.specs.Gate.{FlightState}
use Rattle.broker_locks.specs.Commits.{AreTold, EnteredPart, entered, parts_in, topics_in}
use Rattle.broker_locks.specs.Rows.{PlaceRow}

-- a part's topic as a number
abbrev pub topic_number : TopicPart → ℕ
topic_number p = p.topic.0

-- a slot for each part: the first hold these, and the others what g says
abbrev pub slots_after : {A : Type 0} → (TopicPart → Option A) → List TopicPart → List (Option A) → Slots A
slots_after g [] os = []
slots_after g (p ∷ ps) [] = (p.topic, g p) ∷ slots_after g ps []
slots_after g (p ∷ ps) (o ∷ os) = (p.topic, o) ∷ slots_after g ps os

-- the tickets, where the first topics gave these numbers
abbrev pub tickets_after : List TopicPart → List ℕ → Slots ℕ
tickets_after ps ns = slots_after (λ p. None) ps (map (λ n. Some n) ns)

-- the parts, where one for each number was taken out
abbrev pub parts_after : List TopicPart → List ℕ → Slots TopicPart
parts_after ps ns = slots_after (λ p. Some p) ps (map (λ n. None) ns)

-- the first parts with their numbers
abbrev pub proposals_of : List TopicPart → List ℕ → List EnteredPart
proposals_of [] ns = []
proposals_of (p ∷ ps) [] = []
proposals_of (p ∷ ps) (n ∷ ns) = record { part = p; number = n } ∷ proposals_of ps ns

-- A flight none of whose parts was entered.
pub record IsWhole (flight : FlightState) : Type 0 where
  pub parts : flight.parts ≡ parts_after (parts_in flight.parts) []
  pub tickets : flight.tickets ≡ tickets_after (parts_in flight.parts) []
  pub own : AllByRecursion (λ p. p.id ≡ flight.id) (parts_in flight.parts)
  pub rises : RisesBy topic_number (parts_in flight.parts)

-- The first of these parts were entered with these numbers.
pub record HasProposed (ps : List TopicPart) (first : FlightState) (ns : List ℕ) (now : FlightState)
    (old new : List PlaceRow) : Type 0 where
  pub few : length ns ≤ length ps
  pub id : now.id ≡ first.id
  pub floor : now.floor ≡ first.floor
  pub tickets : now.tickets ≡ tickets_after ps ns
  pub rows : new ≡ old ++ map (entered first.floor) (proposals_of ps ns)

-- After the first so many parts of a flight, which were entered, a place refused the next one.
pub record TriesPart {P Q : Type 0} (may_refuse : P → Stamp → TopicPart → ProposeFault → Type 0)
    (told : Q → Topic → ℕ → Q → Type 0) (flight : FlightState) (done : ℕ) (old new : Q) (fault : ProposeFault)
    : Type 0 where
  pub tells : AreTold told (topics_in flight) (done + 1) old new
  pub places : P
  pub part : TopicPart
  pub at : slice_get (parts_in flight.parts) done ≡ Some part
  pub refused : may_refuse places flight.floor part fault
