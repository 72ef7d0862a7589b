-- What `Senders` stores. Only proofs go by it; no public contract speaks of it.
use Rattle.std.specs.Prelude.{◌<◌, ℕ, List, map, Option, Vec}
use Rattle.std.specs.List.{AllByRecursion}
use Rattle.std.specs.Option.{option_map_or}
use Rattle.std.specs.declared.alloc.Global.{Global}
use Rattle.mcast_txn.specs.declared.id.Sender.{Sender}
use Rattle.mcast_txn.specs.Lists.{RisesBy}
use Rattle.sender_gate.specs.declared.kept_gate.KeptGate.{KeptGate}
use Rattle.sender_gate.specs.Senders.{KeptSender, SendersState, max_senders}

-- an entry of the map, as the kept sender that it is
abbrev pub kept_sender_of : Vec ℕ Global × KeptGate → KeptSender
kept_sender_of e = record { client = e.0.items; sender = e.1.sender; gate = e.1.gate }

-- how many senders have begun, where this is the next
abbrev pub begun_before : Option Sender → ℕ
begun_before next = option_map_or (λ sender. sender.0) next max_senders

-- the senders, as they are stored
abbrev pub senders_of : Option Sender → List (Vec ℕ Global × KeptGate) → SendersState
senders_of next entries = record { begun = begun_before next; kept = map kept_sender_of entries }

-- an entry's number
abbrev pub entry_number : Vec ℕ Global × KeptGate → ℕ
entry_number e = e.1.sender.0

-- the numbers of the entries rise, and each is of a sender that has begun
pub record AreNumbered (count : ℕ) (entries : List (Vec ℕ Global × KeptGate)) : Type 0 where
  pub rise : RisesBy entry_number entries
  pub begun : AllByRecursion (λ e. entry_number e < count) entries
