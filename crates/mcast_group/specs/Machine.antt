-- One topic of Skeen's protocol as a pure machine: its clock, pending parts, log and subscriptions.
-- proofs/Rows.antt has worked rows of each step and each refusal, computed from these definitions.
use Rattle.std.specs.Prelude.{◌≡◌, ℕ, zero, suc, ◌+◌, ◌-◌, ◌==◌, nat_lt, max, Bool, false, not, ◌&&◌, ◌||◌}
use Rattle.std.specs.Prelude.{List, [], ◌∷◌, ◌++◌, map, length, filter, Option, Some, None, if◌then◌else◌}
use Rattle.std.specs.List.{find, list_any}
use Rattle.std.specs.Option.{is_some, option_and_then, option_map, option_map_or}
use Rattle.mcast_txn.specs.declared.id.Topic.{Topic}
use Rattle.mcast_txn.specs.declared.id.TxnId.{TxnId}
use Rattle.mcast_txn.specs.declared.stamp.Stamp.{Stamp}
use Rattle.mcast_txn.specs.Ballot.{Decision}
use Rattle.mcast_txn.specs.Checks.{first_refusal}
use Rattle.mcast_txn.specs.Ids.{same_id, id_lt}
use Rattle.mcast_txn.specs.Lists.{In, insert_before, insert_by_number}
use Rattle.mcast_txn.specs.Span.{LogRow, Item}
use Rattle.mcast_txn.specs.Stamp.{zero_stamp, stamp_lt, same_stamp, greatest}
use Rattle.mcast_txn.specs.Transaction.{TopicPart}
use Rattle.mcast_group.specs.declared.cause.Cause.{Cause}
use Rattle.mcast_group.specs.declared.cause.Cause.TheVariants.{Asked, Lag}
use Rattle.mcast_group.specs.declared.fault.ProposeFault.{ProposeFault}
use Rattle.mcast_group.specs.declared.fault.LearnFault.{LearnFault}
use Rattle.mcast_group.specs.declared.fault.CancelFault.{CancelFault}
use Rattle.mcast_group.specs.declared.fault.SubFault.{SubFault}
use Rattle.mcast_group.specs.declared.fault.NoSub.{NoSub}
use Rattle.mcast_group.specs.declared.state.SubState.{SubState}

-- the stamp of a decision: the greatest of its rows
abbrev pub decided_stamp : Decision → Stamp
decided_stamp v = greatest v.rows

-- a decision has one row for a topic
abbrev pub HasOneRowEach : Decision → Type 0
HasOneRowEach v = (a b : Stamp) → In a v.rows → In b v.rows → a.topic ≡ b.topic → a ≡ b

-- a part that was proposed: the number of its ticket, and its stamp once that is learnt
pub record Pending : Type 0 where
  pub part : TopicPart
  pub number : ℕ
  pub learnt : Option Stamp

-- A subscription that wasn't asked to end: its number, the frontier when it began, where it lagged if it did,
-- and the items that its queue has accepted.
pub record Entry : Type 0 where
  pub number : ℕ
  pub from : Stamp
  pub to : Option Stamp
  pub accepted : List Item

-- what a subscription leaves as it ends
pub record EntryEnd : Type 0 where
  pub to : Stamp
  pub accepted : List Item
  pub cause : Cause

-- A topic.
-- clock: no number above it was given or learnt.
-- log_limit: at most this many parts and rows, taken together.
-- pending: the parts that are pending, by rising id.
-- base: the stamp of the last row that was drained, or zero.
-- held: the rows of the log after it.
-- frontier: the stamp of the last row that was ever released, or zero.
-- subscriptions: those that weren't asked to end, by rising number.
pub record TopicState : Type 0 where
  pub topic : Topic
  pub clock : ℕ
  pub log_limit : ℕ
  pub pending : List Pending
  pub base : Stamp
  pub held : List LogRow
  pub frontier : Stamp
  pub subscriptions : List Entry

-- a topic with this log limit and opening clock
abbrev pub new_topic : Topic → ℕ → ℕ → TopicState
new_topic topic log_limit clock = record {
  topic = topic;
  clock = clock;
  log_limit = log_limit;
  pending = [];
  base = zero_stamp;
  held = [];
  frontier = zero_stamp;
  subscriptions = [];
}

-- the greatest number that a stamp can have
abbrev pub last_number : ℕ
last_number = 18446744073709551615

-- ---- pending parts

-- the ticket of a pending part as a stamp: its number at the part's topic
abbrev pub ticket_stamp : Pending → Stamp
ticket_stamp p = record { n = p.number; topic = p.part.topic }

-- what a pending part is ordered by: its stamp, or its ticket while the stamp isn't known
abbrev pub key : Pending → Stamp
key p = elim p.learnt [ None ↦ ticket_stamp p | Some stamp ↦ stamp ]

-- p among parts that rise by id
abbrev pub insert_pending : Pending → List Pending → List Pending
insert_pending p = insert_before (λ q. id_lt p.part.id q.part.id) p

-- the pending part of this transaction, if it has one
abbrev pub find_pending : TxnId → List Pending → Option Pending
find_pending id ps = find (λ p. same_id p.part.id id) ps

-- this transaction has a pending part
abbrev pub is_pending : TxnId → List Pending → Bool
is_pending id ps = list_any (λ p. same_id p.part.id id) ps

-- the pending parts but this transaction's
abbrev pub parts_without : TxnId → List Pending → List Pending
parts_without id ps = filter (λ p. not (same_id p.part.id id)) ps

-- of p and the others the one of least key
abbrev pub least_part_from : Pending → List Pending → Pending
least_part_from p [] = p
least_part_from p (q ∷ qs) = if stamp_lt (key q) (key p) then least_part_from q qs else least_part_from p qs

-- the pending part of least key, if there is one
abbrev pub least_part : List Pending → Option Pending
least_part [] = None
least_part (p ∷ ps) = Some (least_part_from p ps)

-- ---- propose

-- the number that is next at this floor: one above the clock and the floor; at clock 1 and floor 10 it is 11
abbrev pub next_number : Stamp → TopicState → ℕ
next_number floor x = max x.clock floor.n + 1

-- the refusals of a proposal, in this order
abbrev pub propose_refusals : Stamp → TopicPart → TopicState → List (Bool × ProposeFault)
propose_refusals floor part x =
    (is_pending part.id x.pending, ProposeFault.Twice)
    ∷ (not (nat_lt (max x.clock floor.n) last_number), ProposeFault.ClockFull)
    ∷ (not (nat_lt (length x.pending + length x.held) x.log_limit), ProposeFault.LogFull) ∷ []

-- why the topic gives no ticket: the part is pending, no number is left, or the log is at its limit
abbrev pub propose_fault : Stamp → TopicPart → TopicState → Option ProposeFault
propose_fault floor part x = first_refusal (propose_refusals floor part x)

-- the part is pending with the next number, which becomes the clock
abbrev pub after_propose : Stamp → TopicPart → TopicState → TopicState
after_propose floor part x = record x {
  clock = next_number floor x;
  pending = insert_pending (record { part = part; number = next_number floor x; learnt = None }) x.pending;
}

-- ---- learn

-- the ticket that this topic gave is among the verdict's rows
abbrev pub has_row : Stamp → List Stamp → Bool
has_row ticket rows = list_any (same_stamp ticket) rows

-- the verdict is another transaction's, or has another number for this topic
abbrev pub is_foreign : Decision → Pending → Bool
is_foreign v p = not (same_id v.id p.part.id && has_row (ticket_stamp p) v.rows)

-- a stamp was learnt, and it is another than this
abbrev pub has_learnt_other : Stamp → Option Stamp → Bool
has_learnt_other stamp None = false
has_learnt_other stamp (Some s) = not (same_stamp s stamp)

-- another stamp was learnt before, or the stamp is another pending part's key
abbrev pub clashes : Decision → Pending → List Pending → Bool
clashes v p ps =
    has_learnt_other (decided_stamp v) p.learnt
    || list_any (λ q. not (same_id q.part.id p.part.id) && same_stamp (key q) (decided_stamp v)) ps

-- why a verdict is refused for the part that was found pending, if one was
abbrev pub learn_fault_of : Decision → List Pending → Option Pending → Option LearnFault
learn_fault_of v ps None = Some LearnFault.NotPending
learn_fault_of v ps (Some p) =
    first_refusal ((is_foreign v p, LearnFault.Foreign) ∷ (clashes v p ps, LearnFault.Clash) ∷ [])

-- why the topic doesn't learn this verdict for the part of this transaction
abbrev pub learn_fault : TxnId → Decision → TopicState → Option LearnFault
learn_fault id v x = learn_fault_of v x.pending (find_pending id x.pending)

-- this transaction's part has learnt the stamp; another is as it was
abbrev pub with_stamp : TxnId → Stamp → Pending → Pending
with_stamp id stamp p = if same_id p.part.id id then record p { learnt = Some stamp } else p

-- the part's key becomes the stamp, and the clock is at least the stamp's number
abbrev pub after_learn : TxnId → Stamp → TopicState → TopicState
after_learn id stamp x = record x {
  clock = max x.clock stamp.n;
  pending = map (with_stamp id stamp) x.pending;
}

-- ---- cancel

-- why the part that was found pending isn't taken out, if one was
abbrev pub cancel_fault_of : Option Pending → Option CancelFault
cancel_fault_of None = Some CancelFault.NotPending
cancel_fault_of (Some p) = if is_some p.learnt then Some CancelFault.Decided else None

-- why the topic doesn't take out the part of this transaction
abbrev pub cancel_fault : TxnId → TopicState → Option CancelFault
cancel_fault id x = cancel_fault_of (find_pending id x.pending)

-- the transaction's part is pending no longer
abbrev pub after_cancel : TxnId → TopicState → TopicState
after_cancel id x = record x { pending = parts_without id x.pending }

-- ---- release

-- a pending part as a row of the log, at its key
abbrev pub row_of : Pending → LogRow
row_of p = record { id = p.part.id; topics = p.part.topics; stamp = key p }

-- a pending part as an item of a queue, at its key
abbrev pub item_of : Pending → Item
item_of p = record { id = p.part.id; stamp = key p; sends = p.part.sends }

-- An entry after an item was due to it: its queue takes the item, or else its span ends with the frontier
-- before the item; a subscription that has lagged gets nothing.
-- `takes` says whether an entry's queue takes the item.
abbrev pub entry_after : (Entry → Bool) → Stamp → Item → Entry → Entry
entry_after takes frontier item e = elim e.to [
  | Some end ↦ e
  | None ↦
      if takes e then record e { accepted = e.accepted ++ item ∷ [] } else record e { to = Some frontier }
]

-- p leaves: it is added to the log, its stamp becomes the frontier,
-- and each open subscription whose queue takes it gets it as one item
abbrev pub after_release_of : (Entry → Bool) → Pending → TopicState → TopicState
after_release_of takes p x = record x {
  pending = parts_without p.part.id x.pending;
  held = x.held ++ row_of p ∷ [];
  frontier = key p;
  subscriptions = map (entry_after takes x.frontier (item_of p)) x.subscriptions;
}

-- The part that is due: that of least key, if it has learnt its stamp. So where one part has learnt (11, 2)
-- and another waits with ticket (1, 1), nothing is due; once the other has learnt (10, 0), it is due.
abbrev pub due_part : TopicState → Option Pending
due_part x = option_and_then (λ p. if is_some p.learnt then Some p else None) (least_part x.pending)

-- The release of what is due, if anything is. So once the other has learnt (10, 0), its row is added to the
-- log, and (10, 0) is the frontier; a second release adds (11, 2), and a third changes nothing.
abbrev pub after_release : (Entry → Bool) → TopicState → TopicState
after_release takes x = option_map_or (λ p. after_release_of takes p x) (due_part x) x

-- ---- turn

-- learn what was found for this transaction, where that isn't refused
abbrev pub after_try : TxnId → Option Decision → TopicState → TopicState
after_try id None x = x
after_try id (Some v) x =
    elim (learn_fault id v x) [ None ↦ after_learn id (decided_stamp v) x | Some fault ↦ x ]

-- learn for each of these parts what is found for it
abbrev pub after_tries : (TxnId → Option Decision) → List Pending → TopicState → TopicState
after_tries find [] x = x
after_tries find (p ∷ ps) x = after_tries find ps (after_try p.part.id (find p.part.id) x)

-- k releases
abbrev pub after_releases : (Entry → Bool) → ℕ → TopicState → TopicState
after_releases takes zero x = x
after_releases takes (suc k) x = after_releases takes k (after_release takes x)

-- Learn once for each pending part, by rising id, then release until nothing is due. So a turn that finds the
-- stamps (10, 0) and (11, 2) for two parts releases both, in this order.
-- (`both_released` in proofs/Rows.antt is this turn.)
abbrev pub after_turn : (Entry → Bool) → (TxnId → Option Decision) → TopicState → TopicState
after_turn takes find x =
    let y = after_tries find x.pending x in after_releases takes (length y.pending) y

-- how many parts a turn releases: the rows that it adds to the log
abbrev pub turn_count : (Entry → Bool) → (TxnId → Option Decision) → TopicState → ℕ
turn_count takes find x = length (after_turn takes find x).held - length x.held

-- ---- subscriptions

-- the first subscription of this number
abbrev pub find_entry : ℕ → List Entry → Option Entry
find_entry number es = find (λ e. e.number == number) es

-- why a subscription doesn't begin: its number is in use
abbrev pub subscribe_fault : ℕ → TopicState → Option SubFault
subscribe_fault number x =
    if is_some (find_entry number x.subscriptions) then Some SubFault.SubInUse else None

-- an entry among entries that rise by number
abbrev pub insert_entry : Entry → List Entry → List Entry
insert_entry = insert_by_number (λ e. e.number)

-- a subscription begins after the frontier
abbrev pub after_subscribe : ℕ → TopicState → TopicState
after_subscribe number x = record x {
  subscriptions =
      insert_entry (record { number = number; from = x.frontier; to = None; accepted = [] }) x.subscriptions;
}

-- what a subscription leaves: it ends with the frontier, or where it lagged
abbrev pub end_of : Stamp → Entry → EntryEnd
end_of frontier e = elim e.to [
  | None ↦ record { to = frontier; accepted = e.accepted; cause = Asked }
  | Some end ↦ record { to = end; accepted = e.accepted; cause = Lag }
]

-- why nothing ends: there is no subscription of this number
abbrev pub unsubscribe_fault : ℕ → TopicState → Option NoSub
unsubscribe_fault number x = if is_some (find_entry number x.subscriptions) then None else Some (record {})

-- the subscriptions of this number are dropped
abbrev pub after_unsubscribe : ℕ → TopicState → TopicState
after_unsubscribe number x =
    record x { subscriptions = filter (λ e. not (e.number == number)) x.subscriptions }

-- an entry is open, or has lagged at its end
abbrev pub state_of_entry : Entry → SubState
state_of_entry e = elim e.to [ None ↦ SubState.Open | Some end ↦ SubState.Lag end ]

-- whether the subscription of this number is open or has lagged, if there is one
abbrev pub subscription_state : ℕ → TopicState → Option SubState
subscription_state number x = option_map state_of_entry (find_entry number x.subscriptions)

-- ---- the log

-- the held rows are drained
abbrev pub after_drain : TopicState → TopicState
after_drain x = record x { base = x.frontier; held = [] }
