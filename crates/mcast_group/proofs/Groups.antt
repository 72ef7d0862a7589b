-- What a topic's calls answer, and what its group keeps.
use Rattle.std.proofs.Common.{◌≡◌, ℕ, ◌+◌, ◌<◌, ◌≤◌, nat_lt, max, Bool, true, false, List, [], ◌∷◌, ◌++◌, map, length, Some, None, refl, ap, arith}
use Rattle.std.specs.Option.{is_some}
use Rattle.std.proofs.lemmas.Bool.Decides.{nat_tests}
use Rattle.mcast_txn.specs.declared.id.Topic.{Topic}
use Rattle.mcast_txn.specs.declared.id.TxnId.{TxnId}
use Rattle.mcast_txn.specs.declared.stamp.Stamp.{Stamp}
use Rattle.mcast_txn.specs.Ballot.{Decision}
use Rattle.mcast_txn.specs.Transaction.{TopicPart}
use Rattle.mcast_group.specs.declared.fault.ProposeFault.TheVariants.{Twice, ClockFull, LogFull}
use Rattle.mcast_group.specs.declared.fault.LearnFault.TheVariants.{Foreign, Clash}
use Rattle.mcast_group.specs.declared.fault.CancelFault.TheVariants.{Decided}
use Rattle.mcast_group.specs.Group.{topic_state}
use Rattle.mcast_txn.specs.Span.{LogRow}
use Rattle.mcast_group.specs.Machine.{TopicState, Pending, Entry, key, find_pending, is_pending, parts_without, is_foreign, clashes, last_number, propose_fault, learn_fault_of, after_learn, with_stamp, cancel_fault, after_cancel, least_part, due_part, row_of, item_of, entry_after, after_release_of, after_release}
use Rattle.mcast_group.proofs.Parts.{after_release_if}

-- ---- what stands against a proposal

-- a proposal is refused as Twice where its transaction is pending
pub fault_twice : (floor : Stamp) (part : TopicPart) (x : TopicState) → is_pending part.id x.pending ≡ true → propose_fault floor part x ≡ Some Twice
fault_twice floor part x e = rw e refl

-- else it is refused as ClockFull where no number is left
pub fault_clock : (floor : Stamp) (part : TopicPart) (x : TopicState) → is_pending part.id x.pending ≡ false → max x.clock floor.n ≡ last_number → propose_fault floor part x ≡ Some ClockFull
fault_clock floor part x e f = rw (e, f) refl

lt_of : (a b : ℕ) → a < b → nat_lt a b ≡ true
lt_of a b l = grind (arith, nat_tests)

ge_of : (a b : ℕ) → b ≤ a → nat_lt a b ≡ false
ge_of a b l = grind (arith, nat_tests)

-- else it is refused as LogFull where the log is at its limit
pub fault_log : (floor : Stamp) (part : TopicPart) (x : TopicState) → is_pending part.id x.pending ≡ false → max x.clock floor.n < last_number → x.log_limit ≤ length x.pending + length x.held → propose_fault floor part x ≡ Some LogFull
fault_log floor part x e l m = rw (e, lt_of _ _ l, ge_of _ _ m) refl

-- else a proposal isn't refused
pub fault_none : (floor : Stamp) (part : TopicPart) (x : TopicState) → is_pending part.id x.pending ≡ false → max x.clock floor.n < last_number → length x.pending + length x.held < x.log_limit → propose_fault floor part x ≡ None
fault_none floor part x e l m = rw (e, lt_of _ _ l, lt_of _ _ m) refl

-- ---- what stands against a verdict

-- a verdict is refused as Foreign where it isn't the pending part's
pub fault_foreign : (v : Decision) (ps : List Pending) (p : Pending) → is_foreign v p ≡ true → learn_fault_of v ps (Some p) ≡ Some Foreign
fault_foreign v ps p f = rw f refl

-- else it is refused as Clash where it clashes
pub fault_clash : (v : Decision) (ps : List Pending) (p : Pending) → is_foreign v p ≡ false → clashes v p ps ≡ true → learn_fault_of v ps (Some p) ≡ Some Clash
fault_clash v ps p f k = rw (f, k) refl

-- else a verdict for a pending part isn't refused
pub no_fault : (v : Decision) (ps : List Pending) (p : Pending) → is_foreign v p ≡ false → clashes v p ps ≡ false → learn_fault_of v ps (Some p) ≡ None
no_fault v ps p f k = rw (f, k) refl

-- ---- what stands against taking a part out

-- cancelling a part that has learnt its stamp is refused as Decided
pub cancel_decided : (id : TxnId) (x : TopicState) (p : Pending) → find_pending id x.pending ≡ Some p → is_some p.learnt ≡ true → cancel_fault id x ≡ Some Decided
cancel_decided id x p e l = rw (e, l) refl

-- cancelling a pending part that has learnt no stamp isn't refused
pub cancel_none : (id : TxnId) (x : TopicState) (p : Pending) → find_pending id x.pending ≡ Some p → is_some p.learnt ≡ false → cancel_fault id x ≡ None
cancel_none id x p e l = rw (e, l) refl

-- ---- what is stored after a call

module _ (t : Topic) (clock limit : ℕ) (ps : List Pending) (base : Stamp) (rows : List LogRow) (f : Stamp) (es : List Entry) where
  -- what is stored after a learn is the machine's topic after it
  pub learned_state : (id : TxnId) (stamp : Stamp) (n : ℕ) (after : List Pending) → n ≡ max clock stamp.n → after ≡ map (with_stamp id stamp) ps → topic_state t n limit after base rows f es ≡ after_learn id stamp (topic_state t clock limit ps base rows f es)
  learned_state id stamp n after e k = rw (e, k) refl

  -- what is stored after a cancelling is the machine's topic after it
  pub cancelled_state : (id : TxnId) (after : List Pending) → after ≡ parts_without id ps → topic_state t clock limit after base rows f es ≡ after_cancel id (topic_state t clock limit ps base rows f es)
  cancelled_state id after e = rw e refl

  -- what is stored after a release is the machine's topic after it
  pub released_state : (takes : Entry → Bool) (p : Pending) (after : List Pending) (log : List LogRow) (frontier : Stamp) (more : List Entry) → after ≡ parts_without p.part.id ps → log ≡ rows ++ row_of p ∷ [] → frontier ≡ key p → more ≡ map (entry_after takes f (item_of p)) es → topic_state t clock limit after base log frontier more ≡ after_release_of takes p (topic_state t clock limit ps base rows f es)
  released_state takes p after log frontier more e k l m = rw (e, k, l, m) refl

-- ---- releases

-- the part of least key is due where it has learnt its stamp
pub due_here : (x : TopicState) (p : Pending) → least_part x.pending ≡ Some p → is_some p.learnt ≡ true → due_part x ≡ Some p
due_here x p e l = rw (e, l) refl

-- a release is that of the part which is due
pub release_is : (takes : Entry → Bool) (x : TopicState) (p : Pending) → due_part x ≡ Some p → after_release takes x ≡ after_release_of takes p x
release_is takes x p e = ap (after_release_if takes x) e

-- a release changes nothing where nothing is due
pub release_none : (takes : Entry → Bool) (x : TopicState) → due_part x ≡ None → after_release takes x ≡ x
release_none takes x e = ap (after_release_if takes x) e
