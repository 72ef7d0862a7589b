-- What a topic's group shows, and what its calls answer.
use Rattle.std.specs.Prelude.{◌≡◌, ◌⊎◌, ℕ, ◌==◌, ◌≤◌, nat_lt, Bool, List, [], ◌∷◌, length, Option, Some, None, Result, Ok, Err, IfSome, if◌then◌else◌}
use Rattle.std.specs.List.{position}
use Rattle.mcast_txn.specs.declared.id.Topic.{Topic}
use Rattle.mcast_txn.specs.declared.id.TxnId.{TxnId}
use Rattle.mcast_txn.specs.declared.stamp.Stamp.{Stamp}
use Rattle.mcast_txn.specs.Ballot.{Decision}
use Rattle.mcast_txn.specs.Ids.{same_id}
use Rattle.mcast_txn.specs.Lists.{In}
use Rattle.mcast_txn.specs.Span.{LogRow, Item}
use Rattle.mcast_txn.specs.Transaction.{TopicPart}
use Rattle.sub_queue.specs.Shown.{Shown, Gauge, known_taken}
use Rattle.mcast_group.specs.declared.cause.Cause.{Cause}
use Rattle.mcast_group.specs.declared.fault.ProposeFault.{ProposeFault}
use Rattle.mcast_group.specs.declared.fault.SubFault.{SubFault}
use Rattle.mcast_group.specs.Fitting.{Fits}
use Rattle.mcast_group.specs.Machine.{TopicState, Pending, Entry, propose_fault, insert_pending, decided_stamp}
use Rattle.mcast_group.specs.Machine.{HasOneRowEach}
use Rattle.mcast_group.specs.Machine.{learn_fault, after_try, after_tries, due_part, after_release, entry_after}
use Rattle.mcast_group.specs.Machine.{find_entry, end_of, after_subscribe, after_unsubscribe}

-- a topic, and for each of its subscriptions, in their order, the gauge that its outlet shows
pub record GroupState : Type 0 where
  pub topic : TopicState
  pub gauges : List Gauge

-- a topic, field by field
abbrev pub topic_state : Topic → ℕ → ℕ → List Pending → Stamp → List LogRow → Stamp → List Entry → TopicState
topic_state topic clock log_limit pending base rows frontier subscriptions = record {
  topic = topic;
  clock = clock;
  log_limit = log_limit;
  pending = pending;
  base = base;
  held = rows;
  frontier = frontier;
  subscriptions = subscriptions;
}

-- what a subscription's outlet shows
abbrev pub shows : Entry → Gauge → Shown
shows e gauge = record { accepted = e.accepted; gauge = gauge }

-- ---- release

-- each open subscription's outlet may answer a push as `takes` says
abbrev pub MayAnswer : (Shown → Bool → Type 0) → (Entry → Bool) → List Entry → List Gauge → Type 0
MayAnswer may takes [] gauges = Unit {0}
MayAnswer may takes (e ∷ es) [] = Prim.⊥
MayAnswer may takes (e ∷ es) (own ∷ gauges) =
    (e.to ≡ None → may (shows e own) (takes e)) × MayAnswer may takes es gauges

-- the same of a whole group
abbrev pub OutletsAnswer : (Shown → Bool → Type 0) → (Entry → Bool) → GroupState → Type 0
OutletsAnswer may takes g = MayAnswer may takes g.topic.subscriptions g.gauges

-- each entry after an item was due to it, where its outlet answered as the list says
abbrev pub entries_after : Stamp → Item → List Bool → List Entry → List Entry
entries_after frontier item [] es = es
entries_after frontier item (b ∷ bs) [] = []
entries_after frontier item (b ∷ bs) (e ∷ es) =
    entry_after (λ _. b) frontier item e ∷ entries_after frontier item bs es

-- the release of a group
abbrev pub group_after_release : (Entry → Bool) → GroupState → GroupState
group_after_release takes g = record g { topic = after_release takes g.topic }

-- A release: the machine's, with some answers that the outlets may give.
abbrev pub Releases : (Shown → Bool → Type 0) → GroupState → GroupState → Type 0
Releases may g new =
    (takes : Entry → Bool) × ((p : Pending) → due_part g.topic ≡ Some p → OutletsAnswer may takes g)
    × (new ≡ group_after_release takes g)

-- one release for each of these answers
abbrev pub group_after_releases : List (Entry → Bool) → GroupState → GroupState
group_after_releases [] g = g
group_after_releases (takes ∷ more) g = group_after_releases more (group_after_release takes g)

-- each of these answers may be given at its release
abbrev pub AnswersEach : (Shown → Bool → Type 0) → List (Entry → Bool) → GroupState → Type 0
AnswersEach may [] g = Unit {0}
AnswersEach may (takes ∷ more) g =
    ((p : Pending) → due_part g.topic ≡ Some p → OutletsAnswer may takes g)
    × AnswersEach may more (group_after_release takes g)

-- As many releases as parts are pending, each with some answers that the outlets may give.
abbrev pub ReleasesAll : (Shown → Bool → Type 0) → GroupState → GroupState → Type 0
ReleasesAll may g new =
    (answers : List (Entry → Bool)) × (length answers ≡ length g.topic.pending) × AnswersEach may answers g
    × (new ≡ group_after_releases answers g)

-- ---- turn

-- a group after each pending part tried to learn what was found for it
abbrev pub group_after_tries : (TxnId → Option Decision) → GroupState → GroupState
group_after_tries find g = record g { topic = after_tries find g.topic.pending g.topic }

-- what `find` gives for each of these parts may be found for it
abbrev pub AreFound : (TopicPart → Option Decision → Type 0) → (TxnId → Option Decision) → List Pending
    → Type 0
AreFound finds find ps = (p : Pending) → In p ps → finds p.part (find p.part.id)

-- no verdict may be found for any part
abbrev pub FindsNothing : (TopicPart → Option Decision → Type 0) → Type 0
FindsNothing finds = (part : TopicPart) (found : Option Decision) → finds part found → found ≡ None

-- something may be found, and where it is a verdict, that has one row for a topic
abbrev pub MayBeFound : (TopicPart → Option Decision → Type 0) → TopicPart → Option Decision → Type 0
MayBeFound finds part found = finds part found × IfSome found HasOneRowEach

-- a part tries to learn something that may be found for it
abbrev pub Tries : (TopicPart → Option Decision → Type 0) → Pending → GroupState → GroupState → Type 0
Tries finds p g new =
    (found : Option Decision) × finds p.part found
    × (new ≡ record g { topic = after_try p.part.id found g.topic })

-- each pending part tries to learn something that may be found for it
abbrev pub TriesAll : (TopicPart → Option Decision → Type 0) → GroupState → GroupState → Type 0
TriesAll finds g new =
    (find : TxnId → Option Decision) × AreFound finds find g.topic.pending × (new ≡ group_after_tries find g)

-- A turn.
-- find, found: what it finds for each pending part, which may be found for it.
-- releases: each part tries to learn that, and then what is due is released, with some answers of the
-- outlets.
-- none_pending: where the verdicts that were found fit the topic as it was, no part is pending after it.
pub record Turns (may : Shown → Bool → Type 0) (finds : TopicPart → Option Decision → Type 0)
    (g new : GroupState) : Type 0 where
  pub find : TxnId → Option Decision
  pub found : AreFound finds find g.topic.pending
  pub releases : ReleasesAll may (group_after_tries find g) new
  pub none_pending : Fits find g.topic → new.topic.pending ≡ []

-- The part at this index may learn this stamp.
-- is: the stamp is that of a verdict.
-- allowed: the verdict isn't refused.
-- at: the transaction's part has this index.
pub record CanLearn (id : TxnId) (index : ℕ) (stamp : Stamp) (x : TopicState) : Type 0 where
  pub verdict : Decision
  pub is : stamp ≡ decided_stamp verdict
  pub allowed : learn_fault id verdict x ≡ None
  pub at : position (λ (p : Pending). same_id p.part.id id) x.pending ≡ Some index

-- ---- subscriptions

-- the gauge of the subscription of this number
abbrev pub gauge_at : ℕ → List Entry → List Gauge → Option Gauge
gauge_at number [] gauges = None
gauge_at number (e ∷ es) [] = None
gauge_at number (e ∷ es) (own ∷ gauges) = if number == e.number then Some own else gauge_at number es gauges

-- what an outlet shows that has this entry and this gauge, if there are both
abbrev pub shown_with : Option Entry → Option Gauge → Option Shown
shown_with None gauge = None
shown_with (Some e) None = None
shown_with (Some e) (Some gauge) = Some (shows e gauge)

-- what the outlet of the subscription of this number shows, if there is one
abbrev pub shown_at : ℕ → GroupState → Option Shown
shown_at number g =
    shown_with (find_entry number g.topic.subscriptions) (gauge_at number g.topic.subscriptions g.gauges)

-- the gauges with that of a new subscription of this number, where its entry is
abbrev pub gauges_with : ℕ → Gauge → List Entry → List Gauge → List Gauge
gauges_with number gauge [] gauges = gauge ∷ []
gauges_with number gauge (e ∷ es) [] = gauge ∷ []
gauges_with number gauge (e ∷ es) (own ∷ gauges) =
    if nat_lt number e.number then gauge ∷ own ∷ gauges else own ∷ gauges_with number gauge es gauges

-- a new subscription, whose outlet shows this gauge
abbrev pub group_after_subscribe : ℕ → Gauge → GroupState → GroupState
group_after_subscribe number gauge g = record {
  topic = after_subscribe number g.topic;
  gauges = gauges_with number gauge g.topic.subscriptions g.gauges;
}

-- why a subscription is refused: its number is in use, or else out of memory
abbrev pub sub_refusal : Option SubFault → SubFault
sub_refusal None = SubFault.NoMemory
sub_refusal (Some fault) = fault

-- the gauges but that of this number
abbrev pub gauges_without : ℕ → List Entry → List Gauge → List Gauge
gauges_without number [] gauges = gauges
gauges_without number (e ∷ es) [] = []
gauges_without number (e ∷ es) (own ∷ gauges) =
    if e.number == number then gauges else own ∷ gauges_without number es gauges

-- the subscription of this number is dropped
abbrev pub group_after_unsubscribe : ℕ → GroupState → GroupState
group_after_unsubscribe number g = record {
  topic = after_unsubscribe number g.topic;
  gauges = gauges_without number g.topic.subscriptions g.gauges;
}

-- What the subscription of this number leaves.
-- found, gauged: it has this entry and this gauge.
-- shows_it: its outlet shows what it showed.
-- end, why: its end and its cause are the machine's.
pub record HasLeft (number : ℕ) (g : GroupState) (shown : Shown) (to : Stamp) (cause : Cause) : Type 0 where
  pub entry : Entry
  pub gauge : Gauge
  pub found : find_entry number g.topic.subscriptions ≡ Some entry
  pub gauged : gauge_at number g.topic.subscriptions g.gauges ≡ Some gauge
  pub shows_it : shown ≡ shows entry gauge
  pub end : to ≡ (end_of g.topic.frontier entry).to
  pub why : cause ≡ (end_of g.topic.frontier entry).cause

-- ---- room

-- the gauges, where the outlet of the subscription of this number knows now that so many items were taken
abbrev pub gauges_told : ℕ → ℕ → List Entry → List Gauge → List Gauge
gauges_told number taken [] gauges = gauges
gauges_told number taken (e ∷ es) [] = []
gauges_told number taken (e ∷ es) (own ∷ gauges) =
    if number == e.number then record own { taken = Some taken } ∷ gauges
    else own ∷ gauges_told number taken es gauges

-- the same of a whole group
abbrev pub group_told : ℕ → ℕ → GroupState → GroupState
group_told number taken g = record g { gauges = gauges_told number taken g.topic.subscriptions g.gauges }

-- The outlet of the subscription of this number, if there is one, knows now that so many of its items were taken,
-- and no fewer than it knew.
abbrev pub IsTold : ℕ → GroupState → GroupState → Type 0
IsTold number g new =
    (taken : ℕ) × IfSome (shown_at number g) (λ shown. known_taken shown.gauge.taken ≤ taken)
    × (new ≡ group_told number taken g)

-- ---- propose

-- a part is pending with this number, which is now the clock's
abbrev pub after_enter : ℕ → TopicPart → TopicState → TopicState
after_enter n part x = record x {
  clock = n;
  pending = insert_pending (record { part = part; number = n; learnt = None }) x.pending;
}

-- a call is refused where there is a fault
abbrev pub result_of : {F : Type 0} → Option F → Result Unit F
result_of None = Ok tt
result_of (Some fault) = Err fault

-- this fault, or out of memory where there is none
abbrev pub or_no_memory : Option ProposeFault → ProposeFault
or_no_memory None = ProposeFault.NoMemory
or_no_memory (Some fault) = fault

-- why a proposal is refused: by the first of its refusals that applies, or else for out of memory
abbrev pub propose_refusal : Stamp → TopicPart → TopicState → ProposeFault
propose_refusal floor part x = or_no_memory (propose_fault floor part x)

-- A proposal is refused by this fault, where this is why the topic itself refuses it, if it does: by that, or
-- else out of memory, and then its counter was not asked; or else by its counter.
abbrev pub IsRefusedBy : {C : Type 0} → (C → C → ProposeFault → Type 0) → Option ProposeFault → C → C
    → ProposeFault → Type 0
IsRefusedBy refused why old new fault =
    ((fault ≡ or_no_memory why) × (new ≡ old)) ⊎ ((why ≡ None) × refused old new fault)
