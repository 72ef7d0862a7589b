-- What keeps room for each subscription that is waited for.
use Rattle.std.proofs.Common.{◌≡◌, ℕ, ◌+◌, ◌≤◌, not, Bool, true, false, cond, inl, inr, List, [], ◌∷◌, length, Option, Some, None, Result, Ok, Err, refl, sym, ap, subst, ◌∙◌, arith}
use Rattle.std.specs.Option.{option_map}
use Rattle.std.proofs.lemmas.List.{length_push}
use Rattle.mcast_txn.specs.Ballot.{Decision}
use Rattle.mcast_txn.specs.Ids.{id_lt, same_id}
use Rattle.mcast_txn.specs.Lists.{In}
use Rattle.mcast_txn.specs.Span.{LogRow}
use Rattle.mcast_txn.specs.Transaction.{TopicPart}
use Rattle.mcast_txn.specs.declared.id.TxnId.{TxnId}
use Rattle.mcast_txn.specs.declared.stamp.Stamp.{Stamp}
use Rattle.mcast_txn.proofs.Inserting.{insert_length}
use Rattle.mcast_txn.proofs.Orders.{id_itself}
use Rattle.sub_queue.specs.Shown.{Gauge, room}
use Rattle.mcast_group.specs.Group.{GroupState, OutletsAnswer, AnswersEach, Turns, group_after_release, group_after_releases, group_after_tries, shows}
use Rattle.mcast_group.specs.Machine.{Entry, Pending, TopicState, after_learn, after_release_of, after_tries, after_try, decided_stamp, due_part, find_entry, insert_pending, item_of, learn_fault, next_number, parts_without, state_of_entry, subscription_state, with_stamp}
use Rattle.mcast_group.specs.declared.fault.LearnFault.{LearnFault}
use Rattle.mcast_group.specs.declared.state.SubState.{SubState}
use Rattle.mcast_group.specs.declared.turned.Turned.{Turned}
use Rattle.mcast_group.proofs.Parts.{after_release_if, due_is, map_length}
use Rattle.broker_locks.specs.Place.{DrainLeaves, HasTurned, PlaceState, place_after_turn, source_answers}
use Rattle.broker_locks.specs.Room.{HasRoom, KeepsRoom, RoomState, StaysRoomy, due_at, group_cancelled, group_entered, one_reserved}
use Rattle.broker_locks.proofs.Lookups.{entry_with, given}

-- who has room for so many has it for fewer, at a group of the same subscriptions and gauges
pub room_of : (due less : ℕ) (n : ℕ) (g new : GroupState) → new.topic.subscriptions ≡ g.topic.subscriptions → new.gauges ≡ g.gauges → less ≤ due → HasRoom due g n → HasRoom less new n
room_of due less n g new subs gauges le h = record {
  entry = h.entry;
  gauge = h.gauge;
  found = rw subs h.found;
  gauged = rw (subs, gauges) h.gauged;
  is_open = h.is_open;
  fits = omega (arith, le, h.fits);
}

-- room is kept by a group of the same subscriptions and gauges where no more is due
pub keeps_of : (state next : RoomState) (g new : GroupState) → new.topic.subscriptions ≡ g.topic.subscriptions → new.gauges ≡ g.gauges → ((n : ℕ) → In n next.waited → In n state.waited) → due_at next new ≤ due_at state g → KeepsRoom state g → KeepsRoom next new
keeps_of state next g new subs gauges fewer le keeps n i = room_of (due_at state g) (due_at next new) n g new subs gauges le (keeps n (fewer n i))

-- ---- a part that enters, and one that is taken out

pub entered_longer : (p : Pending) (ps : List Pending) → length (insert_pending p ps) ≡ length ps + 1
entered_longer p ps = omega (arith, insert_length (λ (q : Pending). id_lt p.part.id q.part.id) p ps)

without_fewer : (id : TxnId) (ps : List Pending) → length (parts_without id ps) ≤ length ps
without_fewer id [] = omega arith
without_fewer id (p ∷ ps) = go (same_id p.part.id id) (without_fewer id ps)
  where
    go : (b : Bool) → length (parts_without id ps) ≤ length ps → length (cond (not b) (p ∷ parts_without id ps) (parts_without id ps)) ≤ length (p ∷ ps)
    go true ih = omega (arith, ih)
    go false ih = omega (arith, ih)

without_one : (p : Pending) (ps : List Pending) → In p ps → length (parts_without p.part.id ps) + 1 ≤ length ps
without_one p [] i = absurd i
without_one p (q ∷ ps) (inl is) =
    let same : same_id q.part.id p.part.id ≡ true = ap (λ (z : Pending). same_id z.part.id p.part.id) is ∙ id_itself p.part.id in
    rw same (omega (arith, without_fewer p.part.id ps))
without_one p (q ∷ ps) (inr i) = go (same_id q.part.id p.part.id) (without_one p ps i)
  where
    go : (b : Bool) → length (parts_without p.part.id ps) + 1 ≤ length ps → length (cond (not b) (q ∷ parts_without p.part.id ps) (parts_without p.part.id ps)) + 1 ≤ length (q ∷ ps)
    go true ih = omega (arith, ih)
    go false ih = omega (arith, ih)

pub keeps_entered : (state : RoomState) (floor : Stamp) (part : TopicPart) (g : GroupState) → KeepsRoom (one_reserved state) g → KeepsRoom state (group_entered floor part g)
keeps_entered state floor part g keeps =
    keeps_of (one_reserved state) state g (group_entered floor part g) refl refl (λ n i. i) (omega (arith, entered_longer (record { part = part; number = next_number floor g.topic; learnt = None }) g.topic.pending)) keeps

pub keeps_cancelled : (state : RoomState) (id : TxnId) (g : GroupState) → KeepsRoom state g → KeepsRoom state (group_cancelled id g)
keeps_cancelled state id g keeps =
    keeps_of state state g (group_cancelled id g) refl refl (λ n i. i) (omega (arith, without_fewer id g.topic.pending)) keeps

-- ---- a release

-- one item more takes one place
one_less : (e : Entry) (gauge : Gauge) (item : _) → room (shows e gauge) ≤ room (shows (entry_with item e) gauge) + 1
one_less e gauge item = omega (arith, length_push e.accepted item)

released_room : (state : RoomState) (takes : Entry → Bool) (g : GroupState) (p : Pending) → due_part g.topic ≡ Some p → OutletsAnswer source_answers takes g → KeepsRoom state g → KeepsRoom state (record g { topic = after_release_of takes p g.topic })
released_room state takes g p due may keeps n i =
    let h = keeps n i in
    let fewer = without_one p g.topic.pending (due_is g.topic p due).least.stands in
    let some : 1 ≤ room (shows h.entry h.gauge) = omega (arith, h.fits, fewer) in
    let has = given takes g.topic.frontier (item_of p) n g.topic.subscriptions g.gauges h.entry h.gauge may (record { found = h.found; gauged = h.gauged }) h.is_open some in
    record {
      entry = entry_with (item_of p) h.entry;
      gauge = h.gauge;
      found = has.found;
      gauged = has.gauged;
      is_open = h.is_open;
      fits = omega (arith, h.fits, fewer, one_less h.entry h.gauge (item_of p));
    }

-- a release keeps room
pub keeps_release : (state : RoomState) (takes : Entry → Bool) (g : GroupState) → ((p : Pending) → due_part g.topic ≡ Some p → OutletsAnswer source_answers takes g) → KeepsRoom state g → KeepsRoom state (group_after_release takes g)
keeps_release state takes g may keeps = go (due_part g.topic) refl
  where
    go : (o : Option Pending) → due_part g.topic ≡ o → KeepsRoom state (record g { topic = after_release_if takes g.topic o })
    go None e = keeps
    go (Some p) e = released_room state takes g p e (may p e) keeps

keeps_releases : (state : RoomState) (answers : List (Entry → Bool)) (g : GroupState) → AnswersEach source_answers answers g → KeepsRoom state g → KeepsRoom state (group_after_releases answers g)
keeps_releases state [] g may keeps = keeps
keeps_releases state (takes ∷ more) g may keeps =
    keeps_releases state more (group_after_release takes g) may.1 (keeps_release state takes g may.0 keeps)

-- ---- a turn

-- the same subscriptions, and as many parts
record SameRoom (x y : TopicState) : Type 0 where
  subs : y.subscriptions ≡ x.subscriptions
  many : length y.pending ≡ length x.pending

same_try : (id : TxnId) (found : Option Decision) (x : TopicState) → SameRoom x (after_try id found x)
same_try id None x = record { subs = refl; many = refl }
same_try id (Some v) x = go (learn_fault id v x)
  where
    go : (o : Option LearnFault) → SameRoom x (elim o [ None ↦ after_learn id (decided_stamp v) x | Some fault ↦ x ])
    go (Some fault) = record { subs = refl; many = refl }
    go None = record { subs = refl; many = map_length (with_stamp id (decided_stamp v)) x.pending }

same_tries : (find : TxnId → Option Decision) (ps : List Pending) (x : TopicState) → SameRoom x (after_tries find ps x)
same_tries find [] x = record { subs = refl; many = refl }
same_tries find (p ∷ ps) x =
    let one = same_try p.part.id (find p.part.id) x in
    let all = same_tries find ps (after_try p.part.id (find p.part.id) x) in
    record { subs = all.subs ∙ one.subs; many = all.many ∙ one.many }

keeps_turns : (finds : TopicPart → Option Decision → Type 0) (state : RoomState) (g new : GroupState) → Turns source_answers finds g new → KeepsRoom state g → KeepsRoom state new
keeps_turns finds state g new turns keeps =
    let same = same_tries turns.find g.topic.pending g.topic in
    let tried = keeps_of state state g (group_after_tries turns.find g) same.subs refl (λ n i. i) (omega (arith, same.many)) keeps in
    subst (KeepsRoom state) (sym turns.releases.3) (keeps_releases state turns.releases.0 (group_after_tries turns.find g) turns.releases.2 tried)

keeps_left : {E : Type 0} (state : RoomState) (place new : PlaceState) (drained : Result (List LogRow) E) → DrainLeaves place drained new → KeepsRoom state place.cells.group → KeepsRoom state new.cells.group
keeps_left state place new (Ok rows) h keeps =
    subst (λ (p : PlaceState). KeepsRoom state p.cells.group) (sym h.1) (keeps_of state state place.cells.group _ refl refl (λ n i. i) (omega arith) keeps)
keeps_left state place new (Err e) h keeps = subst (λ (p : PlaceState). KeepsRoom state p.cells.group) (sym h) keeps

-- a head's turn keeps room
pub keeps_head : {E : Type 0} (state : RoomState) (old new : PlaceState) (told : Turned) (drained : Result (List LogRow) E) → KeepsRoom state old.cells.group → HasTurned old new told drained → KeepsRoom state new.cells.group
keeps_head state old new told drained keeps h =
    keeps_left state (place_after_turn h.turned old) new drained h.leaves (keeps_turns _ state old.cells.group h.turned.group h.turns.turns keeps)

open_state : (n : ℕ) (x : TopicState) (e : Entry) → find_entry n x.subscriptions ≡ Some e → e.to ≡ None → subscription_state n x ≡ Some SubState.Open
open_state n x e found o = ap (option_map state_of_entry) found ∙ rw o refl

-- What keeps room.
pub stays_roomy : (E : Type 0) → StaysRoomy E
stays_roomy E = record {
  enter = keeps_entered;
  cancel = keeps_cancelled;
  release = λ state g new keeps h. subst (KeepsRoom state) (sym h.2) (keeps_release state h.0 g h.1 keeps);
  turn = λ state old new told drained keeps h. keeps_head state old new told drained keeps h;
  none_lags = λ state old new told drained n keeps h i.
      let r = keeps_head state old new told drained keeps h n i in
      open_state n new.cells.group.topic r.entry r.found r.is_open;
}
