-- Worked examples of what is said of room, computed.
use Rattle.std.proofs.Common.{◌≡◌, ◌*◌, ℕ, true, false, [], ◌∷◌, Some, None, Ok, Err, refl, sym, ap, subst, inl, inr, arith}
use Rattle.std.proofs.lemmas.Bool.{true≢false}
use Rattle.mcast_txn.specs.declared.id.Topic.{Topic}
use Rattle.mcast_txn.specs.declared.id.TxnId.{TxnId}
use Rattle.mcast_txn.specs.Span.{Item}
use Rattle.mcast_txn.specs.Stamp.{zero_stamp}
use Rattle.mcast_txn.specs.Transaction.{TopicPart}
use Rattle.sub_queue.specs.Shown.{Gauge}
use Rattle.mcast_group.specs.Group.{GroupState, group_told, shows}
use Rattle.mcast_group.specs.Machine.{Entry, Pending, new_topic}
use Rattle.broker_locks.specs.Place.{PlaceState, new_place}
use Rattle.broker_locks.specs.Room.{BeginsWith, HasHeard, HasRoom, IsFirstOfLacking, IsRefusedAt, KeepsRoom, RoomState, asked_from, due_at, fits, group_cancelled, group_entered, is_waited_for, lacking_room}
use Rattle.broker_locks.specs.Room.{more_reserved, one_given_back, one_reserved, passing_over, reserve_answer, room_after_enter, takes_more, waiting_for, waiting_without, wanted}
use Rattle.broker_locks.specs.PartOctets.{HaveRanks, highest_rank, largest, places_for}
use Rattle.broker_locks.specs.declared.no_room.NoRoom.TheVariants as no_room
use Rattle.broker_locks.proofs.Hearing.{heard_told}
use Rattle.broker_locks.proofs.RoomKept.{room_fits}

abbrev at_topic : ℕ → Topic
at_topic n = record { 0 = n }

abbrev id : ℕ → TxnId
id seq = record { sender = record { 0 = 4 }; seq = seq }

abbrev part : ℕ → TopicPart
part seq = record { id = id seq; topic = at_topic 0; topics = at_topic 0 ∷ []; sends = [] }

abbrev item : ℕ → Item
item n = record { id = id n; stamp = record { n = n; topic = at_topic 0 }; sends = [] }

abbrev pending : ℕ → Pending
pending seq = record { part = part seq; number = seq; learnt = None }

abbrev entry : ℕ → Entry
entry number = record { number = number; from = zero_stamp; to = None; accepted = item 1 ∷ item 2 ∷ [] }

abbrev gauge : ℕ → Gauge
gauge taken = record { capacity = 4; taken = Some taken }

-- Topic 0 with one part pending, and two subscriptions with queues of 4 that got 2 items: of those of 1,024
-- one is known to be taken.
abbrev group : GroupState
group = record {
  topic = record (new_topic (at_topic 0) 8 2) { pending = pending 3 ∷ []; subscriptions = entry 0 ∷ entry 1024 ∷ [] };
  gauges = gauge 0 ∷ gauge 1 ∷ [];
}

-- so many are reserved there, and both are waited for
abbrev room : ℕ → RoomState
room reserved = record { reserved = reserved; waited = 0 ∷ 1024 ∷ [] }

-- ---- octets

abbrev mebi : ℕ
mebi = 1048576

last_of_272_kibi : highest_rank 64 (272 * 1024) ≡ 64
last_of_272_kibi = refl

seventeenth_of_one_mebi : highest_rank 64 mebi ≡ 17
seventeenth_of_one_mebi = refl

first_of_nine : highest_rank 64 (9 * mebi) ≡ 1
first_of_nine = refl

first_of_any : highest_rank 64 (80 * mebi) ≡ 1
first_of_any = refl

last_of_none : highest_rank 64 0 ≡ 64
last_of_none = refl

one_place : places_for 64 (272 * 1024) ≡ 1
one_place = refl

many_places : places_for 64 mebi ≡ 48
many_places = refl

all_places : places_for 64 (9 * mebi) ≡ 64
all_places = refl

have_ranks : HaveRanks 64 1 (6 * mebi ∷ 8 * mebi ∷ mebi ∷ [])
have_ranks = (omega arith, (omega arith, (omega arith, tt)))

have_none : HaveRanks 64 1 (6 * mebi ∷ mebi ∷ 8 * mebi ∷ []) → Prim.⊥
have_none h = (let third = h.1.1.0 in omega (arith, third))

largest_is : largest (6 * mebi ∷ 8 * mebi ∷ mebi ∷ []) ≡ 8 * mebi
largest_is = refl

-- ---- room

-- one is pending and one reserved
two_due : due_at (room 1) group ≡ 2
two_due = refl

takes_two : takes_more 2 (shows (entry 0) (gauge 0)) ≡ true
takes_two = refl

takes_no_three : takes_more 3 (shows (entry 0) (gauge 0)) ≡ false
takes_no_three = refl

-- the other takes three
other_fits : fits 3 group 1024 ≡ true
other_fits = refl

-- where there is no subscription, nothing fits
nothing_fits : fits 0 group 2048 ≡ false
nothing_fits = refl

first_room : HasRoom 2 group 0
first_room = record { entry = entry 0; gauge = gauge 0; found = refl; gauged = refl; is_open = refl; fits = omega arith }

second_room : HasRoom 2 group 1024
second_room = record { entry = entry 1024; gauge = gauge 1; found = refl; gauged = refl; is_open = refl; fits = omega arith }

no_room_for_three : HasRoom 3 group 0 → Prim.⊥
no_room_for_three h = true≢false (sym (room_fits 3 group 0 h))

-- with one pending and one reserved both have room
both_keep_room : KeepsRoom (room 1) group
both_keep_room n (inl e) = subst (HasRoom 2 group) e first_room
both_keep_room n (inr (inl e)) = subst (HasRoom 2 group) e second_room
both_keep_room n (inr (inr i)) = absurd i

-- with two reserved the first hasn't
two_reserved_lack : KeepsRoom (room 2) group → Prim.⊥
two_reserved_lack keeps = no_room_for_three (keeps 0 (inl refl))

-- ---- what an outlet was told

abbrev place : GroupState → PlaceState
place g = record (new_place (at_topic 0) 8 2 false) { cells = record { group = g; waiting = []; notes = [] } }

-- the first tells that it took one
one_heard : HasHeard (place group) (place (group_told 0 1 group))
one_heard = heard_told 0 (place group) (place (group_told 0 1 group)) (1, omega arith, refl) refl

-- so it takes three
fits_then : fits 3 (group_told 0 1 group) 0 ≡ true
fits_then = refl

-- ---- what is asked of it

one_more : one_reserved (room 1) ≡ room 2
one_more = refl

three_more : more_reserved 3 (room 1) ≡ room 4
three_more = refl

one_less : one_given_back (room 1) ≡ room 0
one_less = refl

none_less : one_given_back (room 0) ≡ room 0
none_less = refl

is_answered : reserve_answer 4 1 0 (room 0) group ≡ Ok tt
is_answered = refl

-- the first has no room for a third
first_is_answered : reserve_answer 4 1 0 (room 1) group ≡ Err (Some 0)
first_is_answered = refl

-- from 1 on 1,024 is asked first, and then 0
asked_second_first : asked_from 1 (0 ∷ 1024 ∷ []) ≡ 1024 ∷ 0 ∷ []
asked_second_first = refl

asked_all : asked_from 0 (0 ∷ 1024 ∷ []) ≡ 0 ∷ 1024 ∷ []
asked_all = refl

asked_none_above : asked_from 1025 (0 ∷ 1024 ∷ []) ≡ 0 ∷ 1024 ∷ []
asked_none_above = refl

-- the second has room for a third, so the first is answered all the same
first_is_answered_then : reserve_answer 4 1 1 (room 1) group ≡ Err (Some 0)
first_is_answered_then = refl

-- where both lack room for one more, the second is answered
second_is_answered : reserve_answer 4 1 1 (room 2) group ≡ Err (Some 1024)
second_is_answered = refl

-- a topic with room for two has none
nobody_is_answered : reserve_answer 2 1 0 (room 1) group ≡ Err None
nobody_is_answered = refl

-- with one pending, one of 6 MiB wants 4 places, as it asks for 3: the first has 2 of them, the second 3; one of 10
-- MiB asks for all 4, so that 5 are wanted
four_wanted : wanted 4 (6 * mebi) (room 0) group ≡ 4
four_wanted = refl

first_is_answered_of_many : reserve_answer 4 (6 * mebi) 0 (room 0) group ≡ Err (Some 0)
first_is_answered_of_many = refl

nobody_is_answered_of_all : reserve_answer 4 (10 * mebi) 0 (room 0) group ≡ Err None
nobody_is_answered_of_all = refl

first_lacks : lacking_room 4 1 group (room 1) ≡ 0 ∷ []
first_lacks = refl

both_lack : lacking_room 4 (6 * mebi) group (room 0) ≡ 0 ∷ 1024 ∷ []
both_lack = refl

nobody_lacks : lacking_room 2 1 group (room 1) ≡ []
nobody_lacks = refl

nobody_lacks_all : lacking_room 4 (10 * mebi) group (room 0) ≡ []
nobody_lacks_all = refl

-- where three are due, the first is passed over
first_passed : passing_over group (room 2) ≡ record { reserved = 2; waited = 1024 ∷ [] }
first_passed = refl

nobody_passed : passing_over group (room 1) ≡ room 1
nobody_passed = refl

-- a part that enters with a reservation uses it up; without, or where none is, the first is passed over
entered_with : room_after_enter true group (room 2) ≡ room 1
entered_with = refl

entered_without : room_after_enter false group (room 2) ≡ record { reserved = 2; waited = 1024 ∷ [] }
entered_without = refl

entered_unreserved : room_after_enter true group (room 0) ≡ room 0
entered_unreserved = refl

second_waited : is_waited_for 1024 (room 1) ≡ true
second_waited = refl

third_unwaited : is_waited_for 2048 (room 1) ≡ false
third_unwaited = refl

between_waited : waiting_for 512 (room 1) ≡ record { reserved = 1; waited = 0 ∷ 512 ∷ 1024 ∷ [] }
between_waited = refl

waited_before : waiting_for 1024 (room 1) ≡ room 1
waited_before = refl

first_unwaited : waiting_without 0 (room 1) ≡ record { reserved = 1; waited = 1024 ∷ [] }
first_unwaited = refl

begins_so : BeginsWith (7 ∷ []) (7 ∷ 0 ∷ [])
begins_so = (0 ∷ [], refl)

-- the first was added behind 7, or wasn't for want of memory
first_added : IsFirstOfLacking 4 1 group (room 1) (7 ∷ []) (7 ∷ 0 ∷ [])
first_added = (0 ∷ [], [], refl, refl)

none_added : IsFirstOfLacking 4 1 group (room 1) (7 ∷ []) (7 ∷ [])
none_added = ([], 0 ∷ [], refl, refl)

-- ---- a broker's answer

refused_there : IsRefusedAt (at_topic 5) (no_room.Full (at_topic 5) (Some 5))
refused_there = (refl, omega arith)

-- not at another topic
refused_elsewhere : IsRefusedAt (at_topic 3) (no_room.Full (at_topic 5) None) → Prim.⊥
refused_elsewhere h = (let is : 5 ≡ 3 = ap (λ (t : Topic). t.0) h.0 in omega (arith, is))

-- ---- what keeps room

-- a part that enters with a reservation leaves as many due, and one that is taken out fewer
entered_due : due_at (room 0) (group_entered zero_stamp (part 5) group) ≡ 2
entered_due = refl

cancelled_due : due_at (room 1) (group_cancelled (id 3) group) ≡ 1
cancelled_due = refl
