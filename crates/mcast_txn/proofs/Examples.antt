-- Worked rows: each is computed from the definitions.
use Rattle.std.specs.Prelude.{◌≡◌, ℕ, true, false, List, [], ◌∷◌, map, replicate, Some, None, Ok, Err}
use Rattle.std.proofs.Common.{refl}
use Rattle.mcast_txn.specs.declared.fault.BallotFault.TheVariants.{NotNamed, Twice}
use Rattle.mcast_txn.specs.declared.id.Topic.{Topic}
use Rattle.mcast_txn.specs.declared.id.TxnId.{TxnId}
use Rattle.mcast_txn.specs.declared.draft.sent_message.SentMessage.{SentMessage}
use Rattle.mcast_txn.specs.declared.stamp.Stamp.{Stamp}
use Rattle.mcast_txn.specs.declared.ballot.ticket.Ticket.{Ticket}
use Rattle.mcast_txn.specs.Agreed.{CommitRow, agreed}
use Rattle.mcast_txn.specs.Ballot.{BallotState, put_answer, row_at, slots_of_rows, tickets_put}
use Rattle.mcast_txn.specs.Checks.{first_refusal}
use Rattle.mcast_txn.specs.Ids.{id_lt, same_id}
use Rattle.mcast_txn.specs.Lists.{insert_by, insert_by_number, sorted_by}
use Rattle.mcast_txn.specs.Slots.{free_slots, held_at, slot_at, with_slot}
use Rattle.mcast_txn.specs.Span.{in_span}
use Rattle.mcast_txn.specs.Stamp.{greatest, stamp_lt, zero_stamp}
use Rattle.mcast_txn.specs.TopicSet.{names}
use Rattle.mcast_txn.specs.Transaction.{octets_at, octets_to, octets_with, part_of, topics_of}

abbrev topic : ℕ → Topic
topic n = record { 0 = n }

abbrev stamp : ℕ → ℕ → Stamp
stamp n t = record { n = n; topic = topic t }

abbrev id : ℕ → ℕ → TxnId
id sender seq = record { sender = record { 0 = sender }; seq = seq }

-- ---- stamps and ids

ties_go_by_topic : stamp_lt (stamp 3 0) (stamp 3 1) ≡ true
ties_go_by_topic = refl

numbers_go_first : stamp_lt (stamp 3 1) (stamp 4 0) ≡ true
numbers_go_first = refl

greatest_of_three : greatest (stamp 3 0 ∷ stamp 5 2 ∷ stamp 5 1 ∷ []) ≡ stamp 5 2
greatest_of_three = refl

greatest_of_none : greatest [] ≡ zero_stamp
greatest_of_none = refl

seqs_of_two_senders : same_id (id 0 1) (id 1 1) ≡ false
seqs_of_two_senders = refl

senders_go_first : id_lt (id 0 9) (id 1 1) ≡ true
senders_go_first = refl

-- ---- lists that rise

put_between : insert_by_number (λ n. n) 2 (1 ∷ 3 ∷ []) ≡ 1 ∷ 2 ∷ 3 ∷ []
put_between = refl

put_last : insert_by (λ s. s) (stamp 3 1) (stamp 2 4 ∷ stamp 3 0 ∷ []) ≡ stamp 2 4 ∷ stamp 3 0 ∷ stamp 3 1 ∷ []
put_last = refl

sorted_by_stamp : sorted_by (λ s. s) (stamp 5 1 ∷ stamp 3 0 ∷ stamp 5 0 ∷ []) ≡ stamp 3 0 ∷ stamp 5 0 ∷ stamp 5 1 ∷ []
sorted_by_stamp = refl

-- ---- a transaction of three SENDs: to topic 2, to topic 0, and to topic 2 again

abbrev send : ℕ → ℕ → SentMessage
send t octet = record { topic = topic t; headers = []; body = octet ∷ [] }

abbrev sends : List SentMessage
sends = send 2 65 ∷ send 0 66 ∷ send 2 67 ∷ []

topics_rise_once : topics_of sends ≡ topic 0 ∷ topic 2 ∷ []
topics_rise_once = refl

-- the part at topic 2 has the first and the last, with their indices in the whole
part_keeps_indices : map (λ m. m.index) (part_of (topic 2) sends) ≡ 0 ∷ 2 ∷ []
part_keeps_indices = refl

part_keeps_bodies : map (λ m. m.body) (part_of (topic 2) sends) ≡ (65 ∷ []) ∷ (67 ∷ []) ∷ []
part_keeps_bodies = refl

no_part_elsewhere : part_of (topic 1) sends ≡ []
no_part_elsewhere = refl

-- ---- octets

-- "hello" with receipt:7
hello_with_receipt : octets_with ((114 ∷ 101 ∷ 99 ∷ 101 ∷ 105 ∷ 112 ∷ 116 ∷ [], 55 ∷ []) ∷ []) (104 ∷ 101 ∷ 108 ∷ 108 ∷ 111 ∷ []) ≡ 13
hello_with_receipt = refl

-- SENDs of 3, 5 and 7 octets
abbrev sized : List SentMessage
sized = record { topic = topic 2; headers = []; body = replicate 3 65 } ∷ record { topic = topic 0; headers = []; body = replicate 5 65 }
    ∷ record { topic = topic 2; headers = (65 ∷ [], 66 ∷ []) ∷ []; body = replicate 5 65 } ∷ []

octets_of_both : octets_at (topic 2) sized ≡ 10
octets_of_both = refl

octets_elsewhere : octets_at (topic 1) sized ≡ 0
octets_elsewhere = refl

octets_to_another : octets_to (topic 1) (record { topic = topic 2; headers = []; body = replicate 3 65 }) ≡ 0
octets_to_another = refl

names_topic_0 : names (topic 0) (topics_of sends) ≡ true
names_topic_0 = refl

-- ---- its ballot, with the ticket of topic 2 alone

abbrev ticket : TxnId → ℕ → ℕ → Ticket
ticket i t n = record { id = i; topic = topic t; n = n }

abbrev half : BallotState
half = record { id = id 0 1; tickets = with_slot (topic 2) (Some 7) (free_slots (topics_of sends)) }

takes_the_other : put_answer half (ticket (id 0 1) 0 9) ≡ Ok tt
takes_the_other = refl

takes_none_twice : put_answer half (ticket (id 0 1) 2 9) ≡ Err Twice
takes_none_twice = refl

takes_none_unnamed : put_answer half (ticket (id 0 1) 1 9) ≡ Err NotNamed
takes_none_unnamed = refl

-- 50 is tested before 51
takes_none_of_another : put_answer half (ticket (id 0 2) 2 9) ≡ Err NotNamed
takes_none_of_another = refl

one_ticket : tickets_put half ≡ ticket (id 0 1) 2 7 ∷ []
one_ticket = refl

held_of_topic_0 : held_at (topic 0) half.tickets ≡ None
held_of_topic_0 = refl

slot_of_topic_0 : slot_at (topic 0) half.tickets ≡ Some None
slot_of_topic_0 = refl

slot_of_topic_1 : slot_at (topic 1) half.tickets ≡ None
slot_of_topic_1 = refl

-- ---- its decision

abbrev rows : List Stamp
rows = stamp 9 0 ∷ stamp 7 2 ∷ []

row_of_topic_2 : row_at (topic 2) rows ≡ Some 7
row_of_topic_2 = refl

row_of_topic_1 : row_at (topic 1) rows ≡ None
row_of_topic_1 = refl

rows_as_slots : slots_of_rows rows ≡ with_slot (topic 0) (Some 9) half.tickets
rows_as_slots = refl

-- ---- committed transactions

abbrev committed : ℕ → Stamp → CommitRow
committed seq s = record { txn = record { id = id 0 seq; sends = sends }; stamp = s }

agreed_goes_by_stamp : map (λ row. row.txn.id.seq)
    (agreed (committed 1 (stamp 9 0) ∷ committed 2 (stamp 4 1) ∷ committed 3 (stamp 4 0) ∷ [])) ≡ 3 ∷ 2 ∷ 1 ∷ []
agreed_goes_by_stamp = refl

put_behind_its_like : map (λ row. row.txn.id.seq)
    (insert_by (λ row. row.stamp) (committed 2 (stamp 4 0)) (committed 1 (stamp 4 0) ∷ committed 3 (stamp 9 0) ∷ []))
    ≡ 1 ∷ 2 ∷ 3 ∷ []
put_behind_its_like = refl

-- ---- spans

begins_after : in_span (stamp 4 0) None (stamp 4 0) ≡ false
begins_after = refl

ends_with : in_span (stamp 4 0) (Some (stamp 9 0)) (stamp 9 0) ≡ true
ends_with = refl

ends_before_the_next : in_span (stamp 4 0) (Some (stamp 9 0)) (stamp 9 1) ≡ false
ends_before_the_next = refl

-- ---- refusals

first_that_holds : first_refusal ((false, NotNamed) ∷ (true, Twice) ∷ (true, NotNamed) ∷ []) ≡ Some Twice
first_that_holds = refl
