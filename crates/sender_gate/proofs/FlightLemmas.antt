-- What a flight keeps.
use Rattle.std.proofs.Common.{◌≡◌, ◌≢◌, ◌==◌, ◌<◌, ◌≤◌, ◌++◌, ℕ, Bool, true, false, if◌then◌else◌, List, [], ◌∷◌, map, length, Option, Some, None, Ok, Err, refl, sym, ap, subst, ◌∙◌, arith}
use Rattle.std.proofs.lemmas.Bool.Decides.{nat_tests}
use Rattle.std.specs.List.{AllByRecursion}
use Rattle.std.specs.Option.{option_map, option_to_list}
use Rattle.mcast_txn.specs.declared.id.Topic.{Topic}
use Rattle.mcast_txn.specs.declared.id.TxnId.{TxnId}
use Rattle.mcast_txn.specs.declared.draft.sent_message.SentMessage.{SentMessage}
use Rattle.mcast_txn.specs.declared.stamp.Stamp.{Stamp}
use Rattle.mcast_txn.specs.declared.ballot.ticket.Ticket.{Ticket}
use Rattle.mcast_txn.specs.Ballot.{ticket_rows, slots_of_rows}
use Rattle.mcast_txn.specs.Part.{parts_of, part_at}
use Rattle.mcast_txn.specs.Slots.{Slots, free_slots, with_slot}
use Rattle.mcast_txn.specs.Stamp.{stamp_lt, greatest}
use Rattle.mcast_txn.specs.TopicSet.{IsTopicSet}
use Rattle.mcast_txn.specs.Transaction.{TopicPart, topics_of}
use Rattle.mcast_txn.proofs.Orders.{lt_trans}
use Rattle.sender_gate.specs.declared.fault.GateFault.TheVariants.{BelowFloor}
use Rattle.sender_gate.specs.Gate.{over_floor}
use Rattle.sender_gate.specs.Inner.Flights.{IsFlying}

-- the number is at most the floor's, or above it
pub too_low : (floor : Stamp) (ticket : Ticket) → ticket.n ≤ floor.n → Err BelowFloor ≡ over_floor floor ticket (Ok tt)
too_low floor ticket h = grind (arith, nat_tests)

-- a ticket above the floor isn't refused for it
pub high_enough : (floor : Stamp) (ticket : Ticket) → floor.n < ticket.n → Ok tt ≡ over_floor floor ticket (Ok tt)
high_enough floor ticket h = grind (arith, nat_tests)

-- a write keeps the topics
first_case : {A : Type 0} (b : Bool) (t : Topic) (o : Option A) (s : Topic × Option A) → s.0 ≡ t → (λ (slot : Topic × Option A). slot.0) (if b then (t, o) else s) ≡ t
first_case true t o s e = refl
first_case false t o s e = e

firsts_with : {A : Type 0} (t : Topic) (o : Option A) (slots : Slots A) → map (λ (slot : Topic × Option A). slot.0) (with_slot t o slots) ≡ map (λ (slot : Topic × Option A). slot.0) slots
firsts_with t o [] = refl
firsts_with t o (s ∷ slots) = rw (first_case (s.0.0 == t.0) s.0 o s refl, firsts_with t o slots) refl

firsts : {A : Type 0} (g : Topic → Option A) (topics : List Topic) → map (λ (slot : Topic × Option A). slot.0) (map (λ t. (t, g t)) topics) ≡ topics
firsts g [] = refl
firsts g (t ∷ topics) = ap (λ rest. t ∷ rest) (firsts g topics)

some_with : {A : Type 0} (t : Topic) (o : Option A) (slots : Slots A) → slots ≢ [] → with_slot t o slots ≢ []
some_with t o [] some = some
some_with t o (s ∷ slots) some = λ none. omega (arith, ap length none)

module _ (floor : Stamp) where
  abbrev Above : List Stamp → Type 0
  Above rows = AllByRecursion (λ row. floor.n < row.n) rows

  abbrev row_of : Topic × Option ℕ → List Stamp
  row_of s = option_to_list (option_map (λ n. record { n = n; topic = s.0 }) s.1)

  above_case : (b : Bool) (u : Topic) (held : Option ℕ) (n : ℕ) (rest new : List Stamp) → floor.n < n → (Above rest → Above new) → Above (row_of (u, held) ++ rest) → Above (row_of (if b then (u, Some n) else (u, held)) ++ new)
  above_case true u None n rest new h next all = (h, next all)
  above_case true u (Some m) n rest new h next all = (h, next all.1)
  above_case false u None n rest new h next all = next all
  above_case false u (Some m) n rest new h next all = (all.0, next all.1)

  -- a number above the floor keeps all above it
  above_with : (t : Topic) (n : ℕ) (tickets : Slots ℕ) → floor.n < n → Above (ticket_rows tickets) → Above (ticket_rows (with_slot t (Some n) tickets))
  above_with t n [] h all = tt
  above_with t n (s ∷ tickets) h all = above_case (s.0.0 == t.0) s.0 s.1 n (ticket_rows tickets) (ticket_rows (with_slot t (Some n) tickets)) h (above_with t n tickets h) all

  above_free : (topics : List Topic) → Above (ticket_rows (free_slots topics))
  above_free [] = tt
  above_free (t ∷ topics) = above_free topics

  -- a new flight
  pub flying_new : (id : TxnId) (sends : List SentMessage) → IsTopicSet (topics_of sends) → IsFlying floor (free_slots (topics_of sends)) (parts_of id sends)
  flying_new id sends set = record {
    some = no_topics (topics_of sends) set.some;
    alike = firsts (λ t. Some (part_at id sends t)) (topics_of sends) ∙ sym (firsts {A = ℕ} (λ _. None) (topics_of sends));
    above = above_free (topics_of sends);
  }
    where
      no_topics : (topics : List Topic) → topics ≢ [] → free_slots {A = ℕ} topics ≢ []
      no_topics [] some = λ _. some refl
      no_topics (t ∷ topics) some = λ none. omega (arith, ap length none)

  -- a part taken out, a ticket put
  module _ (tickets : Slots ℕ) (parts : Slots TopicPart) (flying : IsFlying floor tickets parts) (t : Topic) where
    -- IsFlying holds after a part was taken out
    pub flying_part : IsFlying floor tickets (with_slot t None parts)
    flying_part = record { some = flying.some; alike = firsts_with t None parts ∙ flying.alike; above = flying.above }

    -- IsFlying holds after a ticket above the floor was put
    pub flying_put : (n : ℕ) → floor.n < n → IsFlying floor (with_slot t (Some n) tickets) parts
    flying_put n h = record {
      some = some_with t (Some n) tickets flying.some;
      alike = flying.alike ∙ sym (firsts_with t (Some n) tickets);
      above = above_with t n tickets h flying.above;
    }

  given_all : (rows : List Stamp) → ticket_rows (slots_of_rows rows) ≡ rows
  given_all [] = refl
  given_all (row ∷ rows) = ap (λ rest. row ∷ rest) (given_all rows)

  later_above : (b : Bool) (row rest : Stamp) → stamp_lt row rest ≡ b → floor.n < row.n → stamp_lt floor (if b then rest else row) ≡ true
  later_above true row rest h above =
      let first : stamp_lt floor row ≡ true = grind (arith, nat_tests) in
      lt_trans floor row rest first h
  later_above false row rest h above = grind (arith, nat_tests)

  greatest_above : (rows : List Stamp) → rows ≢ [] → Above rows → stamp_lt floor (greatest rows) ≡ true
  greatest_above [] some above = absurd (some refl)
  greatest_above (row ∷ rows) some above = later_above (stamp_lt row (greatest rows)) row (greatest rows) refl above.0

  -- the stamp of a complete flight is above the floor
  pub decided_above : (tickets : Slots ℕ) (parts : Slots TopicPart) (rows : List Stamp) → IsFlying floor tickets parts → slots_of_rows rows ≡ tickets → stamp_lt floor (greatest rows) ≡ true
  decided_above tickets parts rows flying e =
      greatest_above rows (λ none. flying.some (sym e ∙ ap slots_of_rows none)) (subst Above (ap ticket_rows (sym e) ∙ given_all rows) flying.above)
