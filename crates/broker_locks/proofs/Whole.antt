-- Flights as their gate began them, and what is left of them after their proposals.
use Rattle.std.proofs.Common.{suc, ◌≤◌, ◌≡◌, ◌<◌, ℕ, true, false, List, [], ◌∷◌, map, length, take, Option, Some, None, refl, sym, ap, subst, ◌∙◌, arith, inl, inr}
use Rattle.std.specs.List.{AllByRecursion, list_any}
use Rattle.std.specs.Option.{is_none}
use Rattle.mcast_txn.specs.declared.id.Topic.{Topic}
use Rattle.mcast_txn.specs.declared.id.TxnId.{TxnId}
use Rattle.mcast_txn.specs.declared.stamp.Stamp.{Stamp}
use Rattle.mcast_txn.specs.declared.ballot.ticket.Ticket.{Ticket}
use Rattle.mcast_txn.specs.declared.draft.sent_message.SentMessage.{SentMessage}
use Rattle.mcast_txn.specs.Ballot.{ticket_rows}
use Rattle.mcast_txn.specs.Lists.{In, RisesBy}
use Rattle.mcast_txn.specs.Part.{part_at, parts_of}
use Rattle.mcast_txn.specs.Slots.{Slots, free_slots}
use Rattle.mcast_txn.specs.Transaction.{TopicPart, topics_of}
use Rattle.mcast_txn.proofs.Members.{In-map_cases}
use Rattle.mcast_txn.proofs.Rising.{rises-map}
use Rattle.mcast_txn.proofs.TopicLemmas.{topics_rise}
use Rattle.sender_gate.specs.Gate.{FlightState, GateState, flight_of, gate_after}
use Rattle.broker_locks.specs.Commits.{IsUntouched, EnteredPart, cancelled, parts_in, proposed_stamp}
use Rattle.broker_locks.specs.Inner.Cancelling.{AreUncancelled, cancelled_at, topics_given}
use Rattle.broker_locks.specs.Inner.Proposing.{HasProposed, IsWhole, parts_after, proposals_of, slots_after, tickets_after, topic_number}
use Rattle.broker_locks.specs.Rows.{PlaceRow, is_uncancelled}
use Rattle.broker_locks.proofs.Cancels.{was_entered}

-- ---- as begun

parts_begun : (id : TxnId) (sends : List SentMessage) (ts : List Topic) → parts_in (map (λ t. (t, Some (part_at id sends t))) ts) ≡ map (part_at id sends) ts
parts_begun id sends [] = refl
parts_begun id sends (t ∷ ts) = ap (λ (ps : List TopicPart). part_at id sends t ∷ ps) (parts_begun id sends ts)

slots_begun : (id : TxnId) (sends : List SentMessage) (ts : List Topic) → map (λ t. (t, Some (part_at id sends t))) ts ≡ parts_after (map (part_at id sends) ts) []
slots_begun id sends [] = refl
slots_begun id sends (t ∷ ts) = ap (λ (ps : Slots TopicPart). (t, Some (part_at id sends t)) ∷ ps) (slots_begun id sends ts)

tickets_begun : (id : TxnId) (sends : List SentMessage) (ts : List Topic) → free_slots ts ≡ tickets_after (map (part_at id sends) ts) []
tickets_begun id sends [] = refl
tickets_begun id sends (t ∷ ts) = ap (λ (s : Slots ℕ). (t, None) ∷ s) (tickets_begun id sends ts)

own_begun : (id : TxnId) (sends : List SentMessage) (ts : List Topic) → AllByRecursion (λ p. p.id ≡ id) (map (part_at id sends) ts)
own_begun id sends [] = tt
own_begun id sends (t ∷ ts) = (refl, own_begun id sends ts)

-- a flight that is untouched is whole
pub untouched_whole : (flight : FlightState) → IsUntouched flight → IsWhole flight
untouched_whole flight u =
    let ts = topics_of u.sends in
    let all = map (part_at flight.id u.sends) ts in
    let same : parts_in flight.parts ≡ all = ap parts_in u.parts ∙ parts_begun flight.id u.sends ts in
    record {
      parts = u.parts ∙ (slots_begun flight.id u.sends ts ∙ ap (λ (ps : List TopicPart). parts_after ps []) (sym same));
      tickets = u.tickets ∙ (tickets_begun flight.id u.sends ts ∙ ap (λ (ps : List TopicPart). tickets_after ps []) (sym same));
      own = subst (λ (ps : List TopicPart). AllByRecursion (λ p. p.id ≡ flight.id) ps) (sym same) (own_begun flight.id u.sends ts);
      rises = subst (λ (ps : List TopicPart). RisesBy topic_number ps) (sym same) (rises-map topic_number (part_at flight.id u.sends) ts (topics_rise u.sends));
    }

-- ---- after proposals

no_rows : (ps : List TopicPart) → ticket_rows (slots_after (λ p. None) ps []) ≡ []
no_rows [] = refl
no_rows (p ∷ ps) = no_rows ps

-- the tickets are the proposals' stamps
pub rows_given : (ps : List TopicPart) (ns : List ℕ) → ticket_rows (tickets_after ps ns) ≡ map proposed_stamp (proposals_of ps ns)
rows_given [] ns = refl
rows_given (p ∷ ps) [] = no_rows ps
rows_given (p ∷ ps) (n ∷ ns) = ap (λ (rows : List Stamp). record { n = n; topic = p.topic } ∷ rows) (rows_given ps ns)

-- the proposals are of the first parts
pub first_parts : (ps : List TopicPart) (ns : List ℕ) → map (λ (p : EnteredPart). p.part) (proposals_of ps ns) ≡ take (length (proposals_of ps ns)) ps
first_parts [] ns = refl
first_parts (p ∷ ps) [] = refl
first_parts (p ∷ ps) (n ∷ ns) = ap (λ (l : List TopicPart). p ∷ l) (first_parts ps ns)

-- and of all, where there is a number for each
pub proposals_length : (ps : List TopicPart) (ns : List ℕ) → length ns ≤ length ps → length (proposals_of ps ns) ≡ length ns
proposals_length [] [] l = refl
proposals_length [] (n ∷ ns) l = absurd (omega (arith, l))
proposals_length (p ∷ ps) [] l = refl
proposals_length (p ∷ ps) (n ∷ ns) l = ap suc (proposals_length ps ns (omega (arith, l)))

pub all_parts : (ps : List TopicPart) (ns : List ℕ) → length ns ≡ length ps → map (λ (p : EnteredPart). p.part) (proposals_of ps ns) ≡ ps
all_parts [] ns e = refl
all_parts (p ∷ ps) [] e = absurd (omega (arith, e))
all_parts (p ∷ ps) (n ∷ ns) e = ap (λ (l : List TopicPart). p ∷ l) (all_parts ps ns (omega (arith, e)))

-- then no topic gave no ticket
pub none_missing : (ps : List TopicPart) (ns : List ℕ) → length ns ≡ length ps → list_any (λ (slot : Topic × Option ℕ). is_none slot.1) (tickets_after ps ns) ≡ false
none_missing [] ns e = refl
none_missing (p ∷ ps) [] e = absurd (omega (arith, e))
none_missing (p ∷ ps) (n ∷ ns) e = none_missing ps ns (omega (arith, e))

own_proposals : (id : TxnId) (ps : List TopicPart) (ns : List ℕ) → AllByRecursion (λ p. p.id ≡ id) ps → (p : EnteredPart) → In p (proposals_of ps ns) → p.part.id ≡ id
own_proposals id [] ns own p at = absurd at
own_proposals id (q ∷ ps) [] own p at = absurd at
own_proposals id (q ∷ ps) (n ∷ ns) own p (inl e) = sym (ap (λ (r : EnteredPart). r.part.id) e) ∙ own.0
own_proposals id (q ∷ ps) (n ∷ ns) own p (inr at) = own_proposals id ps ns own.1 p at

below_all : (t : Topic) (ps : List TopicPart) (ns : List ℕ) → AllByRecursion (λ p. t.0 < topic_number p) ps → AllByRecursion (λ (u : Topic). t.0 < u.0) (map (λ (row : Stamp). row.topic) (map proposed_stamp (proposals_of ps ns)))
below_all t [] ns all = tt
below_all t (p ∷ ps) [] all = tt
below_all t (p ∷ ps) (n ∷ ns) all = (all.0, below_all t ps ns all.1)

topics_rising : (ps : List TopicPart) (ns : List ℕ) → RisesBy topic_number ps → RisesBy (λ (t : Topic). t.0) (map (λ (row : Stamp). row.topic) (map proposed_stamp (proposals_of ps ns)))
topics_rising [] ns rises = tt
topics_rising (p ∷ ps) [] rises = tt
topics_rising (p ∷ ps) (n ∷ ns) rises = (below_all p.topic ps ns rises.0, topics_rising ps ns rises.1)

-- each proposal, cancelled
pub cancelled_each : (id : TxnId) (ps : List TopicPart) (ns : List ℕ) → AllByRecursion (λ p. p.id ≡ id) ps
    → map (cancelled_at id) (map (λ (row : Stamp). row.topic) (map proposed_stamp (proposals_of ps ns))) ≡ map cancelled (proposals_of ps ns)
cancelled_each id [] ns own = refl
cancelled_each id (p ∷ ps) [] own = refl
cancelled_each id (p ∷ ps) (n ∷ ns) own =
    ap (λ (i : TxnId). cancelled_at i p.topic ∷ map (cancelled_at id) (map (λ (row : Stamp). row.topic) (map proposed_stamp (proposals_of ps ns)))) (sym own.0)
    ∙ ap (λ (l : List PlaceRow). cancelled_at p.id p.topic ∷ l) (cancelled_each id ps ns own.1)

-- a flight's ballot has its tickets' topics
pub topics_put : (id : TxnId) (rows : List Stamp) → map (λ (t : Ticket). t.topic) (map (λ row. record { id = id; topic = row.topic; n = row.n }) rows) ≡ map (λ (row : Stamp). row.topic) rows
topics_put id [] = refl
topics_put id (row ∷ rows) = ap (λ (l : List Topic). row.topic ∷ l) (topics_put id rows)

-- where the first parts were entered
module _ (first now : FlightState) (ns : List ℕ) (old rows : List PlaceRow) (whole : IsWhole first) (so : HasProposed (parts_in first.parts) first ns now old rows) where
  -- the proposals
  abbrev pub made : List EnteredPart
  made = proposals_of (parts_in first.parts) ns

  -- the tickets
  pub given : ticket_rows now.tickets ≡ map proposed_stamp made
  given = ap ticket_rows so.tickets ∙ rows_given (parts_in first.parts) ns

  -- the topics that gave them
  pub topics_are : topics_given now ≡ map (λ (row : Stamp). row.topic) (map proposed_stamp made)
  topics_are = ap (map (λ (row : Stamp). row.topic)) given

  uncancelled : (t : Topic) → In t (map (λ (row : Stamp). row.topic) (map proposed_stamp made)) → is_uncancelled t first.id rows ≡ true
  uncancelled t at =
      let row = In-map_cases (λ (row : Stamp). row.topic) t (map proposed_stamp made) at in
      let p = In-map_cases proposed_stamp row.from made row.stands in
      let here = was_entered old first.floor made p.from p.stands in
      let id = own_proposals first.id (parts_in first.parts) ns whole.own p.from p.stands in
      let topic : p.from.part.topic ≡ t = ap (λ (s : Stamp). s.topic) p.is ∙ row.is in
      subst (λ (u : Topic). is_uncancelled u first.id rows ≡ true) topic
      (subst (λ (i : TxnId). is_uncancelled p.from.part.topic i rows ≡ true) id
      (subst (λ (r : List PlaceRow). is_uncancelled p.from.part.topic p.from.part.id r ≡ true) (sym so.rows) here))

  -- each was entered and not cancelled
  pub are_uncancelled : AreUncancelled (topics_given now) now.id rows
  are_uncancelled =
      subst (λ (i : TxnId). AreUncancelled (topics_given now) i rows) (sym so.id)
      (subst (λ (us : List Topic). AreUncancelled us first.id rows) (sym topics_are)
      (record { rises = topics_rising (parts_in first.parts) ns whole.rises; each = uncancelled }))

  -- the rows of cancelling them
  pub cancelled_rows : map (cancelled_at now.id) (topics_given now) ≡ map cancelled made
  cancelled_rows =
      ap (λ (i : TxnId). map (cancelled_at i) (topics_given now)) so.id
      ∙ (ap (map (cancelled_at first.id)) topics_are ∙ cancelled_each first.id (parts_in first.parts) ns whole.own)

  -- the gate that is left
  pub gate_left : (floor : Stamp) → gate_after now floor ≡ gate_after first floor
  gate_left floor = ap (λ (i : TxnId). record { sender = i.sender; seq = i.seq; floor = floor }) so.id

-- a flight that a gate just began is untouched
pub begun_untouched : (gate : GateState) (sends : List SentMessage) (flight : FlightState) → flight ≡ flight_of gate sends → IsUntouched flight
begun_untouched gate sends flight e = record {
  sends = sends;
  parts = ap (λ (f : FlightState). f.parts) e ∙ ap (λ (i : TxnId). parts_of i sends) (sym (ap (λ (f : FlightState). f.id) e));
  tickets = ap (λ (f : FlightState). f.tickets) e;
}
