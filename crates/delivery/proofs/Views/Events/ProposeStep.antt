-- A transaction is proposed at a topic.
use Rattle.delivery.proofs.Words.All.{◌≡◌, ℕ, ◌<◌, ◌==◌, Bool, true, false, cond, not, ◌&&◌, ◌||◌, nat_lt, List, [], ◌∷◌, ◌++◌, map, length, get_or, set, Option, Some, None, Result, Ok, Err, is_ok, inl, inr, refl, sym, ap, subst, ◌∙◌, arith, slice_get, and_parts, eq-eqb, lt-ltb, ltb-true, cases_Bool, append-nil, get_or_default, length-map, set-get_or, is_some, option_or, option_and_then, Ticket, Topic, Stamp, row_at, first_refusal, In, part_at, Slots, slot_at, held_at, with_slot, names, TopicPart, topics_of, ProposeFault, GroupState, TopicState, next_number, propose_fault, after_propose, FlightState, In-append_left, id_itself, refusal_first, refusal_after, none_some, some_same, Objection, refusal_of, World, Undecided, SenderState, topic_at, sender_at, speaker, is_in_use, with_sender, with_topic, speaker_number, Move, Answer, move_refusal, needs_connection, is_topic, has_ticket, insert_ticket, undecided_or_none, undecided_at, next_ticket, proposal_fault, or_out_of_memory, propose_effect, propose_answer, Event, Outcome, Refusal, Sending, CoreStep, Reading, accepted_of, has_effect, names_after, text_out, subscribe_frame, Core, names_at, unread_at, is_out_of_memory, move_outcome, outcomes, there_objection, speaker_at, sender_in, gate_of, is_slot, part_refusal, part_in, taken_sender, takes_ticket, is_group, propose_refusal_in, taken_view, floor_in, ticket_in, IsProposed, no_sender, IsReached, Makes, step_of, View, SenderView, held_sender, view_of, view_after, sender_view, sending_view, undecided_view, group_view, pending_receipt, ticket_of, group_in, no_group}
use Rattle.std.proofs.Math.Nat.{le-max_right}
use Rattle.mcast_txn.specs.declared.fault.BallotFault.TheVariants.{NotNamed}
use Rattle.mcast_txn.specs.Ballot.{slot_answer}
use Rattle.mcast_group.specs.Group.{or_no_memory}
use Rattle.sender_gate.specs.Gate.{flight_answer, over_floor}
use Rattle.delivery.specs.declared.refusal.Refusal.TheVariants as refusal
use Rattle.delivery.specs.Inner.Senders.{flight_refusal, taken_sending, put_sender, failed_sender, proposed_view, failed_view}
use Rattle.delivery.specs.Inner.View.{flight_view}
use Rattle.delivery.proofs.Words.Steps.{made_world, made_answer, reached}
use Rattle.delivery.proofs.Views.Events.DecideStep.{flying_is}
use Rattle.delivery.proofs.Words.Changes.{by_world, speaks_of, IsQuiet, none_named, length-each_number, unused_rests, held_of, sender_of, speaker_of, sender_of_endpoint, differ, quiet_makes}
use Rattle.delivery.proofs.Views.Events.ReleaseStep.{group_at}
use Rattle.delivery.proofs.Views.Senders.SameSeqAndReceipt.{sender_quiet, topic_quiet}
use Rattle.delivery.proofs.Views.Senders.SlotsOfTopics.{slot_topics, slot_named, held_named, slot_written, ticket_inserted, row_other, row_own, row_none_given}
use Rattle.delivery.proofs.Views.Events.ConnectionIsThere.{flying_speaking, there_checked, is_there, still_there, reported, refused_step, refused_outcome, answered_outcome}
use Rattle.delivery.proofs.Views.Senders.TicketsOfTopics.{tickets_are}

-- ---- what stands against it

-- the checks of its transaction
abbrev pub propose_refusals : World → Topic → Option Undecided → List (Bool × Objection)
propose_refusals w t o =
    (not (is_some o), Objection.NoFlight) ∷ (is_some (undecided_or_none o).mark, Objection.Marked)
    ∷ (not (is_topic w t && names t (topics_of (undecided_or_none o).txn.sends)), Objection.NotNamed)
    ∷ (has_ticket t (undecided_or_none o).given, Objection.Twice) ∷ []

-- the part at a topic that wasn't taken out
abbrev pub part_left : Undecided → Topic → Option TopicPart
part_left f u = cond (has_ticket u f.given) None (Some (part_at f.txn.id f.txn.sends u))

-- the number of a topic
abbrev pub number_of : Undecided → Topic → Option ℕ
number_of f u = row_at u f.given

one_refusal : (b n h : Bool) (p : Option TopicPart) → (n ≡ true → is_some p ≡ not h)
    → cond b (cond n (cond (is_some p) None (Some refusal.Twice)) (Some refusal.NotNamed)) (Some refusal.NotNamed)
    ≡ option_and_then refusal_of (cond (not (b && n)) (Some Objection.NotNamed) (cond h (Some Objection.Twice) None))
one_refusal false n h p e = refl
one_refusal true false h p e = refl
one_refusal true true h p e = ap (λ (c : Bool). cond c None (Some refusal.Twice)) (e refl) ∙ elim h as (λ (h : Bool). cond (not h) None (Some refusal.Twice) ≡ option_and_then refusal_of (cond h (Some Objection.Twice) None)) [ true ↦ refl | false ↦ refl ]

part_stands : (f : Undecided) (t : Topic) → names t (topics_of f.txn.sends) ≡ true
    → is_some (held_at t (map {B = Topic × Option TopicPart} (λ u. (u, part_left f u)) (topics_of f.txn.sends))) ≡ not (has_ticket t f.given)
part_stands f t named = ap is_some (held_named (part_left f) t (topics_of f.txn.sends) named) ∙ elim (has_ticket t f.given) as (λ (h : Bool). is_some (cond h None (Some (part_at f.txn.id f.txn.sends t))) ≡ not h) [ true ↦ refl | false ↦ refl ]

-- the sender's refusal is that of the first check that fails
propose_checked : (w : World) (t : Topic) (s seq : ℕ) (floor : Stamp) (o : Option Undecided) (b : Bool) → b ≡ is_topic w t
    → option_or (flight_refusal (sending_view s seq floor o)) (cond b (part_refusal t (sending_view s seq floor o)) (Some refusal.NotNamed))
    ≡ option_and_then refusal_of (first_refusal (propose_refusals w t o))
propose_checked w t s seq floor None b is = refl
propose_checked w t s seq floor (Some f) b is = go f.mark
  where
    go : (m : Option ProposeFault) → option_or (flight_refusal (undecided_view floor f m)) (cond b (part_refusal t (undecided_view floor f m)) (Some refusal.NotNamed))
        ≡ option_and_then refusal_of (first_refusal ((is_some m, Objection.Marked)
        ∷ (not (is_topic w t && names t (topics_of f.txn.sends)), Objection.NotNamed) ∷ (has_ticket t f.given, Objection.Twice) ∷ []))
    go (Some fault) = refl
    go None =
        let n = names t (topics_of f.txn.sends) in let parts = map {B = Topic × Option TopicPart} (λ u. (u, part_left f u)) (topics_of f.txn.sends) in
        ap (λ (c : Bool). cond b (cond c (cond (is_some (held_at t parts)) None (Some refusal.Twice)) (Some refusal.NotNamed)) (Some refusal.NotNamed))
        (slot_topics (number_of f) t (topics_of f.txn.sends))
        ∙ (one_refusal b n (has_ticket t f.given) (held_at t parts) (part_stands f t)
        ∙ ap (λ (c : Bool). option_and_then refusal_of (cond (not (c && n)) (Some Objection.NotNamed) (cond (has_ticket t f.given) (Some Objection.Twice) None))) is)

-- where none fails there is a transaction that names the topic, and no ticket of it
pub record Proposable (w : World) (t : Topic) (o : Option Undecided) : Type 0 where
  pub flight : Undecided
  pub is : o ≡ Some flight
  pub unmarked : flight.mark ≡ None
  pub topic : is_topic w t ≡ true
  pub named : names t (topics_of flight.txn.sends) ≡ true
  pub fresh : has_ticket t flight.given ≡ false
  pub passes : first_refusal (propose_refusals w t o) ≡ None

last_checks : (z h : Bool) → option_and_then refusal_of (cond (not z) (Some Objection.NotNamed) (cond h (Some Objection.Twice) None)) ≡ None → (z ≡ true) × (h ≡ false)
last_checks true true e = absurd (cc)
last_checks true false e = (refl, refl)
last_checks false h e = absurd (cc)

proposable : (w : World) (t : Topic) (o : Option Undecided) → option_and_then refusal_of (first_refusal (propose_refusals w t o)) ≡ None → Proposable w t o
proposable w t None e = absurd (cc)
proposable w t (Some f) e = go f.mark refl e
  where
    rest : List (Bool × Objection)
    rest = (not (is_topic w t && names t (topics_of f.txn.sends)), Objection.NotNamed) ∷ (has_ticket t f.given, Objection.Twice) ∷ []

    go : (m : Option ProposeFault) → f.mark ≡ m → option_and_then refusal_of (first_refusal ((is_some m, Objection.Marked) ∷ rest)) ≡ None → Proposable w t (Some f)
    go (Some fault) is e = absurd (cc)
    go None is e =
        let last = last_checks (is_topic w t && names t (topics_of f.txn.sends)) (has_ticket t f.given) e in
        let both = and_parts (is_topic w t) (names t (topics_of f.txn.sends)) last.0 in
        record {
          flight = f;
          is = refl;
          unmarked = is;
          topic = both.0;
          named = both.1;
          fresh = last.1;
          passes = ap (λ (m : Option ProposeFault). first_refusal ((is_some m, Objection.Marked) ∷ rest)) is
              ∙ (ap (λ (z : Bool). cond (not z) (Some Objection.NotNamed) (cond (has_ticket t f.given) (Some Objection.Twice) None)) last.0
              ∙ ap (λ (z : Bool). cond z (Some Objection.Twice) None) last.1);
        }

-- ---- the topic's group

-- a topic is its own
topic_own : (k : Core) (t : Topic) → IsReached k → (topic_at k.world t).topic ≡ t
topic_own k t was = by_world (λ w. (topic_at w t).topic ≡ t) k was (λ r. ((reached r).inv.tied t).topic)

-- there is a group where there is a topic
pub group_there : (k : Core) (t : Topic) → IsReached k → is_group t (view_of k).groups ≡ is_topic k.world t
group_there k t was =
    let groups = (view_of k).groups in let many = length-map {B = GroupState} k.world.topics (group_view k.world) in
    ap (λ (n : ℕ). nat_lt t.0 n && (get_or groups t.0 no_group).topic.topic.0 == t.0) many
    ∙ elim (cases_Bool (is_topic k.world t)) [
      | inl on ↦
          ap (λ (b : Bool). b && (get_or groups t.0 no_group).topic.topic.0 == t.0) on
          ∙ (ap (λ (g : GroupState). g.topic.topic.0 == t.0) (group_at k t no_group (ltb-true t.0 (length k.world.topics) on))
          ∙ (eq-eqb (topic_at k.world t).topic.0 t.0 (ap (λ (u : Topic). u.0) (topic_own k t was)) ∙ sym on))
      | inr off ↦ ap (λ (b : Bool). b && (get_or groups t.0 no_group).topic.topic.0 == t.0) off ∙ sym off
    ]

-- ---- what is read

-- a sender is read by its number
pub held_read : (k : Core) (s : ℕ) (senders : List SenderView) (x : SenderView) → senders ≡ (view_of k).senders → s < length senders → x ≡ get_or senders s x
    → (s < length k.world.senders) × (x ≡ sender_in (view_of k) s)
held_read k s senders x are there is = (
  subst (λ (n : ℕ). s < n) (ap (λ (xs : List SenderView). length xs) are ∙ length-each_number (held_sender k.world) 0 k.world.senders) there,
  is ∙ (get_or_default senders s x (no_sender s) there ∙ ap (λ (xs : List SenderView). get_or xs s (no_sender s)) are),
)

-- and a group, where there is one of the topic
pub group_read : (k : Core) (t : Topic) (groups : List GroupState) (g : GroupState) → groups ≡ (view_of k).groups → is_group t groups ≡ true → g ≡ get_or groups t.0 g
    → (is_group t (view_of k).groups ≡ true) × (g ≡ group_in (view_of k) t)
group_read k t groups g are grouped is =
    let within = ltb-true t.0 (length groups) (and_parts (nat_lt t.0 (length groups)) ((get_or groups t.0 no_group).topic.topic.0 == t.0) grouped).0 in (
      sym (ap (is_group t) are) ∙ grouped,
      is ∙ (get_or_default groups t.0 g no_group within ∙ ap (λ (xs : List GroupState). get_or xs t.0 no_group) are),
    )

-- ---- a refused one

-- a connection that isn't there or is gone
pub propose_gone : (k : Core) (c : ℕ) (t : Topic) (o : Objection) (why : Refusal) → there_objection (slice_get (view_of k).endpoints c) ≡ Some o → refusal_of o ≡ Some why
    → Makes k (Event.Propose c t) (Outcome.Refused why) (view_of k)
propose_gone k c t o why stands is =
    let refused : move_refusal k.world (Move.Proposes c t true) ≡ Some o =
    ap (λ (r : Option Objection). option_or r None)
    (refusal_first (needs_connection k.world c) (propose_refusals k.world t (speaker k.world c).flight) o (sym (there_checked k c) ∙ stands)) in
    refused_step k (Event.Propose c t) why (Move.Proposes c t true) o refl refused
    (In-append_left (Outcome.Refused why) (move_outcome k (Move.Proposes c t true)) (move_outcome k (Move.Proposes c t false))
    (subst (λ (os : List Outcome). In (Outcome.Refused why) os) (sym (refused_outcome k (Move.Proposes c t true) o why refused is)) (inl refl))) refl

-- what the private call answers is what the checks do
propose_refusal_is : (k : Core) (c s : ℕ) (t : Topic) → IsReached k → there_objection (slice_get (view_of k).endpoints c) ≡ None → s ≡ speaker_at (view_of k) c
    → propose_refusal_in t s (view_of k) ≡ option_and_then refusal_of (first_refusal (propose_refusals k.world t (speaker k.world c).flight))
propose_refusal_is k c s t was free is =
    let x = speaker k.world c in let b = is_group t (view_of k).groups in
    ap (λ (y : SenderView). option_or (flight_refusal y.sending) (cond b (part_refusal t y.sending) (Some refusal.NotNamed))) (sender_of_endpoint k c s was (is_there k c free) (still_there k c free) is)
    ∙ propose_checked k.world t (speaker_number k.world c) x.seq x.floor x.flight b (group_there k t was)

-- a part that was taken out before isn't there to be taken
taken_kept : (t : Topic) (s seq : ℕ) (floor : Stamp) (o : Option Undecided) (why : Refusal)
    → Some why ≡ option_or (flight_refusal (sending_view s seq floor o)) (part_refusal t (sending_view s seq floor o))
    → taken_sending t (sending_view s seq floor o) ≡ sending_view s seq floor o
taken_kept t s seq floor None why e = refl
taken_kept t s seq floor (Some f) why e = go f.mark e
  where
    fl : FlightState
    fl = flight_view floor f

    named : (b h : Bool) → is_slot t fl.tickets ≡ b → has_ticket t f.given ≡ h
        → Some why ≡ cond (is_slot t fl.tickets) (cond (is_some (held_at t fl.parts)) None (Some refusal.Twice)) (Some refusal.NotNamed)
        → cond (is_slot t fl.tickets) (Sending.Flying (record fl { parts = with_slot t None fl.parts }) (topics_of f.txn.sends)) (Sending.Flying fl (topics_of f.txn.sends)) ≡ Sending.Flying fl (topics_of f.txn.sends)
    named false h slot given e = ap (λ (b : Bool). cond b (Sending.Flying (record fl { parts = with_slot t None fl.parts }) (topics_of f.txn.sends)) (Sending.Flying fl (topics_of f.txn.sends))) slot
    named true true slot given e =
        ap (λ (b : Bool). cond b (Sending.Flying (record fl { parts = with_slot t None fl.parts }) (topics_of f.txn.sends)) (Sending.Flying fl (topics_of f.txn.sends))) slot
        ∙ ap (λ (ps : Slots TopicPart). Sending.Flying (record fl { parts = ps }) (topics_of f.txn.sends))
        (slot_written (part_left f) (part_left f) t None (topics_of f.txn.sends) (ap (λ (h : Bool). cond h None (Some (part_at f.txn.id f.txn.sends t))) given) (λ u ne. refl))
    named true false slot given e =
        let is = sym (slot_topics (number_of f) t (topics_of f.txn.sends)) ∙ slot in let some : is_some (held_at t fl.parts) ≡ true = part_stands f t is ∙ ap not given in
        none_some why (sym (e ∙ (ap (λ (b : Bool). cond b (cond (is_some (held_at t fl.parts)) None (Some refusal.Twice)) (Some refusal.NotNamed)) slot
        ∙ ap (λ (b : Bool). cond b None (Some refusal.Twice)) some)))

    go : (m : Option ProposeFault) → Some why ≡ option_or (flight_refusal (undecided_view floor f m)) (part_refusal t (undecided_view floor f m))
        → taken_sending t (undecided_view floor f m) ≡ undecided_view floor f m
    go (Some fault) e = refl
    go None e = named (is_slot t fl.tickets) (has_ticket t f.given) refl refl e

-- nothing is changed then
unchanged : (k : Core) (c s : ℕ) (t : Topic) (why : Refusal) → IsReached k → there_objection (slice_get (view_of k).endpoints c) ≡ None → s ≡ speaker_at (view_of k) c
    → Some why ≡ propose_refusal_in t s (view_of k) → taken_view t s (view_of k) ≡ view_of k
unchanged k c s t why was free is refused = go (is_group t (view_of k).groups) refused
  where
    x : SenderState
    x = speaker k.world c

    n : ℕ
    n = speaker_number k.world c

    held : sender_in (view_of k) s ≡ sender_view n x
    held = sender_of_endpoint k c s was (is_there k c free) (still_there k c free) is

    go : (b : Bool) → Some why ≡ option_or (flight_refusal (sender_in (view_of k) s).sending) (cond b (part_refusal t (sender_in (view_of k) s).sending) (Some refusal.NotNamed))
        → cond b (record (view_of k) { senders = set (view_of k).senders s (taken_sender t (sender_in (view_of k) s)) }) (view_of k) ≡ view_of k
    go false e = refl
    go true e =
        let kept = taken_kept t n x.seq x.floor x.flight why (e ∙ ap (λ (y : SenderView). option_or (flight_refusal y.sending) (part_refusal t y.sending)) held) in
        let same : taken_sender t (sender_in (view_of k) s) ≡ sender_in (view_of k) s =
        ap (taken_sender t) held ∙ (ap (λ (z : Sending). record (sender_view n x) { sending = z }) kept ∙ sym held) in
        ap (λ (ys : List SenderView). record (view_of k) { senders = ys })
        (ap (λ (y : SenderView). set (view_of k).senders s y) same ∙ set-get_or (view_of k).senders s (no_sender s))

-- one that is refused
pub propose_refused : (k : Core) (c s : ℕ) (t : Topic) (why : Refusal) → IsReached k → there_objection (slice_get (view_of k).endpoints c) ≡ None → s ≡ speaker_at (view_of k) c
    → Some why ≡ propose_refusal_in t s (view_of k) → Makes k (Event.Propose c t) (Outcome.Refused why) (taken_view t s (view_of k))
propose_refused k c s t why was free is refused =
    let checks = propose_refusals k.world t (speaker k.world c).flight in let found = reported (first_refusal checks) why (refused ∙ propose_refusal_is k c s t was free is) in
    let moved : move_refusal k.world (Move.Proposes c t true) ≡ Some found.0 =
    ap (λ (r : Option Objection). option_or r None)
    (refusal_after (needs_connection k.world c) checks (sym (there_checked k c) ∙ free) ∙ found.1) in
    subst (λ (v : View). Makes k (Event.Propose c t) (Outcome.Refused why) v) (sym (unchanged k c s t why was free is refused))
    (refused_step k (Event.Propose c t) why (Move.Proposes c t true) found.0 refl moved
    (In-append_left (Outcome.Refused why) (move_outcome k (Move.Proposes c t true)) (move_outcome k (Move.Proposes c t false))
    (subst (λ (os : List Outcome). In (Outcome.Refused why) os) (sym (refused_outcome k (Move.Proposes c t true) found.0 why moved found.2)) (inl refl))) refl)

-- ---- the sender with its ticket, or marked

-- a proposal that passes its checks
pub record Proposes (k : Core) (c s : ℕ) (t : Topic) : Type 0 where
  pub was : IsReached k
  pub free : there_objection (slice_get (view_of k).endpoints c) ≡ None
  pub own : s ≡ speaker_at (view_of k) c
  pub can : Proposable k.world t (speaker k.world c).flight

-- the part that is proposed
abbrev pub proposed_part : Undecided → Topic → TopicPart
proposed_part f t = part_at f.txn.id f.txn.sends t

-- the flight without it
abbrev pub less : Stamp → Undecided → Topic → FlightState
less floor f t = record (flight_view floor f) { parts = with_slot t None (flight_view floor f).parts }

-- the sender's transaction without it
taken_is : (s : ℕ) (x : SenderState) (t : Topic) (f : Undecided) → x.flight ≡ Some f → f.mark ≡ None → names t (topics_of f.txn.sends) ≡ true
    → taken_sender t (sender_view s x) ≡ record (sender_view s x) { sending = Sending.Flying (less x.floor f t) (topics_of f.txn.sends) }
taken_is s x t f is unmarked named =
    let fl = flight_view x.floor f in
    ap (λ (z : Sending). taken_sender t (record (sender_view s x) { sending = z })) (flying_is s x f is unmarked)
    ∙ ap (λ (b : Bool). record (sender_view s x) { sending = cond b (Sending.Flying (less x.floor f t) (topics_of f.txn.sends)) (Sending.Flying fl (topics_of f.txn.sends)) })
    (slot_topics (number_of f) t (topics_of f.txn.sends) ∙ named)

-- the flight takes the ticket
answer_is : (floor : Stamp) (f : Undecided) (t : Topic) (x : TopicState) → names t (topics_of f.txn.sends) ≡ true → has_ticket t f.given ≡ false
    → flight_answer (less floor f t) (record { id = f.txn.id; topic = t; n = next_number floor x }) ≡ Ok tt
answer_is floor f t x named fresh =
    let ticket : Ticket = record { id = f.txn.id; topic = t; n = next_number floor x } in let tickets = (flight_view floor f).tickets in let above = le-max_right x.clock floor.n in
    ap (λ (b : Bool). over_floor floor ticket (cond b (slot_answer (slot_at t tickets)) (Err NotNamed))) (id_itself f.txn.id)
    ∙ (ap (λ (o : Option (Option ℕ)). over_floor floor ticket (slot_answer o))
    (slot_named (number_of f) t (topics_of f.txn.sends) named ∙ ap (λ (o : Option ℕ). Some o) (row_none_given t f.given fresh))
    ∙ ap (λ (b : Bool). cond b (Ok tt) (Err Rattle.sender_gate.specs.declared.fault.GateFault.TheVariants.BelowFloor)) (lt-ltb floor.n (next_number floor x) (omega (arith, above))))

-- it takes the ticket that its topic gives to the part that was taken out
takes_by : (t : Topic) (s seq : ℕ) (floor : Stamp) (y : TopicState) (part : TopicPart) (o : Option Undecided)
    → part_refusal t (sending_view s seq floor o) ≡ None → part_in t (sending_view s seq floor o) ≡ Some part
    → takes_ticket (record { id = part.id; topic = t; n = next_number floor y }) (taken_sending t (sending_view s seq floor o)) ≡ true
takes_by t s seq floor y part None e is = absurd (cc)
takes_by t s seq floor y part (Some f) e is = go f.mark e is
  where
    fl : FlightState
    fl = flight_view floor f

    ticket : TopicPart → Ticket
    ticket p = record { id = p.id; topic = t; n = next_number floor y }

    passes : (b h : Bool) → cond b (cond h None (Some refusal.Twice)) (Some refusal.NotNamed) ≡ None → (b ≡ true) × (h ≡ true)
    passes true true e = (refl, refl)
    passes true false e = absurd (cc)
    passes false h e = absurd (cc)

    ungiven : (b : Bool) → not b ≡ true → b ≡ false
    ungiven true e = absurd (cc)
    ungiven false e = refl

    go : (m : Option ProposeFault) → part_refusal t (undecided_view floor f m) ≡ None → part_in t (undecided_view floor f m) ≡ Some part
        → takes_ticket (ticket part) (taken_sending t (undecided_view floor f m)) ≡ true
    go (Some fault) e is = absurd (cc)
    go None e is =
        let both = passes (is_slot t fl.tickets) (is_some (held_at t fl.parts)) e in let named = sym (slot_topics (number_of f) t (topics_of f.txn.sends)) ∙ both.0 in
        let fresh : has_ticket t f.given ≡ false = ungiven (has_ticket t f.given) (sym (part_stands f t named) ∙ both.1) in
        let own : part_at f.txn.id f.txn.sends t ≡ part =
        some_same _ _ (sym (held_named (part_left f) t (topics_of f.txn.sends) named ∙ ap (λ (b : Bool). cond b None (Some (part_at f.txn.id f.txn.sends t))) fresh) ∙ is) in
        ap (λ (b : Bool). takes_ticket (ticket part) (cond b (Sending.Flying (less floor f t) (topics_of f.txn.sends)) (Sending.Flying fl (topics_of f.txn.sends)))) both.0
        ∙ (ap (λ (p : TopicPart). takes_ticket (ticket p) (Sending.Flying (less floor f t) (topics_of f.txn.sends))) (sym own)
        ∙ ap (λ (r : Result Unit Rattle.sender_gate.specs.declared.fault.GateFault.GateFault). is_ok r) (answer_is floor f t y named fresh))

floor_by : (s seq : ℕ) (floor : Stamp) (o : Option Undecided) → (gate_of (sending_view s seq floor o)).floor ≡ floor
floor_by s seq floor None = refl
floor_by s seq floor (Some f) = elim f.mark as (λ m. (gate_of (undecided_view floor f m)).floor ≡ floor) [ None ↦ refl | Some fault ↦ refl ]

-- a sender that has a part is in use
part_held : (k : Core) (s : ℕ) (t : Topic) (part : TopicPart) → IsReached k → s < length k.world.senders
    → part_in t (sender_in (view_of k) s).sending ≡ Some part → sender_in (view_of k) s ≡ sender_view s (sender_at k.world s)
part_held k s t part was there is = (elim (is_in_use k.world s) as (λ (b : Bool). is_in_use k.world s ≡ b → sender_in (view_of k) s ≡ sender_view s (sender_at k.world s)) [
  | true ↦ λ used. held_of k s there used
  | false ↦ λ unused. none_some part (sym (ap (λ (y : SenderView). part_in t y.sending) (sender_of k s there) ∙ ap (part_in t) (unused_rests k.world s (speaks_of k was) unused)) ∙ is)
]) refl

-- so in what is held
pub ticket_taken : (k : Core) (s : ℕ) (t : Topic) (part : TopicPart) → IsReached k → s < length k.world.senders → is_group t (view_of k).groups ≡ true
    → part_refusal t (sender_in (view_of k) s).sending ≡ None → part_in t (sender_in (view_of k) s).sending ≡ Some part
    → takes_ticket (ticket_in t s part (view_of k)) (taken_sender t (sender_in (view_of k) s)).sending ≡ true
ticket_taken k s t part was there grouped free is =
    let v = view_of k in let x = sender_at k.world s in let y = topic_at k.world t in let held = part_held k s t part was there is in
    let topic : is_topic k.world t ≡ true = sym (group_there k t was) ∙ grouped in let group = group_at k t no_group (ltb-true t.0 (length k.world.topics) topic) in
    let own = topic_own k t was in let floor = floor_by s x.seq x.floor x.flight in
    ap (λ (z : SenderView). takes_ticket (record { id = part.id; topic = (group_in v t).topic.topic; n = next_number (gate_of z.sending).floor (group_in v t).topic }) (taken_sender t z).sending) held
    ∙ (ap (λ (g : GroupState). takes_ticket (record { id = part.id; topic = g.topic.topic; n = next_number (gate_of (sender_view s x).sending).floor g.topic }) (taken_sender t (sender_view s x)).sending) group
    ∙ ((λ i. takes_ticket (record { id = part.id; topic = own i; n = next_number (floor i) y }) (taken_sender t (sender_view s x)).sending)
    ∙ takes_by t s x.seq x.floor y part x.flight (ap (λ (z : SenderView). part_refusal t z.sending) (sym held) ∙ free) (ap (λ (z : SenderView). part_in t z.sending) (sym held) ∙ is)))

-- the flight with it
flight_given : (floor : Stamp) (f : Undecided) (t : Topic) (n : ℕ) → has_ticket t f.given ≡ false
    → record (less floor f t) { tickets = with_slot t (Some n) (flight_view floor f).tickets }
    ≡ flight_view floor (record f { given = insert_ticket (record { n = n; topic = t }) f.given })
flight_given floor f t n fresh =
    let a : Stamp = record { n = n; topic = t } in let g : Undecided = record f { given = insert_ticket a f.given } in
    let own : has_ticket t g.given ≡ true = ticket_inserted a t f.given ∙ ap (λ (b : Bool). b || has_ticket t f.given) (eq-eqb t.0 t.0 refl) in
    let tickets = slot_written (number_of f) (number_of g) t (Some n) (topics_of f.txn.sends) (row_own a t f.given refl fresh) (λ u ne. sym (row_other a u f.given (λ z. ne (sym z)))) in
    let parts = slot_written (part_left f) (part_left g) t None (topics_of f.txn.sends) (ap (λ (b : Bool). cond b None (Some (proposed_part f t))) own)
    (λ u ne. ap (λ (b : Bool). cond b None (Some (proposed_part f u))) (sym (ticket_inserted a u f.given ∙ ap (λ (b : Bool). b || has_ticket u f.given) (differ t.0 u.0 (λ z. ne (sym z)))))) in
    λ i. record (flight_view floor f) { tickets = tickets i; parts = parts i }

-- the sender once its transaction has the ticket
put_is : (s : ℕ) (x : SenderState) (t : Topic) (f : Undecided) (y : TopicState) → x.flight ≡ Some f → f.mark ≡ None → names t (topics_of f.txn.sends) ≡ true → has_ticket t f.given ≡ false
    → put_sender (record { id = f.txn.id; topic = t; n = next_number x.floor y }) (taken_sender t (sender_view s x))
    ≡ sender_view s (record x { flight = Some (record f { mark = None; given = insert_ticket (record { n = next_number x.floor y; topic = t }) f.given }) })
put_is s x t f y is unmarked named fresh =
    let ticket : Ticket = record { id = f.txn.id; topic = t; n = next_number x.floor y } in let fl = less x.floor f t in
    ap (put_sender ticket) (taken_is s x t f is unmarked named)
    ∙ (ap (λ (r : Result Unit Rattle.sender_gate.specs.declared.fault.GateFault.GateFault). record (sender_view s x) {
      sending = cond (is_ok r) (Sending.Flying (record fl { tickets = with_slot t (Some ticket.n) fl.tickets }) (topics_of f.txn.sends)) (Sending.Flying fl (topics_of f.txn.sends));
    }) (answer_is x.floor f t y named fresh)
    ∙ ap (λ (z : FlightState). record (sender_view s x) { sending = Sending.Flying z (topics_of f.txn.sends) }) (flight_given x.floor f t ticket.n fresh))

-- the sender once its transaction is marked
marked_is : (k : Core) (s : ℕ) (t : Topic) (f : Undecided) (fault : ProposeFault) → IsReached k → (sender_at k.world s).flight ≡ Some f → f.mark ≡ None → names t (topics_of f.txn.sends) ≡ true
    → failed_sender fault (taken_sender t (sender_view s (sender_at k.world s))) ≡ sender_view s (record (sender_at k.world s) { flight = Some (record f { mark = Some fault }) })
marked_is k s t f fault was is unmarked named =
    let x = sender_at k.world s in
    ap (failed_sender fault) (taken_is s x t f is unmarked named)
    ∙ ap (λ (rows : List Stamp). record (sender_view s x) { sending = Sending.Marked (record { sender = f.txn.id.sender; seq = f.txn.id.seq; floor = x.floor }) (map (ticket_of f.txn.id) rows) fault })
    (tickets_are k s f was is)

-- ---- what is held

-- a step that reads, writes and begins nothing
quiet_proposal : (names : List (List ℕ)) (c : ℕ) (t : Topic) (o : Outcome) (older : List CoreStep)
    → ((d : ℕ) → accepted_of d (step_of (Event.Propose c t) Reading.Nothing o ∷ older) ≡ accepted_of d older)
    → ((d : ℕ) → text_out names d (step_of (Event.Propose c t) Reading.Nothing o ∷ older) ≡ text_out names d older)
    → ((s : ℕ) → subscribe_frame s (step_of (Event.Propose c t) Reading.Nothing o ∷ older) ≡ subscribe_frame s older)
    → IsQuiet names (step_of (Event.Propose c t) Reading.Nothing o) older
quiet_proposal names c t o older accepted text began =
    record { accepted = accepted; unread = λ d. refl; text = text; began = began; named = none_named (names_after names older) (has_effect o) }

proposed_quiet : (names : List (List ℕ)) (c : ℕ) (t : Topic) (n : ℕ) (older : List CoreStep) → IsQuiet names (step_of (Event.Propose c t) Reading.Nothing (Outcome.Proposed n)) older
proposed_quiet names c t n older =
    quiet_proposal names c t (Outcome.Proposed n) older (λ d. append-nil (accepted_of d older)) (λ d. append-nil (text_out names d older)) (λ s. refl)

failed_quiet : (names : List (List ℕ)) (c : ℕ) (t : Topic) (fault : ProposeFault) (older : List CoreStep) → IsQuiet names (step_of (Event.Propose c t) Reading.Nothing (Outcome.Failed fault)) older
failed_quiet names c t fault older =
    quiet_proposal names c t (Outcome.Failed fault) older (λ d. append-nil (accepted_of d older)) (λ d. append-nil (text_out names d older)) (λ s. refl)

-- the move isn't refused
proposes_free : (k : Core) (c s : ℕ) (t : Topic) (memory : Bool) → Proposes k c s t → move_refusal k.world (Move.Proposes c t memory) ≡ None
proposes_free k c s t memory h =
    ap (λ (r : Option Objection). option_or r None)
    (refusal_after (needs_connection k.world c) (propose_refusals k.world t (speaker k.world c).flight) (sym (there_checked k c) ∙ h.free) ∙ h.can.passes)

-- the topic's group is that of the world's topic
group_is : (k : Core) (c s : ℕ) (t : Topic) → Proposes k c s t → group_in (view_of k) t ≡ group_view k.world (topic_at k.world t)
group_is k c s t h = group_at k t no_group (ltb-true t.0 (length k.world.topics) h.can.topic)

-- the sender's floor
floor_is : (k : Core) (c s : ℕ) (t : Topic) → Proposes k c s t → floor_in (view_of k) s ≡ (speaker k.world c).floor
floor_is k c s t h =
    let n = speaker_number k.world c in let x = speaker k.world c in
    ap (λ (y : SenderView). (gate_of y.sending).floor) (sender_of_endpoint k c s h.was (is_there k c h.free) (still_there k c h.free) h.own)
    ∙ ap (λ (z : Sending). (gate_of z).floor) (flying_is n x h.can.flight h.can.is h.can.unmarked)

-- the part that the private call takes out
pub part_is : (k : Core) (c s : ℕ) (t : Topic) (h : Proposes k c s t) → part_in t (sender_in (view_of k) s).sending ≡ Some (proposed_part h.can.flight t)
part_is k c s t h =
    let n = speaker_number k.world c in let x = speaker k.world c in let f = h.can.flight in
    ap (λ (y : SenderView). part_in t y.sending) (sender_of_endpoint k c s h.was (is_there k c h.free) (still_there k c h.free) h.own)
    ∙ (ap (part_in t) (flying_is n x f h.can.is h.can.unmarked)
    ∙ (held_named (part_left f) t (topics_of f.txn.sends) h.can.named ∙ ap (λ (b : Bool). cond b None (Some (proposed_part f t))) h.can.fresh))

-- what is asked of a proposal that isn't refused
pub proposes : (k : Core) (c s : ℕ) (t : Topic) → IsReached k → there_objection (slice_get (view_of k).endpoints c) ≡ None → s ≡ speaker_at (view_of k) c
    → None ≡ propose_refusal_in t s (view_of k) → Proposes k c s t
proposes k c s t was free own allowed = record {
  was = was;
  free = free;
  own = own;
  can = proposable k.world t (speaker k.world c).flight (sym (allowed ∙ propose_refusal_is k c s t was free own));
}

-- the same sender with this undecided transaction
abbrev pub with_flight : SenderState → Undecided → SenderState
with_flight x f = record x { flight = Some f }

-- a sender that has another undecided transaction, in what is held
with_flight_quiet : (k : Core) (c s : ℕ) (t : Topic) (h : Proposes k c s t) (f : Undecided)
    → record (view_of k) { senders = set (view_of k).senders (speaker_number k.world c) (sender_view (speaker_number k.world c) (with_flight (speaker k.world c) f)) }
    ≡ view_after k.names (with_sender k.world (speaker_number k.world c) (with_flight (speaker k.world c) f)) k.steps
with_flight_quiet k c s t h f =
    sender_quiet k c (with_flight (speaker k.world c) f) h.was (is_there k c h.free) (flying_speaking k c h.can.flight h.free h.can.is) refl (λ accepted. sym (ap (λ (o : Option Undecided). pending_receipt accepted o) h.can.is))
    (λ n. accepted_of n k.steps) (λ n. unread_at n k.steps) (λ n. text_out k.names n k.steps) (λ n. subscribe_frame n k.steps)

-- ---- a ticket

-- the world with the ticket of this undecided transaction
abbrev pub ticketed : World → ℕ → Topic → Undecided → World
ticketed w c t f =
    with_topic (with_sender w (speaker_number w c) (with_flight (speaker w c) (record f { given = insert_ticket (next_ticket w c t) f.given }))) t
    (after_propose (speaker w c).floor (proposed_part f t) (topic_at w t))

proposed_whole : (k : Core) (c s : ℕ) (t : Topic) (h : Proposes k c s t)
    → proposed_view t s (proposed_part h.can.flight t) (view_of k) ≡ view_after k.names (ticketed k.world c t h.can.flight) k.steps
proposed_whole k c s t h =
    let w = k.world in let v = view_of k in let f = h.can.flight in let x = speaker w c in let n = speaker_number w c in let part = proposed_part f t in let y = topic_at w t in
    let z = after_propose x.floor part y in let there = is_there k c h.free in let group = group_is k c s t h in let floor = floor_is k c s t h in let own = topic_own k t h.was in
    let groups : set v.groups t.0 (record (group_in v t) { topic = after_propose (floor_in v s) part (group_in v t).topic }) ≡ set v.groups t.0 (group_view w z) =
    ap (λ (a : Stamp). set v.groups t.0 (record (group_in v t) { topic = after_propose a part (group_in v t).topic })) floor
    ∙ ap (λ (g : GroupState). set v.groups t.0 (record g { topic = after_propose x.floor part g.topic })) group in
    let ticket : ticket_in t s part v ≡ record { id = f.txn.id; topic = t; n = next_number x.floor y } =
    ap (λ (a : Stamp). record { id = f.txn.id; topic = (group_in v t).topic.topic; n = next_number a (group_in v t).topic }) floor
    ∙ (ap (λ (g : GroupState). record { id = f.txn.id; topic = g.topic.topic; n = next_number x.floor g.topic }) group
    ∙ ap (λ (u : Topic). record { id = f.txn.id; topic = u; n = next_number x.floor y }) own) in
    let new = with_flight x (record f { given = insert_ticket (next_ticket w c t) f.given }) in
    let senders : set v.senders s (put_sender (ticket_in t s part v) (taken_sender t (sender_in v s))) ≡ set v.senders n (sender_view n new) =
    ap (λ (a : Ticket). set v.senders s (put_sender a (taken_sender t (sender_in v s)))) ticket
    ∙ (ap (λ (u : SenderView). set v.senders s (put_sender (record { id = f.txn.id; topic = t; n = next_number x.floor y }) (taken_sender t u))) (sender_of_endpoint k c s h.was there (still_there k c h.free) h.own)
    ∙ (ap (λ (u : SenderView). set v.senders s u) (put_is n x t f y h.can.is h.can.unmarked h.can.named h.can.fresh)
    ∙ (ap (λ (m : Option ProposeFault). set v.senders s (sender_view n (with_flight x (record f { mark = m; given = insert_ticket (next_ticket w c t) f.given })))) (sym h.can.unmarked)
    ∙ ap (λ (m : ℕ). set v.senders m (sender_view n new)) (h.own ∙ speaker_of k c there)))) in
    (λ i. record v { groups = groups i; senders = senders i })
    ∙ (ap (λ (u : View). record u { groups = set u.groups t.0 (group_view w z) }) (with_flight_quiet k c s t h (record f { given = insert_ticket (next_ticket w c t) f.given }))
    ∙ topic_quiet (names_at k) (with_sender w n new) t z (λ m. accepted_of m k.steps) (λ m. unread_at m k.steps) (λ m. text_out k.names m k.steps) (λ m. subscribe_frame m k.steps))

-- what the topic answers is what it answers in the world
fault_is : (k : Core) (c s : ℕ) (t : Topic) (h : Proposes k c s t) → propose_fault (floor_in (view_of k) s) (proposed_part h.can.flight t) (group_in (view_of k) t).topic
    ≡ propose_fault (speaker k.world c).floor (proposed_part (undecided_at k.world c) t) (topic_at k.world t)
fault_is k c s t h =
    let part = proposed_part h.can.flight t in
    ap (λ (a : Stamp). propose_fault a part (group_in (view_of k) t).topic) (floor_is k c s t h)
    ∙ (ap (λ (g : GroupState). propose_fault (speaker k.world c).floor part g.topic) (group_is k c s t h)
    ∙ ap (λ (o : Option Undecided). propose_fault (speaker k.world c).floor (proposed_part (undecided_or_none o) t) (topic_at k.world t)) (sym h.can.is))

-- the topic gives a ticket
pub propose_made : (k : Core) (c s : ℕ) (t : Topic) (n : ℕ) (new : View) (h : Proposes k c s t)
    → IsProposed t s (proposed_part h.can.flight t) (Ok n) (view_of k) new → Makes k (Event.Propose c t) (Outcome.Proposed n) new
propose_made k c s t n new h made =
    let w = k.world in let move = Move.Proposes c t true in let free = proposes_free k c s t true h in
    let none : proposal_fault w c t true ≡ None = ap (or_out_of_memory true) (sym (fault_is k c s t h) ∙ made.0) in
    let number : (next_ticket w c t).n ≡ n =
    sym (made.1 ∙ (ap (λ (a : Stamp). next_number a (group_in (view_of k) t).topic) (floor_is k c s t h)
    ∙ ap (λ (g : GroupState). next_number (speaker w c).floor g.topic) (group_is k c s t h))) in
    let answer = made_answer w move free ∙ ap (propose_answer w c t) none in
    let outcome = answered_outcome k move (Answer.Ticket (undecided_at w c).txn.id (next_ticket w c t)) (Outcome.Proposed n) answer (ap (λ (m : ℕ). Some (Outcome.Proposed m)) number) in
    let world = made_world w move free ∙ (ap (propose_effect w c t) none ∙ ap (λ (o : Option Undecided). ticketed w c t (undecided_or_none o)) h.can.is) in
    quiet_makes k (Event.Propose c t) (Outcome.Proposed n) (ticketed w c t h.can.flight) (proposed_quiet k.names c t n k.steps) refl
    (In-append_left (Outcome.Proposed n) (move_outcome k move) (move_outcome k (Move.Proposes c t false))
    (subst (λ (os : List Outcome). In (Outcome.Proposed n) os) (sym outcome) (inl refl))) world (made.2 ∙ proposed_whole k c s t h)

-- ---- none

-- the world where this undecided transaction is marked
abbrev pub marked : World → ℕ → ProposeFault → Undecided → World
marked w c fault f = with_sender w (speaker_number w c) (with_flight (speaker w c) (record f { mark = Some fault }))

failed_whole : (k : Core) (c s : ℕ) (t : Topic) (fault : ProposeFault) (h : Proposes k c s t)
    → failed_view t s fault (view_of k) ≡ view_after k.names (marked k.world c fault h.can.flight) k.steps
failed_whole k c s t fault h =
    let v = view_of k in let f = h.can.flight in let n = speaker_number k.world c in let there = is_there k c h.free in
    let new = with_flight (speaker k.world c) (record f { mark = Some fault }) in
    let senders : set v.senders s (failed_sender fault (taken_sender t (sender_in v s))) ≡ set v.senders n (sender_view n new) =
    ap (λ (u : SenderView). set v.senders s (failed_sender fault (taken_sender t u))) (sender_of_endpoint k c s h.was there (still_there k c h.free) h.own)
    ∙ (ap (λ (u : SenderView). set v.senders s u) (marked_is k n t f fault h.was h.can.is h.can.unmarked h.can.named)
    ∙ ap (λ (m : ℕ). set v.senders m (sender_view n new)) (h.own ∙ speaker_of k c there)) in
    ap (λ (ys : List SenderView). record v { senders = ys }) senders ∙ with_flight_quiet k c s t h (record f { mark = Some fault })

-- with the memory that the outcome says there was, the fault is the one that was reported
fault_by : (fault : ProposeFault) (o : Option ProposeFault) → fault ≡ or_no_memory o → or_out_of_memory (not (is_out_of_memory (Outcome.Failed fault))) o ≡ Some fault
fault_by fault None is = ap (λ (z : ProposeFault). or_out_of_memory (not (is_out_of_memory (Outcome.Failed z))) None) is ∙ ap (λ (z : ProposeFault). Some z) (sym is)
fault_by fault (Some why) is = ap (λ (z : ProposeFault). Some z) (sym is)

-- an outcome with memory or without may come
in_either : (k : Core) (c : ℕ) (t : Topic) (o : Outcome) (memory : Bool) → In o (move_outcome k (Move.Proposes c t memory)) → In o (outcomes k (Event.Propose c t) Reading.Nothing)
in_either k c t o true here = In-append_left o (move_outcome k (Move.Proposes c t true)) (move_outcome k (Move.Proposes c t false)) here
in_either k c t o false here = right (move_outcome k (Move.Proposes c t true)) here
  where
    right : (os : List Outcome) → In o (move_outcome k (Move.Proposes c t false)) → In o (os ++ move_outcome k (Move.Proposes c t false))
    right [] here = here
    right (p ∷ os) here = inr (right os here)

-- the topic gives none, and the transaction is marked
pub propose_failed : (k : Core) (c s : ℕ) (t : Topic) (fault : ProposeFault) (new : View) (h : Proposes k c s t)
    → IsProposed t s (proposed_part h.can.flight t) (Err fault) (view_of k) new → Makes k (Event.Propose c t) (Outcome.Failed fault) new
propose_failed k c s t fault new h made =
    let w = k.world in let memory = not (is_out_of_memory (Outcome.Failed fault)) in let move = Move.Proposes c t memory in let free = proposes_free k c s t memory h in
    let some : proposal_fault w c t memory ≡ Some fault = fault_by fault _ (made.0 ∙ ap or_no_memory (fault_is k c s t h)) in
    let answer = made_answer w move free ∙ ap (propose_answer w c t) some in
    let outcome = answered_outcome k move (Answer.Failed (undecided_at w c).txn.id fault) (Outcome.Failed fault) answer refl in
    let world = made_world w move free ∙ (ap (propose_effect w c t) some ∙ ap (λ (o : Option Undecided). marked w c fault (undecided_or_none o)) h.can.is) in
    quiet_makes k (Event.Propose c t) (Outcome.Failed fault) (marked w c fault h.can.flight) (failed_quiet k.names c t fault k.steps) refl
    (in_either k c t (Outcome.Failed fault) memory (subst (λ (os : List Outcome). In (Outcome.Failed fault) os) (sym outcome) (inl refl))) world
    (made.1 ∙ failed_whole k c s t fault h)
