-- What each step of the core makes of it: a refusal nothing, a ticket, a stamp, an item, the end of a span.
use Rattle.delivery.proofs.Words.All.{◌≡◌, ◌≢◌, ℕ, zero, suc, ◌+◌, ◌<◌, ◌≤◌, ◌==◌, ◌||◌, Bool, true, false, cond, ◌⊎◌, inl, inr, List, [], ◌∷◌, ◌++◌, map, length, get_or, set, Option, Some, None, refl, sym, ap, subst, ◌∙◌, arith, slice_get, list_all, option_map, option_to_list, unwrap_or, true≢false, false≢true, and_parts, ltb-true, not-false, cases_lt, get_or_past, length_push, Topic, TxnId, SentMessage, Stamp, greatest, part_at, row_at, ticket_rows, In, Item, topics_of, names, ProposeFault, Entry, TopicState, new_topic, after_propose, at_set, at_set_within, some_same, none_some, Objection, refusal_of, World, Undecided, SenderState, Connection, Subscription, nobody, no_subscription, new_sender, topic_at, sender_at, connection_at, speaker, subscription_at, entry_at, start, speaker_number, accepted_at, end_at, log_at, Move, Answer, world_after, answer_to, move_refusal, undecided_or_none, undecided_at, has_ticket, insert_ticket, is_complete, next_ticket, proposal_fault, propose_effect, propose_answer, decide_effect, take_effect, commit_effect, close_effect_of, IsAnswer, Run, final_world, answers_of, move_topic, EndsBeforeRow, delivered_items, Event, Outcome, Refusal, Reading, has_effect, is_cut, Core, core_of, core_after, is_faulted, is_no_memory, outcome_of, cut_of, event_topic, GivesTicket, GivesStamp, DeliversNext, LagsFull, IsNewTopic, IsReached}
use Rattle.std.specs.List.{find}
use Rattle.delivery.specs.Machine.Moves.Move.{AddsTopic, Opens, Connects, Commits, Subscribes, Unsubscribes, Disconnects, Errs, Lost, Leaves, Proposes, Decides, Withdraws, Cancels, Learns, Releases, Turns, Takes}
use Rattle.delivery.specs.Core.Stepped
use Rattle.delivery.proofs.Words.Steps.{topic_in, by_refusal, checked, in_flight, asks_of, Asks, events_are_answered, kept_number, longer, run_append, at_push_two}
use Rattle.delivery.proofs.Theorem.StepLaws.{refusals_change_nothing, others_untouched, ticket_is_own}
use Rattle.delivery.proofs.Theorem.EndsAreAnswered.{ends_are_told}
use Rattle.delivery.proofs.Theorem.LagsEndBeforeRow.{lags_end_before_row}
use Rattle.delivery.proofs.Theorem.RowsEnter.{AllEnter, Enters, rows_enter}
use Rattle.delivery.proofs.Theorem.SpansAsAnswered.{known, ends_stay, spans_end_as_told}
use Rattle.delivery.proofs.Theorem.HandedIsPrefix.{handing}
use Rattle.delivery.proofs.Words.Changes.{refusal_some, core_stands, machine_run, world_of, by_world}
use Rattle.delivery.proofs.Core.AtNext.{at_next}
use Rattle.delivery.proofs.Core.MoveOfStep.{IsMoveOf, is_of_frame, is_plain, world_then, with_topic, Comes, remembered, comes}
use Rattle.delivery.proofs.Core.Counts.{adds_none, step_adds_none, topics_counted}
use Rattle.delivery.proofs.Views.Senders.TicketsOfTopics.{given, tickets_are}

-- ---- outcomes and answers

-- what isn't cut was so before a cut
uncut : (b o : Outcome) → is_cut o ≡ false → (b ≡ o) ⊎ (cut_of b ≡ o) → b ≡ o
uncut b o whole (inl e) = e
uncut (Outcome.Decided stamp cut) o whole (inr e) = absurd (true≢false (ap is_cut e ∙ whole))
uncut (Outcome.Withdrawn cut) o whole (inr e) = absurd (true≢false (ap is_cut e ∙ whole))
uncut (Outcome.Gone cut) o whole (inr e) = absurd (true≢false (ap is_cut e ∙ whole))
uncut b o whole (inr e) = e

-- an end of a span is the same when it is cut
end_cut : (o : Outcome) (b : Outcome) (s : ℕ) (to : Stamp) → b ≡ Outcome.Unsubscribed s to → (b ≡ o) ⊎ (cut_of b ≡ o) → o ≡ Outcome.Unsubscribed s to
end_cut o b s to is (inl e) = sym e ∙ is
end_cut o b s to is (inr e) = sym e ∙ ap cut_of is

-- a decision is one before it is cut
uncut_stamp : (b : Outcome) (stamp : Stamp) (cut : Bool) → (b ≡ Outcome.Decided stamp cut) ⊎ (cut_of b ≡ Outcome.Decided stamp cut) → (was : Bool) × (b ≡ Outcome.Decided stamp was)
uncut_stamp b stamp cut (inl e) = (cut, e)
uncut_stamp (Outcome.Decided other was) stamp cut (inr e) = (was, (let same : other ≡ stamp = cc in ap (λ z. Outcome.Decided z was) same))
uncut_stamp (Outcome.Withdrawn was) stamp cut (inr e) = cc
uncut_stamp (Outcome.Gone was) stamp cut (inr e) = cc
uncut_stamp b stamp cut (inr e) = (cut, e)

-- a refusal is the machine's
outcome_refused : (a : Answer) (why : Refusal) → outcome_of a ≡ Some (Outcome.Refused why) → (x : Objection) × (a ≡ Answer.Refused x)
outcome_refused (Answer.Refused x) why e = (x, refl)
outcome_refused a why e = cc

-- a ticket's number is that of a ticket
outcome_ticket : (a : Answer) (n : ℕ) → outcome_of a ≡ Some (Outcome.Proposed n) → (id : TxnId) × (ticket : Stamp) × (a ≡ Answer.Ticket id ticket) × (ticket.n ≡ n)
outcome_ticket (Answer.Ticket id ticket) n e = (id, ticket, refl, cc)
outcome_ticket (Answer.Refused x) n e = let r = refusal_some (refusal_of x) (Outcome.Proposed n) e in let d = r.is in cc
outcome_ticket a n e = cc

-- a decision's stamp is that of a decision
outcome_stamp : (a : Answer) (stamp : Stamp) (cut : Bool) → outcome_of a ≡ Some (Outcome.Decided stamp cut) → (id : TxnId) × (a ≡ Answer.Decided id stamp)
outcome_stamp (Answer.Decided id given) stamp cut e = (id, (let same : given ≡ stamp = cc in ap (Answer.Decided id) same))
outcome_stamp (Answer.Refused x) stamp cut e = let r = refusal_some (refusal_of x) (Outcome.Decided stamp cut) e in let d = r.is in cc
outcome_stamp a stamp cut e = cc

-- a count is that of an item's SENDs
outcome_item : (a : Answer) (count : ℕ) → outcome_of a ≡ Some (Outcome.Handed count) → (s : ℕ) × (item : Item) × (a ≡ Answer.Handed s item) × (length item.sends ≡ count)
outcome_item (Answer.Handed s item) count e = (s, item, refl, cc)
outcome_item (Answer.Refused x) count e = let r = refusal_some (refusal_of x) (Outcome.Handed count) e in let d = r.is in cc
outcome_item a count e = cc

-- ---- events of moves

-- the event of a move that is no frame's
abbrev event_of : Move → Option Event
event_of Opens = Some Event.Open
event_of (Proposes c t memory) = Some (Event.Propose c t)
event_of (Decides c) = Some (Event.Decide c)
event_of (Withdraws c) = Some (Event.Withdraw c)
event_of (Cancels c t) = Some (Event.Cancel c t)
event_of (Learns t id) = Some (Event.Learn t id)
event_of (Releases t) = Some (Event.Release t)
event_of (Turns t) = Some (Event.Turn t)
event_of (Takes s) = Some (Event.Take s)
event_of (Leaves c) = Some (Event.Leave c)
event_of (Lost c) = Some (Event.Lost c)
event_of mv = None

event_is : (e x : Event) (mv m : Move) → is_of_frame m ≡ false → event_of m ≡ Some x → IsMoveOf e mv → mv ≡ m → e ≡ x
event_is (Event.Next c) x mv m rests of own is = absurd (false≢true (sym rests ∙ (sym (ap is_of_frame is) ∙ own)))
event_is (Event.Piece c octets) x mv m rests of own is = absurd own
event_is (Event.Propose c t) x mv m rests of (memory, own) is = some_same _ x (ap event_of (sym own ∙ is) ∙ of)
event_is e x mv m rests of own is = some_same _ x (ap event_of (sym own ∙ is) ∙ of)

-- ---- an answer's outcome

-- the step is a move, and its outcome that of the answer
record IsAnswered (k : Core) (e : Event) (rd : Reading) (o : Outcome) : Type 0 where
  move : Move
  own : IsMoveOf e move
  world : world_then k e rd o ≡ world_after k.world move
  is : outcome_of (answer_to k.world move) ≡ Some o

-- the outcome is no ERROR, isn't cut, and isn't what a frame does
abbrev IsWhole : Outcome → Type 0
IsWhole o = (is_faulted o ≡ false) × (is_cut o ≡ false) × (has_effect o ≡ false)

-- such an outcome is of nothing done, or an answer's
answered : (k : Core) (e : Event) (rd : Reading) (o : Outcome) → IsWhole o → Comes k e rd o → ((world_then k e rd o ≡ k.world) × (is_plain o ≡ true)) ⊎ IsAnswered k e rd o
answered k e rd o whole (inl h) = inl h
answered k e rd o whole (inr (inl h)) = absurd (false≢true (sym whole.0 ∙ h.faulted))
answered k e rd o whole (inr (inr (inl h))) = inr (record { move = h.move; own = h.own; world = h.world; is = h.is ∙ ap (λ (z : Outcome). Some z) (uncut h.base o whole.1 h.cut) })
answered k e rd o whole (inr (inr (inr (inl h)))) = absurd (false≢true (sym whole.1 ∙ h.was_cut))
answered k e rd o whole (inr (inr (inr (inr h)))) = absurd (false≢true (sym whole.2 ∙ h.effect))

-- and an answer's where it is none of those of nothing done
by_answer_alone : (k : Core) (e : Event) (rd : Reading) (o : Outcome) → is_plain o ≡ false → IsWhole o → Comes k e rd o → IsAnswered k e rd o
by_answer_alone k e rd o full whole came = elim (answered k e rd o whole came) [ inl h ↦ absurd (false≢true (sym full ∙ h.1)) | inr h ↦ h ]

-- ---- what is refused

still : (w : World) (mv : Move) (why : Refusal) → outcome_of (answer_to w mv) ≡ Some (Outcome.Refused why) → world_after w mv ≡ w
still w mv why e = let a = outcome_refused (answer_to w mv) why e in refusals_change_nothing w mv a.0 a.1

refused_stays : (k : Core) (e : Event) (rd : Reading) (o : Outcome) (why : Refusal) → Comes k e rd o → o ≡ Outcome.Refused why → world_then k e rd o ≡ k.world
refused_stays k e rd o why came is = elim (answered k e rd o (subst IsWhole (sym is) (refl, refl, refl)) came) [
  | inl h ↦ h.0
  | inr h ↦ h.world ∙ still k.world h.move why (h.is ∙ ap (λ (z : Outcome). Some z) is)
]

unremembered_stays : (k : Core) (e : Event) (rd : Reading) (o : Outcome) → Comes k e rd o → o ≡ Outcome.NoMemory → world_then k e rd o ≡ k.world
unremembered_stays k e rd o came is = elim (answered k e rd o (subst IsWhole (sym is) (refl, refl, refl)) came) [
  | inl h ↦ h.0
  | inr h ↦ absurd (true≢false (sym (ap is_no_memory is) ∙ remembered (answer_to k.world h.move) o h.is))
]

-- ---- other topics

-- the topic of a frame's move is the same once its topic is made
same_topic : (w : World) (mv : Move) → is_of_frame mv ≡ true → move_topic (with_topic w) mv ≡ move_topic w mv
same_topic w (Commits c sends) own = refl
same_topic w (Subscribes c t) own = refl
same_topic w (Unsubscribes c s) own = refl
same_topic w (Disconnects c) own = refl
same_topic w (Connects c claimed) own = refl
same_topic w _ own = absurd (false≢true own)

-- a move that is about no topic changes none
others_stay : (k : Core) (e : Event) (rd : Reading) (o : Outcome) (t : Topic) → t.0 < length k.world.topics → event_topic k e rd ≢ Some t → Comes k e rd o
    → topic_at (world_then k e rd o) t ≡ topic_at k.world t
others_stay k e rd o t l ne (inl h) = ap (λ (w : World). topic_at w t) h.0
others_stay k e rd o t l ne (inr (inl h)) = ap (λ (w : World). topic_at w t) h.world ∙ others_untouched k.world (Errs h.connection) t l (λ d. none_some t d)
others_stay k e rd o t l ne (inr (inr (inl h))) = ap (λ (w : World). topic_at w t) h.world ∙ others_untouched k.world h.move t l (λ d. ne (sym h.topic ∙ d))
others_stay k e rd o t l ne (inr (inr (inr (inl h)))) =
    let w = k.world in let c = h.connection in
    let first : (world_after w (Decides c)).topics ≡ w.topics = by_refusal (λ v a. v.topics ≡ w.topics) w (Decides c) (λ why. refl) (λ n. refl) in
    let second : (world_after (world_after w (Decides c)) (Lost c)).topics ≡ (world_after w (Decides c)).topics =
    by_refusal (λ v a. v.topics ≡ (world_after w (Decides c)).topics) (world_after w (Decides c)) (Lost c) (λ why. refl) (λ n. refl) in
    ap (λ (z : World). topic_at z t) h.world ∙ ap (λ z. topic_in z t) (second ∙ first)
others_stay k e rd o t l ne (inr (inr (inr (inr h)))) =
    let w = k.world in let first : topic_at (with_topic w) t ≡ topic_at w t = others_untouched w (AddsTopic 0) t l (λ d. none_some t d) in
    let there : t.0 < length (with_topic w).topics = (let n = length_push w.topics (new_topic (record { 0 = length w.topics }) w.log_limit 0) in omega (arith, n, l)) in
    elim h.then [
      | inl (is, plain) ↦ ap (λ (z : World). topic_at z t) is ∙ first
      | inr (mv, own, topic, is, came) ↦
          ap (λ (z : World). topic_at z t) is
          ∙ (others_untouched (with_topic w) mv t there (λ d. ne (sym topic ∙ (sym (same_topic w mv own) ∙ d))) ∙ first)
    ]

-- ---- tickets

flight_there : (xs : List SenderState) (s : ℕ) (f : Undecided) → (get_or xs s new_sender).flight ≡ Some f → s < length xs
flight_there [] s f e = none_some f e
flight_there (x ∷ xs) zero f e = omega arith
flight_there (x ∷ xs) (suc s) f e = let l = flight_there xs s f e in omega arith

ticket_given : (w : World) (c : ℕ) (t : Topic) (m : Bool) (id : TxnId) (ticket : Stamp) (n : ℕ) (fault : Option ProposeFault) → Asks w c t → ticket.n ≡ n
    → propose_answer w c t fault ≡ Answer.Ticket id ticket → GivesTicket w (propose_effect w c t fault) c t n
ticket_given w c t m id ticket n (Some fault) asks number a = cc
ticket_given w c t m id ticket n None asks number a =
    let f = undecided_at w c in let s = speaker_number w c in let same : next_ticket w c t ≡ ticket = cc in
    let is : (next_ticket w c t).n ≡ n = ap (λ (z : Stamp). z.n) same ∙ number in let x = after_propose (speaker w c).floor (part_at f.txn.id f.txn.sends t) (topic_at w t) in
    let y : SenderState = record (speaker w c) { flight = Some (record f { given = insert_ticket (next_ticket w c t) f.given }) } in
    let room : s < length w.senders = flight_there w.senders s asks.flying.flight asks.flying.is in record {
      named = asks.named;
      number = sym is;
      clock = at_set_within (λ (z : TopicState). z.clock ≡ n) w.topics t.0 t.0 x (new_topic t 0 0) asks.room (λ k. is) (λ ne. absurd (ne refl));
      given = subst (λ q. (undecided_or_none (get_or (set w.senders s y) q new_sender).flight).given ≡ insert_ticket (record { n = n; topic = t }) f.given) (sym (kept_number w c s y))
          (at_set_within (λ (z : SenderState). (undecided_or_none z.flight).given ≡ insert_ticket (record { n = n; topic = t }) f.given) w.senders s s y new_sender room
          (λ k. ap (λ (q : ℕ). insert_ticket (record { n = q; topic = t }) f.given) is) (λ ne. absurd (ne refl)));
    }

ticket_after : (w : World) (c : ℕ) (t : Topic) (m : Bool) (id : TxnId) (ticket : Stamp) (n : ℕ) → ticket.n ≡ n → answer_to w (Proposes c t m) ≡ Answer.Ticket id ticket
    → GivesTicket w (world_after w (Proposes c t m)) c t n
ticket_after w c t m id ticket n number =
    by_refusal (λ v a. a ≡ Answer.Ticket id ticket → GivesTicket w v c t n) w (Proposes c t m) (λ why a. cc)
    (λ r a. ticket_given w c t m id ticket n (proposal_fault w c t m) (asks_of w c t m r) number a)

abbrev Ticketed : Core → Event → World → ℕ → Type 0
Ticketed k e v n = (c : ℕ) × (t : Topic) × (e ≡ Event.Propose c t) × GivesTicket k.world v c t n

ticket_comes : (k : Core) (e : Event) (rd : Reading) (o : Outcome) (n : ℕ) → Comes k e rd o → o ≡ Outcome.Proposed n → Ticketed k e (world_then k e rd o) n
ticket_comes k e rd o n came is =
    let w = k.world in let h = by_answer_alone k e rd o (ap is_plain is) (subst IsWhole (sym is) (refl, refl, refl)) came in
    let a = outcome_ticket (answer_to w h.move) n (h.is ∙ ap (λ (z : Outcome). Some z) is) in let own = ticket_is_own w h.move a.0 a.1 a.2 in
    let c = own.0 in let t = own.1 in let m = own.2 in (
      c,
      t,
      event_is e (Event.Propose c t) h.move (Proposes c t m) refl refl h.own own.3,
      subst (λ v. GivesTicket w v c t n) (sym (h.world ∙ ap (world_after w) own.3))
          (ticket_after w c t m a.0 a.1 n a.3 (ap (answer_to w) (sym own.3) ∙ a.2)),
    )

-- ---- a stamp

-- a topic that gave a ticket has a row
row_found : (t : Topic) (rows : List Stamp) → has_ticket t rows ≡ true → (n : ℕ) × (row_at t rows ≡ Some n)
row_found t [] e = absurd (false≢true e)
row_found t (a ∷ rows) e = (elim (a.topic.0 == t.0) as (λ (b : Bool). (a.topic.0 == t.0) ≡ b → (n : ℕ) × (row_at t (a ∷ rows) ≡ Some n)) [
  | true ↦ λ is. (a.n, ap (λ (b : Bool). option_map (λ (row : Stamp). row.n) (cond b (Some a) (find (λ (row : Stamp). row.topic.0 == t.0) rows))) is)
  | false ↦ λ is. (let later = (row_found t rows) (ap (λ (b : Bool). b || has_ticket t rows) (sym is) ∙ e) in (later.0, ap (λ (b : Bool). option_map (λ (row : Stamp). row.n) (cond b (Some a) (find (λ (row : Stamp). row.topic.0 == t.0) rows))) is ∙ later.1))
]) refl

-- where each of these topics gave one, they are those of the tickets
topics_given : (ts : List Topic) (rows : List Stamp) → list_all (λ t. has_ticket t rows) ts ≡ true
    → map (λ (a : Stamp). a.topic) (ticket_rows (map (λ t. (t, row_at t rows)) ts)) ≡ ts
topics_given [] rows e = refl
topics_given (t ∷ ts) rows e =
    let both = and_parts (has_ticket t rows) (list_all (λ u. has_ticket u rows) ts) e in let here = row_found t rows both.0 in
    ap (λ (o : Option ℕ). map (λ (a : Stamp). a.topic) (option_to_list (option_map (λ (m : ℕ). record { n = m; topic = t }) o) ++ ticket_rows (map (λ u. (u, row_at u rows)) ts))) here.1
    ∙ ap (λ (us : List Topic). t ∷ us) (topics_given ts rows both.1)

stamp_given : (k : Core) (c : ℕ) (stamp : Stamp) → IsReached k → move_refusal k.world (Decides c) ≡ None → stamp ≡ greatest (undecided_at k.world c).given
    → GivesStamp k.world (decide_effect k.world c) c stamp
stamp_given k c stamp reached n is =
    let w = k.world in let s = speaker_number w c in let f = undecided_at w c in let passed = checked w (Decides c) n in let flying = in_flight w c passed.1.1.0 in
    let flight : (sender_at w s).flight ≡ Some f = flying.is ∙ ap (λ (z : Undecided). Some z) (sym flying.at) in
    let complete : is_complete f ≡ true = not-false (is_complete f) passed.1.1.1.1.0 in
    let y : SenderState = record (speaker w c) { floor = greatest f.given; flight = None } in record {
      of_each = ap (map (λ (a : Stamp). a.topic)) (sym (tickets_are k s f reached flight)) ∙ topics_given (topics_of f.txn.sends) f.given complete;
      is_greatest = is;
      floor = subst (λ q. (get_or (set w.senders s y) q new_sender).floor ≡ stamp) (sym (kept_number w c s y))
          (at_set_within (λ (z : SenderState). z.floor ≡ stamp) w.senders s s y new_sender (flight_there w.senders s f flight) (λ e. sym is) (λ ne. absurd (ne refl)));
      row = ap (λ (z : Stamp). w.commits ++ record { txn = f.txn; stamp = z } ∷ []) (sym is);
    }

stamp_after : (k : Core) (c : ℕ) (id : TxnId) (stamp : Stamp) → IsReached k → answer_to k.world (Decides c) ≡ Answer.Decided id stamp
    → stamp ≡ greatest (undecided_at k.world c).given → GivesStamp k.world (world_after k.world (Decides c)) c stamp
stamp_after k c id stamp reached a is =
    by_refusal (λ v z. z ≡ Answer.Decided id stamp → GivesStamp k.world v c stamp) k.world (Decides c) (λ why z. cc) (λ n z. stamp_given k c stamp reached n is) a

-- a loss leaves senders and commits
stamp_lost : (w v : World) (c : ℕ) (stamp : Stamp) → GivesStamp w v c stamp → GivesStamp w (world_after v (Lost c)) c stamp
stamp_lost w v c stamp h =
    by_refusal (λ z a. GivesStamp w z c stamp) v (Lost c) (λ why. h)
    (λ n. record {
      of_each = h.of_each;
      is_greatest = h.is_greatest;
      floor = at_set (λ (z : Connection). (get_or v.senders (unwrap_or z.sender (length v.senders)) new_sender).floor ≡ stamp) v.connections c c
          (record { sender = (connection_at v c).sender; standing = Rattle.delivery.specs.Machine.World.Standing.Leaving }) nobody (λ e. h.floor) h.floor;
      row = h.row;
    })

abbrev Stamped : Core → Event → World → Stamp → Type 0
Stamped k e v stamp = (c : ℕ) × (e ≡ Event.Decide c) × GivesStamp k.world v c stamp

stamp_comes : (k : Core) (e : Event) (rd : Reading) (o : Outcome) (stamp : Stamp) (cut : Bool) → IsReached k → Comes k e rd o → o ≡ Outcome.Decided stamp cut
    → Stamped k e (world_then k e rd o) stamp
stamp_comes k e rd o stamp cut reached (inl h) is = absurd (false≢true (sym (ap is_plain is) ∙ h.1))
stamp_comes k e rd o stamp cut reached (inr (inl h)) is = absurd (false≢true (sym (ap is_faulted is) ∙ h.faulted))
stamp_comes k e rd o stamp cut reached (inr (inr (inl h))) is =
    let w = k.world in let base = uncut_stamp h.base stamp cut (subst (λ z. (h.base ≡ z) ⊎ (cut_of h.base ≡ z)) is h.cut) in
    let a = outcome_stamp (answer_to w h.move) stamp base.0 (h.is ∙ ap (λ (z : Outcome). Some z) base.1) in
    let own = subst (IsAnswer w h.move) a.1 (events_are_answered w h.move) in (
      own.0,
      event_is e (Event.Decide own.0) h.move (Decides own.0) refl refl h.own own.1,
      subst (λ v. GivesStamp w v own.0 stamp) (sym (h.world ∙ ap (world_after w) own.1))
          (stamp_after k own.0 a.0 stamp reached (ap (answer_to w) (sym own.1) ∙ a.1) own.3),
    )
stamp_comes k e rd o stamp cut reached (inr (inr (inr (inl h)))) is =
    let w = k.world in let c = h.connection in let base = uncut_stamp h.base stamp cut (subst (λ z. (h.base ≡ z) ⊎ (cut_of h.base ≡ z)) is h.cut) in
    let a = outcome_stamp (answer_to w (Decides c)) stamp base.0 (h.is ∙ ap (λ (z : Outcome). Some z) base.1) in
    let own = subst (IsAnswer w (Decides c)) a.1 (events_are_answered w (Decides c)) in let same : c ≡ own.0 = (let d = own.1 in cc) in
    let greatest_is : stamp ≡ greatest (undecided_at w c).given = own.3 ∙ ap (λ d. greatest (undecided_at w d).given) (sym same) in
    (c, h.event, subst (λ v. GivesStamp w v c stamp) (sym h.world) (stamp_lost w (world_after w (Decides c)) c stamp (stamp_after k c a.0 stamp reached a.1 greatest_is)))
stamp_comes k e rd o stamp cut reached (inr (inr (inr (inr h)))) is = absurd (false≢true (sym (ap has_effect is) ∙ h.effect))

-- ---- an item

item_given : (w : World) (s : ℕ) (item : Item) (count : ℕ) (next : Option Item) → slice_get (accepted_at w s) (subscription_at w s).taken ≡ Some item → length item.sends ≡ count
    → s < length w.subscriptions → next ≡ Some item → DeliversNext w (take_effect w s next) s count
item_given w s item count None is sends l e = none_some item e
item_given w s item count (Some other) is sends l e = record {
  item = item;
  is_next = is;
  sends = sym sends;
  taken = at_set_within (λ (z : Subscription). z.taken ≡ (subscription_at w s).taken + 1) w.subscriptions s s (record (subscription_at w s) { taken = (subscription_at w s).taken + 1 }) no_subscription l
      (λ k. refl) (λ ne. absurd (ne refl));
}

item_after : (w : World) (s : ℕ) (item : Item) (count : ℕ) → slice_get (accepted_at w s) (subscription_at w s).taken ≡ Some item → length item.sends ≡ count
    → answer_to w (Takes s) ≡ Answer.Handed s item → DeliversNext w (world_after w (Takes s)) s count
item_after w s item count is sends =
    by_refusal (λ v a. a ≡ Answer.Handed s item → DeliversNext w v s count) w (Takes s) (λ why a. cc)
    (λ n a. item_given w s item count (slice_get (accepted_at w s) (subscription_at w s).taken) is sends (ltb-true s (length w.subscriptions) (not-false _ (checked w (Takes s) n).0)) is)

abbrev Delivered : Core → Event → World → ℕ → Type 0
Delivered k e v count = (s : ℕ) × (e ≡ Event.Take s) × DeliversNext k.world v s count

item_comes : (k : Core) (e : Event) (rd : Reading) (o : Outcome) (count : ℕ) → Comes k e rd o → o ≡ Outcome.Handed count → Delivered k e (world_then k e rd o) count
item_comes k e rd o count came is =
    let w = k.world in let h = by_answer_alone k e rd o (ap is_plain is) (subst IsWhole (sym is) (refl, refl, refl)) came in
    let a = outcome_item (answer_to w h.move) count (h.is ∙ ap (λ (z : Outcome). Some z) is) in let own = subst (IsAnswer w h.move) a.2 (events_are_answered w h.move) in
    let s = a.0 in (
      s,
      event_is e (Event.Take s) h.move (Takes s) refl refl h.own own.0,
      subst (λ v. DeliversNext w v s count) (sym (h.world ∙ ap (world_after w) own.0))
          (item_after w s a.1 count own.1 a.3 (ap (answer_to w) (sym own.0) ∙ a.2)),
    )

-- ---- the end of a span

-- what is said of a span that gets its end by a move
abbrev Ended : World → Move → ℕ → Stamp → Type 0
Ended w mv s end =
    let t = (subscription_at w s).topic in let v = world_after w mv in
    (answer_to w mv ≡ Answer.Unsubscribed s end)
    ⊎ (((mv ≡ Releases t) ⊎ (mv ≡ Turns t)) × (length (accepted_at v s) ≡ (subscription_at w s).taken + w.capacity) × EndsBeforeRow (log_at w t) (log_at v t) end)

-- a release or a turn isn't answered so
lag_answer : (w : World) (mv : Move) (t : Topic) (s : ℕ) (end : Stamp) → (mv ≡ Releases t) ⊎ (mv ≡ Turns t) → answer_to w mv ≡ Answer.Unsubscribed s end → Prim.⊥
lag_answer w mv t s end by a = elim (subst (IsAnswer w mv) a (events_are_answered w mv)) [
  | inl h ↦ (let d = h.1 in elim by [ inl e ↦ cc | inr e ↦ cc ])
  | inr h ↦ (let d = h.1 in elim by [ inl e ↦ cc | inr e ↦ cc ])
]

-- as many items were delivered as were taken
taken_is : (r : Run) (s : ℕ) → length (delivered_items s (answers_of r)) ≡ (subscription_at (final_world r) s).taken
taken_is r s = elim (cases_lt s (length (final_world r).subscriptions)) [
  | inl l ↦ sym ((handing r).held s l).count
  | inr l ↦ ap (λ (items : List Item). length items) ((handing r).fresh s l) ∙ sym (ap (λ (x : Subscription). x.taken) (get_or_past (final_world r).subscriptions s no_subscription l))
]

run_ended : (r : Run) (mv : Move) (s : ℕ) (end : Stamp) → end_at (final_world r) s ≡ None → end_at (world_after (final_world r) mv) s ≡ Some end → Ended (final_world r) mv s end
run_ended r mv s end none some = elim (ends_are_told r mv s end none some) [
  | inl a ↦ inl a
  | inr (by, full) ↦ inr (
    by,
    (let count = taken_is r s in let same = (known r).same in omega (arith, count, same, full)),
    lags_end_before_row r mv s end none some (lag_answer (final_world r) mv (subscription_at (final_world r) s).topic s end by),
  )
]

-- a world that a run of the machine leads to
record IsRun (w : World) : Type 0 where
  run : Run
  is : w ≡ final_world run

by_run : (P : World → Type 0) (w : World) → IsRun w → ((r : Run) → P (final_world r)) → P w
by_run P w ran h = subst P (sym ran.is) (h ran.run)

ran_to : (k : Core) → IsReached k → IsRun k.world
ran_to k reached = record { run = machine_run reached; is = world_of k reached }

-- with a topic made
made_run : (w : World) → IsRun w → IsRun (with_topic w)
made_run w ran = record {
  run = longer ran.run (AddsTopic 0 ∷ []);
  is = ap with_topic ran.is ∙ sym (run_append ran.run.events (AddsTopic 0 ∷ []) (start ran.run.capacity ran.run.log_limit ran.run.clocks));
}

move_ended : (w : World) → IsRun w → (mv : Move) (s : ℕ) (end : Stamp) → end_at w s ≡ None → end_at (world_after w mv) s ≡ Some end → Ended w mv s end
move_ended w ran = by_run (λ z. (mv : Move) (s : ℕ) (end : Stamp) → end_at z s ≡ None → end_at (world_after z mv) s ≡ Some end → Ended z mv s end) w ran run_ended

-- a move that is answered no end, and is no release and no turn, ends no span
unended : (w : World) → IsRun w → (mv : Move) (s : ℕ) → ((end : Stamp) → answer_to w mv ≡ Answer.Unsubscribed s end → Prim.⊥)
    → ((t : Topic) → (mv ≡ Releases t) ⊎ (mv ≡ Turns t) → Prim.⊥) → end_at w s ≡ None → end_at (world_after w mv) s ≡ None
unended w ran mv s silent other none = by_end (end_at (world_after w mv) s) refl
  where
    by_end : (x : Option Stamp) → end_at (world_after w mv) s ≡ x → x ≡ None
    by_end None e = refl
    by_end (Some end) e = elim (move_ended w ran mv s end none e) [
      | inl a ↦ absurd (silent end a)
      | inr (by, full, row) ↦ absurd (other (subscription_at w s).topic by)
    ]

-- a topic that is made ends no span
made_unended : (w : World) → IsRun w → (s : ℕ) → end_at w s ≡ None → end_at (with_topic w) s ≡ None
made_unended w ran s none = unended w ran (AddsTopic 0) s (λ end a. cc) (λ t by. elim by [ inl d ↦ cc | inr d ↦ cc ]) none

-- a frame's move is no release and no turn
frame_at_rest : (mv : Move) (t : Topic) → is_of_frame mv ≡ true → (mv ≡ Releases t) ⊎ (mv ≡ Turns t) → Prim.⊥
frame_at_rest mv t own (inl d) = false≢true (sym (ap is_of_frame d) ∙ own)
frame_at_rest mv t own (inr d) = false≢true (sym (ap is_of_frame d) ∙ own)

lost_ends : (w : World) (c s : ℕ) → end_at (world_after (world_after w (Decides c)) (Lost c)) s ≡ end_at w s
lost_ends w c s =
    by_refusal (λ v a. end_at v s ≡ end_at (world_after w (Decides c)) s) (world_after w (Decides c)) (Lost c) (λ why. refl) (λ n. refl)
    ∙ by_refusal (λ v a. end_at v s ≡ end_at w s) w (Decides c) (λ why. refl) (λ n. refl)

abbrev EndsOf : Core → Event → Outcome → ℕ → Stamp → World → Type 0
EndsOf k e o s end v = (o ≡ Outcome.Unsubscribed s end) ⊎ LagsFull k.world v e s end

lag_event : (k : Core) (e : Event) (mv : Move) (s : ℕ) → IsMoveOf e mv → let t = (subscription_at k.world s).topic in (mv ≡ Releases t) ⊎ (mv ≡ Turns t)
    → (e ≡ Event.Release t) ⊎ (e ≡ Event.Turn t)
lag_event k e mv s own (inl d) = inl (event_is e _ mv (Releases (subscription_at k.world s).topic) refl refl own d)
lag_event k e mv s own (inr d) = inr (event_is e _ mv (Turns (subscription_at k.world s).topic) refl refl own d)

ends_come : (k : Core) (e : Event) (rd : Reading) (o : Outcome) (s : ℕ) (end : Stamp) → IsReached k → Comes k e rd o → end_at k.world s ≡ None
    → end_at (world_then k e rd o) s ≡ Some end → EndsOf k e o s end (world_then k e rd o)
ends_come k e rd o s end reached (inl h) none some = none_some end (sym none ∙ (ap (λ (w : World). end_at w s) (sym h.0) ∙ some))
ends_come k e rd o s end reached (inr (inl h)) none some =
    let mv = Errs h.connection in
    elim (move_ended k.world (ran_to k reached) mv s end none (ap (λ (w : World). end_at w s) (sym h.world) ∙ some)) [
      | inl a ↦ elim (subst (IsAnswer k.world mv) a (events_are_answered k.world mv)) [ inl q ↦ (let d = q.1 in cc) | inr q ↦ (let d = q.1 in cc) ]
      | inr (by, full, row) ↦ elim by [ inl d ↦ cc | inr d ↦ cc ]
    ]
ends_come k e rd o s end reached (inr (inr (inl h))) none some =
    elim (move_ended k.world (ran_to k reached) h.move s end none (ap (λ (w : World). end_at w s) (sym h.world) ∙ some)) [
      | inl a ↦ inl (end_cut o h.base s end (some_same h.base (Outcome.Unsubscribed s end) (sym h.is ∙ ap outcome_of a)) h.cut)
      | inr (by, full, row) ↦ inr (subst (λ v. LagsFull k.world v e s end) (sym h.world) (record { by = lag_event k e h.move s h.own by; full = full; row = row }))
    ]
ends_come k e rd o s end reached (inr (inr (inr (inl h)))) none some =
    none_some end (sym none ∙ (sym (lost_ends k.world h.connection s) ∙ (ap (λ (w : World). end_at w s) (sym h.world) ∙ some)))
ends_come k e rd o s end reached (inr (inr (inr (inr h)))) none some =
    let w = k.world in let ran = ran_to k reached in let first = made_unended w ran s none in
    elim h.then [
      | inl (is, plain) ↦ none_some end (sym first ∙ (ap (λ (z : World). end_at z s) (sym is) ∙ some))
      | inr (mv, own, topic, is, came) ↦ elim (move_ended (with_topic w) (made_run w ran) mv s end first (ap (λ (z : World). end_at z s) (sym is) ∙ some)) [
        | inl a ↦ inl (some_same o (Outcome.Unsubscribed s end) (sym came ∙ ap outcome_of a))
        | inr (by, full, row) ↦ absurd (frame_at_rest mv (subscription_at (with_topic w) s).topic own by)
      ]
    ]

-- an end is that of an answer
outcome_end : (a : Answer) (s : ℕ) (end : Stamp) → outcome_of a ≡ Some (Outcome.Unsubscribed s end) → a ≡ Answer.Unsubscribed s end
outcome_end (Answer.Unsubscribed q to) s end e = let a : q ≡ s = cc in let b : to ≡ end = cc in λ i. Answer.Unsubscribed (a i) (b i)
outcome_end (Answer.Refused x) s end e = let r = refusal_some (refusal_of x) (Outcome.Unsubscribed s end) e in let d = r.is in cc
outcome_end a s end e = cc

-- the span of a subscription has the end that is answered
move_closes : (w : World) → IsRun w → (mv : Move) (s : ℕ) (end : Stamp) → answer_to w mv ≡ Answer.Unsubscribed s end → end_at (world_after w mv) s ≡ Some end
move_closes w ran =
    by_run (λ z. (mv : Move) (s : ℕ) (end : Stamp) → answer_to z mv ≡ Answer.Unsubscribed s end → end_at (world_after z mv) s ≡ Some end) w ran
    (λ r mv s end a. at_next (λ past w. In (Answer.Unsubscribed s end) past → end_at w s ≡ Some end) (λ q i. spans_end_as_told q s end i) r mv (inl a))

closed_comes : (k : Core) (e : Event) (rd : Reading) (o : Outcome) (s : ℕ) (end : Stamp) → IsReached k → Comes k e rd o → o ≡ Outcome.Unsubscribed s end
    → end_at (world_then k e rd o) s ≡ Some end
closed_comes k e rd o s end reached (inl h) is = absurd (false≢true (sym (ap is_plain is) ∙ h.1))
closed_comes k e rd o s end reached (inr (inl h)) is = absurd (false≢true (sym (ap is_faulted is) ∙ h.faulted))
closed_comes k e rd o s end reached (inr (inr (inl h))) is =
    let base : h.base ≡ Outcome.Unsubscribed s end = uncut h.base o (ap is_cut is) h.cut ∙ is in
    ap (λ (w : World). end_at w s) h.world
    ∙ move_closes k.world (ran_to k reached) h.move s end (outcome_end (answer_to k.world h.move) s end (h.is ∙ ap (λ (z : Outcome). Some z) base))
closed_comes k e rd o s end reached (inr (inr (inr (inl h)))) is = absurd (false≢true (sym (ap is_cut is) ∙ h.was_cut))
closed_comes k e rd o s end reached (inr (inr (inr (inr h)))) is =
    let w = k.world in
    elim h.then [
      | inl (at, plain) ↦ absurd (false≢true (sym (ap is_plain is) ∙ plain))
      | inr (mv, own, topic, at, came) ↦
          ap (λ (z : World). end_at z s) at
          ∙ move_closes (with_topic w) (made_run w (ran_to k reached)) mv s end
          (outcome_end (answer_to (with_topic w) mv) s end (came ∙ ap (λ (z : Outcome). Some z) is))
    ]

-- ---- rows and items

move_enters : (w : World) → IsRun w → (mv : Move) → AllEnter w (world_after w mv)
move_enters w ran = by_run (λ z. (mv : Move) → AllEnter z (world_after z mv)) w ran rows_enter

-- a span that has no end after a move had none before
open_before : (w : World) → IsRun w → (mv : Move) (s : ℕ) → end_at (world_after w mv) s ≡ None → end_at w s ≡ None
open_before w ran mv s none = by_end (end_at w s) refl
  where
    stays : (end : Stamp) → end_at w s ≡ Some end → end_at (world_after w mv) s ≡ Some end
    stays = by_run (λ z. (end : Stamp) → end_at z s ≡ Some end → end_at (world_after z mv) s ≡ Some end) w ran (λ r end e. ends_stay r mv s end e)

    by_end : (x : Option Stamp) → end_at w s ≡ x → x ≡ None
    by_end None e = refl
    by_end (Some end) e = none_some end (sym none ∙ stays end e)

-- so it is of a topic that is made and a move
made_enters : (w : World) → IsRun w → (mv : Move) → AllEnter w (world_after (with_topic w) mv)
made_enters w ran mv s l n =
    let first = move_enters w ran (AddsTopic 0) s l (open_before (with_topic w) (made_run w ran) mv s n) in
    let second = move_enters (with_topic w) (made_run w ran) mv s l n in omega (arith, first, second)

-- a decision and a loss change no topic and no subscription
lost_enters : (w : World) (c : ℕ) → AllEnter w (world_after (world_after w (Decides c)) (Lost c))
lost_enters w c s l =
    by_refusal (λ v a. Enters w s v.topics (subscription_at v s)) (world_after w (Decides c)) (Lost c) (λ why. decided) (λ n. decided)
  where
    decided : Enters w s (world_after w (Decides c)).topics (subscription_at (world_after w (Decides c)) s)
    decided = by_refusal (λ v a. Enters w s v.topics (subscription_at v s)) w (Decides c) (λ why n. refl) (λ m n. refl)

rows_come : (k : Core) (e : Event) (rd : Reading) (o : Outcome) → IsReached k → Comes k e rd o → AllEnter k.world (world_then k e rd o)
rows_come k e rd o reached (inl h) = subst (AllEnter k.world) (sym h.0) (λ s l n. refl)
rows_come k e rd o reached (inr (inl h)) = subst (AllEnter k.world) (sym h.world) (move_enters k.world (ran_to k reached) (Errs h.connection))
rows_come k e rd o reached (inr (inr (inl h))) = subst (AllEnter k.world) (sym h.world) (move_enters k.world (ran_to k reached) h.move)
rows_come k e rd o reached (inr (inr (inr (inl h)))) = subst (AllEnter k.world) (sym h.world) (lost_enters k.world h.connection)
rows_come k e rd o reached (inr (inr (inr (inr h)))) =
    let ran = ran_to k reached in
    elim h.then [
      | inl (is, plain) ↦ subst (AllEnter k.world) (sym is) (move_enters k.world ran (AddsTopic 0))
      | inr (mv, own, topic, is, came) ↦ subst (AllEnter k.world) (sym is) (made_enters k.world ran mv)
    ]

-- ---- a topic that is made

-- nothing was proposed at it
abbrev IsNew : World → Topic → Type 0
IsNew w t = IsNewTopic (topic_at w t)

made_new : (w : World) (t : Topic) → length w.topics ≤ t.0 → t.0 < length (with_topic w).topics → IsNew (with_topic w) t
made_new w t low high =
    at_push_two IsNewTopic w.topics t.0 (new_topic (record { 0 = length w.topics }) w.log_limit 0) (new_topic t 0 0)
    (λ e. (refl, refl, refl, refl)) (λ ne. absurd (ne (let n = length_push w.topics (new_topic (record { 0 = length w.topics }) w.log_limit 0) in omega (arith, n, low, high))))

-- a frame's move leaves it so
frame_new : (w : World) (mv : Move) (t : Topic) → is_of_frame mv ≡ true → IsNew w t → IsNew (world_after w mv) t
frame_new w (Commits c sends) t own h = by_refusal (λ v a. IsNew v t) w (Commits c sends) (λ why. h) (λ n. elim sends as (λ (sends : List SentMessage). IsNew (commit_effect w c sends) t) [ [] ↦ h | first ∷ others ↦ h ])
frame_new w (Subscribes c u) t own h = by_refusal (λ v a. IsNew v t) w (Subscribes c u) (λ why. h)
    (λ n. at_set IsNewTopic w.topics u.0 t.0 _ (new_topic t 0 0)
    (λ q. subst (λ (n : ℕ). IsNewTopic (topic_at w (record { 0 = n }))) q h) h)
frame_new w (Unsubscribes c s) t own h = by_refusal (λ v a. IsNew v t) w (Unsubscribes c s) (λ why. h) (λ n. (elim (entry_at w s) as (λ (o : Option Entry). IsNew (close_effect_of w s o) t) [
  | None ↦ h
  | Some e ↦ at_set IsNewTopic w.topics (subscription_at w s).topic.0 t.0 _ (new_topic t 0 0) (λ q. subst (λ (n : ℕ). IsNewTopic (topic_at w (record { 0 = n }))) q h) h
]))
frame_new w (Connects c claimed) t own h = by_refusal (λ v a. IsNew v t) w (Connects c claimed) (λ why. h) (λ n. h)
frame_new w (Disconnects c) t own h = by_refusal (λ v a. IsNew v t) w (Disconnects c) (λ why. h) (λ n. h)
frame_new w _ t own h = absurd (false≢true own)

-- an event's move makes no topic
frame_adds : (mv : Move) → is_of_frame mv ≡ true → adds_none mv ≡ true
frame_adds (AddsTopic clock) own = absurd (false≢true own)
frame_adds _ own = refl

own_adds : (e : Event) (mv : Move) → IsMoveOf e mv → adds_none mv ≡ true
own_adds (Event.Piece c octets) mv own = absurd own
own_adds (Event.Next c) mv own = frame_adds mv own
own_adds (Event.Propose c t) mv (memory, own) = ap adds_none own
own_adds _ mv own = ap adds_none own

-- where there are as many topics, none was made
none_made : (w v u : World) (t : Topic) → v ≡ u → length u.topics ≡ length w.topics → length w.topics ≤ t.0 → t.0 < length v.topics → IsNew v t
none_made w v u t is same low high = let n : length v.topics ≡ length u.topics = ap (λ (z : World). length z.topics) is in absurd (omega (arith, n, same, low, high))

opened_comes : (k : Core) (e : Event) (rd : Reading) (o : Outcome) → Comes k e rd o → (t : Topic) → length k.world.topics ≤ t.0 → t.0 < length (world_then k e rd o).topics
    → IsNew (world_then k e rd o) t
opened_comes k e rd o (inl h) t low high = none_made k.world (world_then k e rd o) k.world t h.0 refl low high
opened_comes k e rd o (inr (inl h)) t low high =
    none_made k.world (world_then k e rd o) (world_after k.world (Errs h.connection)) t h.world (step_adds_none k.world (Errs h.connection) refl) low high
opened_comes k e rd o (inr (inr (inl h))) t low high =
    none_made k.world (world_then k e rd o) (world_after k.world h.move) t h.world (step_adds_none k.world h.move (own_adds e h.move h.own)) low high
opened_comes k e rd o (inr (inr (inr (inl h)))) t low high =
    let c = h.connection in let v = world_after k.world (Decides c) in
    none_made k.world (world_then k e rd o) (world_after v (Lost c)) t h.world (step_adds_none v (Lost c) refl ∙ step_adds_none k.world (Decides c) refl) low high
opened_comes k e rd o (inr (inr (inr (inr h)))) t low high =
    let w = k.world in
    elim h.then [
      | inl (is, plain) ↦ subst (λ v. IsNew v t) (sym is)
          (made_new w t low (subst (λ (v : World). t.0 < length v.topics) is high))
      | inr (mv, own, topic, is, came) ↦ subst (λ v. IsNew v t) (sym is)
          (frame_new (with_topic w) mv t own
          (made_new w t low (subst (λ (n : ℕ). t.0 < n) (step_adds_none (with_topic w) mv (frame_adds mv own)) (subst (λ (v : World). t.0 < length v.topics) is high))))
    ]

-- ---- what holds of each core

abbrev AreNamed : World → Type 0
AreNamed w = (c : ℕ) (a : Stamp) → In a (undecided_at w c).given → names a.topic (topics_of (undecided_at w c).txn.sends) ≡ true

are_named : (k : Core) → IsReached k → AreNamed k.world
are_named k reached = by_world AreNamed k reached (λ r c a i. ((elim (speaker (final_world r) c).flight as (λ (o : Option Undecided). (speaker (final_world r) c).flight ≡ o → In a (undecided_or_none o).given → names a.topic (topics_of (undecided_or_none o).txn.sends) ≡ true) [
  | None ↦ λ e i. absurd i
  | Some f ↦ λ e i. (given r (speaker_number (final_world r) c) f e).named a i
]) refl i))

abbrev AreBounded : World → Type 0
AreBounded w = (s : ℕ) → s < length w.subscriptions → length (accepted_at w s) ≤ (subscription_at w s).taken + w.capacity

are_bounded : (k : Core) → IsReached k → AreBounded k.world
are_bounded k reached = by_world AreBounded k reached (λ r. (known r).bounded)

-- ---- all together

-- each step of a run has stepped
pub steps_stepped : Stepped.StepsHaveStepped
steps_stepped topics capacity step older as_many is_run =
    let k = core_of topics capacity older in let e = step.event in let o = step.outcome in let rd = step.reading in
    let reached : IsReached k = record { topics = topics; capacity = capacity; steps = older; as_many = as_many; is = refl; run = is_run.1 } in
    let later : IsReached (core_after k step) = record { topics = topics; capacity = capacity; steps = step ∷ older; as_many = as_many; is = refl; run = is_run } in
    let came = comes k e rd o is_run.0.outcome in record {
      is_after = refl;
      may = is_run.0;
      refused = λ why is. refused_stays k e rd o why came is;
      no_memory = λ is. unremembered_stays k e rd o came is;
      opened = λ t low high. opened_comes k e rd o came t low high;
      as_many = topics_counted topics capacity (step ∷ older) as_many is_run;
      speaks = (core_stands topics capacity (step ∷ older) is_run).spoken;
      begun = (core_stands topics capacity (step ∷ older) is_run).begun;
      others = λ t l ne. others_stay k e rd o t l ne came;
      ticket = λ n is. ticket_comes k e rd o n came is;
      named = are_named (core_after k step) later;
      stamp = λ stamp cut is. stamp_comes k e rd o stamp cut reached came is;
      delivered = λ count is. item_comes k e rd o count came is;
      closes = λ s end is. closed_comes k e rd o s end reached came is;
      ends = λ s end none some. ends_come k e rd o s end reached came none some;
      enters = rows_come k e rd o reached came;
      bounded = are_bounded (core_after k step) later;
    }
