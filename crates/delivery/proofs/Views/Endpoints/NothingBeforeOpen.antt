-- Nothing came of a connection that isn't there yet.
use Rattle.delivery.proofs.Words.All.{◌≡◌, ◌≢◌, ℕ, zero, suc, ◌+◌, ◌<◌, ◌≤◌, ◌==◌, Bool, true, false, cond, not, ◌&&◌, inl, inr, List, [], ◌∷◌, ◌++◌, length, get_or, Option, Some, None, refl, sym, ap, subst, ◌∙◌, arith, ltb, eqb-true, ltb-true, or_parts, not-false, flat_map, is_some, length_push, In, RawFrame, Unread, unread_of, with_piece, spelling_of, some_same, not_true, Objection, refusal_of, World, Subscription, no_subscription, subscription_at, Move, Answer, world_after, answer_to, move_refusal, move_effect, oldest_live, leave_answer, Run, answers_of, final_world, Decides, Withdraws, Leaves, Takes, TopicList, Event, Outcome, Beginning, no_beginning, account_of, beginning_of, next_replies, take_replies, replies_to, is_cut, text_out, Core, IsReadBy, core_of, moves, unread_at, unread_after, CoreStep, Reading, frame_in, is_fed, accepted_of, reader_limits, outcomes, unless, outcome_of, move_outcome, reading_outcomes, cut_of, IsReadAt, IsCoreRun, live_numbers, IsReached}
use Rattle.delivery.specs.Core.State.{left_by}
use Rattle.delivery.proofs.Words.Steps.{at_push_two, by_refusal, checked, by_run}
use Rattle.delivery.proofs.Core.Speaking.{open_in}
use Rattle.delivery.proofs.Core.Started.{begins_in, begins_more, begins_count, begins_at}
use Rattle.delivery.proofs.Words.Changes.{IsRefusal, run_of, core_is, world_is, account_is, in_option, refusal_some, by_answer, replied, either_cut, by_world, if_same, grown, grown_once, stands_after, open_there, differ}
use Rattle.delivery.proofs.Core.NextItem.{connection_is}
use Rattle.delivery.proofs.Views.Endpoints.DisconnectIsLast.{unheard}
use Rattle.delivery.proofs.Core.Tests.{connection_there}

-- nothing came of the connection of this number
pub record IsUntouched (k : Core) (c : ℕ) : Type 0 where
  pub accepted : accepted_of c k.steps ≡ []
  pub unread : unread_at c k.steps ≡ unread_of reader_limits
  pub text : text_out k.names c k.steps ≡ []
  pub live : live_numbers c 0 k.world.subscriptions ≡ []

-- ---- what is asked of it is refused

-- a connection that isn't there fails the test for it
absent : (w : World) (c : ℕ) → length w.connections ≤ c → ltb c (length w.connections) ≡ false
absent w c l = not_true (ltb c (length w.connections)) refl (λ e. (let m = ltb-true c (length w.connections) e in absurd (omega arith)))

unpassable : (b : Bool) (rest : Option Objection) → b ≡ false → cond (not b) (Some Objection.NoConn) rest ≡ Some Objection.NoConn
unpassable b rest e = ap (λ z. cond (not z) (Some Objection.NoConn) rest) e

refused_by : (why : Objection) (os : List Outcome) (o : Outcome) → In o (unless (Some why) os) → IsRefusal o
refused_by why os o i = refusal_some (refusal_of why) o (in_option o _ i)

next_refused : (k : Core) (c : ℕ) (rd : Reading) (o : Outcome) → length k.world.connections ≤ c → In o (outcomes k (Event.Next c) rd) → IsRefusal o
next_refused k c rd o l i =
    refused_by Objection.NoConn (reading_outcomes k c rd) o
    (subst (λ (why : Option Objection). In o (unless why (reading_outcomes k c rd))) (unpassable (ltb c (length k.world.connections)) _ (absent k.world c l)) i)

piece_refused : (k : Core) (c : ℕ) (octets : List ℕ) (rd : Reading) (o : Outcome) → length k.world.connections ≤ c → In o (outcomes k (Event.Piece c octets) rd) → IsRefusal o
piece_refused k c octets rd o l i =
    refused_by Objection.NoConn (Outcome.Fed ∷ Outcome.NoMemory ∷ []) o
    (subst (λ (why : Option Objection). In o (unless why (Outcome.Fed ∷ Outcome.NoMemory ∷ []))) (unpassable (ltb c (length k.world.connections)) _ (absent k.world c l)) i)

-- ---- its reader

-- it reads so where this stands against it
abbrev ReadsSo : Unread → Reading → Option Objection → Type 0
ReadsSo u rd why = elim why [ None ↦ IsReadBy u rd | Some o ↦ rd ≡ Reading.Nothing ]

next_unread : (k : Core) (c : ℕ) (rd : Reading) → length k.world.connections ≤ c → IsReadAt k (Event.Next c) rd → rd ≡ Reading.Nothing
next_unread k c rd l h = subst (ReadsSo (unread_at c k.steps) rd) (unpassable (ltb c (length k.world.connections)) _ (absent k.world c l)) h

unread_step : (k : Core) (c : ℕ) (e : Event) (rd : Reading) (o : Outcome) (u : Unread) → length k.world.connections ≤ c → IsReadAt k e rd → In o (outcomes k e rd)
    → unread_after c u e rd o ≡ u
unread_step k c (Event.Next d) rd o u l h i = (elim (d == c) as (λ (b : Bool). (d == c) ≡ b → cond b (left_by u rd) u ≡ u) [
  | false ↦ λ e. refl
  | true ↦ λ e. ap (λ z. left_by u z) (next_unread k c rd l (subst (λ m. IsReadAt k (Event.Next m) rd) (eqb-true d c e) h))
]) refl
unread_step k c (Event.Piece d octets) rd o u l h i = (elim (d == c) as (λ (b : Bool). (d == c) ≡ b → cond (b && is_fed o) (with_piece u octets) u ≡ u) [
  | false ↦ λ e. refl
  | true ↦ λ e. (let r = piece_refused k c octets rd o l (subst (λ m. In o (outcomes k (Event.Piece m octets) rd)) (eqb-true d c e) i) in ap (λ z. cond (is_fed z) (with_piece u octets) u) (sym r.is))
]) refl
unread_step k c _ rd o u l h i = refl

unfed : (topics : TopicList) (capacity : ℕ) (steps : List CoreStep) → IsCoreRun topics capacity steps → (c : ℕ)
    → length (core_of topics capacity steps).world.connections ≤ c → unread_at c steps ≡ unread_of reader_limits
unfed topics capacity [] h c l = refl
unfed topics capacity (step ∷ older) h c l =
    let k = core_of topics capacity older in let g = grown (moves k step.event step.reading step.outcome) k.world in
    unread_step k c step.event step.reading step.outcome (unread_at c older) (omega arith) h.0.reading h.0.outcome
    ∙ unfed topics capacity older h.1 c (omega arith)

-- ---- its text

reply_next : (k : Core) (c d : ℕ) (rd : Reading) (o : Outcome) → length k.world.connections ≤ c → In o (outcomes k (Event.Next d) rd) → (b : Bool) → (d == c) ≡ b
    → cond b (next_replies (frame_in rd) o) [] ≡ []
reply_next k c d rd o l i false e = refl
reply_next k c d rd o l i true e =
    let r = next_refused k c rd o l (subst (λ m. In o (outcomes k (Event.Next m) rd)) (eqb-true d c e) i) in
    subst (λ z. next_replies (frame_in rd) z ≡ []) r.is (elim (frame_in rd) as (λ (read : Option RawFrame). next_replies read (Outcome.Refused r.why) ≡ []) [ None ↦ refl | Some f ↦ refl ])

take_refused : (k : Core) (c s : ℕ) (rd : Reading) (o : Outcome) → length k.world.connections ≤ c → (subscription_at k.world s).connection ≡ c
    → (why : Option Objection) → move_refusal k.world (Takes s) ≡ why → In o (unless why (move_outcome k (Takes s) ++ Outcome.NoMemory ∷ [])) → IsRefusal o
take_refused k c s rd o l e (Some why) n i = refused_by why (move_outcome k (Takes s) ++ Outcome.NoMemory ∷ []) o i
take_refused k c s rd o l e None n i =
    let m = checked k.world (Takes s) n in let d = (subscription_at k.world s).connection in
    let t = open_there k.world.connections d (not-false (open_in k.world.connections d) (or_parts (is_some (subscription_at k.world s).closed) (not (open_in k.world.connections d)) m.1.0).1) in
    absurd (omega arith)

-- another connection's test fails
elsewhere : (w : World) (c d : ℕ) → length w.connections ≤ c → not (ltb d (length w.connections)) ≡ false → (d == c) ≡ false
elsewhere w c d l e = differ d c (λ m. (let t = connection_there w d e in absurd (omega arith)))

off : {X : Type 0} (b q : Bool) (xs : List X) → b ≡ false → cond (b && q) xs [] ≡ []
off b q xs e = ap (λ z. cond (z && q) xs []) e

off_alone : {X : Type 0} (b : Bool) (xs : List X) → b ≡ false → cond b xs [] ≡ []
off_alone b xs e = ap (λ z. cond z xs []) e

-- nothing is written to it
reply_step : (k : Core) (c : ℕ) (older : List CoreStep) (account : List Answer) (e : Event) (rd : Reading) (o : Outcome) → length k.world.connections ≤ c
    → ((s : ℕ) → (beginning_of s account).connection ≡ (subscription_at k.world s).connection) → In o (outcomes k e rd) → replies_to c older account e rd o ≡ []
reply_step k c older account (Event.Next d) rd o l own i = reply_next k c d rd o l i (d == c) refl
reply_step k c older account (Event.Take s) rd o l own i = (elim ((beginning_of s account).connection == c) as (λ (b : Bool). ((beginning_of s account).connection == c) ≡ b → cond b (take_replies s older account o) [] ≡ []) [
  | false ↦ λ e. refl
  | true ↦ λ e. (let r = take_refused k c s rd o l (sym (own s) ∙ eqb-true _ c e) (move_refusal k.world (Takes s)) refl i in subst (λ z. take_replies s older account z ≡ []) r.is refl)
]) refl
reply_step k c older account (Event.Decide d) rd o l own i =
    let P = λ (z : Outcome). replies_to c older account (Event.Decide d) rd z ≡ [] in let h = replied k d (Event.Decide d) _ o i in
    either_cut P h.base o
    (by_answer (λ z. P z × P (cut_of z)) k.world (Decides d) h.base (λ why x a. (refl, refl))
    (λ n a z q. (let f = elsewhere k.world c d l (checked k.world (Decides d) n).0 in
    subst (λ y. P y × P (cut_of y)) (some_same _ z q) (off (d == c) _ _ f, off (d == c) _ _ f))) h.is) h.cut
reply_step k c older account (Event.Withdraw d) rd o l own i =
    let P = λ (z : Outcome). replies_to c older account (Event.Withdraw d) rd z ≡ [] in let h = replied k d (Event.Withdraw d) _ o i in
    either_cut P h.base o
    (by_answer (λ z. P z × P (cut_of z)) k.world (Withdraws d) h.base (λ why x a. (refl, refl))
    (λ n a z q. (let f = elsewhere k.world c d l (checked k.world (Withdraws d) n).0 in
    subst (λ y. P y × P (cut_of y)) (some_same _ z q) (off (d == c) _ _ f, off (d == c) _ _ f))) h.is) h.cut
reply_step k c older account (Event.Leave d) rd o l own i =
    let P = λ (z : Outcome). replies_to c older account (Event.Leave d) rd z ≡ [] in let h = replied k d (Event.Leave d) _ o i in
    either_cut P h.base o
    (by_answer (λ z. P z × P (cut_of z)) k.world (Leaves d) h.base (λ why x a. (refl, refl))
    (λ n a z q. ((elim (oldest_live d 0 k.world.subscriptions) as (λ (s : Option ℕ). (d == c) ≡ false → outcome_of (leave_answer k.world d s) ≡ Some z → (replies_to c older account (Event.Leave d) rd z ≡ []) × (replies_to c older account (Event.Leave d) rd (cut_of z) ≡ [])) [
      | None ↦ λ e a. subst (λ q. (replies_to c older account (Event.Leave d) rd q ≡ []) × (replies_to c older account (Event.Leave d) rd (cut_of q) ≡ [])) (some_same _ z a) (off_alone (d == c) _ e, off_alone (d == c) _ e)
      | Some s ↦ λ e a. subst (λ q. (replies_to c older account (Event.Leave d) rd q ≡ []) × (replies_to c older account (Event.Leave d) rd (cut_of q) ≡ [])) (some_same _ z a) (refl, refl)
    ]) (elsewhere k.world c d l (checked k.world (Leaves d) n).0) q)) h.is) h.cut
reply_step k c older account _ rd o l own i = refl

-- a subscription began for the connection that has it
pub owned : (topics : TopicList) (capacity : ℕ) (steps : List CoreStep) → IsCoreRun topics capacity steps → (s : ℕ)
    → (beginning_of s (account_of topics.names steps)).connection ≡ (subscription_at (core_of topics capacity steps).world s).connection
owned topics capacity steps h s =
    ap (λ (z : List Answer). (beginning_of s z).connection) (account_is topics capacity steps h)
    ∙ (connection_is (run_of topics capacity steps) s ∙ ap (λ (w : World). (subscription_at w s).connection) (sym (world_is topics capacity steps)))

untold : (topics : TopicList) (capacity : ℕ) (steps : List CoreStep) → IsCoreRun topics capacity steps → (c : ℕ)
    → length (core_of topics capacity steps).world.connections ≤ c → text_out topics.names c steps ≡ []
untold topics capacity [] h c l = refl
untold topics capacity (step ∷ older) h c l =
    let k = core_of topics capacity older in let g = grown (moves k step.event step.reading step.outcome) k.world in let account = account_of topics.names older in
    ap (λ z. z ++ cond (is_cut step.outcome) [] (flat_map spelling_of (replies_to c older account step.event step.reading step.outcome)))
    (untold topics capacity older h.1 c (omega arith))
    ∙ (ap (λ z. cond (is_cut step.outcome) [] (flat_map spelling_of z))
    (reply_step k c older account step.event step.reading step.outcome (omega arith) (owned topics capacity older h.1) h.0.outcome)
    ∙ if_same (is_cut step.outcome) [])

-- ---- its subscriptions

abbrev Bound : List Answer → World → Type 0
Bound past w = (s : ℕ) → s < length (begins_in w) → (get_or (begins_in w) s no_beginning).connection < length w.connections

bound_step : (w : World) (e : Move) → length w.connections ≤ length (move_effect w e).connections → Bound [] w → move_refusal w e ≡ None → Bound [] (move_effect w e)
bound_step w e g h n s = elim (begins_more w e n) [
  | inl m ↦ subst (λ z. s < length z → (get_or z s no_beginning).connection < length (move_effect w e).connections) (sym m) (λ l. (let a = h s l in omega arith))
  | inr m ↦ subst (λ z. s < length z → (get_or z s no_beginning).connection < length (move_effect w e).connections) (sym m.2)
      (λ l. at_push_two (λ (z : Beginning). z.connection < length (move_effect w e).connections) (begins_in w) s m.0 no_beginning
      (λ q. (let a = m.1 in omega arith)) (λ ne. (let p = length_push (begins_in w) m.0 in let a = h s (omega arith) in omega arith)))
]

bound : (r : Run) → Bound (answers_of r) (final_world r)
bound =
    by_run Bound (λ capacity log_limit clocks s l. absurd (omega arith))
    (λ r e h. (let w = final_world r in
    let g : length w.connections ≤ length (world_after w e).connections = grown_once w.connections (world_after w e).connections (answer_to w e) (stands_after w e) in
    by_refusal (λ v o. length w.connections ≤ length v.connections → Bound [] v) w e (λ why k. h) (λ n k. bound_step w e k h n) g))

no_live : (c i : ℕ) (xs : List Subscription) → ((s : ℕ) → s < length xs → (get_or xs s no_subscription).connection ≢ c) → live_numbers c i xs ≡ []
no_live c i [] h = refl
no_live c i (x ∷ xs) h =
    ap (λ b. cond (b && not (is_some x.closed)) (i ∷ live_numbers c (i + 1) xs) (live_numbers c (i + 1) xs)) (differ x.connection c (h zero (omega arith)))
    ∙ no_live c (i + 1) xs (λ s l. h (suc s) (omega arith))

-- a connection that isn't there has no live subscription
pub unsubscribed : (r : Run) (c : ℕ) → length (final_world r).connections ≤ c → live_numbers c 0 (final_world r).subscriptions ≡ []
unsubscribed r c l =
    let w = final_world r in
    no_live c 0 w.subscriptions (λ s m e.
    (let n = begins_count w in let a = bound r s (omega arith) in let q = ap (λ (z : Beginning). z.connection) (begins_at w s) in absurd (omega arith)))

-- ---- together

-- nothing came of a connection that isn't there yet
pub untouched : (k : Core) (c : ℕ) → IsReached k → length k.world.connections ≤ c → IsUntouched k c
untouched k c reached l =
    let topics = reached.topics in let steps = reached.steps in let there_is : k.steps ≡ steps = ap (λ (z : Core). z.steps) (reached.is ∙ core_is topics reached.capacity steps) in
    let named : k.names ≡ topics.names = ap (λ (z : Core). z.names) (reached.is ∙ core_is topics reached.capacity steps) in
    let m : length (core_of topics reached.capacity steps).world.connections ≤ c = subst (λ (z : Core). length z.world.connections ≤ c) reached.is l in
    record {
      accepted = ap (λ z. accepted_of c z) there_is ∙ unheard topics reached.capacity steps reached.run c m;
      unread = ap (λ z. unread_at c z) there_is ∙ unfed topics reached.capacity steps reached.run c m;
      text = ap (λ z. text_out k.names c z) there_is ∙ (ap (λ z. text_out z c steps) named ∙ untold topics reached.capacity steps reached.run c m);
      live = by_world (λ w. length w.connections ≤ c → live_numbers c 0 w.subscriptions ≡ []) k reached (λ r. unsubscribed r c) l;
    }
