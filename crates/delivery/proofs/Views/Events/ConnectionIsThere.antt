-- Events of a connection that isn't gone: the checks that they begin with, a refused one, and one that replies.
use Rattle.delivery.proofs.Words.All.{◌≡◌, ℕ, ◌<◌, Bool, true, false, cond, not, nat_lt, List, [], ◌∷◌, length, get_or, Option, Some, None, inl, inr, refl, sym, ap, subst, ◌∙◌, slice_get, ltb-true, ltb-false, cases_Bool, slice_get-get_or, slice_get_past, is_some, option_map, option_and_then, option_to_list, In, first_refusal, none_some, some_same, Objection, refusal_of, Undecided, Leftover, Standing, connection_at, speaker, speaker_number, is_gone, Move, Answer, move_refusal, answer_to, needs_connection, run, Event, Outcome, Refusal, account_of, replies_to, Reading, accepted_of, Core, moves, unread_at, names_at, outcomes, outcome_of, move_outcome, reply_outcomes, cut_of, is_any, IsReadAt, gone_objection, there_objection, Makes, EndpointView, view_of, stage_view}
use Rattle.delivery.proofs.Words.Steps.{refused_answer, same_world, cancelling_speaker}
use Rattle.delivery.proofs.Words.Changes.{refused_is_quiet, IsSpeaking, endpoint_is, endpoint_read, no_endpoint, quiet_makes}
use Rattle.delivery.proofs.Theorem.SendersAreOwn.{flying_speaks, speaks}

-- ---- the checks

-- what stands against the endpoint stands against its connection
pub there_checked : (k : Core) (c : ℕ) → there_objection (slice_get (view_of k).endpoints c) ≡ first_refusal (needs_connection k.world c)
there_checked k c =
    let x = connection_at k.world c in let checks = λ (b : Bool). first_refusal ((not b, Objection.NoConn) ∷ (is_gone x.standing, Objection.Gone) ∷ []) in
    elim (cases_Bool (nat_lt c (length k.world.connections))) [
      | inl t ↦
          ap there_objection (endpoint_is k c (ltb-true c (length k.world.connections) t))
          ∙ (elim x.standing as (λ (standing : Standing). gone_objection (stage_view (names_at k) standing ((speaker k.world c).flight) (accepted_of c k.steps) (unread_at c k.steps)) ≡ first_refusal ((is_gone standing, Objection.Gone) ∷ [])) [
            | Standing.Open ↦ refl
            | Standing.Leaving ↦ refl
            | Standing.Gone ↦ refl
          ]
          ∙ ap checks (sym t))
      | inr f ↦ ap there_objection (no_endpoint k c (ltb-false c (length k.world.connections) f)) ∙ ap checks (sym f)
    ]

-- where nothing stands against it, it is there
pub is_there : (k : Core) (c : ℕ) → there_objection (slice_get (view_of k).endpoints c) ≡ None → c < length k.world.connections
is_there k c free =
    elim (cases_Bool (nat_lt c (length k.world.connections))) [
      | inl t ↦ ltb-true c (length k.world.connections) t
      | inr f ↦ none_some Objection.NoConn (sym (sym (ap there_objection (no_endpoint k c (ltb-false c (length k.world.connections) f))) ∙ free))
    ]

second_none : (a b : Bool) → first_refusal ((a, Objection.NoConn) ∷ (b, Objection.Gone) ∷ []) ≡ None → b ≡ false
second_none true b e = absurd (cc)
second_none false true e = absurd (cc)
second_none false false e = refl

-- and it isn't gone
pub still_there : (k : Core) (c : ℕ) → there_objection (slice_get (view_of k).endpoints c) ≡ None → is_gone (connection_at k.world c).standing ≡ false
still_there k c free = second_none (not (nat_lt c (length k.world.connections))) (is_gone (connection_at k.world c).standing) (sym (there_checked k c) ∙ free)

-- so where its sender has a transaction, it speaks for it
pub flying_speaking : (k : Core) (c : ℕ) (f : Undecided) → there_objection (slice_get (view_of k).endpoints c) ≡ None → (speaker k.world c).flight ≡ Some f → IsSpeaking k.world c
flying_speaking k c f free is = flying_speaks k.world c (still_there k c free) (ap (λ (o : Option Undecided). not (is_some o)) is)

-- the same where its sender has a ticket to cancel
pub cancelling_speaking : (k : Core) (c : ℕ) (left : Leftover) → there_objection (slice_get (view_of k).endpoints c) ≡ None → In left (speaker k.world c).leftovers
    → IsSpeaking k.world c
cancelling_speaking k c left free i = speaks (speaker_number k.world c) (connection_at k.world c) (still_there k c free) (cancelling_speaker k.world c left i)

-- what is reported stands against it
pub reported : (o : Option Objection) (why : Refusal) → Some why ≡ option_and_then refusal_of o → (w : Objection) × (o ≡ Some w) × (refusal_of w ≡ Some why)
reported None why e = none_some why (sym e)
reported (Some w) why e = (w, refl, sym e)

-- ---- a refused event

-- it changes nothing that is held
pub refused_step : (k : Core) (e : Event) (why : Refusal) (move : Move) (objection : Objection)
    → moves k e Reading.Nothing (Outcome.Refused why) ≡ move ∷ [] → move_refusal k.world move ≡ Some objection
    → In (Outcome.Refused why) (outcomes k e Reading.Nothing) → IsReadAt k e Reading.Nothing → Makes k e (Outcome.Refused why) (view_of k)
refused_step k e why move objection are refused may read =
    quiet_makes k e (Outcome.Refused why) k.world (refused_is_quiet k.names e why k.steps) read may
    (ap (λ (ms : List Move). run ms k.world) are ∙ same_world k.world move objection refused) refl

-- the outcome of a refused move is that alone
pub refused_outcome : (k : Core) (move : Move) (objection : Objection) (why : Refusal)
    → move_refusal k.world move ≡ Some objection → refusal_of objection ≡ Some why → move_outcome k move ≡ Outcome.Refused why ∷ []
refused_outcome k move objection why refused is =
    ap (λ (a : Answer). option_to_list (outcome_of a)) (refused_answer k.world move objection refused)
    ∙ ap (λ (r : Option Refusal). option_to_list (option_map Outcome.Refused r)) is

-- the outcome of another is that of its answer alone
pub answered_outcome : (k : Core) (move : Move) (a : Answer) (o : Outcome) → answer_to k.world move ≡ a → outcome_of a ≡ Some o → move_outcome k move ≡ o ∷ []
answered_outcome k move a o answered is = ap (λ (b : Answer). option_to_list (outcome_of b)) answered ∙ ap (λ (p : Option Outcome). option_to_list p) is

-- ---- one that replies

-- its outcome may come of it
pub replied_in : (k : Core) (c : ℕ) (e : Event) (move : Move) (o : Outcome) → move_outcome k move ≡ o ∷ [] → In o (reply_outcomes k c e (move_outcome k move))
replied_in k c e move o is = subst (λ (os : List Outcome). In o (reply_outcomes k c e os)) (sym is) (inl refl)

-- so may it with its reply left out, where there is one
pub cut_in : (k : Core) (c : ℕ) (e : Event) (move : Move) (o : Outcome) → move_outcome k move ≡ o ∷ []
    → is_any (replies_to c k.steps (account_of k.names k.steps) e Reading.Nothing o) ≡ true → In (cut_of o) (reply_outcomes k c e (move_outcome k move))
cut_in k c e move o is any =
    subst (λ (os : List Outcome). In (cut_of o) (reply_outcomes k c e os)) (sym is)
    (inr (subst (λ (b : Bool). In (cut_of o) (cond b (cut_of o ∷ []) [])) (sym any) (inl refl)))

-- ---- endpoints of a list

-- where nothing stands against an endpoint, it is there
pub endpoint_there : (endpoints : List EndpointView) (c : ℕ) → there_objection (slice_get endpoints c) ≡ None → c < length endpoints
endpoint_there endpoints c free =
    elim (cases_Bool (nat_lt c (length endpoints))) [
      | inl t ↦ ltb-true c (length endpoints) t
      | inr f ↦ none_some Objection.NoConn (sym (sym (ap there_objection (slice_get_past endpoints c (ltb-false c (length endpoints) f))) ∙ free))
    ]

-- the endpoint that was read, whatever stands for one that isn't there
pub endpoint_found : (endpoints : List EndpointView) (c : ℕ) (endpoint d : EndpointView) → c < length endpoints → endpoint ≡ get_or endpoints c endpoint → endpoint ≡ get_or endpoints c d
endpoint_found endpoints c endpoint d there is = some_same endpoint (get_or endpoints c d) (sym (endpoint_read endpoints c endpoint there is) ∙ slice_get-get_or endpoints c d there)
