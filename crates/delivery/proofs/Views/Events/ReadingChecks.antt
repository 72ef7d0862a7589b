-- What stands against reading a frame of a connection.
use Rattle.delivery.proofs.Words.All.{◌≡◌, ℕ, ◌+◌, ◌<◌, ◌≤◌, Bool, true, false, not, nat_lt, cond, ◌||◌, inl, inr, List, [], ◌∷◌, length, get_or, Option, Some, None, refl, sym, ap, ◌∙◌, arith, slice_get, is_some, option_or, unwrap_or, ltb-true, ltb-false, cases_Bool, cases_lt, slice_get-get_or, slice_get_past, get_or_default, first_refusal, Stamp, RawFrame, Unread, Objection, Undecided, SenderState, Standing, connection_at, sender_at, speaker, is_reading, is_gone, new_sender, speaker_number, needs_idle, accepted_of, text_out, Core, unread_at, names_at, each_number, sending_objection, idle_objection, stage_objection, endpoint_objection, View, EndpointView, SenderView, view_of, stage_view, endpoint_view, sending_view, undecided_view, is_undecided, number_among, held_sender}
use Rattle.std.proofs.Math.ListN.{get_or-eq_default}
use Rattle.delivery.specs.Inner.Nexts.{is_sending}
use Rattle.delivery.proofs.Words.Changes.{get_or-each_number, length-each_number, endpoint_at, endpoint_is, held_undecided}
use Rattle.delivery.proofs.Views.Events.OneMove as steps
use Rattle.delivery.specs.Inner.View as views

-- ---- a view

-- an endpoint that nothing stands against is there
pub unobjected_there : (endpoints : List EndpointView) (c : ℕ) → endpoint_objection (slice_get endpoints c) ≡ None → c < length endpoints
unobjected_there endpoints c free = elim (cases_lt c (length endpoints)) [
  | inl l ↦ l
  | inr l ↦ absurd (some_none (sym (ap endpoint_objection (slice_get_past endpoints c l)) ∙ free))
]
  where
    some_none : Some Objection.NoConn ≡ None → Prim.⊥
    some_none e = absurd (cc)

-- where nothing stands against its endpoint, its sender decides
pub idle_of : (v : View) (c : ℕ) (endpoint : EndpointView) → endpoint_objection (slice_get v.endpoints c) ≡ None → endpoint ≡ get_or v.endpoints c endpoint
    → idle_objection v c ≡ sending_objection v.senders (number_among v.senders endpoint)
idle_of v c endpoint free is =
    let none = views.no_endpoint in let same : get_or v.endpoints c none ≡ endpoint = get_or_default v.endpoints c none endpoint (unobjected_there v.endpoints c free) ∙ sym is in
    ap (λ (o : Option Objection). option_or o (sending_objection v.senders (number_among v.senders (get_or v.endpoints c none)))) free
    ∙ ap (λ (l : EndpointView). sending_objection v.senders (number_among v.senders l)) same

or_none : (a b : Option Objection) → option_or a b ≡ None → a ≡ None
or_none None b e = refl
or_none (Some o) b e = absurd (cc)

-- where nothing stands against a Next, its endpoint is there
pub idle_within : (v : View) (c : ℕ) → idle_objection v c ≡ None → c < length v.endpoints
idle_within v c free =
    unobjected_there v.endpoints c (or_none (endpoint_objection (slice_get v.endpoints c)) (sending_objection v.senders (number_among v.senders (get_or v.endpoints c views.no_endpoint))) free)

-- ---- a core

flight_is : (s seq : ℕ) (floor : Stamp) (flight : Option Undecided) → is_undecided (sending_view s seq floor flight) ≡ is_some flight
flight_is s seq floor None = refl
flight_is s seq floor (Some f) = elim f.mark as (λ mark. is_undecided (undecided_view floor f mark) ≡ true) [ None ↦ refl | Some fault ↦ refl ]

-- a sender of the view has an undecided transaction where that of the machine has
pub sending_is : (k : Core) (s : ℕ) → is_sending (slice_get (view_of k).senders s) ≡ is_some (sender_at k.world s).flight
sending_is k s =
    let w = k.world in let f = held_sender w in let many = length-each_number f 0 w.senders in
    elim (cases_lt s (length w.senders)) [
      | inl l ↦
          (let there : s < length (each_number f 0 w.senders) = omega (arith, l, many) in
          let e : 0 + s ≡ s = omega arith in
          ap is_sending (slice_get-get_or (each_number f 0 w.senders) s (f s) there)
          ∙ (ap (λ (x : SenderView). is_undecided x.sending) (get_or-each_number f 0 w.senders s (f s) l ∙ ap f e)
          ∙ (held_undecided w s ∙ flight_is s (sender_at w s).seq (sender_at w s).floor (sender_at w s).flight)))
      | inr l ↦
          (let past : length (each_number f 0 w.senders) ≤ s = omega (arith, l, many) in
          ap is_sending (slice_get_past (each_number f 0 w.senders) s past)
          ∙ ap (λ (x : SenderState). is_some x.flight) (sym (get_or-eq_default w.senders new_sender l)))
    ]

standing_idle : (names : List (List ℕ)) (standing : Standing) (flight : Option Undecided) (accepted : List RawFrame) (unread : Unread) (b : Bool)
    → option_or (stage_objection (stage_view names standing flight accepted unread)) (cond b (Some Objection.Busy) None)
    ≡ first_refusal ((is_gone standing, Objection.Gone) ∷ (not (is_reading standing) || b, Objection.Busy) ∷ [])
standing_idle names Standing.Open flight accepted unread true = refl
standing_idle names Standing.Open flight accepted unread false = refl
standing_idle names Standing.Leaving flight accepted unread b = refl
standing_idle names Standing.Gone flight accepted unread b = refl

-- what stands against a Next of the view stands against it in the machine
pub idle_checked : (k : Core) (c : ℕ) → idle_objection (view_of k) c ≡ first_refusal (needs_idle k.world c)
idle_checked k c =
    let w = k.world in let x = connection_at w c in let none = views.no_endpoint in
    let f = λ (n : ℕ). endpoint_view (names_at k) w n (accepted_of n k.steps) (unread_at n k.steps) (text_out k.names n k.steps) in let flying = is_some (speaker w c).flight in
    let checks = λ (b : Bool). first_refusal ((not b, Objection.NoConn) ∷ (is_gone x.standing, Objection.Gone) ∷ (not (is_reading x.standing) || flying, Objection.Busy) ∷ []) in
    elim (cases_Bool (nat_lt c (length w.connections))) [
      | inl t ↦
          (let there = ltb-true c (length w.connections) t in
          ap (λ (o : Option EndpointView). option_or (endpoint_objection o) (sending_objection (view_of k).senders (number_among (view_of k).senders (get_or (view_of k).endpoints c none)))) (endpoint_is k c there)
          ∙ (ap (λ (l : EndpointView). option_or (stage_objection (f c).stage) (sending_objection (view_of k).senders (number_among (view_of k).senders l))) (endpoint_at k c none f there)
          ∙ (ap (λ (b : Bool). option_or (stage_objection (f c).stage) (cond b (Some Objection.Busy) None)) (ap (λ (n : ℕ). is_sending (slice_get (view_of k).senders (unwrap_or x.sender n))) (length-each_number (held_sender w) 0 w.senders) ∙ sending_is k (speaker_number w c))
          ∙ (standing_idle (names_at k) x.standing (speaker w c).flight (accepted_of c k.steps) (unread_at c k.steps) flying
          ∙ ap checks (sym t)))))
      | inr n ↦
          ap (λ (o : Option EndpointView). option_or (endpoint_objection o) (sending_objection (view_of k).senders (number_among (view_of k).senders (get_or (view_of k).endpoints c none))))
          (steps.no_endpoint k c (ltb-false c (length w.connections) n))
          ∙ ap checks (sym n)
    ]
