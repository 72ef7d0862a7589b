-- Octets that a connection is fed.
use Rattle.delivery.proofs.Words.All.{◌≡◌, ◌≢◌, ℕ, ◌+◌, ◌==◌, Bool, true, false, ◌&&◌, cond, List, [], ◌∷◌, get_or, set, Option, Some, None, inl, inr, refl, sym, ap, ◌∙◌, arith, eq-eqb, slice_get, option_map, option_to_list, eqb-true, cases_Bool, append-nil, set-get_or, first_refusal, RawFrame, Unread, with_piece, Objection, refusal_of, Undecided, Connection, Standing, nobody, connection_at, speaker, is_reading, needs_open, Event, Outcome, Refusal, Reading, accepted_of, text_out, Core, unread_at, names_at, unless, each_number, Makes, step_of, endpoint_objection, EndpointView, view_of, view_with, stage_view, endpoint_view, fed_endpoint}
use Rattle.delivery.specs.Inner.View.{fed_stage}
use Rattle.delivery.proofs.Words.Changes.{each_number-set, refused_is_quiet, piece_without_is_quiet, in_one, endpoint_at, open_checked, checked_there, checked_open, quiet_makes, step_makes}

-- the outcomes where this stands against it
abbrev piece_outcomes : Option Objection → List Outcome
piece_outcomes why = unless why (Outcome.Fed ∷ Outcome.NoMemory ∷ [])

-- a refused piece changes nothing
pub piece_refused : (k : Core) (c : ℕ) (octets : List ℕ) (why : Objection) (refusal : Refusal)
    → endpoint_objection (slice_get (view_of k).endpoints c) ≡ Some why → refusal_of why ≡ Some refusal → Makes k (Event.Piece c octets) (Outcome.Refused refusal) (view_of k)
piece_refused k c octets why refusal is reported =
    quiet_makes k (Event.Piece c octets) (Outcome.Refused refusal) k.world (refused_is_quiet k.names (Event.Piece c octets) refusal k.steps) refl
    (in_one (Outcome.Refused refusal) (piece_outcomes (first_refusal (needs_open k.world c)))
    (ap piece_outcomes (sym (open_checked k c) ∙ is) ∙ ap (λ (r : Option Refusal). option_to_list (option_map Outcome.Refused r)) reported)) refl refl

-- so doesn't one without memory
pub piece_without : (k : Core) (c : ℕ) (octets : List ℕ) → endpoint_objection (slice_get (view_of k).endpoints c) ≡ None
    → Makes k (Event.Piece c octets) Outcome.NoMemory (view_of k)
piece_without k c octets is =
    let e = ap piece_outcomes (sym (open_checked k c) ∙ is) in
    quiet_makes k (Event.Piece c octets) Outcome.NoMemory k.world (piece_without_is_quiet k.names c octets k.steps) refl (rw e (inr (inl refl))) refl refl

-- ---- a piece that is fed

fed_standing : (names : List (List ℕ)) (standing : Standing) (flight : Option Undecided) (accepted : List RawFrame) (unread : Unread) (octets : List ℕ) → is_reading standing ≡ true
    → fed_stage octets (stage_view names standing flight accepted unread) ≡ stage_view names standing flight accepted (with_piece unread octets)
fed_standing names Standing.Open flight accepted unread octets e = refl
fed_standing names Standing.Leaving flight accepted unread octets e = absurd (cc)
fed_standing names Standing.Gone flight accepted unread octets e = absurd (cc)

-- what a reader stands for once connection c was fed these octets
abbrev fed_at : (ℕ → Unread) → ℕ → List ℕ → ℕ → Unread
fed_at unread c octets n = cond ((c == n) && true) (with_piece (unread n) octets) (unread n)

own : (unread : ℕ → Unread) (c : ℕ) (octets : List ℕ) → fed_at unread c octets c ≡ with_piece (unread c) octets
own unread c octets = ap (λ (b : Bool). cond (b && true) (with_piece (unread c) octets) (unread c)) (eq-eqb c c refl)

other_b : (b : Bool) (u v : Unread) → b ≡ false → cond (b && true) u v ≡ v
other_b true u v e = absurd (cc)
other_b false u v e = refl

other : (unread : ℕ → Unread) (c : ℕ) (octets : List ℕ) (n : ℕ) → n ≢ c → fed_at unread c octets n ≡ unread n
other unread c octets n differ =
    elim (cases_Bool (c == n)) [
      | inl t ↦ absurd (differ (sym (eqb-true c n t)))
      | inr f ↦ other_b (c == n) (with_piece (unread n) octets) (unread n) f
    ]

-- after another its reader stands for the octets too
pub piece_makes : (k : Core) (c : ℕ) (octets : List ℕ) (d : EndpointView) → endpoint_objection (slice_get (view_of k).endpoints c) ≡ None
    → Makes k (Event.Piece c octets) Outcome.Fed (record (view_of k) { endpoints = set (view_of k).endpoints c (fed_endpoint octets (get_or (view_of k).endpoints c d)) })
piece_makes k c octets d is =
    let step = step_of (Event.Piece c octets) Reading.Nothing Outcome.Fed in let accepted = λ (n : ℕ). accepted_of n k.steps in let unread = λ (n : ℕ). unread_at n k.steps in
    let text = λ (n : ℕ). text_out k.names n k.steps in let w = k.world in let f = λ (n : ℕ). endpoint_view (names_at k) w n (accepted n) (unread n) (text n) in
    let g = λ (n : ℕ). endpoint_view (names_at k) w n (accepted n) (fed_at unread c octets n) (text n) in let there = checked_there k c is in let x = connection_at w c in
    let endpoint : fed_endpoint octets (f c) ≡ g c =
    ap (λ (s : Rattle.delivery.specs.declared.stage.Stage.Stage). record (f c) { stage = s }) (fed_standing (names_at k) x.standing (speaker w c).flight (accepted c) (unread c) octets (checked_open k c is))
    ∙ ap (λ (u : Unread). endpoint_view (names_at k) w c (accepted c) u (text c)) (sym (own unread c octets)) in
    let old : get_or (view_of k).endpoints c d ≡ f c = endpoint_at k c d f there in let e : c ≡ 0 + c = omega arith in
    let endpoints : set (view_of k).endpoints c (fed_endpoint octets (get_or (view_of k).endpoints c d)) ≡ each_number g 0 w.connections =
    ap (λ (l : EndpointView). set (view_of k).endpoints c (fed_endpoint octets l)) old
    ∙ (ap (λ (l : EndpointView). set (view_of k).endpoints c l) endpoint
    ∙ (ap (λ (n : ℕ). set (each_number f 0 w.connections) c (g n)) e
    ∙ (each_number-set f g 0 w.connections c x there
    (λ n low high differ. ap (λ (u : Unread). endpoint_view (names_at k) w n (accepted n) u (text n)) (sym (other unread c octets n (λ same. differ (same ∙ e)))))
    ∙ ap (λ (xs : List Connection). each_number g 0 xs) (set-get_or w.connections c nobody)))) in
    step_makes k (Event.Piece c octets) Outcome.Fed w refl (rw (ap piece_outcomes (sym (open_checked k c) ∙ is)) (inl refl)) refl
    (ap (λ (ls : List EndpointView). record (view_of k) { endpoints = ls }) endpoints
    ∙ (λ i. view_with (names_at k) w (λ n. sym (append-nil (accepted n)) i) (fed_at unread c octets) (λ n. sym (append-nil (text n)) i) (λ s. Rattle.delivery.specs.Core.Output.subscribe_frame s k.steps)))
