-- The destination of each accepted frame is one of the names so far.
use Rattle.delivery.proofs.Words.All.{◌≡◌, ℕ, Bool, true, false, cond, inl, inr, List, [], ◌∷◌, ◌++◌, length, Option, Some, None, sym, ap, subst, ◌∙◌, append_assoc, take, take-append_seam, option_map_or, option_to_list, append-nil, In, RawFrame, with_destination, IsKnownTo, held_after, state_of, subscriptions_left, state-later, topic-with_destination, known-with_destination, with_destination-grows, CoreStep, accepted_of, frame_in, frame_from, has_effect, is_next, names_after}
use Rattle.stomp_session.proofs.Later.{Grown, SameTopic, subscriptions_left-same, topic-later, is_known_to-later}
use Rattle.delivery.specs.Core.Steps.{names_with}
use Rattle.delivery.proofs.Machine.SenderSteps.{In-append_cases}

-- with the destination of a frame, if there is one, the names have grown
framed_grow : (names : List (List ℕ)) (f : Option RawFrame) → Grown names (option_map_or (λ (g : RawFrame). with_destination g names) f names)
framed_grow names None = record { more = []; is = sym (append-nil names) }
framed_grow names (Some f) = with_destination-grows f names

-- what is known stays known after a step
known_stays : (names : List (List ℕ)) (f : Option RawFrame) (g : RawFrame) → IsKnownTo names g → IsKnownTo (option_map_or (λ (x : RawFrame). with_destination x names) f names) g
known_stays names f g known = let grown = framed_grow names f in subst (λ (later : List (List ℕ)). IsKnownTo later g) (sym grown.is) (is_known_to-later names grown.more g known)

own_known : (names : List (List ℕ)) (f : Option RawFrame) (g : RawFrame) (a b : Bool) → In g (cond a (cond b (option_to_list f) []) [])
    → IsKnownTo (option_map_or (λ (x : RawFrame). with_destination x names) (cond a f None) names) g
own_known names (Some f) g true true (inl e) = subst (λ (x : RawFrame). IsKnownTo (with_destination f names) x) e (known-with_destination f names)
own_known names (Some f) g true true (inr i) = absurd i
own_known names None g true true i = absurd i
own_known names f g true false i = absurd i
own_known names f g false b i = absurd i

-- so of each that was accepted
pub known_all : (opening : List (List ℕ)) (steps : List CoreStep) (c : ℕ) (g : RawFrame) → In g (accepted_of c steps) → IsKnownTo (names_after opening steps) g
known_all opening [] c g i = absurd i
known_all opening (step ∷ older) c g i =
    let names = names_after opening older in
    let all : IsKnownTo (names_with step names) g =
    elim (In-append_cases g (accepted_of c older) (cond (has_effect step.outcome) (frame_from c step) []) i) [
      | inl j ↦ known_stays names (cond (has_effect step.outcome) (frame_in step.reading) None) g (known_all opening older c g j)
      | inr j ↦ own_known names (frame_in step.reading) g (has_effect step.outcome) (is_next c step.event) j
    ] in
    all

-- the names so far begin with the opening names
pub names_begin : (opening : List (List ℕ)) (steps : List CoreStep) → Grown opening (names_after opening steps)
names_begin opening [] = record { more = []; is = sym (append-nil opening) }
names_begin opening (step ∷ older) =
    let before = names_begin opening older in let grown = framed_grow (names_after opening older) (cond (has_effect step.outcome) (frame_in step.reading) None) in
    record { more = before.more ++ grown.more; is = grown.is ∙ (ap (λ (z : List (List ℕ)). z ++ grown.more) before.is ∙ append_assoc opening before.more grown.more) }

-- so they are the first of them
pub names_first : (opening : List (List ℕ)) (steps : List CoreStep) → take (length opening) (names_after opening steps) ≡ opening
names_first opening steps = let grown = names_begin opening steps in ap (λ (z : List (List ℕ)). take (length opening) z) grown.is ∙ take-append_seam opening grown.more

-- a step that isn't c's leaves what c has open
pub other_open : (opening : List (List ℕ)) (step : CoreStep) (older : List CoreStep) (c : ℕ) → accepted_of c (step ∷ older) ≡ accepted_of c older
    → state_of (held_after (names_after opening (step ∷ older)) (accepted_of c (step ∷ older))) ≡ state_of (held_after (names_after opening older) (accepted_of c older))
other_open opening step older c same =
    let names = names_after opening older in let grown = framed_grow names (cond (has_effect step.outcome) (frame_in step.reading) None) in
    ap (λ (frames : List RawFrame). state_of (held_after (names_with step names) frames)) same
    ∙ (ap (λ (later : List (List ℕ)). state_of (held_after later (accepted_of c older))) grown.is
    ∙ state-later names grown.more (accepted_of c older) (λ g i. known_all opening older c g i))

-- ---- what is open

other_same : (names : List (List ℕ)) (f : Option RawFrame) (g : RawFrame) → IsKnownTo names g → SameTopic names (option_map_or (λ (x : RawFrame). with_destination x names) f names) g
other_same names f g known = let grown = framed_grow names f in subst (λ (later : List (List ℕ)). SameTopic names later g) (sym grown.is) (topic-later names grown.more g known)

own_same : (names : List (List ℕ)) (f : Option RawFrame) (g : RawFrame) (a b : Bool) → In g (cond a (cond b (option_to_list f) []) [])
    → SameTopic names (option_map_or (λ (x : RawFrame). with_destination x names) (cond a f None) names) g
own_same names (Some f) g true true (inl e) = subst (λ (x : RawFrame). SameTopic names (with_destination f names) x) e (topic-with_destination f names)
own_same names (Some f) g true true (inr i) = absurd i
own_same names None g true true i = absurd i
own_same names f g true false i = absurd i
own_same names f g false b i = absurd i

-- the subscriptions that are open after a step are the same by the names of before and of after it
pub step_left : (opening : List (List ℕ)) (step : CoreStep) (older : List CoreStep) (c : ℕ)
    → subscriptions_left (names_after opening (step ∷ older)) (accepted_of c (step ∷ older)) ≡ subscriptions_left (names_after opening older) (accepted_of c (step ∷ older))
step_left opening step older c =
    let names = names_after opening older in let read = cond (has_effect step.outcome) (frame_in step.reading) None in
    subscriptions_left-same names (names_with step names) (accepted_of c (step ∷ older))
    (λ g i. elim (In-append_cases g (accepted_of c older) (cond (has_effect step.outcome) (frame_from c step) []) i) [
      | inl j ↦ other_same names read g (known_all opening older c g j)
      | inr j ↦ own_same names (frame_in step.reading) g (has_effect step.outcome) (is_next c step.event) j
    ])
