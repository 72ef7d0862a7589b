-- Whether steps read frames exactly where their outcomes say so, as tests.
use Rattle.delivery.proofs.Words.All.{◌≡◌, Bool, true, false, cond, not, ◌&&◌, inl, inr, List, [], ◌∷◌, refl, sym, subst, true≢false, list_all, is_some, In, Event, Outcome, ConnectionFault, CoreStep, frame_in, reads_frame}

-- the outcome of a Next says that a frame was read
abbrev pub says_frame : Outcome → Bool
says_frame o = reads_frame (Event.Next 0) o

-- the fault is of a frame that was read
abbrev pub has_frame : ConnectionFault → Bool
has_frame fault = says_frame (Outcome.Faulted fault false)

-- it is found exactly where the event and its outcome say so
abbrev pub reads_as_said : Event → Bool → Outcome → Bool
reads_as_said e found o = cond (reads_frame e o) found (not found)

-- so the step shows it
abbrev pub shows_reading : CoreStep → Bool
shows_reading s = reads_as_said s.event (is_some (frame_in s.reading)) s.outcome

equal : (a b : Bool) → cond a b (not b) ≡ true → b ≡ a
equal true b h = h
equal false true h = sym h
equal false false h = refl

both : (a b : Bool) → (a && b) ≡ true → (a ≡ true) × (b ≡ true)
both true b h = (refl, h)
both false b h = absurd (true≢false (sym h))

-- where each of them shows it, each has read a frame exactly where its outcome says so
pub shown_each : (steps : List CoreStep) → list_all shows_reading steps ≡ true → (s : CoreStep) → In s steps → is_some (frame_in s.reading) ≡ reads_frame s.event s.outcome
shown_each [] h s i = absurd i
shown_each (step ∷ older) h s (inl e) =
    subst (λ (z : CoreStep). is_some (frame_in z.reading) ≡ reads_frame z.event z.outcome) e
    (equal (reads_frame step.event step.outcome) (is_some (frame_in step.reading)) (both (shows_reading step) (list_all shows_reading older) h).0)
shown_each (step ∷ older) h s (inr i) = shown_each older (both (shows_reading step) (list_all shows_reading older) h).1 s i
