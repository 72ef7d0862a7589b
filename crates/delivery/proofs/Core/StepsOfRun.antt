-- The steps of a run are a function of its events and outcomes.
use Rattle.delivery.proofs.Words.All.{◌≡◌, ℕ, Bool, true, false, cond, inl, inr, List, [], ◌∷◌, map, Option, Some, None, Result, Ok, Err, refl, sym, ap, ◌∙◌, false≢true, reverse, option_map, first_refusal, In, RawFrame, Check, fault_of, Unread, ReadsNext, Halt, answers_none, one_answer, some_same, none_some, Objection, refusal_of, needs_idle, TopicList, Event, Outcome, Refusal, ConnectionFault, Kept, CoreStep, Reading, kept_of, reader_limits, Core, core_of, IsReadBy, unread_at, kept_run, unless, fault_outcomes, reading_outcomes, outcomes, IsReadAt, IsCoreRun, is_any, reading_at, steps_of}
use Rattle.std.proofs.lemmas.List.{reverse-reverse}
use Rattle.stomp_frame.specs.Inner.Parser.{after_eols, frame_at}
use Rattle.stomp_frame.proofs.Pieces.{fault_of-only}
use Rattle.stomp_frame.proofs.Whole.{answers_frame, answers_fault}
use Rattle.delivery.proofs.Core.ShownReadings.{says_frame}
use Rattle.delivery.specs.Inner.Readings.{reading_of, reads_nothing}
use Rattle.delivery.specs.Core.Delivery.{StepsAreKept}
use Rattle.delivery.proofs.Words.Changes.{in_option, core_is, was_wanted}
use Rattle.delivery.proofs.Core.FramesRead.{limits_are}
use Rattle.delivery.proofs.Core.ReadingsShown.{ReadsUnless, idle}

-- a refusal of the machine's isn't that there is no frame
reported : (why : Objection) (r : Refusal) → refusal_of why ≡ Some r → reads_nothing (Outcome.Refused r) ≡ true
reported Objection.Foreign r e = none_some r e
reported Objection.Clash r e = none_some r e
reported Objection.Decided r e = none_some r e
reported Objection.NoSender r e = none_some r e
reported Objection.HasSender r e = none_some r e
reported Objection.InUse r e = none_some r e
reported Objection.SeqFull r e = none_some r e
reported _ r e = ap (λ (q : Refusal). reads_nothing (Outcome.Refused q)) (sym (some_same _ r e))

-- ---- what a reader gives

-- a reader gives what the parser finds
Finds_is : (u : Unread) (f : RawFrame) (left : Unread) (r : Result (RawFrame × List ℕ) Halt) → frame_at u.limits u.text ≡ r → ReadsNext u (Ok (Some f)) left
    → Reading.Finds f left ≡ reading_of u r
Finds_is u f left (Ok p) e h =
    let same = one_answer u (Ok (Some f)) left (Ok (Some p.0)) (record u { text = p.1 }) h (answers_frame u p.0 p.1 e) in let frame : f ≡ p.0 = cc in
    λ i. Reading.Finds (frame i) (same.1 i)
Finds_is u f left (Err Halt.Open) e h = let same = one_answer u (Ok (Some f)) left (Ok None) (record u { text = after_eols u.text }) h (answers_none u e) in cc
Finds_is u f left (Err (Halt.Fault k)) e h = let same = one_answer u (Ok (Some f)) left (Err (fault_of k)) (record u { answered = Some k }) h (answers_fault u k e) in cc

-- the same of a frame that is due
Waits_is : (u left : Unread) (r : Result (RawFrame × List ℕ) Halt) → frame_at u.limits u.text ≡ r → ReadsNext u (Ok None) left → Reading.Waits left ≡ reading_of u r
Waits_is u left (Ok p) e h = let same = one_answer u (Ok None) left (Ok (Some p.0)) (record u { text = p.1 }) h (answers_frame u p.0 p.1 e) in cc
Waits_is u left (Err Halt.Open) e h = let same = one_answer u (Ok None) left (Ok None) (record u { text = after_eols u.text }) h (answers_none u e) in ap Reading.Waits same.1
Waits_is u left (Err (Halt.Fault k)) e h = let same = one_answer u (Ok None) left (Err (fault_of k)) (record u { answered = Some k }) h (answers_fault u k e) in cc

-- the same of a fault
Fails_is : (u : Unread) (check : Check) (left : Unread) (r : Result (RawFrame × List ℕ) Halt) → frame_at u.limits u.text ≡ r → ReadsNext u (Err (fault_of check)) left
    → Reading.Fails check left ≡ reading_of u r
Fails_is u check left (Ok p) e h = let same = one_answer u (Err (fault_of check)) left (Ok (Some p.0)) (record u { text = p.1 }) h (answers_frame u p.0 p.1 e) in cc
Fails_is u check left (Err Halt.Open) e h = let same = one_answer u (Err (fault_of check)) left (Ok None) (record u { text = after_eols u.text }) h (answers_none u e) in cc
Fails_is u check left (Err (Halt.Fault k)) e h =
    let same = one_answer u (Err (fault_of check)) left (Err (fault_of k)) (record u { answered = Some k }) h (answers_fault u k e) in
    let fault : fault_of check ≡ fault_of k = cc in let one : check ≡ k = fault_of-only check k fault in λ i. Reading.Fails (one i) (same.1 i)

-- ---- what a Next reads

-- an outcome that says that a frame was read isn't one of nothing
said_read : (o : Outcome) → says_frame o ≡ true → reads_nothing o ≡ false
said_read (Outcome.Refused why) e = absurd (false≢true e)
said_read (Outcome.Faulted ConnectionFault.ReaderNoMemory cut) e = absurd (false≢true e)
said_read (Outcome.Faulted ConnectionFault.Lagged cut) e = refl
said_read (Outcome.Faulted (ConnectionFault.Stream k) cut) e = refl
said_read (Outcome.Faulted (ConnectionFault.Frame k) cut) e = refl
said_read (Outcome.Faulted (ConnectionFault.Session k) cut) e = refl
said_read o e = refl

-- the reader of connection c gives this to a Next that is answered so
abbrev Given : List CoreStep → ℕ → Outcome → Bool → Reading
Given older c o nothing = cond nothing Reading.Nothing (reading_of (unread_at c older) (frame_at reader_limits (unread_at c older).text))

faulted_as : (fault : ConnectionFault) (o : Outcome) (b : Bool) → reads_nothing (Outcome.Faulted fault false) ≡ b → reads_nothing (Outcome.Faulted fault true) ≡ b
    → In o (fault_outcomes fault) → reads_nothing o ≡ b
faulted_as fault o b h k i = elim i [
  | inl e ↦ ap reads_nothing (sym e) ∙ h
  | inr j ↦ elim j [ inl e ↦ ap reads_nothing (sym e) ∙ k | inr n ↦ absurd n ]
]

shown_found : (f : RawFrame) (left : Unread) (o : Outcome) (b : Bool) → says_frame o ≡ b → cond b true false ≡ true → says_frame o ≡ true
shown_found f left o true e h = e
shown_found f left o false e h = absurd (false≢true h)

idle_reads : (k : Core) (c : ℕ) (rd : Reading) (o : Outcome) → (unread_at c k.steps).limits ≡ reader_limits → IsReadBy (unread_at c k.steps) rd → In o (reading_outcomes k c rd)
    → rd ≡ Given k.steps c o (reads_nothing o)
idle_reads k c Reading.Nothing o l h i =
    sym (ap (Given k.steps c o)
    (faulted_as ConnectionFault.ReaderNoMemory o true refl refl (was_wanted (is_any (unread_at c k.steps).text) ConnectionFault.ReaderNoMemory o i)))
idle_reads k c (Reading.Waits left) o l h (inr i) = absurd i
idle_reads k c (Reading.Waits left) o l h (inl e) =
    Waits_is (unread_at c k.steps) left (frame_at reader_limits (unread_at c k.steps).text) (ap (λ n. frame_at n (unread_at c k.steps).text) l) h
    ∙ sym (ap (Given k.steps c o) (ap reads_nothing (sym e)))
idle_reads k c (Reading.Finds f left) o l h i =
    Finds_is (unread_at c k.steps) f left (frame_at reader_limits (unread_at c k.steps).text) (ap (λ n. frame_at n (unread_at c k.steps).text) l) h
    ∙ sym (ap (Given k.steps c o) (said_read o (shown_found f left o (says_frame o) refl (idle k c (Reading.Finds f left) o i))))
idle_reads k c (Reading.Fails check left) o l h i =
    Fails_is (unread_at c k.steps) check left (frame_at reader_limits (unread_at c k.steps).text) (ap (λ n. frame_at n (unread_at c k.steps).text) l) h
    ∙ sym (ap (Given k.steps c o) (faulted_as (ConnectionFault.Stream check) o false refl refl i))

next_reads : (k : Core) (c : ℕ) (rd : Reading) (o : Outcome) (why : Option Objection) → (unread_at c k.steps).limits ≡ reader_limits → ReadsUnless k c rd why
    → In o (unless why (reading_outcomes k c rd)) → rd ≡ Given k.steps c o (reads_nothing o)
next_reads k c rd o None l h i = idle_reads k c rd o l h i
next_reads k c rd o (Some why) l h i = (elim (refusal_of why) as (λ (r : Option Refusal). refusal_of why ≡ r → option_map Outcome.Refused (refusal_of why) ≡ Some o → rd ≡ Given k.steps c o (reads_nothing o)) [
  | None ↦ λ e d. none_some o (ap (option_map Outcome.Refused) (sym e) ∙ d)
  | Some r ↦ λ e d. (let is : Outcome.Refused r ≡ o = some_same (Outcome.Refused r) o (ap (option_map Outcome.Refused) (sym e) ∙ d) in h ∙ sym (ap (Given k.steps c o) (ap reads_nothing (sym is) ∙ reported why r e)))
]) refl (in_option o _ i)

-- what an event read is what the function says
pub event_reads : (k : Core) (e : Event) (rd : Reading) (o : Outcome) → ((c : ℕ) → (unread_at c k.steps).limits ≡ reader_limits) → IsReadAt k e rd → In o (outcomes k e rd)
    → rd ≡ reading_at k.steps e o
event_reads k (Event.Next c) rd o l h i = next_reads k c rd o (first_refusal (needs_idle k.world c)) (l c) h i
event_reads k _ rd o l h i = h

-- ---- all steps

-- each step of a run read what the function says, so a run's steps are those of its kept run
pub steps_are : (topics : TopicList) (capacity : ℕ) (steps : List CoreStep) → IsCoreRun topics capacity steps → steps ≡ steps_of (map kept_of steps)
steps_are topics capacity [] run = refl
steps_are topics capacity (step ∷ older) run =
    let k = core_of topics capacity older in let same : k.steps ≡ older = ap (λ (z : Core). z.steps) (core_is topics capacity older) in
    let rd : step.reading ≡ reading_at older step.event step.outcome =
    event_reads k step.event step.reading step.outcome (limits_are topics capacity older run.1) run.0.reading run.0.outcome
    ∙ ap (λ z. reading_at z step.event step.outcome) same in
    let read : step ≡ record { event = step.event; reading = reading_at older step.event step.outcome; outcome = step.outcome } =
    λ i. record { event = step.event; reading = rd i; outcome = step.outcome } in
    ap (λ (z : CoreStep). z ∷ older) read
    ∙ ap (λ (z : List CoreStep). record { event = step.event; reading = reading_at z step.event step.outcome; outcome = step.outcome } ∷ z) (steps_are topics capacity older run.1)

-- so they are those of the kept run, turned
pub steps_turned : (topics : TopicList) (capacity : ℕ) (steps : List CoreStep) → IsCoreRun topics capacity steps → steps ≡ steps_of (reverse (kept_run steps))
steps_turned topics capacity steps run = steps_are topics capacity steps run ∙ ap (λ (ks : List Kept). steps_of ks) (sym (reverse-reverse (map kept_of steps)))

-- a kept run has one list of steps
pub one_list_of_steps : StepsAreKept
one_list_of_steps topics capacity steps others run other same =
    steps_turned topics capacity steps run
    ∙ (ap (λ (ks : List Kept). steps_of (reverse ks)) same ∙ sym (steps_turned topics capacity others other))
