-- What may come of a Next: a refusal, a fault of what was read, or what an accepted frame makes.
use Rattle.delivery.proofs.Words.All.{◌≡◌, ℕ, Bool, true, false, ◌⊎◌, inl, inr, Option, Some, None, refl, ap, subst, option_map, option_map_or, option_to_list, first_refusal, In, RawFrame, Unread, some_same, none_some, Objection, refusal_of, needs_idle, Outcome, Refusal, ConnectionFault, Reading, Core, is_any, unless, unread_at, frame_no_memory, frame_fault, fault_outcomes, outcomes_without, accepted_outcomes, frame_outcome, reading_outcomes, wants_memory}
use Rattle.delivery.proofs.Words.Steps.{In-append_cases}

-- the outcome is a refusal
pub record IsRefusal (o : Outcome) : Type 0 where
  pub why : Refusal
  pub is : Outcome.Refused why ≡ o

-- what is in the list of an option is what it has
pub in_option : {X : Type 0} (x : X) (o : Option X) → In x (option_to_list o) → o ≡ Some x
in_option x None i = absurd i
in_option x (Some y) (inl e) = ap Some e
in_option x (Some y) (inr i) = absurd i

-- an outcome of a refusal that is reported is that refusal
pub refusal_some : (r : Option Refusal) (o : Outcome) → option_map Outcome.Refused r ≡ Some o → IsRefusal o
refusal_some None o e = none_some o e
refusal_some (Some why) o e = record { why = why; is = some_same _ o e }

-- an outcome for want of memory is its fault's
pub was_wanted : (wanted : Bool) (fault : ConnectionFault) (o : Outcome) → In o (outcomes_without wanted fault) → In o (fault_outcomes fault)
was_wanted true fault o i = i
was_wanted false fault o i = absurd i

-- the fault is of what was read
abbrev pub IsFaultOf : Core → ℕ → Reading → ConnectionFault → Type 0
IsFaultOf k c Reading.Nothing fault = ConnectionFault.ReaderNoMemory ≡ fault
IsFaultOf k c (Reading.Waits left) fault = Prim.⊥
IsFaultOf k c (Reading.Finds f left) fault = (frame_fault k c f ≡ Some fault) ⊎ (frame_no_memory ≡ fault)
IsFaultOf k c (Reading.Fails check left) fault = ConnectionFault.Stream check ≡ fault

-- what holds of nothing found, of each fault and of what an accepted frame makes holds of each outcome of a reading
pub by_reading : (k : Core) (c : ℕ) (P : Reading → Outcome → Type 0) → ((left : Unread) → P (Reading.Waits left) (Outcome.Refused Refusal.NoFrame))
    → ((rd : Reading) (fault : ConnectionFault) (cut : Bool) → IsFaultOf k c rd fault → P rd (Outcome.Faulted fault cut))
    → ((f : RawFrame) (left : Unread) (o : Outcome) → frame_fault k c f ≡ None → In o (frame_outcome k c f) → P (Reading.Finds f left) o)
    → (rd : Reading) (o : Outcome) → In o (reading_outcomes k c rd) → P rd o
by_reading k c P waits faults finds rd o i = go rd i
  where
    faulted : (rd : Reading) (fault : ConnectionFault) → IsFaultOf k c rd fault → In o (fault_outcomes fault) → P rd o
    faulted rd fault of i = elim i [
      | inl e ↦ subst (P rd) e (faults rd fault false of)
      | inr j ↦ elim j [ inl e ↦ subst (P rd) e (faults rd fault true of) | inr n ↦ absurd n ]
    ]

    found : (f : RawFrame) (left : Unread) (why : Option ConnectionFault) → frame_fault k c f ≡ why → In o (option_map_or fault_outcomes why (accepted_outcomes k c f)) → P (Reading.Finds f left) o
    found f left (Some fault) e i = faulted (Reading.Finds f left) fault (inl e) i
    found f left None e i =
        elim (In-append_cases o (frame_outcome k c f) _ i) [ inl j ↦ finds f left o e j | inr j ↦ faulted (Reading.Finds f left) frame_no_memory (inr refl) (was_wanted (wants_memory k c f) frame_no_memory o j) ]

    go : (rd : Reading) → In o (reading_outcomes k c rd) → P rd o
    go Reading.Nothing i = faulted Reading.Nothing ConnectionFault.ReaderNoMemory refl (was_wanted (is_any (unread_at c k.steps).text) ConnectionFault.ReaderNoMemory o i)
    go (Reading.Waits left) (inl e) = subst (P (Reading.Waits left)) e (waits left)
    go (Reading.Waits left) (inr i) = absurd i
    go (Reading.Finds f left) i = found f left (frame_fault k c f) refl i
    go (Reading.Fails check left) i = faulted (Reading.Fails check left) (ConnectionFault.Stream check) refl i

-- so it does of each outcome of a Next, with each refusal
pub by_next : (k : Core) (c : ℕ) (P : Reading → Outcome → Type 0) → ((rd : Reading) (why : Refusal) → P rd (Outcome.Refused why))
    → ((rd : Reading) (fault : ConnectionFault) (cut : Bool) → first_refusal (needs_idle k.world c) ≡ None → P rd (Outcome.Faulted fault cut))
    → ((f : RawFrame) (left : Unread) (o : Outcome) → first_refusal (needs_idle k.world c) ≡ None → frame_fault k c f ≡ None → In o (frame_outcome k c f) → P (Reading.Finds f left) o)
    → (rd : Reading) (o : Outcome) → In o (unless (first_refusal (needs_idle k.world c)) (reading_outcomes k c rd)) → P rd o
by_next k c P refuses faults finds rd o i = (elim (first_refusal (needs_idle k.world c)) as (λ (why : Option Objection). first_refusal (needs_idle k.world c) ≡ why → In o (unless why (reading_outcomes k c rd)) → P rd o) [
  | None ↦ λ n i. by_reading k c P (λ left. refuses (Reading.Waits left) Refusal.NoFrame) (λ rd fault cut of. faults rd fault cut n) (λ f left o e j. finds f left o n e j) rd o i
  | Some why ↦ λ n i. (let r = refusal_some (refusal_of why) o (in_option o _ i) in subst (P rd) r.is (refuses rd r.why))
]) refl i
