-- The ERROR of a frame that its session accepted doesn't say the version.
use Rattle.delivery.proofs.Words.All.{◌≡◌, ℕ, Bool, true, false, List, [], ◌∷◌, ◌++◌, Option, Some, None, refl, sym, ap, subst, ◌∙◌, ◌||◌, list_any, option_map, option_map_or, option_or, option_to_list, true≢false, or_parts, first_refusal, RawFrame, case_fault, Action, action_by, session_fault, any_from, Objection, refusal_of, is_in_use, Answer, Move, answer_to, ConnectionFault, Outcome, Refusal, claims_of, claimed_sender, is_one_too_many, says_version, Core, core_for, frame_move, session_at, accepted_outcomes, claim_fault, fault_outcomes, frame_fault, frame_no_memory, frame_outcome, move_outcome, outcome_of, outcomes_without, wants_memory, MayEnd}
use Rattle.stomp_session.specs.declared.action.Action.TheVariants as actions
use Rattle.delivery.proofs.Views.Events.NextFaults.{asked_objection, fault_of_frame}

-- the outcome is an ERROR of this frame, which says the version
abbrev tells : RawFrame → Outcome → Bool
tells f (Outcome.Faulted fault cut) = says_version (Some f) fault
tells f o = false

-- none of these does
abbrev NoneTells : RawFrame → List Outcome → Type 0
NoneTells f os = list_any (tells f) os ≡ false

both_untold : (f : RawFrame) (os more : List Outcome) → NoneTells f os → NoneTells f more → NoneTells f (os ++ more)
both_untold f [] more h later = later
both_untold f (o ∷ os) more h later =
    let parts = or_parts (tells f o) (list_any (tells f) os) h in ap (λ (b : Bool). b || list_any (tells f) (os ++ more)) parts.0 ∙ both_untold f os more parts.1 later

refused_untold : (f : RawFrame) (why : Option Refusal) → NoneTells f (option_to_list (option_map Outcome.Refused why))
refused_untold f None = refl
refused_untold f (Some why) = refl

accepted_untold : (k : Core) (c : ℕ) (f : RawFrame) → NoneTells f (accepted_outcomes k c f)
accepted_untold k c f =
    both_untold f (frame_outcome k c f) (outcomes_without (wants_memory k c f) frame_no_memory)
    (elim (frame_move k c (action_by f.command (session_at k c) f)) as (λ (move : Option Move). NoneTells f (option_map_or (move_outcome (core_for k f)) move (Outcome.Done ∷ []))) [
      | None ↦ refl
      | Some move ↦ elim (answer_to (core_for k f).world move) as (λ a. NoneTells f (option_to_list (outcome_of a))) [ Answer.Refused why ↦ refused_untold f (refusal_of why) | _ ↦ refl ]
    ]) (elim (wants_memory k c f) as (λ wanted. NoneTells f (outcomes_without wanted frame_no_memory)) [ true ↦ refl | false ↦ refl ])

-- with this fault, or without one, none of what may come of it does
abbrev Untold : Core → ℕ → RawFrame → Option ConnectionFault → Type 0
Untold k c f fault = NoneTells f (option_map_or fault_outcomes fault (accepted_outcomes k c f))

claim_untold : (k : Core) (c : ℕ) (f : RawFrame) (action : Action) (rest : Option ConnectionFault) → Untold k c f rest → Untold k c f (option_or (claim_fault k action) rest)
claim_untold k c f (actions.Connected client) rest h =
    let before = claims_of k.steps in by (option_map_or (is_in_use k.world) (claimed_sender client before) false) (is_one_too_many client before)
  where
    by : (in_use many : Bool) → Untold k c f (option_or (first_refusal ((in_use, ConnectionFault.SenderInUse) ∷ (many, ConnectionFault.TooManyClients) ∷ [])) rest)
    by true many = refl
    by false true = refl
    by false false = h
claim_untold k c f _ rest h = h

-- so no ERROR that ends it does
pub untold : (k : Core) (c : ℕ) (f : RawFrame) (fault : ConnectionFault) → case_fault f ≡ None → session_fault (session_at k c) f ≡ None → MayEnd k c f fault
    → says_version (Some f) fault ≡ false
untold k c f fault cased free may = by (says_version (Some f) fault) refl
  where
    none : Untold k c f (frame_fault k c f)
    none =
        let rest = option_map (λ (why : Objection). frame_no_memory) (asked_objection k c f) in
        subst (Untold k c f) (sym (fault_of_frame k c f cased free))
        (claim_untold k c f (action_by f.command (session_at k c) f) rest (elim (asked_objection k c f) as (λ (why : Option Objection). Untold k c f (option_map (λ w. frame_no_memory) why)) [ None ↦ accepted_untold k c f | Some why ↦ refl ]))

    by : (b : Bool) → says_version (Some f) fault ≡ b → b ≡ false
    by true is =
        absurd (true≢false (sym (any_from (tells f) (Outcome.Faulted fault false) (option_map_or fault_outcomes (frame_fault k c f) (accepted_outcomes k c f)) (may false) is) ∙ none))
    by false is = refl
