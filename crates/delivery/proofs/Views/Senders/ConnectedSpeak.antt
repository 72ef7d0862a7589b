-- A connection whose session is connected speaks for a sender, and no other does.
use Rattle.delivery.proofs.Words.All.{◌≡◌, ℕ, ◌==◌, ◌||◌, Bool, true, false, cond, not, List, [], ◌∷◌, ◌++◌, Option, Some, None, refl, sym, ap, ◌∙◌, codes, is_some, option_to_list, unwrap_or, true≢false, false≢true, not-true, not-false, first_refusal, Command, RawFrame, is_connect, SessionFault, client_of, field, Held, is_ended, is_closed, is_new, open_refusals, session_fault, or_third, none_some, connection_at, Event, Claim, begun_count, claim_of, claimed_sender, claims_of, sender_claimed, Core, session_at, CoreStep, accepted_of, frame_from, frame_in, has_effect, IsReached}
use Rattle.stomp_frame.specs.declared.command.Command.TheVariants as commands
use Rattle.stomp_session.specs.Versions.{has_version}
use Rattle.stomp_session.specs.Open.{is_connected}
use Rattle.stomp_session.specs.Refusals.{Condition, refusals_by}
use Rattle.delivery.proofs.Views.Runs.ByRunOfCore.{stand_of}
use Rattle.delivery.proofs.Machine.ByFound.{none_of}

any_append : (xs ys : List RawFrame) → is_connected (xs ++ ys) ≡ (is_connected ys || is_connected xs)
any_append [] ys = elim (is_connected ys) as (λ (b : Bool). b ≡ (b || false)) [ true ↦ refl | false ↦ refl ]
any_append (x ∷ xs) ys = ap (λ (b : Bool). is_connect x.command || b) (any_append xs ys) ∙ or_third (is_connect x.command) (is_connected ys) (is_connected xs)

-- the CONNECTs that were accepted of a connection are its claims
pub connected_claims : (c : ℕ) (steps : List CoreStep) → is_connected (accepted_of c steps) ≡ is_some (sender_claimed c (claims_of steps))
connected_claims c [] = refl
connected_claims c (step ∷ older) =
    any_append (accepted_of c older) (cond (has_effect step.outcome) (frame_from c step) [])
    ∙ (ap (λ (b : Bool). is_connected (cond (has_effect step.outcome) (frame_from c step) []) || b) (connected_claims c older)
    ∙ by step.event (has_effect step.outcome) (frame_in step.reading))
  where
    before : List Claim
    before = claims_of older

    number : RawFrame → ℕ
    number f = unwrap_or (claimed_sender (client_of f) before) (begun_count before)

    by_frame : (d : ℕ) (f : RawFrame) (same : Bool) → (d == c) ≡ same → (connect : Bool) → is_connect f.command ≡ connect
        → (is_connected (cond same (f ∷ []) []) || is_some (sender_claimed c before))
        ≡ is_some (sender_claimed c (cond connect (record { connection = d; client = client_of f } ∷ []) [] ++ before))
    by_frame d f true is true connects =
        ap (λ (b : Bool). (b || false) || is_some (sender_claimed c before)) connects
        ∙ sym (ap (λ (b : Bool). is_some (cond b (Some (number f)) (sender_claimed c before))) is)
    by_frame d f true is false connects = ap (λ (b : Bool). (b || false) || is_some (sender_claimed c before)) connects
    by_frame d f false is true connects = sym (ap (λ (b : Bool). is_some (cond b (Some (number f)) (sender_claimed c before))) is)
    by_frame d f false is false connects = refl

    nothing : (b : Bool) → (is_connected (cond b (option_to_list None) []) || is_some (sender_claimed c before)) ≡ is_some (sender_claimed c before)
    nothing true = refl
    nothing false = refl

    by : (e : Event) (effect : Bool) (read : Option RawFrame)
        → (is_connected (cond effect (cond (Rattle.delivery.specs.Core.Steps.is_next c e) (option_to_list read) []) []) || is_some (sender_claimed c before))
        ≡ is_some (sender_claimed c (claim_of e (cond effect read None) ++ before))
    by (Event.Next d) false read = refl
    by (Event.Next d) true None = nothing (d == c)
    by (Event.Next d) true (Some f) = by_frame d f (d == c) refl (is_connect f.command) refl
    by e effect read = elim effect as (λ b. (is_connected (cond b [] []) || is_some (sender_claimed c before)) ≡ is_some (sender_claimed c before)) [ true ↦ refl | false ↦ refl ]

-- ---- a session

first_holds : (b : Bool) (x : SessionFault) (cs : List Condition) → first_refusal ((b, x) ∷ cs) ≡ None → (b ≡ false) × (first_refusal cs ≡ None)
first_holds true x cs e = none_some x (sym e)
first_holds false x cs e = (refl, e)

-- a session that isn't new is connected, or ended
phase_new : (frames : List RawFrame) → is_closed (Rattle.stomp_session.specs.Open.phase_of frames) ≡ false
    → is_new (Rattle.stomp_session.specs.Open.phase_of frames) ≡ not (is_connected frames)
phase_new frames unclosed = by (is_ended frames) (is_connected frames) unclosed
  where
    by : (a b : Bool) → is_closed (cond a Rattle.stomp_session.specs.declared.phase.Phase.TheVariants.Closed (cond b Rattle.stomp_session.specs.declared.phase.Phase.TheVariants.Connected Rattle.stomp_session.specs.declared.phase.Phase.TheVariants.New)) ≡ false
        → is_new (cond a Rattle.stomp_session.specs.declared.phase.Phase.TheVariants.Closed (cond b Rattle.stomp_session.specs.declared.phase.Phase.TheVariants.Connected Rattle.stomp_session.specs.declared.phase.Phase.TheVariants.New)) ≡ not b
    by true b e = absurd (true≢false e)
    by false true e = refl
    by false false e = refl

opens_other : (command : Command) (s : Held) (f : RawFrame) → is_connect command ≡ false → first_refusal (open_refusals command s f) ≡ None → is_new s.phase ≡ false
opens_other commands.Connect s f other e = absurd (true≢false other)
opens_other commands.Stomp s f other e = absurd (true≢false other)
opens_other command s f other e = (first_holds (is_new s.phase) SessionFault.NotConnected (refusals_by command s f) e).0

opens_connect : (command : Command) (s : Held) (f : RawFrame) → is_connect command ≡ true → first_refusal (open_refusals command s f) ≡ None → is_new s.phase ≡ true
opens_connect commands.Connect s f connect e = (elim (is_new s.phase) as (λ (b : Bool). not b ≡ false → b ≡ true) [
  | true ↦ λ d. refl
  | false ↦ λ d. absurd (true≢false d)
]) (first_holds (not (is_new s.phase)) SessionFault.AlreadyConnected ((not (has_version (codes "1.2") (field (codes "accept-version") f)), SessionFault.NoVersion) ∷ []) e).0
opens_connect commands.Stomp s f connect e = (elim (is_new s.phase) as (λ (b : Bool). not b ≡ false → b ≡ true) [
  | true ↦ λ d. refl
  | false ↦ λ d. absurd (true≢false d)
]) (first_holds (not (is_new s.phase)) SessionFault.AlreadyConnected ((not (has_version (codes "1.2") (field (codes "accept-version") f)), SessionFault.NoVersion) ∷ []) e).0
opens_connect _ s f connect e = absurd (false≢true connect)

-- its sender, as the frames say that it accepted
sender_is : (k : Core) (c : ℕ) → IsReached k → is_some (connection_at k.world c).sender ≡ is_connected (accepted_of c k.steps)
sender_is k c reached = ap (λ (o : Option ℕ). is_some o) ((stand_of k reached).spoken c) ∙ sym (connected_claims c k.steps)

-- a connection of which a frame other than a CONNECT is accepted has a sender
pub has_sender : (k : Core) (c : ℕ) (f : RawFrame) → IsReached k → is_connect f.command ≡ false → session_fault (session_at k c) f ≡ None
    → is_some (connection_at k.world c).sender ≡ true
has_sender k c f reached other free =
    let s = session_at k c in let first = first_holds (is_closed s.phase) SessionFault.Closed (open_refusals f.command s f) free in
    sender_is k c reached
    ∙ not-false (is_connected (accepted_of c k.steps)) (sym (phase_new (accepted_of c k.steps) first.0) ∙ opens_other f.command s f other first.1)

-- one of which a CONNECT is accepted has none
pub has_none : (k : Core) (c : ℕ) (f : RawFrame) → IsReached k → is_connect f.command ≡ true → session_fault (session_at k c) f ≡ None → (connection_at k.world c).sender ≡ None
has_none k c f reached connect free =
    let s = session_at k c in let first = first_holds (is_closed s.phase) SessionFault.Closed (open_refusals f.command s f) free in
    none_of (connection_at k.world c).sender (sender_is k c reached
    ∙ not-true (is_connected (accepted_of c k.steps)) (sym (phase_new (accepted_of c k.steps) first.0) ∙ opens_connect f.command s f connect first.1))
