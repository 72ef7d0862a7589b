-- What a step answers, over the list of the frames that were accepted.
use Rattle.std.proofs.Common.{◌≡◌, ◌⊎◌, Bool, true, false, List, ℕ, [], ◌∷◌, ◌++◌, None, Some, refl, sym, ap, subst, ◌∙◌, inl, inr, Result, Ok, Err, if◌then◌else◌}
use Rattle.stomp_frame.specs.declared.command.Command.{Command}
use Rattle.stomp_frame.specs.declared.command.Command.TheVariants as commands
use Rattle.stomp_frame.specs.declared.client_frame.ClientFrame.{ClientFrame}
use Rattle.stomp_frame.specs.declared.client_frame.ClientFrame.TheVariants as client_frames
use Rattle.stomp_frame.specs.ClientFrames.{raw_of}
use Rattle.stomp_frame.specs.declared.raw_frame.RawFrame.{RawFrame}
use Rattle.stomp_frame.specs.Cases.{is_connect}
use Rattle.stomp_frame.specs.Receipts.{receipt_of}
use Rattle.stomp_session.specs.declared.action.Step.{Step}
use Rattle.stomp_session.specs.declared.fault.SessionFault.{SessionFault}
use Rattle.stomp_session.specs.declared.fault.SessionFault.TheVariants as faults
use Rattle.stomp_session.specs.declared.judged.Judged.{Judged}
use Rattle.stomp_session.specs.Open.{Held, SessionState, StandsFor, held_after, state_of}
use Rattle.stomp_session.specs.Answers.{Accepts, Refuses, action_by, takes_memory}
use Rattle.stomp_session.specs.Inner.Effects.{action_of, effect, held_with, refusal_by, AcceptsAs, Handles, JudgesAs, RefusesAs}
use Rattle.stomp_session.specs.Frames.{has_destination, with_destination}
use Rattle.stomp_session.proofs.History.{Follows, connect-follows, stomp-follows, send-follows, subscribe-follows, unsubscribe-follows, begin-follows, commit-follows, abort-follows, disconnect-follows}
use Rattle.stomp_session.proofs.Later.{known-push, state-push, with_destination-none}

-- the step accepts the frame after these, and the session holds what is open after it, by the names as they are then
abbrev pub Answered : List (List ℕ) → RawFrame → Step → SessionState → List (List ℕ) → List RawFrame → Type 0
Answered names f step new later frames = Accepts (held_after names frames) f step × StandsFor new later (frames ++ f ∷ [])

-- a step that accepts a frame of this command answers as the list of the accepted frames says
pub accepts : (command : Command) (s : SessionState) (names : List (List ℕ)) (f : RawFrame) (step : Step) (new : SessionState) (later : List (List ℕ)) → f.command ≡ command
    → AcceptsAs command (held_with names s) f step new → later ≡ with_destination f names
    → ((frames : List RawFrame) → Follows names frames f command)
    → (frames : List RawFrame) → StandsFor s names frames → Answered names f step new later frames
accepts command s names f step new later e does grown follows frames stands =
    let held : Held = held_after names frames in
    let is_held : held_with names s ≡ held = ap (held_with names) stands.holds in
    let accepted : refusal_by command held f ≡ None = subst (λ h. refusal_by command h f ≡ None) is_held does.accepted in
    let action : step.action ≡ action_by command held f = subst (λ h. step.action ≡ action_by command h f) is_held does.action in
    let after : new ≡ state_of (held_after names (frames ++ f ∷ [])) = does.held ∙ ap (λ h. state_of (effect command h f)) is_held ∙ ap state_of (follows frames e accepted) in (
      record {
        accepted = subst (λ c. refusal_by c held f ≡ None) (sym e) accepted;
        action = subst (λ c. step.action ≡ action_by c held f) (sym e) action;
        receipt = does.receipt;
      },
      subst (λ names. StandsFor new names (frames ++ f ∷ [])) (sym grown)
          (record { holds = after ∙ sym (state-push names frames f stands.known); known = known-push names frames f stands.known }),
    )

-- the step of a frame that was judged
pub accepts-judged : (command : Command) (s : SessionState) (names : List (List ℕ)) (f : RawFrame) (judged : Judged) (step : Step) (new : SessionState) (later : List (List ℕ)) → f.command ≡ command
    → JudgesAs command (held_with names s) f judged new → later ≡ with_destination f names
    → step.action ≡ action_of judged f → step.receipt ≡ receipt_of f
    → ((frames : List RawFrame) → Follows names frames f command)
    → (frames : List RawFrame) → StandsFor s names frames → Answered names f step new later frames
accepts-judged command s names f judged step new later e judges grown action receipt follows frames stands =
    let accepted : AcceptsAs command (held_with names s) f step new = record { accepted = judges.accepted; action = action ∙ judges.action; receipt = receipt; held = judges.held } in
    accepts command s names f step new later e accepted grown follows frames stands

-- a frame of a command without a destination leaves the names
pub unnamed : (command : Command) (names : List (List ℕ)) (f : RawFrame) → f.command ≡ command → has_destination command ≡ false → names ≡ with_destination f names
unnamed command names f e none = sym (with_destination-none f names (ap has_destination e ∙ none))

-- CONNECT and STOMP are the commands that connect
connect_or_stomp : (command : Command) → is_connect command ≡ true → (command ≡ commands.Connect) ⊎ (command ≡ commands.Stomp)
connect_or_stomp commands.Connect e = inl refl
connect_or_stomp commands.Stomp e = inr refl
connect_or_stomp _ e = cc

-- and they leave the names
pub connect-unnamed : (names : List (List ℕ)) (f : RawFrame) → is_connect f.command ≡ true → names ≡ with_destination f names
connect-unnamed names f connects = elim (connect_or_stomp f.command connects) [
  | inl e ↦ unnamed commands.Connect names f e refl
  | inr e ↦ unnamed commands.Stomp names f e refl
]

-- where it is judged as a CONNECT, it is judged as what it is
pub handles-connect : (s : Held) (f : RawFrame) (result : Result Judged SessionFault) (new : SessionState) → is_connect f.command ≡ true
    → Handles commands.Connect s f result new → Handles f.command s f result new
handles-connect s f result new connects handles = by (connect_or_stomp f.command connects)
  where
    as_stomp : (result : Result Judged SessionFault) → Handles commands.Connect s f result new → Handles commands.Stomp s f result new
    as_stomp (Ok judged) judges = record { accepted = judges.accepted; action = judges.action; id = judges.id; held = judges.held }
    as_stomp (Err faults.NoMemory) why = why
    as_stomp (Err _) why = why

    by : (f.command ≡ commands.Connect) ⊎ (f.command ≡ commands.Stomp) → Handles f.command s f result new
    by (inl e) = subst (λ c. Handles c s f result new) (sym e) handles
    by (inr e) = subst (λ c. Handles c s f result new) (sym e) (as_stomp result handles)

-- what a client's frame changes is what it opens and closes in the list
pub frame-follows : (frame : ClientFrame) (names : List (List ℕ)) (frames : List RawFrame) → Follows names frames (raw_of frame) (raw_of frame).command
frame-follows frame names frames = by frame
  where
    with_command : (command : Command) (f : RawFrame) → f.command ≡ command → Follows names frames f command → Follows names frames f f.command
    with_command command f e follows = subst (λ c. Follows names frames f c) (sym e) follows

    by : (frame : ClientFrame) → Follows names frames (raw_of frame) (raw_of frame).command
    by (client_frames.Connect frame) = elim (connect_or_stomp frame.raw.command frame.complete.command) [
      | inl e ↦ with_command commands.Connect frame.raw e (connect-follows names frames frame.raw)
      | inr e ↦ with_command commands.Stomp frame.raw e (stomp-follows names frames frame.raw)
    ]
    by (client_frames.Send frame) = with_command commands.Send frame.raw frame.complete.command (send-follows names frames frame.raw)
    by (client_frames.Subscribe frame) = with_command commands.Subscribe frame.raw frame.complete.command (subscribe-follows names frames frame.raw)
    by (client_frames.Unsubscribe frame) = with_command commands.Unsubscribe frame.raw frame.complete.command (unsubscribe-follows names frames frame.raw)
    by (client_frames.Begin frame) = with_command commands.Begin frame.raw frame.complete.command (begin-follows names frames frame.raw)
    by (client_frames.Commit frame) = with_command commands.Commit frame.raw frame.complete.command (commit-follows names frames frame.raw)
    by (client_frames.Abort frame) = with_command commands.Abort frame.raw frame.complete.command (abort-follows names frames frame.raw)
    by (client_frames.Disconnect frame) = with_command commands.Disconnect frame.raw frame.complete.command (disconnect-follows names frames frame.raw)

-- a fault that a frame of this command is refused with: its first refusal, or there was no memory
refused-by : (command : Command) (s : Held) (f : RawFrame) (fault : SessionFault) → RefusesAs command s f fault
    → (refusal_by command s f ≡ Some fault) ⊎ ((refusal_by command s f ≡ None) × (fault ≡ faults.NoMemory) × (takes_memory command s f ≡ true))
refused-by command s f faults.NoMemory e = by (takes_memory command s f) refl e
  where
    by : (b : Bool) → takes_memory command s f ≡ b → refusal_by command s f ≡ (if b then None else Some faults.NoMemory)
        → (refusal_by command s f ≡ Some faults.NoMemory) ⊎ ((refusal_by command s f ≡ None) × (faults.NoMemory ≡ faults.NoMemory) × (takes_memory command s f ≡ true))
    by true takes e = inr (e, refl, takes)
    by false takes e = inl e
refused-by command s f _ e = inl e

-- a frame of this command that is refused is so by what is open after the accepted frames
pub refuses : (command : Command) (s : SessionState) (names : List (List ℕ)) (f : RawFrame) (fault : SessionFault) → f.command ≡ command
    → RefusesAs command (held_with names s) f fault → (frames : List RawFrame) → StandsFor s names frames → Refuses (held_after names frames) f fault
refuses command s names f fault e why frames stands =
    subst (λ c. (refusal_by c (held_after names frames) f ≡ Some fault) ⊎ ((refusal_by c (held_after names frames) f ≡ None) × (fault ≡ faults.NoMemory) × (takes_memory c (held_after names frames) f ≡ true))) (sym e)
    (refused-by command (held_after names frames) f fault (subst (λ h. RefusesAs command h f fault) (ap (held_with names) stands.holds) why))
