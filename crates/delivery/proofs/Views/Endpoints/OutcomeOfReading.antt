-- What an open endpoint makes of what its reader gives.
use Rattle.std.proofs.lemmas.Bool.{lt-leb}
use Rattle.delivery.proofs.Words.All.{◌≡◌, ◌≢◌, ℕ, ◌+◌, ◌⊎◌, Bool, true, false, cond, inl, inr, List, [], ◌∷◌, ◌++◌, Option, Some, None, refl, sym, ap, subst, ◌∙◌, arith, Result, Ok, Err, MatchOption, Check, RawFrame, fault_of, Limits, Halt, Unread, ReadsNext, Step, with_destination, held_after, state_of, answers_none, ConnectionFault, OpenEndpoint, is_any, Reading, IsRefusedAs, Judgement}
use Rattle.stomp_frame.specs.declared.fault.FrameFault.{FrameFault}
use Rattle.stomp_frame.specs.Inner.Parser.{◌>>=◌, after_eols, body_at, command_of, frame_at, headers_at, line_at}
use Rattle.stomp_frame.specs.Commands.{has_escapes}
use Rattle.stomp_frame.specs.Reader.{NextReturns}
use Rattle.stomp_session.specs.Open.{SessionState}
use Rattle.delivery.specs.Inner.Nexts.{IsAccepted, reader_fault}

-- what a reader returns before a fault
reads : (u v : Unread) (r : Result (Option RawFrame) FrameFault) → u.answered ≡ None → NextReturns u r v → ReadsNext u r v
reads u v r unanswered h = subst (λ (a : Option Check). MatchOption a (ReadsNext u r v) (λ k. (r ≡ Err (fault_of k)) × (v ≡ u))) unanswered h

found : (u v : Unread) (r : Option RawFrame) → u.answered ≡ None → ((Ok r ≢ Err FrameFault.NoMemory) → NextReturns u (Ok r) v) → ReadsNext u (Ok r) v
found u v r unanswered h = reads u v (Ok r) unanswered (h (λ e. absurd (cc)))

-- there is no whole frame yet
pub judged_waits : (accepted : List RawFrame) (names : List (List ℕ)) (old : OpenEndpoint) (left : Unread) (r : Option RawFrame)
    → ((Ok r ≢ Err FrameFault.NoMemory) → NextReturns old.reader (Ok r) left) → r ≡ None → old.reader.answered ≡ None
    → Judgement accepted names old (Ok None) (record old { reader = left }) names
judged_waits accepted names old left r h is unanswered = record {
  reading = Reading.Waits left;
  read = subst (λ (x : Option RawFrame). ReadsNext old.reader (Ok x) left) is (found old.reader left r unanswered h);
  judged = (refl, refl);
}

-- a text of no octets has no line, and so no frame and no fault
no_line : (limits : Limits) → line_at limits [] ≡ Err Halt.Open
unfolding line_at
no_line limits = ap (λ (b : Bool). cond b (Err (Halt.Fault Check.LineTooLong)) (Err Halt.Open)) (lt-leb (limits.line + 2) 0 (omega arith))

no_text : (limits : Limits) → frame_at limits [] ≡ Err Halt.Open
unfolding frame_at after_eols
no_text limits =
    ap (λ (r : Result (List ℕ × List ℕ) Halt). r >>= λ line.
    command_of line.0 >>= λ command.
    headers_at limits (has_escapes command) limits.headers line.1 >>= λ headers.
    body_at limits headers.0 headers.1 >>= λ body.
    Ok (record { command = command; headers = headers.0; body = body.0 }, body.1)) (no_line limits)

no_text_reads : (u : Unread) → u.text ≡ [] → ReadsNext u (Ok None) u
unfolding after_eols
no_text_reads u none =
    let at = ap (λ (t : List ℕ). frame_at u.limits t) none ∙ no_text u.limits in
    subst (λ (t : List ℕ). ReadsNext u (Ok None) (record u { text = t })) (ap after_eols none ∙ sym none) (answers_none u at)

-- nothing is unread
pub judged_idle : (accepted : List RawFrame) (names : List (List ℕ)) (old : OpenEndpoint) → old.reader.text ≡ [] → Judgement accepted names old (Ok None) old names
judged_idle accepted names old none = record { reading = Reading.Waits old.reader; read = no_text_reads old.reader none; judged = (refl, refl) }

-- the session accepts the frame
pub judged_takes : (accepted : List RawFrame) (names later : List (List ℕ)) (old new : OpenEndpoint) (left : Unread) (r : Option RawFrame) (f : RawFrame) (step : Step)
    → ((Ok r ≢ Err FrameFault.NoMemory) → NextReturns old.reader (Ok r) left) → r ≡ Some f → old.reader.answered ≡ None → IsAccepted (held_after names accepted) f step
    → new.session ≡ state_of (held_after later (accepted ++ f ∷ [])) → later ≡ with_destination f names → new ≡ record old { reader = left; session = new.session }
    → Judgement accepted names old (Ok (Some step)) new later
judged_takes accepted names later old new left r f step h is unanswered taken session named others = record {
  reading = Reading.Finds f left;
  read = subst (λ (x : Option RawFrame). ReadsNext old.reader (Ok x) left) is (found old.reader left r unanswered h);
  judged = (taken, others ∙ ap (λ (s : SessionState). record old { reader = left; session = s }) session, named);
}

-- the frame is refused
pub judged_refuses : (accepted : List RawFrame) (names later : List (List ℕ)) (old new : OpenEndpoint) (left : Unread) (r : Option RawFrame) (f g : RawFrame) (fault : ConnectionFault)
    → ((Ok r ≢ Err FrameFault.NoMemory) → NextReturns old.reader (Ok r) left) → r ≡ Some f → old.reader.answered ≡ None
    → IsRefusedAs (held_after names accepted) f fault → g ≡ f → later ≡ names → Judgement accepted names old (Err (fault, Some g)) new later
judged_refuses accepted names later old new left r f g fault h is unanswered refused same unnamed = record {
  reading = Reading.Finds f left;
  read = subst (λ (x : Option RawFrame). ReadsNext old.reader (Ok x) left) is (found old.reader left r unanswered h);
  judged = (ap (λ (x : RawFrame). Some x) same, refused, unnamed);
}

-- where not all is read, some octets are unread
pub some_unread : (text : List ℕ) → (text ≡ [] → false ≡ true) → is_any text ≡ true
some_unread [] other = absurd (let h = other refl in cc)
some_unread (b ∷ text) other = refl

memory_or : (fault : FrameFault) → (fault ≡ FrameFault.NoMemory) ⊎ (fault ≢ FrameFault.NoMemory)
memory_or FrameFault.NoMemory = inl refl
memory_or _ = inr (λ e. absurd (cc))

stream : (k : Check) → reader_fault (fault_of k) ≡ ConnectionFault.Stream k
stream Check.BadCommand = refl
stream _ = refl

-- the reader returns a fault
pub judged_fails : (accepted : List RawFrame) (names : List (List ℕ)) (old new : OpenEndpoint) (left : Unread) (fault : FrameFault)
    → ((◌≢◌ {A = Result (Option RawFrame) FrameFault} (Err fault) (Err FrameFault.NoMemory)) → NextReturns old.reader (Err fault) left) → old.reader.answered ≡ None
    → is_any old.reader.text ≡ true → (reported : ConnectionFault) → reported ≡ reader_fault fault → Judgement accepted names old (Err (reported, None)) new names
judged_fails accepted names old new left fault h unanswered some reported is = elim (memory_or fault) [
  | inl e ↦ record { reading = Reading.Nothing; read = tt; judged = (refl, is ∙ ap reader_fault e, some, refl) }
  | inr ne ↦ (let other : ◌≢◌ {A = Result (Option RawFrame) FrameFault} (Err fault) (Err FrameFault.NoMemory) = λ e. ne (cc) in
      let k = reads old.reader left (Err fault) unanswered (h other) in
      record {
        reading = Reading.Fails k.1 left;
        read = (k.0, k.1, k.2, k.3, refl, k.5);
        judged = (refl, is ∙ (ap reader_fault k.4 ∙ stream k.1), refl);
      })
]
