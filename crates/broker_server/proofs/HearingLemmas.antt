-- What stays, and what shrinks, where a connection takes frames.
use Rattle.std.proofs.Common.{◌≡◌, ◌≢◌, inl, inr, IfSome, Bool, true, false, ℕ, ◌<◌, List, [], ◌∷◌, length, Option, Some, None, Result, Ok, Err, refl, sym, ap, subst, ◌∙◌}
use Rattle.std.specs.Prelude.{MatchOption}
use Rattle.stomp_frame.specs.declared.case_fault.CaseFault.{CaseFault}
use Rattle.stomp_frame.specs.declared.fault.Check.{Check}
use Rattle.stomp_frame.specs.declared.fault.FrameFault.{FrameFault}
use Rattle.stomp_frame.specs.declared.raw_frame.RawFrame.{RawFrame}
use Rattle.stomp_frame.specs.Cases.{case_fault}
use Rattle.stomp_frame.specs.Faults.{fault_of}
use Rattle.stomp_frame.specs.Reader.{Unread, NextReturns, ReadsNext}
use Rattle.stomp_frame.specs.Receipts.{receipt_of}
use Rattle.stomp_frame.proofs.Whole.{shorter}
use Rattle.stomp_session.specs.declared.action.Action.{Action}
use Rattle.stomp_session.specs.declared.action.Action.TheVariants as actions
use Rattle.stomp_session.specs.declared.action.Step.{Step}
use Rattle.stomp_session.specs.declared.fault.SessionFault.{SessionFault}
use Rattle.stomp_session.specs.Open.{SessionState}
use Rattle.delivery.specs.Core.Outcomes.{is_any}
use Rattle.delivery.specs.declared.open_endpoint.OpenEndpoint.{OpenEndpoint}
use Rattle.delivery.specs.Core.State.{IsReadBy}
use Rattle.delivery.specs.Core.Steps.{Reading}
use Rattle.delivery.specs.Inner.Nexts.{JudgesReading}
use Rattle.delivery.proofs.Views.Endpoints.OutcomeOfReading.{judged_idle}
use Rattle.delivery.specs.declared.connection_fault.ConnectionFault.{ConnectionFault}
use Rattle.delivery.specs.declared.connection_fault.ConnectionFault.TheVariants as connection
use Rattle.broker_server.specs.declared.conversation.conversation_fault.ConversationFault.{ConversationFault}
use Rattle.broker_server.specs.declared.conversation.conversation_fault.ConversationFault.TheVariants as fault
use Rattle.broker_server.specs.BrokerRows.{BrokerRow}
use Rattle.broker_server.specs.ConversationFaults.{tells_version}
use Rattle.broker_server.specs.Conversations.{Acts, Answers, Concludes, ConversationState, Does, Done, EndsByError, EndsSaying, Performs}
use Rattle.broker_server.specs.Hearing.{IfHalf, JudgesFrame, ReadingFails, RefusesFrame, TakesFrame, TakesFrames}
use Rattle.broker_server.specs.Judging.{IsFrameRefused}

-- ---- what came and isn't read yet stays as a frame has its effect

fails_reader : (version : Bool) (why : ConversationFault) (receipt : Option (List ℕ)) (old new : ConversationState) → EndsSaying version why receipt old new → new.reader ≡ old.reader
fails_reader version why receipt old new (inl e) = ap (λ (s : ConversationState). s.reader) e
fails_reader version why receipt old new (inr e) = ap (λ (s : ConversationState). s.reader) e

pub performs_reader : (action : Action) (old : ConversationState) (asked : List BrokerRow) (result : Done) (new : ConversationState) → Performs action old asked result new → new.reader ≡ old.reader
performs_reader (actions.Connected client) old asked result new (inl (gate, a, r, e)) = ap (λ (s : ConversationState). s.reader) e
performs_reader (actions.Connected client) old asked result new (inr (why, a, r, e)) = ap (λ (s : ConversationState). s.reader) e
performs_reader actions.Nothing old asked result new (a, r, e) = ap (λ (s : ConversationState). s.reader) e
performs_reader (actions.Subscribe id topic) old asked result new (inl (sub, a, r, e)) = ap (λ (s : ConversationState). s.reader) e
performs_reader (actions.Subscribe id topic) old asked result new (inr (inl (why, a, r, e))) = ap (λ (s : ConversationState). s.reader) e
performs_reader (actions.Subscribe id topic) old asked result new (inr (inr (a, r, e))) = ap (λ (s : ConversationState). s.reader) e
performs_reader (actions.Unsubscribe id) old asked result new (r, inl (front, back, o, cut, named, none, a, e)) = ap (λ (s : ConversationState). s.reader) e
performs_reader (actions.Unsubscribe id) old asked result new (r, inr (none, a, e)) = ap (λ (s : ConversationState). s.reader) e
performs_reader (actions.Commit sends) old asked result new (rest, found, inl (gate, left, g, commits, e)) = ap (λ (s : ConversationState). s.reader) e
performs_reader (actions.Commit sends) old asked result new (rest, found, inr (g, a, r, e)) = ap (λ (s : ConversationState). s.reader) e
performs_reader actions.Disconnect old asked result new (a, r, e) = ap (λ (s : ConversationState). s.reader) e

answers_reader : (frames : List RawFrame) (old : ConversationState) (asked : List BrokerRow) (new : ConversationState) → Answers frames old asked new → new.reader ≡ old.reader
answers_reader frames old asked new (inl (a, e)) = ap (λ (s : ConversationState). s.reader) e
answers_reader frames old asked new (inr (inl (any, a, none_yet, fails))) = fails_reader (tells_version None fault.NoReply) fault.NoReply None old new fails
answers_reader frames old asked new (inr (inr (any, a, left, e))) = ap (λ (s : ConversationState). s.reader) e

pub concludes_reader : (done : Done) (frames : List RawFrame) (receipt : Option (List ℕ)) (old : ConversationState) (asked : List BrokerRow) (new : ConversationState) → Concludes done frames receipt old asked new → new.reader ≡ old.reader
concludes_reader (Ok u) frames receipt old asked new answers = answers_reader frames old asked new answers
concludes_reader (Err why) frames receipt old asked new (a, fails) = fails_reader (tells_version None why) why receipt old new fails

does_reader : (step : Step) (old : ConversationState) (asked : List BrokerRow) (new : ConversationState) → Does step old asked new → new.reader ≡ old.reader
does_reader step old asked new a = concludes_reader a.result _ step.receipt a.between a.rest new a.concludes ∙ performs_reader step.action old a.first a.result a.between a.performs

pub acts_reader : (step : Step) (old : ConversationState) (asked : List BrokerRow) (new : ConversationState) → Acts step old asked new → new.reader ≡ old.reader
acts_reader step old asked new (inl does) = does_reader step old asked new does
acts_reader step old asked new (inr (sends, is, a, e)) = ap (λ (s : ConversationState). s.reader) e

judged_reader : (f : RawFrame) (o : Option CaseFault) (old : ConversationState) (asked : List BrokerRow) (new : ConversationState) → MatchOption o (JudgesFrame f old asked new) (λ why. RefusesFrame (fault.Connection (connection.Frame why)) f old asked new) → new.reader ≡ old.reader
judged_reader f None old asked new (first, rest, cut, between, inl (step, accepts, acts)) = acts_reader step between rest new acts ∙ ap (λ (s : ConversationState). s.reader) accepts.same
judged_reader f None old asked new (first, rest, cut, between, inr (why, denies, (a, fails))) = fails_reader (tells_version (Some f) why) why (receipt_of f) between new fails ∙ ap (λ (s : ConversationState). s.reader) denies.same
judged_reader f (Some why) old asked new (a, fails) = fails_reader (tells_version (Some f) (fault.Connection (connection.Frame why))) (fault.Connection (connection.Frame why)) (receipt_of f) old new fails

pub takes_reader : (f : RawFrame) (old : ConversationState) (asked : List BrokerRow) (new : ConversationState) → TakesFrame f old asked new → new.reader ≡ old.reader
takes_reader f old asked new takes = judged_reader f (case_fault f) old asked new takes

-- ---- a frame that is read makes what isn't read shorter

shorter_by : (r left : Unread) (f : RawFrame) (answered : Option Check) → MatchOption answered (ReadsNext r (Ok (Some f)) left) (λ k. (Ok (Some f) ≡ Err (fault_of k)) × (left ≡ r)) → length left.text < length r.text
shorter_by r left f None (others, begins, e) =
    subst (λ (u : Unread). length u.text < length r.text) (sym e) (shorter r.limits r.text f others begins)
shorter_by r left f (Some k) (e, same) = absurd cc

pub one_shorter : (f : RawFrame) (old : ConversationState) (asked : List BrokerRow) (new : ConversationState) → TakesFrames (f ∷ []) old asked new → length new.reader.text < length old.reader.text
one_shorter f old asked new (listens, left, reads, between, first, rest, cut, takes, (none, e)) =
    let same : new.reader ≡ left = ap (λ (s : ConversationState). s.reader) e ∙ takes_reader f (record old { reader = left }) first between takes in
    subst (λ (u : Unread). length u.text < length old.reader.text) (sym same) (shorter_by old.reader left f old.reader.answered reads)

-- ---- what is said of a frame, said of the same one as it came

pub refused_as : (f g : RawFrame) → g ≡ f → (r : Option (List ℕ)) → r ≡ receipt_of g → (version : Bool) (why : ConversationFault) → version ≡ tells_version (Some f) why → (old new : ConversationState) → EndsSaying version why r old new → EndsSaying (tells_version (Some f) why) why (receipt_of f) old new
refused_as f g same r asks version why says old new fails =
    subst (λ (v : Bool). EndsSaying v why (receipt_of f) old new) says (subst (λ (o : Option (List ℕ)). EndsSaying version why o old new) (asks ∙ ap receipt_of same) fails)

session_alike : (f : RawFrame) (why : SessionFault) → tells_version None (fault.Connection (connection.Session why)) ≡ tells_version (Some f) (fault.Connection (connection.Session why))
session_alike f SessionFault.NoVersion = refl
session_alike f _ = refl

-- whether the version is told of what the session refuses, or of want of memory, doesn't depend on the frame
pub tells_alike : (f : RawFrame) (why : ConversationFault) (old : SessionState) (known : List (List ℕ)) → IsFrameRefused f why old known → tells_version None why ≡ tells_version (Some f) why
tells_alike f (fault.Connection (connection.Session why)) old known refused = session_alike f why
tells_alike f fault.NoMemory old known refused = refl
tells_alike f _ old known refused = absurd refused

-- a client's frame is taken as the session judges it
pub takes_judged : (f : RawFrame) (old : ConversationState) (asked : List BrokerRow) (new : ConversationState) → case_fault f ≡ None → JudgesFrame f old asked new → TakesFrame f old asked new
takes_judged f old asked new none judges =
    subst (λ (o : Option CaseFault). MatchOption o (JudgesFrame f old asked new) (λ why. RefusesFrame (fault.Connection (connection.Frame why)) f old asked new)) (sym none) judges

-- another one is refused
pub takes_refused : (f : RawFrame) (old : ConversationState) (asked : List BrokerRow) (new : ConversationState) (why : CaseFault) → case_fault f ≡ Some why → RefusesFrame (fault.Connection (connection.Frame why)) f old asked new → TakesFrame f old asked new
takes_refused f old asked new why is refuses =
    subst (λ (o : Option CaseFault). MatchOption o (JudgesFrame f old asked new) (λ k. RefusesFrame (fault.Connection (connection.Frame k)) f old asked new)) (sym is) refuses

-- what is left of a reader that failed
pub reading_fails : (why : FrameFault) (old left : Unread) → (why ≢ FrameFault.NoMemory → NextReturns old (Err why) left) → (why ≡ FrameFault.NoMemory → (left ≡ old) × (is_any old.text ≡ true)) → ReadingFails why old left
reading_fails FrameFault.NoMemory old left answer same = same refl
reading_fails _ old left answer same = answer (λ e. cc)

-- ---- whether an item is half out

pub if_half : (half : Bool) (A B : Type 0) → half ≡ true → A → IfHalf half A B
if_half half A B is a = subst (λ (b : Bool). IfHalf b A B) (sym is) a

pub if_whole : (half : Bool) (A B : Type 0) → half ≡ false → B → IfHalf half A B
if_whole half A B is b = subst (λ (x : Bool). IfHalf x A B) (sym is) b

-- ---- what isn't so

pub not_lacking : (why : ConnectionFault) → fault.Connection why ≡ fault.NoMemory → ⊥
not_lacking why e = cc

pub not_asked : (row : BrokerRow) → row ∷ [] ≡ [] → ⊥
not_asked row e = cc

-- ---- nothing is unread

no_such_fault : (k : Check) → FrameFault.NoMemory ≡ fault_of k → ⊥
no_such_fault Check.BadCommand e = cc
no_such_fault _ e = cc

-- an endpoint that waits, and is as before, has a reader that found no frame
waits_still : (old : OpenEndpoint) (reading : Reading) → IsReadBy old.reader reading → JudgesReading [] [] old reading (Ok None) old [] → ReadsNext old.reader (Ok None) old.reader
waits_still old (Reading.Waits left) read (same, names) =
    subst (λ (u : Unread). ReadsNext old.reader (Ok None) u) (sym (ap (λ (o : OpenEndpoint). o.reader) same)) read
waits_still old Reading.Nothing read judged = absurd judged
waits_still old (Reading.Finds f left) read judged = absurd judged
waits_still old (Reading.Fails k left) read judged = absurd judged

-- what `next` returns where the reader returned this fault before, or none
answers_by : Unread → Result (Option RawFrame) FrameFault → Unread → Option Check → Type 0
answers_by old result new before = MatchOption before (ReadsNext old result new) (λ k. (result ≡ Err (fault_of k)) × (new ≡ old))

-- a reader of no text that found no memory would have found no frame
pub nothing_read : (s : SessionState) (r left : Unread) (result : Result (Option RawFrame) FrameFault) → result ≡ Err FrameFault.NoMemory → IfSome r.answered (λ k. NextReturns r result left) → left ≡ r → r.text ≡ [] → NextReturns r (Ok None) left
unfolding answers_by
nothing_read s r left result lacks again same none = subst (λ (u : Unread). NextReturns r (Ok None) u) (sym same) (by r.answered refl again)
  where
    by : (o : Option Check) → r.answered ≡ o → IfSome o (λ k. NextReturns r result left) → NextReturns r (Ok None) r
    by None at told =
        let old : OpenEndpoint = record { reader = r; session = s; receipt = None } in
        let idle = judged_idle [] [] old none in
        subst (answers_by r (Ok None) r) (sym at) (waits_still old idle.reading idle.read idle.judged)
    by (Some k) at told =
        let answer : (result ≡ Err (fault_of k)) × (left ≡ r) =
        subst (answers_by r result left) at told in
        absurd (no_such_fault k (let e = sym lacks ∙ answer.0 in cc))

-- some text is unread where it isn't none
pub some_unread : (r left : Unread) → is_any left.text ≡ true → left ≡ r → is_any r.text ≡ true
some_unread r left some same = subst (λ (u : Unread). is_any u.text ≡ true) same some
