-- Which accepted frames want memory: wherever the core answers that there was none, its frame does.
use Rattle.delivery.proofs.Words.All.{◌≡◌, ℕ, Bool, true, false, cond, ◌||◌, List, [], ◌∷◌, ◌++◌, Option, Some, None, refl, sym, ap, subst, ◌∙◌, list_any, append-nil, is_some, option_map, option_map_or, option_to_list, option_and_then, or_right, or_from, SentMessage, Topic, In, Command, RawFrame, is_connect, Unread, receipt_of, connected_frame, receipt_frame, Action, action_by, commit, takes_memory, id_of, transaction_of, Held, sends_in, Objection, Answer, Move, end_now, move_answer, move_refusal, ConnectionFault, Outcome, claims_of, claimed_sender, Reading, number_by, next_replies, receipts_of, Core, core_for, frame_move, session_at, unread_at, accepted_outcomes, claim_fault, fault_outcomes, frame_fault, frame_no_memory, frame_outcome, is_any, move_outcome, outcome_of, outcomes_without, reading_outcomes, wants_memory, Asks, MayLack, View}
use Rattle.std.proofs.lemmas.Bool.{or_left}
use Rattle.stomp_frame.specs.declared.command.Command.TheVariants as commands
use Rattle.stomp_session.specs.declared.action.Action.TheVariants as actions
use Rattle.stomp_session.specs.Answers.{has_sends}
use Rattle.delivery.proofs.Machine.Effects.{made_answer}
use Rattle.delivery.proofs.Core.ClaimsStand.{unobjected}
use Rattle.delivery.proofs.Views.Events.NextFaults.{asked_objection, fault_is}
use Rattle.delivery.proofs.Core.Actions.{frame_fits}

-- ---- by its session, or by its reply

-- its session takes memory for it
pub by_session : (k : Core) (c : ℕ) (f : RawFrame) → takes_memory f.command (session_at k c) f ≡ true → MayLack k c f
by_session k c f e none = ap (λ (b : Bool). b || list_any (λ o. is_any (next_replies (Some f) o)) (frame_outcome k c f)) e

-- its one outcome is answered at once
by_reply : (k : Core) (c : ℕ) (f : RawFrame) (o : Outcome) → frame_outcome k c f ≡ o ∷ [] → is_any (next_replies (Some f) o) ≡ true → wants_memory k c f ≡ true
by_reply k c f o is any =
    or_right (takes_memory f.command (session_at k c) f) (list_any (λ x. is_any (next_replies (Some f) x)) (frame_outcome k c f))
    (ap (λ (os : List Outcome). list_any (λ x. is_any (next_replies (Some f) x)) os) is
    ∙ or_left (is_any (next_replies (Some f) o)) false any)

-- a RECEIPT is asked for
asked_receipt : (receipt asked : Option (List ℕ)) → asked ≡ receipt → is_some receipt ≡ true → is_any (option_map_or (λ id. receipt_frame id ∷ []) asked []) ≡ true
asked_receipt None asked e some = absurd (cc)
asked_receipt (Some id) asked e some = ap (λ (r : Option (List ℕ)). is_any (option_map_or (λ x. receipt_frame x ∷ []) r [])) e

-- a frame that asks for no move of the machine is done
is_done : (k : Core) (c : ℕ) (f : RawFrame) (action : Action) → action_by f.command (session_at k c) f ≡ action → frame_move k c action ≡ None
    → frame_outcome k c f ≡ Outcome.Done ∷ []
is_done k c f action does none = ap (λ (m : Option Move). option_map_or (move_outcome (core_for k f)) m (Outcome.Done ∷ [])) (ap (frame_move k c) does ∙ none)

-- the outcome of a move that isn't refused
moved_outcome : (k : Core) (c : ℕ) (f : RawFrame) (m : Move) (o : Outcome) → frame_fault k c f ≡ None
    → frame_move k c (action_by f.command (session_at k c) f) ≡ Some m → outcome_of (move_answer (core_for k f).world m) ≡ Some o → frame_outcome k c f ≡ o ∷ []
moved_outcome k c f m o none move answer =
    let free : move_refusal (core_for k f).world m ≡ None =
    sym (ap (λ (x : Option Move). option_and_then (λ y. move_refusal (core_for k f).world y) x) move)
    ∙ (unobjected k c f none).move in
    ap (λ (x : Option Move). option_map_or (move_outcome (core_for k f)) x (Outcome.Done ∷ [])) move
    ∙ (ap (λ (a : Answer). option_to_list (outcome_of a)) (made_answer (core_for k f).world m free)
    ∙ ap (λ (x : Option Outcome). option_to_list x) answer)

-- ---- each frame

-- a CONNECT is answered by CONNECTED
pub connect_wants : (k : Core) (c : ℕ) (f : RawFrame) (left : Unread) (client receipt : Option (List ℕ)) (held : View)
    → Asks k c f left (actions.Connected client) receipt held → MayLack k c f
connect_wants k c f left client receipt held asks none =
    by_reply k c f Outcome.Done
    (moved_outcome k c f (Move.Connects c (claimed_sender client (claims_of k.steps))) Outcome.Done none (ap (frame_move k c) asks.does) refl)
    (ap (λ (b : Bool). is_any (cond b (connected_frame ∷ []) (receipts_of f))) (frame_fits f.command (session_at k c) f asks.does).0)

-- a SUBSCRIBE is kept by its session
pub subscribe_wants : (k : Core) (c : ℕ) (f : RawFrame) (left : Unread) (id : List ℕ) (t : Topic) (receipt : Option (List ℕ)) (held : View)
    → Asks k c f left (actions.Subscribe id t) receipt held → MayLack k c f
subscribe_wants k c f left id t receipt held asks = by_session k c f (ap (λ (q : Command). takes_memory q (session_at k c) f) (frame_fits f.command (session_at k c) f asks.does).0)

committed_takes : (sends : List SentMessage) (txn : List SentMessage) → commit sends ≡ actions.Commit txn → has_sends sends ≡ true
committed_takes [] txn e = absurd (cc)
committed_takes (send ∷ sends) txn e = refl

commit_takes : (command : Command) (s : Held) (f : RawFrame) (txn : List SentMessage) → action_by command s f ≡ actions.Commit txn → takes_memory command s f ≡ true
commit_takes commands.Send s f txn e = refl
commit_takes commands.Commit s f txn e = committed_takes (sends_in (transaction_of f) s.transactions) txn e
commit_takes _ s f txn e = absurd (cc)

-- what makes a transaction takes memory in its session too
pub commit_wants : (k : Core) (c : ℕ) (f : RawFrame) (left : Unread) (txn : List SentMessage) (receipt : Option (List ℕ)) (held : View)
    → Asks k c f left (actions.Commit txn) receipt held → MayLack k c f
commit_wants k c f left txn receipt held asks = by_session k c f (commit_takes f.command (session_at k c) f txn asks.does)

unmapped : (why : Option Objection) → option_map (λ (w : Objection). frame_no_memory) why ≡ None → why ≡ None
unmapped None e = refl
unmapped (Some w) e = absurd (cc)

-- an UNSUBSCRIBE, by its RECEIPT
pub end_wants : (k : Core) (c : ℕ) (f : RawFrame) (left : Unread) (id : List ℕ) (receipt : Option (List ℕ)) (held : View)
    → Asks k c f left (actions.Unsubscribe id) receipt held → is_some receipt ≡ true → MayLack k c f
end_wants k c f left id receipt held asks some none =
    let n = number_by c id k.steps in let m = Move.Unsubscribes c n in
    let move : frame_move k c (action_by f.command (session_at k c) f) ≡ Some m = ap (frame_move k c) asks.does in
    let free : move_refusal (core_for k f).world m ≡ None =
    sym (ap (λ (x : Option Move). option_and_then (λ y. move_refusal (core_for k f).world y) x) move)
    ∙ unmapped (asked_objection k c f) (sym (fault_is k c f asks.cased asks.free (ap (claim_fault k) asks.does)) ∙ none) in
    let outcome : frame_outcome k c f ≡ Outcome.Unsubscribed n (end_now (core_for k f).world n) ∷ [] =
    ap (λ (x : Option Move). option_map_or (move_outcome (core_for k f)) x (Outcome.Done ∷ [])) move
    ∙ ap (λ (a : Answer). option_to_list (outcome_of a)) (made_answer (core_for k f).world m free) in
    by_reply k c f (Outcome.Unsubscribed n (end_now (core_for k f).world n)) outcome (asked_receipt receipt (receipt_of f) asks.wants some)

-- ---- which never do: a core that answers 72 to one of these is refused by its contract

-- a frame for which its session takes no memory, and whose one outcome isn't answered at once
without_reply : (k : Core) (c : ℕ) (f : RawFrame) (o : Outcome) → takes_memory f.command (session_at k c) f ≡ false → frame_outcome k c f ≡ o ∷ []
    → is_any (next_replies (Some f) o) ≡ false → wants_memory k c f ≡ false
without_reply k c f o takes is none =
    or_from (takes_memory f.command (session_at k c) f) (list_any (λ x. is_any (next_replies (Some f) x)) (frame_outcome k c f)) takes
    (ap (λ (os : List Outcome). list_any (λ x. is_any (next_replies (Some f) x)) os) is
    ∙ or_from (is_any (next_replies (Some f) o)) false none refl)

no_receipt : (f : RawFrame) → receipt_of f ≡ None → is_any (receipts_of f) ≡ false
no_receipt f e = ap (λ (r : Option (List ℕ)). is_any (option_map_or (λ id. receipt_frame id ∷ []) r [])) e

-- a DISCONNECT
pub disconnect_never : (k : Core) (c : ℕ) (f : RawFrame) → f.command ≡ commands.Disconnect → frame_fault k c f ≡ None → wants_memory k c f ≡ false
disconnect_never k c f is none =
    without_reply k c f Outcome.Leaving (ap (λ (x : Command). takes_memory x (session_at k c) f) is)
    (moved_outcome k c f (Move.Disconnects c) Outcome.Leaving none (ap (λ (x : Command). frame_move k c (action_by x (session_at k c) f)) is) refl) refl

-- an ABORT that asks for no receipt
pub abort_never : (k : Core) (c : ℕ) (f : RawFrame) → f.command ≡ commands.Abort → receipt_of f ≡ None → wants_memory k c f ≡ false
abort_never k c f is unasked =
    without_reply k c f Outcome.Done (ap (λ (x : Command). takes_memory x (session_at k c) f) is)
    (is_done k c f actions.Nothing (ap (λ (x : Command). action_by x (session_at k c) f) is) refl)
    (ap (λ (x : Command). is_any (cond (is_connect x) (connected_frame ∷ []) (receipts_of f))) is ∙ no_receipt f unasked)

-- an UNSUBSCRIBE that asks for no receipt
pub unsubscribe_never : (k : Core) (c : ℕ) (f : RawFrame) → f.command ≡ commands.Unsubscribe → receipt_of f ≡ None → frame_fault k c f ≡ None → wants_memory k c f ≡ false
unsubscribe_never k c f is unasked none =
    let n = number_by c (id_of f) k.steps in
    without_reply k c f (Outcome.Unsubscribed n (end_now (core_for k f).world n)) (ap (λ (x : Command). takes_memory x (session_at k c) f) is)
    (moved_outcome k c f (Move.Unsubscribes c n) (Outcome.Unsubscribed n (end_now (core_for k f).world n)) none
    (ap (λ (x : Command). frame_move k c (action_by x (session_at k c) f)) is) refl)
    (no_receipt f unasked)

-- of such a frame, where nothing is at fault with it, comes its outcome alone
pub its_outcome_alone : (k : Core) (c : ℕ) (f : RawFrame) (left : Unread) (o : Outcome) → frame_fault k c f ≡ None → wants_memory k c f ≡ false
    → In o (reading_outcomes k c (Reading.Finds f left)) → In o (frame_outcome k c f)
its_outcome_alone k c f left o none never may =
    subst (λ (os : List Outcome). In o os)
    (ap (λ (x : Option ConnectionFault). option_map_or fault_outcomes x (accepted_outcomes k c f)) none
    ∙ (ap (λ (b : Bool). frame_outcome k c f ++ outcomes_without b frame_no_memory) never ∙ append-nil (frame_outcome k c f))) may

-- where all that was fed is read, a Next isn't answered that there was no memory
pub all_is_read : (k : Core) (c : ℕ) (o : Outcome) → (unread_at c k.steps).text ≡ [] → In o (reading_outcomes k c Reading.Nothing) → ⊥
all_is_read k c o none may = subst (λ (os : List Outcome). In o os) (ap (λ (text : List ℕ). outcomes_without (is_any text) ConnectionFault.ReaderNoMemory) none) may
