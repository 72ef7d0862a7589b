-- A Next whose frame commits a transaction.
use Rattle.delivery.proofs.Words.All.{◌≡◌, ℕ, ◌≤◌, Bool, true, false, cond, not, nat_lt, ◌&&◌, List, [], ◌∷◌, ◌++◌, length, Option, Some, None, refl, sym, ap, subst, ◌∙◌, list_all, last_or, option_or, is_some, append-nil, first_refusal, SentMessage, TxnId, last_number, RawFrame, Unread, Action, Objection, World, is_gone, connection_at, speaker, speaker_number, Move, commit_effect, is_topic, move_refusal, needs_idle, next_txn, Event, Outcome, Reading, accepted_of, commit_frame, receipt_asked, subscribe_frame, text_out, Core, core_for, session_at, unread_at, live_numbers, Asks, accepted_stage, staged_endpoint, asked_view, launched_id, launched_view, IsReached, Makes, View, EndpointView, view_with}
use Rattle.stomp_session.specs.declared.action.Action.TheVariants as actions
use Rattle.delivery.proofs.Views.Events.BeginStep.{IsIdleIn, idle_in, begun_is, begun_id_is, begun_free}
use Rattle.delivery.proofs.Views.Senders.SendsAreToTopics.{committed_sends}
use Rattle.delivery.proofs.Words.Changes.{with_endpoint, IsSpeaking}
use Rattle.delivery.proofs.Views.Events.NextFaults.{endpoint_of}
use Rattle.delivery.proofs.Views.Events.NextFrames.{accepted_view, move_makes, names_for, there_for}
use Rattle.delivery.proofs.Core.FrameWorld.{by_use, idle_for, with_topic}
use Rattle.delivery.proofs.Views.Events.NextStep.{view_by, held_still, idle_flight, idle_open, idle_reads, idle_stage, idle_there, next_endpoint, next_of, next_still, own_accepted}
use Rattle.delivery.proofs.Views.Senders.ConnectedSpeak.{has_sender}
use Rattle.delivery.proofs.Machine.Speakers.{has_speaker}
use Rattle.delivery.proofs.Theorem.SendersAreOwn.{speaks}
use Rattle.delivery.proofs.Core.Actions.{frame_fits}

-- ---- nothing stands against it

by_first : {F : Type 0} (p : Bool) (x : F) (o q : Option F) → cond p (Some x) o ≡ None → (o ≡ None → q ≡ None) → cond p (Some x) q ≡ None
by_first true x o q h rest = absurd (cc)
by_first false x o q h rest = rest h

pub later_free : {F : Type 0} (cs ds : List (Bool × F)) → first_refusal cs ≡ None → first_refusal ds ≡ None → first_refusal (cs ++ ds) ≡ None
later_free [] ds none free = free
later_free (t ∷ ts) ds none free = by_first t.0 t.1 (first_refusal ts) (first_refusal (ts ++ ds)) none (λ h. later_free ts ds h free)

tests_pass : (s a b m : Bool) → s ≡ true → a ≡ true → b ≡ true
    → first_refusal ((not s, Objection.NoSender) ∷ (not a, Objection.NotNamed) ∷ (m && not b, Objection.SeqFull) ∷ []) ≡ None
tests_pass true true true true z x y = refl
tests_pass true true true false z x y = refl
tests_pass true true false m z x y = absurd (cc)
tests_pass true false b m z x y = absurd (cc)
tests_pass false a b m z x y = absurd (cc)

commit_free : (w : World) (c : ℕ) (first : SentMessage) (others : List SentMessage) → first_refusal (needs_idle w c) ≡ None
    → is_some (connection_at w c).sender ≡ true → list_all (λ send. is_topic w send.topic) (first ∷ others) ≡ true → nat_lt (speaker w c).seq last_number ≡ true
    → move_refusal w (Move.Commits c (first ∷ others)) ≡ None
commit_free w c first others idle has named left =
    ap (λ (o : Option Objection). option_or o None)
    (later_free (needs_idle w c) ((not (is_some (connection_at w c).sender), Objection.NoSender) ∷ (not (list_all (λ send. is_topic w send.topic) (first ∷ others)), Objection.NotNamed)
    ∷ (nat_lt 0 (length (first ∷ others)) && not (nat_lt (speaker w c).seq last_number), Objection.SeqFull) ∷ []) idle
    (tests_pass (is_some (connection_at w c).sender) (list_all (λ send. is_topic w send.topic) (first ∷ others)) (nat_lt (speaker w c).seq last_number) (nat_lt 0 (length (first ∷ others))) has named left))

-- ---- its receipt

last_is : (o : Option RawFrame) (xs : List RawFrame) (f : RawFrame) → last_or o (xs ++ f ∷ []) ≡ Some f
last_is o [] f = refl
last_is o (x ∷ xs) f = last_is (Some x) xs f

-- ---- COMMIT, and a SEND alone

-- once the frame is accepted, nothing is written yet
still_view : (k : Core) (c : ℕ) (f : RawFrame) (left : Unread) (action : Action) (receipt : Option (List ℕ)) (held : View) (id : TxnId)
    → Asks k c f left action receipt held → held ≡ held_still (names_for k f) (core_for k f) (core_for k f).world c (Reading.Finds f left) (Outcome.Flying id)
still_view k c f left action receipt held id asks =
    let names = names_for k f in let q = core_for k f in let w = q.world in let o = Outcome.Flying id in let reading = Reading.Finds f left in
    let accepted = accepted_of c k.steps in
    let endpoint : staged_endpoint (accepted_stage k c f left) (endpoint_of names q c) ≡ next_endpoint names q w c reading o =
    λ i. record {
      sender = (connection_at w c).sender;
      stage = sym (idle_stage names q c (accepted ++ f ∷ []) left (idle_for k f c asks.idle)) i;
      live = live_numbers c 0 w.subscriptions;
      output = sym (append-nil (text_out k.names c k.steps)) i;
    } in
    accepted_view k c f left action receipt held asks
    ∙ (ap (λ (l : EndpointView). with_endpoint (view_by names q) c l) endpoint
    ∙ next_still names q c reading o (there_for k f c asks.idle))

-- what is held once the transaction has begun, where the frame's destination has its topic
begun_for : (k : Core) (f : RawFrame) (c : ℕ) (first : SentMessage) (others : List SentMessage) → IsReached k → first_refusal (needs_idle k.world c) ≡ None → IsSpeaking k.world c
    → (accepted : ℕ → List RawFrame) (unread : ℕ → Unread) (text : ℕ → List ℕ) (began : ℕ → Option RawFrame)
    → asked_view (receipt_asked (commit_frame (accepted c))) c (launched_view (first ∷ others) c (view_with (names_for k f) (core_for k f).world accepted unread text began))
    ≡ view_with (names_for k f) (commit_effect (core_for k f).world c (first ∷ others)) accepted unread text began
begun_for k f c first others reached idle speaking accepted unread text began =
    let names = names_for k f in
    let P : World → View = λ w. asked_view (receipt_asked (commit_frame (accepted c))) c (launched_view (first ∷ others) c (view_with names w accepted unread text began)) in
    let Q : World → View = λ w. view_with names (commit_effect w c (first ∷ others)) accepted unread text began in
    let old : P k.world ≡ Q k.world =
    begun_is names k c first others reached (idle_there k.world c idle) speaking (idle_reads k.world c idle) (idle_flight k.world c idle) accepted unread text began in
    by_use (λ w. P w ≡ Q w) k f old
    (λ i. record (P (with_topic k.world)) { senders = (old i).senders; verdicts = (old i).verdicts; endpoints = (old i).endpoints })

-- its id
begun_id_for : (k : Core) (f : RawFrame) (c : ℕ) (sends : List SentMessage) → IsReached k → first_refusal (needs_idle k.world c) ≡ None → IsSpeaking k.world c
    → (accepted : ℕ → List RawFrame) (unread : ℕ → Unread) (text : ℕ → List ℕ) (began : ℕ → Option RawFrame)
    → launched_id (view_with (names_for k f) (core_for k f).world accepted unread text began) c ≡ (next_txn (core_for k f).world c sends).id
begun_id_for k f c sends reached idle speaking accepted unread text began =
    let names = names_for k f in let old = begun_id_is names k c sends reached (idle_there k.world c idle) speaking (idle_flight k.world c idle) accepted unread text began in
    by_use (λ w. launched_id (view_with names w accepted unread text began) c ≡ (next_txn w c sends).id) k f old old

commits_some : (k : Core) (c : ℕ) (f : RawFrame) (left : Unread) (first : SentMessage) (others : List SentMessage) (receipt : Option (List ℕ)) (held mid new : View) (id : TxnId)
    → Asks k c f left (actions.Commit (first ∷ others)) receipt held → list_all (λ send. is_topic (core_for k f).world send.topic) (first ∷ others) ≡ true
    → id ≡ launched_id held c → id.seq ≤ last_number → mid ≡ launched_view (first ∷ others) c held → new ≡ asked_view receipt c mid → Makes k (Event.Next c) (Outcome.Flying id) new
commits_some k c f left first others receipt held mid new id asks named is within begun asked =
    let names = names_for k f in let q = core_for k f in let w = q.world in let sends = first ∷ others in let action = actions.Commit sends in let last = (next_txn w c sends).id in
    let o = Outcome.Flying last in let reading = Reading.Finds f left in let steps = next_of c reading o ∷ k.steps in let accepted = λ (n : ℕ). accepted_of n steps in
    let unread = λ (n : ℕ). unread_at n steps in let text = λ (n : ℕ). text_out k.names n steps in let began = λ (s : ℕ). subscribe_frame s k.steps in
    let own = has_sender k c f asks.reached (frame_fits f.command (session_at k c) f asks.does) asks.free in
    let speaking = speaks (speaker_number k.world c) (connection_at k.world c) (ap is_gone (idle_open k.world c asks.idle)) (has_speaker k.world c own) in
    let still : held ≡ view_with names w accepted unread text began = still_view k c f left action receipt held last asks in
    let same : last ≡ id = sym (is ∙ (ap (λ (v : View). launched_id v c) still ∙ begun_id_for k f c sends asks.reached asks.idle speaking accepted unread text began)) in
    let free = begun_free q c sends (subst (λ (i : TxnId). i.seq ≤ last_number) (sym same) within) in
    let wanted : receipt ≡ receipt_asked (commit_frame (accepted c)) =
    sym (ap (λ (fs : List RawFrame). receipt_asked (last_or None fs)) (own_accepted c reading o k.steps)
    ∙ (ap receipt_asked (last_is None (accepted_of c k.steps) f) ∙ asks.wants)) in
    let view = begun_for k f c first others asks.reached asks.idle speaking accepted unread text began in
    let has = by_use (λ (v : World). is_some (connection_at v c).sender ≡ true) k f own own in
    subst (λ (i : TxnId). Makes k (Event.Next c) (Outcome.Flying i) new) same
    (move_makes k c f left action receipt held new (Move.Commits c sends) o asks refl refl (commit_free w c first others (idle_for k f c asks.idle) has named free) refl refl refl
    (asked ∙ (ap (λ (r : Option (List ℕ)). asked_view r c mid) wanted
    ∙ (ap (λ (v : View). asked_view (receipt_asked (commit_frame (accepted c))) c v) (begun ∙ ap (λ (v : View). launched_view sends c v) still)
    ∙ view))))

-- the transaction begins, and its RECEIPT is due once it is decided
pub next_commits : (k : Core) (c : ℕ) (f : RawFrame) (left : Unread) (sends : List SentMessage) (receipt : Option (List ℕ)) (held mid new : View) (id : TxnId)
    → Asks k c f left (actions.Commit sends) receipt held → id ≡ launched_id held c → id.seq ≤ last_number → mid ≡ launched_view sends c held → new ≡ asked_view receipt c mid
    → Makes k (Event.Next c) (Outcome.Flying id) new
next_commits k c f left sends receipt held mid new id asks is within begun asked =
    let made = committed_sends k c f sends asks.reached asks.does in
    commits_some k c f left made.first made.others receipt held mid new id
    (subst (λ (z : List SentMessage). Asks k c f left (actions.Commit z) receipt held) made.is asks)
    (subst (λ (z : List SentMessage). list_all (λ send. is_topic (core_for k f).world send.topic) z ≡ true) made.is made.named)
    is within (begun ∙ ap (λ (z : List SentMessage). launched_view z c held) made.is) asked

-- ---- what is asked of the private call

-- its connection's sender is there, and has no undecided transaction
pub next_idle : (k : Core) (c : ℕ) (f : RawFrame) (left : Unread) (sends : List SentMessage) (receipt : Option (List ℕ)) (held : View)
    → Asks k c f left (actions.Commit sends) receipt held → IsIdleIn held c
next_idle k c f left sends receipt held asks =
    let names = names_for k f in let steps = next_of c (Reading.Finds f left) (Outcome.Flying (launched_id held c)) ∷ k.steps in let accepted = λ (n : ℕ). accepted_of n steps in
    let unread = λ (n : ℕ). unread_at n steps in let text = λ (n : ℕ). text_out k.names n steps in let began = λ (s : ℕ). subscribe_frame s k.steps in
    let own = has_sender k c f asks.reached (frame_fits f.command (session_at k c) f asks.does) asks.free in
    let speaking = speaks (speaker_number k.world c) (connection_at k.world c) (ap is_gone (idle_open k.world c asks.idle)) (has_speaker k.world c own) in
    let old = idle_in names k c asks.reached (idle_there k.world c asks.idle) speaking (idle_flight k.world c asks.idle) accepted unread text began in
    subst (λ (v : View). IsIdleIn v c) (sym (still_view k c f left (actions.Commit sends) receipt held (launched_id held c) asks))
    (by_use (λ w. IsIdleIn (view_with names w accepted unread text began) c) k f old old)
