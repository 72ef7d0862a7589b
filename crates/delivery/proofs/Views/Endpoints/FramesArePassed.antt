-- What the machine refuses of a frame that its session and its claim let pass.
use Rattle.delivery.proofs.Words.All.{◌≡◌, ℕ, Bool, true, false, cond, not, nat_lt, ◌&&◌, List, [], ◌∷◌, length, Option, Some, None, refl, sym, ap, subst, ◌∙◌, arith, list_all, is_some, option_map_or, option_or, ltb-true, Topic, SentMessage, first_refusal, last_number, RawFrame, Action, action_by, has_destination, id_of, session_fault, refusal_after, some_same, none_some, begins_at, ends, Objection, World, connection_at, is_in_use, speaker, Move, is_topic, move_refusal, needs_idle, claimed_sender, claims_of, is_one_too_many, claim_fault, Core, core_for, core_of, frame_move, session_at, number_by, IsReached}
use Rattle.stomp_session.specs.declared.action.Action.TheVariants as actions
use Rattle.delivery.specs.Core.Connections.{FramesPass}
use Rattle.delivery.proofs.Words.Changes.{connect_of, connect_plain, stand_of}
use Rattle.delivery.proofs.Core.FrameWorld.{by_use, framed_none, idle_for}
use Rattle.delivery.proofs.Views.Clients.Claiming.{claimed_begun}
use Rattle.delivery.proofs.Views.Events.ConnectStep.{connect_free, first_fails}
use Rattle.delivery.proofs.Views.Events.NextStep.{idle_reads}
use Rattle.delivery.proofs.Views.Senders.ConnectedSpeak.{has_none, has_sender}
use Rattle.delivery.proofs.Views.Senders.SendsAreToTopics.{committed_sends, topic_made}
use Rattle.delivery.proofs.Views.Subscriptions.OpenIsLive.{names_live, subscribe_free, unsubscribe_free}
use Rattle.delivery.proofs.Core.Actions.{frame_fits}

-- ---- what is refused

last_alone : (m : Bool) (why : Objection) → option_or (cond m (Some Objection.SeqFull) None) None ≡ Some why → why ≡ Objection.SeqFull
last_alone true why e = sym (some_same Objection.SeqFull why e)
last_alone false why e = none_some why e

-- a transaction of a sender that is there, to topics that are, lacks a number alone
commit_lacks : (w : World) (c : ℕ) (sends : List SentMessage) (why : Objection) → first_refusal (needs_idle w c) ≡ None → is_some (connection_at w c).sender ≡ true
    → list_all (λ send. is_topic w send.topic) sends ≡ true → move_refusal w (Move.Commits c sends) ≡ Some why → why ≡ Objection.SeqFull
commit_lacks w c sends why idle has named refused =
    last_alone (nat_lt 0 (length sends) && not (nat_lt (speaker w c).seq last_number)) why
    (sym (ap (λ (o : Option Objection). option_or o None)
    (refusal_after (needs_idle w c) ((not (is_some (connection_at w c).sender), Objection.NoSender) ∷ (not (list_all (λ send. is_topic w send.topic) sends), Objection.NotNamed)
    ∷ (nat_lt 0 (length sends) && not (nat_lt (speaker w c).seq last_number), Objection.SeqFull) ∷ []) idle
    ∙ (λ i. first_refusal ((not (has i), Objection.NoSender) ∷ (not (named i), Objection.NotNamed)
    ∷ (nat_lt 0 (length sends) && not (nat_lt (speaker w c).seq last_number), Objection.SeqFull) ∷ []))))
    ∙ refused)

-- where nothing stands against its move, no other is refused
free_alone : (w : World) (own move : Move) (why : Objection) → Some own ≡ Some move → move_refusal w own ≡ None → move_refusal w move ≡ Some why → why ≡ Objection.SeqFull
free_alone w own move why is free refused = none_some why (sym (ap (move_refusal w) (sym (some_same own move is)) ∙ free) ∙ refused)

passes : (k : Core) (c : ℕ) (f : RawFrame) → IsReached k → first_refusal (needs_idle k.world c) ≡ None → session_fault (session_at k c) f ≡ None
    → (action : Action) → action_by f.command (session_at k c) f ≡ action → claim_fault k action ≡ None → (move : Move) (why : Objection)
    → frame_move k c action ≡ Some move → move_refusal (core_for k f).world move ≡ Some why → why ≡ Objection.SeqFull
passes k c f reached idle free (actions.Connected client) does unclaimed move why is refused =
    let before = claims_of k.steps in let sender = claimed_sender client before in let connects = (connect_of f.command (session_at k c) f client does).0 in
    let many = (stand_of k reached).begun in let unused = first_fails (option_map_or (is_in_use k.world) sender false) (is_one_too_many client before) unclaimed in
    free_alone (core_for k f).world (Move.Connects c sender) move why is
    (subst (λ (z : Core). move_refusal z.world (Move.Connects c sender) ≡ None) (sym (framed_none k f (connect_plain f.command connects)))
    (connect_free k.world c sender idle (has_none k c f reached connects free) (λ s e. (let l = claimed_begun client before s e in omega (arith, l, many))) unused)) refused
passes k c f reached idle free actions.Nothing does unclaimed move why is refused = none_some move is
passes k c f reached idle free (actions.Subscribe id t) does unclaimed move why is refused =
    let h = begins_at f.command (session_at k c) f id t does in let w = (core_for k f).world in
    let there = subst (λ (u : Topic). is_topic w u ≡ true) h.1 (topic_made k f reached h.0) in
    free_alone w (Move.Subscribes c t) move why is (subscribe_free w c t (idle_for k f c idle) (ltb-true t.0 (length w.topics) there)) refused
passes k c f reached idle free (actions.Unsubscribe id) does unclaimed move why is refused =
    let h = ends f.command (session_at k c) f id does in let live = names_live k c f reached (idle_reads k.world c idle) h.0 free in
    free_alone (core_for k f).world (Move.Unsubscribes c (number_by c id k.steps)) move why is
    (subst (λ (z : Core). move_refusal z.world (Move.Unsubscribes c (number_by c id k.steps)) ≡ None) (sym (framed_none k f (ap has_destination h.0)))
    (subst (λ (x : List ℕ). move_refusal k.world (Move.Unsubscribes c (number_by c x k.steps)) ≡ None) h.1
    (unsubscribe_free k.world c (number_by c (id_of f) k.steps) idle live.there live.live))) refused
passes k c f reached idle free (actions.Commit sends) does unclaimed move why is refused =
    let w = (core_for k f).world in let own = has_sender k c f reached (frame_fits f.command (session_at k c) f does) free in
    let has = by_use (λ (v : World). is_some (connection_at v c).sender ≡ true) k f own own in let made = committed_sends k c f sends reached does in
    commit_lacks w c sends why (idle_for k f c idle) has
    made.named
    (ap (move_refusal w) (some_same (Move.Commits c sends) move is) ∙ refused)
passes k c f reached idle free actions.Disconnect does unclaimed move why is refused =
    free_alone (core_for k f).world (Move.Disconnects c) move why is (ap (λ (o : Option Objection). option_or o None) (idle_for k f c idle)) refused

-- so it is in each run
pub frames_pass : FramesPass
frames_pass topics capacity steps many run c f move why idle free unclaimed is refused =
    let k = core_of topics capacity steps in
    passes k c f (record { topics = topics; capacity = capacity; steps = steps; as_many = many; is = refl; run = run }) idle free
    (action_by f.command (session_at k c) f) refl unclaimed move why is refused
