-- What a step does to the subscriptions of a connection that is still open: it changes none, begins one or ends one.
use Rattle.delivery.proofs.Words.All.{◌≡◌, ◌≢◌, ℕ, ◌+◌, ◌<◌, ◌==◌, Bool, true, false, cond, not, ◌&&◌, ◌||◌, ◌⊎◌, inl, inr, List, [], ◌∷◌, ◌++◌, length, get_or, set, Option, Some, None, refl, sym, ap, subst, ◌∙◌, arith, eq-eqb, eqb-true, ltb-true, false≢true, and_parts, not-false, append-nil, get_or_append_left, is_some, option_map_or, option_and_then, option_to_list, unwrap_or, bytes_eq, codes, Topic, Stamp, SentMessage, In, Entry, Command, RawFrame, first_of, Unread, Action, action_by, commit, field, has_destination, topic_of, id_of, transaction_of, send_of, is_subscribe, is_unsubscribe, entries_without, Held, subscriptions_left, is_open, session_fault, sends_in, is_known, some_same, World, Subscription, no_subscription, topic_at, subscription_at, entry_at, Move, move_refusal, move_answer, is_live, commit_answer, close_effect_of, end_now, run, Event, Outcome, claims_of, claimed_sender, CoreStep, Reading, frame_in, has_effect, frame_from, accepted_of, has_id, begun_by, number_by, subscribe_frame, sub_id_text, is_cut, Core, core_after, moves, frame_move, session_at, is_faulted, is_no_memory, core_for, names_at, topic_moves, outcome_of, move_outcome, frame_outcome, outcomes, live_numbers, step_of}
use Rattle.stomp_frame.specs.declared.command.Command.TheVariants as commands
use Rattle.stomp_session.specs.declared.action.Action.TheVariants as actions
use Rattle.stomp_session.specs.Frames.{names_subscription}
use Rattle.stomp_session.proofs.LeftOpen.{opened, opened-quiet, opened-open, opened-close}
use Rattle.delivery.proofs.Words.Steps.{made_world, made_answer, run_append, checked}
use Rattle.delivery.proofs.Core.FrameWorld.{framed_none, no_topic, subs_for}
use Rattle.stomp_session.proofs.History.{subscriptions_left-opened, subscription_by_id}
use Rattle.delivery.proofs.Core.Speaking.{open_in}
use Rattle.delivery.proofs.Words.Changes.{in_option, by_answer, if_same, differ, Unobjected, by_next, unobjected}
use Rattle.delivery.proofs.Views.Subscriptions.ClosedIsDropped.{live_of_others, live_owned}
use Rattle.delivery.proofs.Views.Subscriptions.NewSubscription.{live_push}
use Rattle.delivery.proofs.Views.Subscriptions.PlainMovesKeepAll.{ArePlain, kept_but, run_keeps}
use Rattle.delivery.proofs.Views.Subscriptions.OthersBeginNone.{IsOther, silent}

-- ---- the subscriptions that frames left open

-- after a frame that is neither a SUBSCRIBE nor an UNSUBSCRIBE
pub left_quiet : (names : List (List ℕ)) (frames : List RawFrame) (f : RawFrame) → is_subscribe f.command ≡ false → is_unsubscribe f.command ≡ false
    → subscriptions_left names (frames ++ f ∷ []) ≡ subscriptions_left names frames
left_quiet names frames f no_subscribe no_unsubscribe =
    let none : (x : List ℕ) → names_subscription x f ≡ false = λ x i. (no_subscribe i || no_unsubscribe i) && bytes_eq (id_of f) x in
    subscriptions_left-opened names (frames ++ f ∷ [])
    ∙ (opened-quiet (λ f. is_subscribe f.command) names_subscription id_of (λ f after. topic_of names f) f no_subscribe none (λ g after. refl) frames
    ∙ sym (subscriptions_left-opened names frames))

-- after a SUBSCRIBE of an id that isn't open
pub left_open : (names : List (List ℕ)) (frames : List RawFrame) (f : RawFrame) → is_subscribe f.command ≡ true → is_open (id_of f) (subscriptions_left names frames) ≡ false
    → subscriptions_left names (frames ++ f ∷ []) ≡ subscriptions_left names frames ++ (id_of f, topic_of names f) ∷ []
left_open names frames f opens shut =
    let shut_here : is_open (id_of f) (opened (λ f. is_subscribe f.command) names_subscription id_of (λ f after. topic_of names f) frames) ≡ false = ap (is_open (id_of f)) (sym (subscriptions_left-opened names frames)) ∙ shut in
    subscriptions_left-opened names (frames ++ f ∷ [])
    ∙ (opened-open (λ f. is_subscribe f.command) names_subscription id_of (λ f after. topic_of names f) f opens (λ x. subscription_by_id x f opens) (λ g after. refl) frames shut_here
    ∙ ap (λ (them : List (List ℕ × Topic)). them ++ (id_of f, topic_of names f) ∷ []) (sym (subscriptions_left-opened names frames)))

-- after an UNSUBSCRIBE
pub left_close : (names : List (List ℕ)) (frames : List RawFrame) (f : RawFrame) → is_subscribe f.command ≡ false → is_unsubscribe f.command ≡ true
    → subscriptions_left names (frames ++ f ∷ []) ≡ entries_without (id_of f) (subscriptions_left names frames)
left_close names frames f no_subscribe closes =
    let named : (x : List ℕ) → names_subscription x f ≡ bytes_eq (id_of f) x = λ x i. (no_subscribe i || closes i) && bytes_eq (id_of f) x in
    subscriptions_left-opened names (frames ++ f ∷ [])
    ∙ (opened-close (λ f. is_subscribe f.command) names_subscription id_of (λ f after. topic_of names f) f subscription_by_id no_subscribe named (λ g after. refl) frames
    ∙ ap (entries_without (id_of f)) (sym (subscriptions_left-opened names frames)))

-- ---- what a step does

-- it changes no subscription of connection c
pub record StepKeeps (k : Core) (c : ℕ) (step : CoreStep) : Type 0 where
  pub live : live_numbers c 0 (core_after k step).world.subscriptions ≡ live_numbers c 0 k.world.subscriptions
  pub topics : (s : ℕ) → s < length k.world.subscriptions → (subscription_at (core_after k step).world s).topic ≡ (subscription_at k.world s).topic
  pub frames : subscriptions_left (names_at k) (accepted_of c (step ∷ k.steps)) ≡ subscriptions_left (names_at k) (accepted_of c k.steps)
  pub numbers : (id : List ℕ) → number_by c id (step ∷ k.steps) ≡ number_by c id k.steps
  pub ids : (s : ℕ) → s < length k.world.subscriptions → sub_id_text s (step ∷ k.steps) ≡ sub_id_text s k.steps

-- the frame that connection c is read and that has its effect
pub record Reads (k : Core) (c : ℕ) (step : CoreStep) (f : RawFrame) : Type 0 where
  pub event : step.event ≡ Event.Next c
  pub read : frame_in step.reading ≡ Some f
  pub effect : has_effect step.outcome ≡ true
  pub accepted : session_fault (session_at k c) f ≡ None

-- it begins a subscription of connection c
pub record StepBegins (k : Core) (c : ℕ) (step : CoreStep) : Type 0 where
  pub frame : RawFrame
  pub from : Stamp
  pub reads : Reads k c step frame
  pub command : frame.command ≡ commands.Subscribe
  pub is : step.outcome ≡ Outcome.Subscribed (length k.world.subscriptions) from
  pub new : (core_after k step).world.subscriptions
      ≡ k.world.subscriptions ++ record { connection = c; topic = topic_of (names_at k) frame; from = from; taken = 0; closed = None } ∷ []

-- it ends one: the one that the frame's id names
pub record StepEnds (k : Core) (c : ℕ) (step : CoreStep) : Type 0 where
  pub frame : RawFrame
  pub to : Stamp
  pub number : ℕ
  pub new : Subscription
  pub reads : Reads k c step frame
  pub command : frame.command ≡ commands.Unsubscribe
  pub named : number ≡ number_by c (id_of frame) k.steps
  pub is : step.outcome ≡ Outcome.Unsubscribed number to
  pub there : number < length k.world.subscriptions
  pub live : is_live c (subscription_at k.world number) ≡ true
  pub set_to : (core_after k step).world.subscriptions ≡ set k.world.subscriptions number new
  pub topic : new.topic ≡ (subscription_at k.world number).topic
  pub connection : new.connection ≡ (subscription_at k.world number).connection
  pub closed : is_some new.closed ≡ true

-- one of these
abbrev pub StepChange : Core → ℕ → CoreStep → Type 0
StepChange k c step = StepKeeps k c step ⊎ (StepBegins k c step ⊎ StepEnds k c step)

-- ---- plain steps

-- its frame, if it has its effect, is neither a SUBSCRIBE nor an UNSUBSCRIBE
abbrev AddsNone : Core → ℕ → CoreStep → Type 0
AddsNone k c step = subscriptions_left (names_at k) (accepted_of c (step ∷ k.steps)) ≡ subscriptions_left (names_at k) (accepted_of c k.steps)

plain_step : (k : Core) (c : ℕ) (e : Event) (rd : Reading) (o : Outcome) → ArePlain (moves k e rd o) → begun_by o ≡ None
    → open_in (core_after k (step_of e rd o)).world.connections c ≡ true → AddsNone k c (step_of e rd o) → StepKeeps k c (step_of e rd o)
plain_step k c e rd o plain none reading frames =
    let keeps = run_keeps (moves k e rd o) k.world c plain reading in let step = step_of e rd o in
    record {
      live = keeps.live;
      topics = keeps.topics;
      frames = frames;
      numbers = λ id. ap (λ (b : Option ℕ). cond (has_id c id step) (unwrap_or b (number_by c id k.steps)) (number_by c id k.steps)) none ∙ if_same (has_id c id step) (number_by c id k.steps);
      ids = λ s l. ap (λ (b : Option ℕ). option_map_or id_of (cond (option_map_or (λ r. r == s) b false) (frame_in rd) (subscribe_frame s k.steps)) []) none;
    }

plain_if : (b : Bool) (xs ys : List Move) → ArePlain xs → ArePlain ys → ArePlain (cond b xs ys)
plain_if true xs ys p q = p
plain_if false xs ys p q = q

plain_event : (k : Core) (e : Event) (rd : Reading) (o : Outcome) → IsOther e → ArePlain (moves k e rd o)
plain_event k Event.Open rd o other = plain_if (is_no_memory o) [] (Move.Opens ∷ []) tt (tt, tt)
plain_event k (Event.Piece c octets) rd o other = tt
plain_event k (Event.Next c) rd o other = absurd other
plain_event k (Event.Decide c) rd o other = (tt, plain_if (is_cut o) (Move.Lost c ∷ []) [] (tt, tt) tt)
plain_event k (Event.Take s) rd o other = plain_if (is_no_memory o) [] (Move.Takes s ∷ []) tt (tt, tt)
plain_event k _ rd o other = (tt, tt)

-- nothing is added
adds_nil : (k : Core) (c : ℕ) (step : CoreStep) → cond (has_effect step.outcome) (frame_from c step) [] ≡ [] → AddsNone k c step
adds_nil k c step e =
    ap (λ (fs : List RawFrame). subscriptions_left (names_at k) (accepted_of c k.steps ++ fs)) e
    ∙ ap (subscriptions_left (names_at k)) (append-nil (accepted_of c k.steps))

other_adds : (k : Core) (c : ℕ) (e : Event) (rd : Reading) (o : Outcome) → IsOther e → AddsNone k c (step_of e rd o)
other_adds k c (Event.Next d) rd o other = absurd other
other_adds k c event rd o other = adds_nil k c (step_of event rd o) (if_same (has_effect o) [])

-- ---- a Next of connection d, for every connection

-- it is plain for every connection
record NextPlain (k : Core) (d : ℕ) (rd : Reading) (o : Outcome) : Type 0 where
  plain : ArePlain (moves k (Event.Next d) rd o)
  none : begun_by o ≡ None
  adds : (c : ℕ) → AddsNone k c (step_of (Event.Next d) rd o)

-- it accepts a SUBSCRIBE
record NextBegins (k : Core) (d : ℕ) (rd : Reading) (o : Outcome) : Type 0 where
  frame : RawFrame
  read : frame_in rd ≡ Some frame
  accepted : session_fault (session_at k d) frame ≡ None
  command : frame.command ≡ commands.Subscribe
  is : o ≡ Outcome.Subscribed (length k.world.subscriptions) (topic_at (core_for k frame).world (topic_of (names_at k) frame)).frontier
  move : moves k (Event.Next d) rd o ≡ topic_moves (names_at k) frame ++ Move.Subscribes d (topic_of (names_at k) frame) ∷ []
  free : move_refusal (core_for k frame).world (Move.Subscribes d (topic_of (names_at k) frame)) ≡ None

-- it accepts an UNSUBSCRIBE
record NextEnds (k : Core) (d : ℕ) (rd : Reading) (o : Outcome) : Type 0 where
  frame : RawFrame
  read : frame_in rd ≡ Some frame
  accepted : session_fault (session_at k d) frame ≡ None
  command : frame.command ≡ commands.Unsubscribe
  is : o ≡ Outcome.Unsubscribed (number_by d (id_of frame) k.steps) (end_now k.world (number_by d (id_of frame) k.steps))
  move : moves k (Event.Next d) rd o ≡ Move.Unsubscribes d (number_by d (id_of frame) k.steps) ∷ []
  free : move_refusal k.world (Move.Unsubscribes d (number_by d (id_of frame) k.steps)) ≡ None

abbrev NextKind : Core → ℕ → Reading → Outcome → Type 0
NextKind k d rd o = NextPlain k d rd o ⊎ (NextBegins k d rd o ⊎ NextEnds k d rd o)

-- what has no effect adds nothing
without_effect : (k : Core) (d : ℕ) (rd : Reading) (o : Outcome) → has_effect o ≡ false → (c : ℕ) → AddsNone k c (step_of (Event.Next d) rd o)
without_effect k d rd o e c = adds_nil k c (step_of (Event.Next d) rd o) (ap (λ (b : Bool). cond b (frame_from c (step_of (Event.Next d) rd o)) []) e)

-- the action is neither a subscription's beginning nor its end
abbrev IsMild : Action → Type 0
IsMild (actions.Subscribe id t) = Prim.⊥
IsMild (actions.Unsubscribe id) = Prim.⊥
IsMild action = Unit {0}

-- what a command is for subscriptions
record Mild (command : Command) : Type 0 where
  opens : is_subscribe command ≡ false
  closes : is_unsubscribe command ≡ false
  action : (s : Held) (f : RawFrame) → IsMild (action_by command s f)

mild_send : (s : Held) (f : RawFrame) (o : Option (List ℕ)) → IsMild (option_map_or (λ transaction. actions.Nothing) o (commit (send_of s.names f ∷ [])))
mild_send s f None = tt
mild_send s f (Some x) = tt

kind : (command : Command) → Mild command ⊎ ((command ≡ commands.Subscribe) ⊎ (command ≡ commands.Unsubscribe))
kind commands.Subscribe = inr (inl refl)
kind commands.Unsubscribe = inr (inr refl)
kind commands.Send = inl (record { opens = refl; closes = refl; action = λ s f. mild_send s f (first_of (codes "transaction") f.headers) })
kind commands.Commit = inl (record { opens = refl; closes = refl; action = λ s f. (elim (sends_in (transaction_of f) s.transactions) as (λ (sends : List SentMessage). IsMild (commit sends)) [ [] ↦ tt | send ∷ sends ↦ tt ]) })
kind _ = inl (record { opens = refl; closes = refl; action = λ s f. tt })

mild_moves : (k : Core) (d : ℕ) (action : Action) → IsMild action → ArePlain (option_to_list (frame_move k d action))
mild_moves k d (actions.Connected client) m = (tt, tt)
mild_moves k d actions.Nothing m = tt
mild_moves k d (actions.Subscribe id t) m = absurd m
mild_moves k d (actions.Unsubscribe id) m = absurd m
mild_moves k d (actions.Commit sends) m = (tt, tt)
mild_moves k d actions.Disconnect m = (tt, tt)

flown_silent : (w : World) (c : ℕ) (sends : List SentMessage) (z : Outcome) → outcome_of (commit_answer w c sends) ≡ Some z → begun_by z ≡ None
flown_silent w c [] z e = ap begun_by (sym (some_same Outcome.Done z e))
flown_silent w c (first ∷ others) z e = ap begun_by (sym (some_same (Outcome.Flying _) z e))

done_silent : (o : Outcome) → In o (Outcome.Done ∷ []) → begun_by o ≡ None
done_silent o (inl e) = ap begun_by (sym e)
done_silent o (inr i) = absurd i

mild_silent : (k : Core) (w : World) (d : ℕ) (action : Action) (o : Outcome) → IsMild action → In o (option_map_or (move_outcome (record k { world = w })) (frame_move k d action) (Outcome.Done ∷ [])) → begun_by o ≡ None
mild_silent k w d (actions.Connected client) o m i =
    by_answer (λ z. begun_by z ≡ None) w (Move.Connects d (claimed_sender client (claims_of k.steps))) o (λ why x a. refl)
    (λ n a z e. ap begun_by (sym (some_same Outcome.Done z e))) (in_option o _ i)
mild_silent k w d actions.Nothing o m i = done_silent o i
mild_silent k w d (actions.Subscribe id t) o m i = absurd m
mild_silent k w d (actions.Unsubscribe id) o m i = absurd m
mild_silent k w d (actions.Commit sends) o m i =
    by_answer (λ z. begun_by z ≡ None) w (Move.Commits d sends) o (λ why x a. refl) (λ n a z e. flown_silent w d sends z e) (in_option o _ i)
mild_silent k w d actions.Disconnect o m i =
    by_answer (λ z. begun_by z ≡ None) w (Move.Disconnects d) o (λ why x a. refl) (λ n a z e. ap begun_by (sym (some_same Outcome.Leaving z e))) (in_option o _ i)

-- a frame that is neither adds nothing
mild_adds : (k : Core) (d : ℕ) (f : RawFrame) (left : Unread) (o : Outcome) → is_subscribe f.command ≡ false → is_unsubscribe f.command ≡ false
    → (c : ℕ) → AddsNone k c (step_of (Event.Next d) (Reading.Finds f left) o)
mild_adds k d f left o opens closes c = go (has_effect o) (d == c)
  where
    go : (b e : Bool) → subscriptions_left (names_at k) (accepted_of c k.steps ++ cond b (cond e (f ∷ []) []) []) ≡ subscriptions_left (names_at k) (accepted_of c k.steps)
    go true true = left_quiet (names_at k) (accepted_of c k.steps) f opens closes
    go true false = ap (subscriptions_left (names_at k)) (append-nil (accepted_of c k.steps))
    go false e = ap (subscriptions_left (names_at k)) (append-nil (accepted_of c k.steps))

-- what an accepted frame's moves are
asked : (k : Core) (d : ℕ) (f : RawFrame) (left : Unread) (o : Outcome) (action : Action) (m : Move) → is_faulted o ≡ false → has_effect o ≡ true
    → action_by f.command (session_at k d) f ≡ action → frame_move k d action ≡ Some m → moves k (Event.Next d) (Reading.Finds f left) o ≡ topic_moves (names_at k) f ++ m ∷ []
asked k d f left o action m fault effect is move =
    (λ i. cond (fault i) (Move.Errs d ∷ []) (cond (effect i) (topic_moves (names_at k) f ++ option_to_list (frame_move k d (is i))) []))
    ∙ ap (λ (z : Option Move). topic_moves (names_at k) f ++ option_to_list z) move

-- an outcome of a move that isn't refused is that of its answer
made_outcome : (k : Core) (m : Move) (o z : Outcome) → move_refusal k.world m ≡ None → outcome_of (move_answer k.world m) ≡ Some z → In o (move_outcome k m) → o ≡ z
made_outcome k m o z free is i = sym (some_same z o (sym is ∙ (ap outcome_of (sym (made_answer k.world m free)) ∙ in_option o _ i)))

accepted_kind : (k : Core) (d : ℕ) (f : RawFrame) (left : Unread) (o : Outcome) → Unobjected k d f → In o (frame_outcome k d f)
    → Mild f.command ⊎ ((f.command ≡ commands.Subscribe) ⊎ (f.command ≡ commands.Unsubscribe)) → NextKind k d (Reading.Finds f left) o
accepted_kind k d f left o free i (inl mild) =
    let own = option_to_list (frame_move k d (action_by f.command (session_at k d) f)) in
    inl (record {
      plain = plain_if (is_faulted o) (Move.Errs d ∷ []) (cond (has_effect o) (topic_moves (names_at k) f ++ own) []) (tt, tt)
          (plain_if (has_effect o) (topic_moves (names_at k) f ++ own) []
          ((elim (has_destination f.command && not (is_known (field (codes "destination") f) (names_at k))) as (λ (b : Bool). ArePlain own → ArePlain (cond b (Move.AddsTopic 0 ∷ []) [] ++ own)) [
            | true ↦ λ h. (tt, h)
            | false ↦ λ h. h
          ]) (mild_moves k d (action_by f.command (session_at k d) f) (mild.action (session_at k d) f))) tt);
      none = mild_silent k (core_for k f).world d (action_by f.command (session_at k d) f) o (mild.action (session_at k d) f) i;
      adds = mild_adds k d f left o mild.opens mild.closes;
    })
accepted_kind k d f left o free i (inr (inl e)) =
    let q = core_for k f in let t = topic_of (names_at k) f in let m = Move.Subscribes d t in
    let z = Outcome.Subscribed (length q.world.subscriptions) (topic_at q.world t).frontier in
    let action : action_by f.command (session_at k d) f ≡ actions.Subscribe (id_of f) t = ap (λ (q : Command). action_by q (session_at k d) f) e in
    let clear : move_refusal q.world m ≡ None = ap (λ (a : Action). option_and_then (λ mv. move_refusal (core_for k f).world mv) (frame_move k d a)) (sym action) ∙ free.move in
    let is : o ≡ z = made_outcome q m o z clear refl (subst (λ (a : Action). In o (option_map_or (move_outcome q) (frame_move k d a) (Outcome.Done ∷ []))) action i) in
    inr (inl (record {
      frame = f;
      read = refl;
      accepted = free.session;
      command = e;
      is = is ∙ ap (λ (xs : List Subscription). Outcome.Subscribed (length xs) (topic_at q.world t).frontier) (subs_for k f);
      move = asked k d f left o (actions.Subscribe (id_of f) t) m (ap is_faulted is) (ap has_effect is) action refl;
      free = clear;
    }))
accepted_kind k d f left o free i (inr (inr e)) =
    let nowhere : has_destination f.command ≡ false = ap has_destination e in let here : core_for k f ≡ k = framed_none k f nowhere in let s = number_by d (id_of f) k.steps in
    let m = Move.Unsubscribes d s in let z = Outcome.Unsubscribed s (end_now k.world s) in
    let action : action_by f.command (session_at k d) f ≡ actions.Unsubscribe (id_of f) = ap (λ (q : Command). action_by q (session_at k d) f) e in
    let clear : move_refusal k.world m ≡ None =
    subst (λ (q : Core). move_refusal q.world m ≡ None) here (ap (λ (a : Action). option_and_then (λ mv. move_refusal (core_for k f).world mv) (frame_move k d a)) (sym action) ∙ free.move) in
    let came : In o (move_outcome k m) =
    subst (λ (q : Core). In o (move_outcome q m)) here (subst (λ (a : Action). In o (option_map_or (move_outcome (core_for k f)) (frame_move k d a) (Outcome.Done ∷ []))) action i) in
    let is : o ≡ z = made_outcome k m o z clear refl came in
    inr (inr (record {
      frame = f;
      read = refl;
      accepted = free.session;
      command = e;
      is = is;
      move = asked k d f left o (actions.Unsubscribe (id_of f)) m (ap is_faulted is) (ap has_effect is) action refl
          ∙ ap (λ (ms : List Move). ms ++ m ∷ []) (no_topic k f nowhere);
      free = clear;
    }))

next_kind : (k : Core) (d : ℕ) (rd : Reading) (o : Outcome) → In o (outcomes k (Event.Next d) rd) → NextKind k d rd o
next_kind k d rd o i =
    by_next k d (NextKind k d) (λ rd why. inl (record { plain = tt; none = refl; adds = without_effect k d rd (Outcome.Refused why) refl }))
    (λ rd fault cut n. inl (record { plain = (tt, tt); none = refl; adds = without_effect k d rd (Outcome.Faulted fault cut) refl }))
    (λ f left o n e j. accepted_kind k d f left o (unobjected k d f e) j (kind f.command))
    rd o i

-- ---- a Next, for one connection

-- another connection's frame adds nothing, and names no number
others_frame : (k : Core) (c d : ℕ) (rd : Reading) (o : Outcome) → (d == c) ≡ false → AddsNone k c (step_of (Event.Next d) rd o)
others_frame k c d rd o e =
    adds_nil k c (step_of (Event.Next d) rd o) (ap (λ (b : Bool). cond (has_effect o) (cond b (option_to_list (frame_in rd)) []) []) e ∙ if_same (has_effect o) [])

others_number : (k : Core) (c d : ℕ) (rd : Reading) (o : Outcome) → (d == c) ≡ false → (id : List ℕ) → number_by c id (step_of (Event.Next d) rd o ∷ k.steps) ≡ number_by c id k.steps
others_number k c d rd o e id =
    ap (λ (b : Bool). cond (b && option_map_or (λ f. bytes_eq (id_of f) id) (frame_in rd) false) (unwrap_or (begun_by o) (number_by c id k.steps)) (number_by c id k.steps)) e

-- what a subscription's beginning leaves
begun_world : (k : Core) (d : ℕ) (rd : Reading) (o : Outcome) → (h : NextBegins k d rd o) → (core_after k (step_of (Event.Next d) rd o)).world.subscriptions
    ≡ k.world.subscriptions ++ record { connection = d; topic = topic_of (names_at k) h.frame; from = (topic_at (core_for k h.frame).world (topic_of (names_at k) h.frame)).frontier; taken = 0; closed = None } ∷ []
begun_world k d rd o h =
    let t = topic_of (names_at k) h.frame in let q = core_for k h.frame in
    ap (λ (ms : List Move). (run ms k.world).subscriptions) h.move
    ∙ (ap (λ (w : World). w.subscriptions) (run_append (topic_moves (names_at k) h.frame) (Move.Subscribes d t ∷ []) k.world ∙ made_world q.world (Move.Subscribes d t) h.free)
    ∙ ap (λ (xs : List Subscription). xs ++ record { connection = d; topic = t; from = (topic_at q.world t).frontier; taken = 0; closed = None } ∷ []) (subs_for k h.frame))

begun_change : (k : Core) (c d : ℕ) (rd : Reading) (o : Outcome) (b : Bool) → (d == c) ≡ b → NextBegins k d rd o → StepChange k c (step_of (Event.Next d) rd o)
begun_change k c d rd o true e h =
    let same : d ≡ c = eqb-true d c e in
    inr (inl (record {
      frame = h.frame;
      from = (topic_at (core_for k h.frame).world (topic_of (names_at k) h.frame)).frontier;
      reads = record {
        event = ap Event.Next same;
        read = h.read;
        effect = ap has_effect h.is;
        accepted = subst (λ n. session_fault (session_at k n) h.frame ≡ None) same h.accepted;
      };
      command = h.command;
      is = h.is;
      new = begun_world k d rd o h
          ∙ ap (λ (n : ℕ). k.world.subscriptions ++ record { connection = n; topic = topic_of (names_at k) h.frame; from = (topic_at (core_for k h.frame).world (topic_of (names_at k) h.frame)).frontier; taken = 0; closed = None } ∷ []) same;
    }))
begun_change k c d rd o false e h =
    let w = k.world in let n = length w.subscriptions in
    let x : Subscription = record { connection = d; topic = topic_of (names_at k) h.frame; from = (topic_at (core_for k h.frame).world (topic_of (names_at k) h.frame)).frontier; taken = 0; closed = None } in
    let new = begun_world k d rd o h in
    inl (record {
      live = ap (live_numbers c 0) new
          ∙ (live_push c 0 w.subscriptions x
          ∙ (ap (λ (b : Bool). live_numbers c 0 w.subscriptions ++ cond (b && true) ((0 + n) ∷ []) []) e
          ∙ append-nil (live_numbers c 0 w.subscriptions)));
      topics = λ s l. ap (λ (xs : List Subscription). (get_or xs s no_subscription).topic) new
          ∙ ap (λ (z : Subscription). z.topic) (get_or_append_left w.subscriptions (x ∷ []) no_subscription s l);
      frames = others_frame k c d rd o e;
      numbers = others_number k c d rd o e;
      ids = λ s l. ap (λ (z : Outcome). option_map_or id_of (cond (option_map_or (λ r. r == s) (begun_by z) false) (frame_in rd) (subscribe_frame s k.steps)) []) h.is
          ∙ ap (λ (b : Bool). option_map_or id_of (cond b (frame_in rd) (subscribe_frame s k.steps)) []) (differ n s (λ z. omega (arith, z, l)));
    })

-- what stands against an end doesn't
record CanEnd (w : World) (d s : ℕ) : Type 0 where
  there : s < length w.subscriptions
  live : is_live d (subscription_at w s) ≡ true

can_end : (w : World) (d s : ℕ) → move_refusal w (Move.Unsubscribes d s) ≡ None → CanEnd w d s
can_end w d s free = let k = and_parts _ _ (not-false _ (checked w (Move.Unsubscribes d s) free).1.1.1.0) in record { there = ltb-true s (length w.subscriptions) k.0; live = k.1 }

-- the subscriptions once one with an entry, or without, is closed
record Closes (w : World) (s : ℕ) (o : Option Entry) : Type 0 where
  new : Subscription
  set_to : (close_effect_of w s o).subscriptions ≡ set w.subscriptions s new
  topic : new.topic ≡ (subscription_at w s).topic
  connection : new.connection ≡ (subscription_at w s).connection
  closed : is_some new.closed ≡ true

closes : (w : World) (s : ℕ) (o : Option Entry) → o ≢ None → Closes w s o
closes w s None n = absurd (n refl)
closes w s (Some e) n = record { new = _; set_to = refl; topic = refl; connection = refl; closed = refl }

ended_world : (k : Core) (d : ℕ) (rd : Reading) (o : Outcome) → (h : NextEnds k d rd o) → (core_after k (step_of (Event.Next d) rd o)).world.subscriptions
    ≡ (close_effect_of k.world (number_by d (id_of h.frame) k.steps) (entry_at k.world (number_by d (id_of h.frame) k.steps))).subscriptions
ended_world k d rd o h =
    ap (λ (ms : List Move). (run ms k.world).subscriptions) h.move
    ∙ ap (λ (w : World). w.subscriptions) (made_world k.world (Move.Unsubscribes d (number_by d (id_of h.frame) k.steps)) h.free)

ended_change : (k : Core) (c d : ℕ) (rd : Reading) (o : Outcome) (b : Bool) → (d == c) ≡ b
    → ((s : ℕ) → s < length k.world.subscriptions → is_live d (subscription_at k.world s) ≡ true → entry_at k.world s ≢ None)
    → NextEnds k d rd o → StepChange k c (step_of (Event.Next d) rd o)
ended_change k c d rd o true e entries h =
    let same : d ≡ c = eqb-true d c e in let s = number_by d (id_of h.frame) k.steps in let can = can_end k.world d s h.free in
    let end = closes k.world s (entry_at k.world s) (entries s can.there can.live) in
    inr (inr (record {
      frame = h.frame;
      to = end_now k.world s;
      number = s;
      new = end.new;
      reads = record {
        event = ap Event.Next same;
        read = h.read;
        effect = ap has_effect h.is;
        accepted = subst (λ n. session_fault (session_at k n) h.frame ≡ None) same h.accepted;
      };
      command = h.command;
      named = ap (λ n. number_by n (id_of h.frame) k.steps) same;
      is = h.is;
      there = can.there;
      live = subst (λ n. is_live n (subscription_at k.world s) ≡ true) same can.live;
      set_to = ended_world k d rd o h ∙ end.set_to;
      topic = end.topic;
      connection = end.connection;
      closed = end.closed;
    }))
ended_change k c d rd o false e entries h =
    let w = k.world in let s = number_by d (id_of h.frame) k.steps in let can = can_end w d s h.free in let end = closes w s (entry_at w s) (entries s can.there can.live) in
    let own : end.new.connection ≡ d = end.connection ∙ live_owned d (subscription_at w s) can.live in
    let keeps = kept_but w (core_after k (step_of (Event.Next d) rd o)).world c s end.new (ended_world k d rd o h ∙ end.set_to) end.topic
    (live_of_others c 0 s w.subscriptions end.new end.connection (λ same. false≢true (sym e ∙ eq-eqb d c (sym own ∙ same)))) in
    inl (record {
      live = keeps.live;
      topics = keeps.topics;
      frames = others_frame k c d rd o e;
      numbers = others_number k c d rd o e;
      ids = λ q l. ap (λ (z : Outcome). option_map_or id_of (cond (option_map_or (λ r. r == q) (begun_by z) false) (frame_in rd) (subscribe_frame q k.steps)) []) h.is;
    })

next_change : (k : Core) (c d : ℕ) (rd : Reading) (o : Outcome)
    → ((s : ℕ) → s < length k.world.subscriptions → is_live d (subscription_at k.world s) ≡ true → entry_at k.world s ≢ None)
    → open_in (core_after k (step_of (Event.Next d) rd o)).world.connections c ≡ true → NextKind k d rd o → StepChange k c (step_of (Event.Next d) rd o)
next_change k c d rd o entries reading (inl h) = inl (plain_step k c (Event.Next d) rd o h.plain h.none reading (h.adds c))
next_change k c d rd o entries reading (inr (inl h)) = begun_change k c d rd o (d == c) refl h
next_change k c d rd o entries reading (inr (inr h)) = ended_change k c d rd o (d == c) refl entries h

other_change : (k : Core) (c : ℕ) (e : Event) (rd : Reading) (o : Outcome) → IsOther e → In o (outcomes k e rd)
    → open_in (core_after k (step_of e rd o)).world.connections c ≡ true → StepChange k c (step_of e rd o)
other_change k c e rd o other i reading = inl (plain_step k c e rd o (plain_event k e rd o other) (silent k e rd o other i) reading (other_adds k c e rd o other))

-- what a step does to the subscriptions of a connection that is open after it
pub step_change : (k : Core) (c : ℕ) (e : Event) (rd : Reading) (o : Outcome) → In o (outcomes k e rd)
    → ((d s : ℕ) → s < length k.world.subscriptions → is_live d (subscription_at k.world s) ≡ true → entry_at k.world s ≢ None)
    → open_in (core_after k (step_of e rd o)).world.connections c ≡ true → StepChange k c (step_of e rd o)
step_change k c (Event.Next d) rd o i entries reading = next_change k c d rd o (entries d) reading (next_kind k d rd o i)
step_change k c event rd o i entries reading = other_change k c event rd o tt i reading
