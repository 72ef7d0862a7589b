-- What every run makes of its connections: a step changes none but its event's own, and an accepted UNSUBSCRIBE names a live
-- subscription.
use Rattle.delivery.proofs.Words.All.{◌≡◌, ◌≢◌, ℕ, zero, suc, ◌==◌, Bool, true, false, cond, not, ◌&&◌, List, [], ◌∷◌, ◌++◌, length, set, get_or, Option, Some, None, refl, sym, ap, ◌∙◌, append-nil, codes, flat_map, option_map_or, option_to_list, get_or-set_other, RawFrame, Unread, with_piece, spelling_of, Action, action_by, field, has_destination, id_of, is_known, World, Connection, Standing, nobody, connection_at, subscription_at, Move, Answer, world_after, run, AddsTopic, Opens, Connects, Commits, Subscribes, Unsubscribes, Disconnects, Errs, Lost, Leaves, Proposes, Decides, Withdraws, Cancels, Learns, Releases, Turns, Takes, Event, Outcome, account_of, beginning_of, is_cut, next_replies, replies_to, text_out, take_replies, Core, core_of, frame_move, is_faulted, is_no_memory, is_out_of_memory, moves, names_at, next_moves, session_at, topic_moves, unread_at, unread_after, claims_of, claimed_sender, CoreStep, Reading, accepted_of, frame_in, has_effect, is_fed, is_next, number_by, IsReached}
use Rattle.stomp_session.specs.declared.action.Action.TheVariants as actions
use Rattle.delivery.specs.Core.Connections.{event_connection, OpenAreLive, UnsubscribesFind, OtherConnectionsStay}
use Rattle.delivery.specs.Core.State.{left_by}
use Rattle.delivery.proofs.Words.Steps.{by_refusal, InEachCase, by_found, always}
use Rattle.delivery.proofs.Words.Changes.{core_is, if_same, differ}
use Rattle.delivery.proofs.Core.NamesKnown.{other_open}
use Rattle.delivery.proofs.Views.Events.NextStep.{idle_reads}
use Rattle.delivery.proofs.Views.Subscriptions.OpenIsLive.{session_subs, names_live, unsubscribe_free}
use Rattle.delivery.proofs.Views.Endpoints.NothingBeforeOpen.{owned}

-- ---- the machine's connections

-- a move of another connection than c
abbrev Apart : World → Move → ℕ → Type 0
Apart w Opens c = length w.connections ≢ c
Apart w (Connects d claimed) c = d ≢ c
Apart w (Disconnects d) c = d ≢ c
Apart w (Errs d) c = d ≢ c
Apart w (Lost d) c = d ≢ c
Apart w (Leaves d) c = d ≢ c
Apart w (Withdraws d) c = d ≢ c
Apart w (Takes s) c = (subscription_at w s).connection ≢ c
Apart w mv c = Unit {0}

-- this connection is what it was
abbrev Stays : World → World → ℕ → Type 0
Stays w v c = connection_at v c ≡ connection_at w c

pushed : (xs : List Connection) (x : Connection) (c : ℕ) → length xs ≢ c → get_or (xs ++ x ∷ []) c nobody ≡ get_or xs c nobody
pushed [] x zero n = absurd (n refl)
pushed [] x (suc c) n = refl
pushed (y ∷ xs) x zero n = refl
pushed (y ∷ xs) x (suc c) n = pushed xs x c (λ e. n (ap suc e))

shut : (w : World) (c d : ℕ) (x : Connection) → d ≢ c → get_or (set w.connections d x) c nobody ≡ get_or w.connections c nobody
shut w c d x n = get_or-set_other w.connections d c x nobody (λ e. n (sym e))

leaving : (w : World) (d c : ℕ) → d ≢ c → Stays w (record w { connections = set w.connections d (record { sender = (connection_at w d).sender; standing = Standing.Leaving }) }) c
leaving w d c n = shut w c d (record { sender = (connection_at w d).sender; standing = Standing.Leaving }) n

effect_stays : (w : World) (mv : Move) (c : ℕ) → Apart w mv c → InEachCase (λ v o. Stays w v c) w mv
effect_stays w Opens c n = always (pushed w.connections _ c n)
effect_stays w (Connects d claimed) c n = always (shut w c d _ n)
effect_stays w (Disconnects d) c n = always (leaving w d c n)
effect_stays w (Errs d) c n = always (leaving w d c n)
effect_stays w (Lost d) c n = always (leaving w d c n)
effect_stays w (Leaves d) c n = (shut w c d _ n, λ s. (refl, λ k. refl))
effect_stays w (Withdraws d) c n = always (leaving w d c n)
effect_stays w (Takes s) c n = (leaving w (subscription_at w s).connection c n, λ k. refl)
effect_stays w _ c n = (refl, λ k. refl)

move_stays : (w : World) (mv : Move) (c : ℕ) → Apart w mv c → Stays w (world_after w mv) c
move_stays w mv c n = by_refusal (λ v o. Stays w v c) w mv (λ why. refl) (λ k. by_found (λ v o. Stays w v c) w mv (effect_stays w mv c n))

-- ---- the moves of an event

-- none of an accepted frame, or one move of its connection
framed : (k : Core) (w : World) (d : ℕ) (action : Action) (c : ℕ) → d ≢ c → Stays w (run (option_to_list (frame_move k d action)) w) c
framed k w d (actions.Connected client) c n = move_stays w (Connects d (claimed_sender client (claims_of k.steps))) c n
framed k w d actions.Nothing c n = refl
framed k w d (actions.Subscribe id t) c n = move_stays w (Subscribes d t) c tt
framed k w d (actions.Unsubscribe id) c n = move_stays w (Unsubscribes d (number_by d id k.steps)) c tt
framed k w d (actions.Commit sends) c n = move_stays w (Commits d sends) c tt
framed k w d actions.Disconnect c n = move_stays w (Disconnects d) c n

-- after the topic that it makes, if it does
made : (k : Core) (d : ℕ) (f : RawFrame) (action : Action) (c : ℕ) → d ≢ c → Stays k.world (run (topic_moves (names_at k) f ++ option_to_list (frame_move k d action)) k.world) c
made k d f action c n = elim (has_destination f.command && not (is_known (field (codes "destination") f) (names_at k))) as (λ (first_use : Bool). Stays k.world (run (cond first_use (AddsTopic 0 ∷ []) [] ++ option_to_list (frame_move k d action)) k.world) c) [
  | true ↦ framed k (world_after k.world (AddsTopic 0)) d action c n ∙ move_stays k.world (AddsTopic 0) c tt
  | false ↦ framed k k.world d action c n
]

next_stays : (k : Core) (d : ℕ) (rd : Reading) (o : Outcome) (c : ℕ) → d ≢ c → Stays k.world (run (next_moves k d rd o) k.world) c
next_stays k d rd o c n = by_outcome (is_faulted o) (has_effect o) (frame_in rd)
  where
    by_outcome : (faulted effect : Bool) (f : Option RawFrame)
        → Stays k.world (run (cond faulted (Errs d ∷ []) (cond effect (option_map_or (λ g. topic_moves (names_at k) g ++ option_to_list (frame_move k d (action_by g.command (session_at k d) g))) f []) [])) k.world) c
    by_outcome true effect f = move_stays k.world (Errs d) c n
    by_outcome false false f = refl
    by_outcome false true None = refl
    by_outcome false true (Some f) = made k d f (action_by f.command (session_at k d) f) c n

-- a number that is another's isn't this one's
unlike : (d c : ℕ) → Some d ≢ Some c → d ≢ c
unlike d c n e = n (ap Some e)

standing_stays : (k : Core) (e : Event) (rd : Reading) (o : Outcome) (c : ℕ) → event_connection k.world e ≢ Some c → Stays k.world (run (moves k e rd o) k.world) c
standing_stays k Event.Open rd o c n = by_memory (is_no_memory o)
  where
    m : ℕ
    m = length k.world.connections

    by_memory : (b : Bool) → Stays k.world (run (cond b [] (Opens ∷ [])) k.world) c
    by_memory true = refl
    by_memory false = move_stays k.world Opens c (unlike m c n)
standing_stays k (Event.Piece d octets) rd o c n = refl
standing_stays k (Event.Next d) rd o c n = next_stays k d rd o c (unlike d c n)
standing_stays k (Event.Propose d t) rd o c n = move_stays k.world (Proposes d t (not (is_out_of_memory o))) c tt
standing_stays k (Event.Decide d) rd o c n = elim (is_cut o) as (λ (b : Bool). Stays k.world (run (Decides d ∷ cond b (Lost d ∷ []) []) k.world) c) [
  | true ↦ move_stays (world_after k.world (Decides d)) (Lost d) c (unlike d c n) ∙ move_stays k.world (Decides d) c tt
  | false ↦ move_stays k.world (Decides d) c tt
]
standing_stays k (Event.Withdraw d) rd o c n = move_stays k.world (Withdraws d) c (unlike d c n)
standing_stays k (Event.Cancel d t) rd o c n = move_stays k.world (Cancels d t) c tt
standing_stays k (Event.Learn t id) rd o c n = move_stays k.world (Learns t id) c tt
standing_stays k (Event.Release t) rd o c n = move_stays k.world (Releases t) c tt
standing_stays k (Event.Turn t) rd o c n = move_stays k.world (Turns t) c tt
standing_stays k (Event.Take s) rd o c n = elim (is_no_memory o) as (λ (b : Bool). Stays k.world (run (cond b [] (Takes s ∷ [])) k.world) c) [ true ↦ refl | false ↦ move_stays k.world (Takes s) c (unlike _ c n) ]
standing_stays k (Event.Leave d) rd o c n = move_stays k.world (Leaves d) c (unlike d c n)
standing_stays k (Event.Lost d) rd o c n = move_stays k.world (Lost d) c (unlike d c n)

-- ---- what is read and written

-- another connection's octets and frames change nothing of this reader
reader_stays : (w : World) (c : ℕ) (u : Unread) (e : Event) (rd : Reading) (o : Outcome) → event_connection w e ≢ Some c → unread_after c u e rd o ≡ u
reader_stays w c u (Event.Piece d octets) rd o n = ap (λ (b : Bool). cond (b && is_fed o) (with_piece u octets) u) (differ d c (unlike d c n))
reader_stays w c u (Event.Next d) rd o n = ap (λ (b : Bool). cond b (left_by u rd) u) (differ d c (unlike d c n))
reader_stays w c u _ rd o n = refl

-- no frame of it is asked for
unasked : (w : World) (c : ℕ) (e : Event) → event_connection w e ≢ Some c → is_next c e ≡ false
unasked w c (Event.Next d) n = differ d c (unlike d c n)
unasked w c _ n = refl

-- a reply that is only this connection's where its number is
off : (b q : Bool) (fs : List RawFrame) → b ≡ false → cond (b && q) fs [] ≡ []
off b q fs e = ap (λ (z : Bool). cond (z && q) fs []) e

alone : (b : Bool) (fs : List RawFrame) → b ≡ false → cond b fs [] ≡ []
alone b fs e = ap (λ (z : Bool). cond z fs []) e

-- nothing is replied to it
unreplied : (w : World) (c : ℕ) (older : List CoreStep) (account : List Answer) (e : Event) (rd : Reading) (o : Outcome)
    → ((s : ℕ) → (beginning_of s account).connection ≡ (subscription_at w s).connection) → event_connection w e ≢ Some c → replies_to c older account e rd o ≡ []
unreplied w c older account (Event.Next d) rd o own n = alone (d == c) (next_replies (frame_in rd) o) (differ d c (unlike d c n))
unreplied w c older account (Event.Take s) rd o own n =
    alone ((beginning_of s account).connection == c) (take_replies s older account o) (differ _ c (λ e. unlike _ c n (sym (own s) ∙ e)))
unreplied w c older account (Event.Decide d) rd (Outcome.Decided stamp cut) own n = off (d == c) _ _ (differ d c (unlike d c n))
unreplied w c older account (Event.Decide d) rd o own n = refl
unreplied w c older account (Event.Withdraw d) rd (Outcome.Withdrawn cut) own n = off (d == c) _ _ (differ d c (unlike d c n))
unreplied w c older account (Event.Withdraw d) rd o own n = refl
unreplied w c older account (Event.Leave d) rd (Outcome.Gone cut) own n = alone (d == c) _ (differ d c (unlike d c n))
unreplied w c older account (Event.Leave d) rd o own n = refl
unreplied w c older account e rd o own n = refl

-- ---- the laws

-- a step changes no connection but its event's own
pub other_connections_stay : OtherConnectionsStay
other_connections_stay topics capacity step older run c n =
    let k = core_of topics capacity older in let w = k.world in let named : k.names ≡ topics.names = ap (λ (z : Core). z.names) (core_is topics capacity older) in
    let there : k.steps ≡ older = ap (λ (z : Core). z.steps) (core_is topics capacity older) in
    let own : (s : ℕ) → (beginning_of s (account_of k.names k.steps)).connection ≡ (subscription_at w s).connection =
    λ s. ap (λ (z : List Answer). (beginning_of s z).connection) (λ i. account_of (named i) (there i)) ∙ owned topics capacity older run.1 s in
    let same : accepted_of c (step ∷ k.steps) ≡ accepted_of c k.steps =
    ap (λ (fs : List RawFrame). accepted_of c k.steps ++ fs)
    (ap (λ (b : Bool). cond (has_effect step.outcome) (cond b (option_to_list (frame_in step.reading)) []) []) (unasked w c step.event n) ∙ if_same (has_effect step.outcome) [])
    ∙ append-nil (accepted_of c k.steps) in record {
      standing = standing_stays k step.event step.reading step.outcome c n;
      unread = reader_stays w c (unread_at c k.steps) step.event step.reading step.outcome n;
      accepted = same;
      session = other_open k.names step k.steps c same;
      text = ap (λ (fs : List RawFrame). text_out k.names c k.steps ++ cond (is_cut step.outcome) [] (flat_map spelling_of fs))
          (unreplied w c k.steps (account_of k.names k.steps) step.event step.reading step.outcome own n)
          ∙ (ap (λ (octets : List ℕ). text_out k.names c k.steps ++ octets) (if_same (is_cut step.outcome) []) ∙ append-nil (text_out k.names c k.steps));
    }

-- what is open in a session is live
pub open_are_live : OpenAreLive
open_are_live topics capacity steps many run c reading =
    session_subs (core_of topics capacity steps) c
    (record { topics = topics; capacity = capacity; steps = steps; as_many = many; is = refl; run = run }) reading

-- an accepted UNSUBSCRIBE names one that is live
pub unsubscribes_find : UnsubscribesFind
unsubscribes_find topics capacity steps many run c f command idle none =
    let k = core_of topics capacity steps in let reached : IsReached k = record { topics = topics; capacity = capacity; steps = steps; as_many = many; is = refl; run = run } in
    let live = names_live k c f reached (idle_reads k.world c idle) command none in unsubscribe_free k.world c (number_by c (id_of f) k.steps) idle live.there live.live
