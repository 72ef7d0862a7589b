-- A Next whose frame is a SUBSCRIBE or an UNSUBSCRIBE.
use Rattle.delivery.proofs.Words.All.{◌≡◌, ◌≢◌, ℕ, ◌<◌, ◌||◌, Bool, true, false, cond, inl, inr, List, [], ◌∷◌, ◌++◌, length, get_or, Option, Some, None, refl, sym, ap, subst, ◌∙◌, arith, is_some, option_map, ltb-true, get_or-map, get_or-set_same, length-map, In, Topic, Stamp, SubFault, Entry, find_entry, new_topic, subscribe_fault, Command, RawFrame, Unread, action_by, has_destination, id_of, is_disconnect, is_subscribe, wants_parts, held_after, is_ended, state_of, some_same, begins_at, ends, subscription_at, topic_at, Move, end_now, is_live, is_topic, move_effect, move_refusal, final_world, Event, Outcome, Reading, accepted_of, has_effect, number_by, subscribe_frame, text_out, Core, core_for, names_at, session_at, unread_at, Asks, accepted_stage, receipt_text, staged_endpoint, IsReached, Makes, closed_view, left_at, number_in, subscribed_view, View, EndpointView, LeftView, group_view, no_endpoint, no_group, view_after, view_with, written_endpoint, group_in}
use Rattle.stomp_frame.specs.declared.command.Command.TheVariants as commands
use Rattle.stomp_session.specs.declared.action.Action.TheVariants as actions
use Rattle.stomp_session.proofs.Later.{with_destination-none}
use Rattle.stomp_session.specs.Open.{asks_parts}
use Rattle.stomp_session.proofs.LeftOpen.{list_any-push}
use Rattle.stomp_session.proofs.Parts.{held_asks}
use Rattle.stomp_session.proofs.Asked.{begins}
use Rattle.delivery.specs.Inner.Subscriptions.{parts_in, stage_parts}
use Rattle.delivery.proofs.Views.Subscriptions.ClosedIsDropped.{closed_is, closed_end}
use Rattle.delivery.proofs.Words.Changes.{with_endpoint, differ, by_world}
use Rattle.delivery.proofs.Views.Events.NextFrames.{changed_view, move_makes, names_for, receipt_is, replied_view, there_for}
use Rattle.delivery.proofs.Views.Events.NextFaults.{endpoint_of, within_endpoints}
use Rattle.delivery.proofs.Core.FrameWorld.{by_use, framed_none, idle_for}
use Rattle.delivery.proofs.Words.Steps.{at_added, reached}
use Rattle.delivery.proofs.Views.Senders.SendsAreToTopics.{topic_made}
use Rattle.delivery.proofs.Views.Events.NextStep.{held_still, idle_reads, idle_there, next_of, text_added, view_by}
use Rattle.delivery.proofs.Views.Subscriptions.OpenIsLive.{names_live, not_ended, subscribe_free, unsubscribe_free}
use Rattle.delivery.proofs.Views.Subscriptions.NewSubscription.{begun_as, new_frame, old_frames, subscribed_is}
use Rattle.delivery.proofs.Core.Actions.{frame_fits}

-- ---- SUBSCRIBE

-- the session says of its id what it asked for
parts_asked : (k : Core) (c : ℕ) (f : RawFrame) (left : Unread) (id : List ℕ) (t : Topic) (receipt : Option (List ℕ)) (held mid : View) (d : EndpointView)
    → Asks k c f left (actions.Subscribe id t) receipt held → mid ≡ with_endpoint held c (written_endpoint (receipt_text receipt) (get_or held.endpoints c d))
    → parts_in mid c id ≡ wants_parts f
parts_asked k c f left id t receipt held mid d asks written =
    let names = names_for k f in let q = core_for k f in let v = view_by names q in let accepted = accepted_of c k.steps in
    let endpoint = written_endpoint (receipt_text receipt) (staged_endpoint (accepted_stage k c f left) (endpoint_of names q c)) in
    let command = (frame_fits f.command (session_at k c) f asks.does).0 in
    let going : is_ended (accepted ++ f ∷ []) ≡ false =
    list_any-push (λ g. is_disconnect g.command) accepted f
    ∙ (λ i. not_ended k c asks.reached (idle_reads k.world c asks.idle) i || is_disconnect (command i)) in
    ap (λ (x : View). parts_in x c id) (changed_view k c f left (actions.Subscribe id t) receipt held mid (written_endpoint (receipt_text receipt)) d asks written)
    ∙ (ap (λ (l : EndpointView). stage_parts id l.stage) (get_or-set_same v.endpoints c endpoint no_endpoint (within_endpoints names q c (there_for k f c asks.idle)))
    ∙ (ap (λ (z : List ℕ). asks_parts z (state_of (held_after names (accepted ++ f ∷ [])))) (sym (begins f.command (session_at k c) f id t asks.does))
    ∙ held_asks names accepted f (ap is_subscribe command) going))

-- its RECEIPT is written, and the subscription begins
pub next_subscribes : (k : Core) (c : ℕ) (f : RawFrame) (left : Unread) (id : List ℕ) (t : Topic) (receipt : Option (List ℕ)) (held mid new : View) (s : ℕ) (from : Stamp) (d : EndpointView)
    → Asks k c f left (actions.Subscribe id t) receipt held → mid ≡ with_endpoint held c (written_endpoint (receipt_text receipt) (get_or held.endpoints c d))
    → t.0 < length mid.groups → s ≡ length mid.subs → from ≡ (group_in mid t).topic.frontier → new ≡ subscribed_view c id (parts_in mid c id) t mid
    → Makes k (Event.Next c) (Outcome.Subscribed s from) new
next_subscribes k c f left id t receipt held mid new s from d asks written topic number begins_at is =
    let names = names_for k f in let q = core_for k f in let w = q.world in let n = length w.subscriptions in let y = (topic_at w t).frontier in let o = Outcome.Subscribed n y in
    let reading = Reading.Finds f left in let steps = next_of c reading o ∷ k.steps in let idle = idle_for k f c asks.idle in let there = there_for k f c asks.idle in
    let still : mid ≡ held_still names q w c reading o =
    replied_view k c f left (actions.Subscribe id t) receipt held mid o (receipt_text receipt) d asks refl
    (receipt_is k c f left (actions.Subscribe id t) receipt held asks) written in
    let groups : length mid.groups ≡ length w.topics = ap (λ (v : View). length v.groups) still ∙ length-map w.topics (group_view w) in
    let named : t.0 < length w.topics = omega (arith, topic, groups) in
    let begun = begun_as names w t (λ m. accepted_of m steps) (λ m. unread_at m steps) (λ m. text_out k.names m steps) (λ m. subscribe_frame m k.steps) named in
    let same : n ≡ s = sym (number ∙ (ap (λ (v : View). length v.subs) still ∙ begun.0)) in
    let at : y ≡ from = sym (begins_at ∙ (ap (λ (v : View). (group_in v t).topic.frontier) still ∙ begun.1)) in let named_id = begins f.command (session_at k c) f id t asks.does in
    let parts = parts_asked k c f left id t receipt held mid d asks written in
    let view = subscribed_is names w c f t (λ m. accepted_of m steps) (λ m. unread_at m steps) (λ m. text_out k.names m steps) (λ m. subscribe_frame m k.steps) (λ m. subscribe_frame m steps)
    there named (old_frames c f left n y k.steps) (new_frame c f left n y k.steps) in
    subst (λ (p : Outcome). Makes k (Event.Next c) p new) (λ i. Outcome.Subscribed (same i) (at i))
    (move_makes k c f left (actions.Subscribe id t) receipt held new (Move.Subscribes c t) o asks refl refl (subscribe_free w c t idle named) refl refl refl
    (is ∙ ((λ i. subscribed_view c (sym named_id i) (parts i) t (still i)) ∙ view)))

-- ---- what is asked of the private call

-- what is held has the topic, and no subscription of the next number there
abbrev pub IsFreeIn : View → Topic → Type 0
IsFreeIn v t = (t.0 < length v.groups) × (subscribe_fault (length v.subs) (group_in v t).topic ≡ None)

none_numbered : (n : ℕ) (es : List Entry) → ((e : Entry) → In e es → e.number ≢ n) → find_entry n es ≡ None
none_numbered n [] h = refl
none_numbered n (e ∷ es) h = ap (λ (b : Bool). cond b (Some e) (find_entry n es)) (differ e.number n (h e (inl refl))) ∙ none_numbered n es (λ f i. h f (inr i))

-- no topic has an entry of the next number
next_unused : (k : Core) (t : Topic) → IsReached k → find_entry (length k.world.subscriptions) (topic_at k.world t).subscriptions ≡ None
next_unused k t was =
    by_world (λ w. find_entry (length w.subscriptions) (topic_at w t).subscriptions ≡ None) k was
    (λ r. none_numbered (length (final_world r).subscriptions) (topic_at (final_world r) t).subscriptions
    (λ e i same. (let l = ((reached r).inv.subscribes.owned t e i).there in omega (arith, l, same))))

unused_for : (k : Core) (f : RawFrame) (t : Topic) → IsReached k → find_entry (length (core_for k f).world.subscriptions) (topic_at (core_for k f).world t).subscriptions ≡ None
unused_for k f t was =
    let old = next_unused k t was in
    by_use (λ w. find_entry (length w.subscriptions) (topic_at w t).subscriptions ≡ None) k f old
    (at_added (λ u z. find_entry (length k.world.subscriptions) z.subscriptions ≡ None) k.world.topics k.world.log_limit 0 t (λ none. refl) old)

-- so it is once a SUBSCRIBE's RECEIPT is written
pub next_free : (k : Core) (c : ℕ) (f : RawFrame) (left : Unread) (id : List ℕ) (t : Topic) (receipt : Option (List ℕ)) (held mid : View) (d : EndpointView)
    → Asks k c f left (actions.Subscribe id t) receipt held → mid ≡ with_endpoint held c (written_endpoint (receipt_text receipt) (get_or held.endpoints c d)) → IsFreeIn mid t
next_free k c f left id t receipt held mid d asks written =
    let names = names_for k f in let q = core_for k f in let w = q.world in let o = Outcome.Subscribed 0 (topic_at w t).frontier in let reading = Reading.Finds f left in
    let steps = next_of c reading o ∷ k.steps in
    let still : mid ≡ held_still names q w c reading o =
    replied_view k c f left (actions.Subscribe id t) receipt held mid o (receipt_text receipt) d asks refl
    (receipt_is k c f left (actions.Subscribe id t) receipt held asks) written in
    let asked = begins_at f.command (session_at k c) f id t asks.does in
    let made : is_topic w t ≡ true = subst (λ (u : Topic). is_topic w u ≡ true) asked.1 (topic_made k f asks.reached asked.0) in
    let named : t.0 < length w.topics = ltb-true t.0 (length w.topics) made in
    let groups : length mid.groups ≡ length w.topics = ap (λ (v : View). length v.groups) still ∙ length-map w.topics (group_view w) in
    let begun = begun_as names w t (λ m. accepted_of m steps) (λ m. unread_at m steps) (λ m. text_out k.names m steps) (λ m. subscribe_frame m k.steps) named in
    let group : group_in (held_still names q w c reading o) t ≡ group_view w (topic_at w t) = get_or-map (group_view w) w.topics t.0 (new_topic t 0 0) no_group named in (
      omega (arith, named, groups),
      ap (λ (v : View). subscribe_fault (length v.subs) (group_in v t).topic) still
          ∙ ((λ i. subscribe_fault (begun.0 i) (group i).topic)
          ∙ ap (λ (e : Option Entry). cond (is_some e) (Some SubFault.SubInUse) None) (unused_for k f t asks.reached)),
    )

-- ---- UNSUBSCRIBE

ends_without : (command : Command) → command ≡ commands.Unsubscribe → has_destination command ≡ false
ends_without command is = ap has_destination is

-- an UNSUBSCRIBE makes no topic
record EndsHere (k : Core) (f : RawFrame) : Type 0 where
  names : names_for k f ≡ names_at k
  core : core_for k f ≡ k

ends_here : (k : Core) (c : ℕ) (f : RawFrame) (id : List ℕ) → action_by f.command (session_at k c) f ≡ actions.Unsubscribe id → EndsHere k f
ends_here k c f id does =
    let none = ends_without f.command (ends f.command (session_at k c) f id does).0 in record { names = with_destination-none f (names_at k) none; core = framed_none k f none }

-- its RECEIPT is written to what was held before
ended_still : (k : Core) (c : ℕ) (f : RawFrame) (left : Unread) (id : List ℕ) (receipt : Option (List ℕ)) (held mid : View) (o : Outcome) (d : EndpointView)
    → Asks k c f left (actions.Unsubscribe id) receipt held → has_effect o ≡ true → receipt_text receipt ≡ text_added (Reading.Finds f left) o
    → mid ≡ with_endpoint held c (written_endpoint (receipt_text receipt) (get_or held.endpoints c d)) → mid ≡ held_still (names_at k) k k.world c (Reading.Finds f left) o
ended_still k c f left id receipt held mid o d asks effect text written =
    let here = ends_here k c f id asks.does in
    replied_view k c f left (actions.Unsubscribe id) receipt held mid o (receipt_text receipt) d asks effect text written
    ∙ (λ i. held_still (here.names i) (here.core i) (here.core i).world c (Reading.Finds f left) o)

-- the subscription that an accepted UNSUBSCRIBE names is found, over an endpoint with its RECEIPT
pub next_finds : (k : Core) (c : ℕ) (f : RawFrame) (left : Unread) (id : List ℕ) (receipt : Option (List ℕ)) (held mid : View) (d : EndpointView)
    → Asks k c f left (actions.Unsubscribe id) receipt held → mid ≡ with_endpoint held c (written_endpoint (receipt_text receipt) (get_or held.endpoints c d))
    → number_in mid c id ≡ Some (number_by c id k.steps)
next_finds k c f left id receipt held mid d asks written =
    let w = k.world in let o = Outcome.Unsubscribed 0 (topic_at w (record { 0 = 0 })).frontier in let reading = Reading.Finds f left in let steps = next_of c reading o ∷ k.steps in
    let still : mid ≡ held_still (names_at k) k w c reading o =
    ended_still k c f left id receipt held mid o d asks refl (receipt_is k c f left (actions.Unsubscribe id) receipt held asks) written in
    let ended = ends f.command (session_at k c) f id asks.does in let live = names_live k c f asks.reached (idle_reads w c asks.idle) ended.0 asks.free in
    ap (λ (v : View). number_in v c id) still
    ∙ subst (λ (z : List ℕ). number_in (held_still (names_at k) k w c reading o) c z ≡ Some (number_by c z k.steps)) ended.1
    (live.found (λ m. accepted_of m steps) (λ m. unread_at m steps) (λ m. text_out k.names m steps))

-- where it ends
pub next_leaves : (k : Core) (c : ℕ) (f : RawFrame) (left : Unread) (id : List ℕ) (receipt : Option (List ℕ)) (held mid : View) (d : EndpointView)
    → Asks k c f left (actions.Unsubscribe id) receipt held → mid ≡ with_endpoint held c (written_endpoint (receipt_text receipt) (get_or held.endpoints c d))
    → option_map (λ (x : LeftView). x.to) (left_at (number_by c id k.steps) mid) ≡ Some (end_now k.world (number_by c id k.steps))
next_leaves k c f left id receipt held mid d asks written =
    let w = k.world in let o = Outcome.Unsubscribed 0 (topic_at w (record { 0 = 0 })).frontier in let reading = Reading.Finds f left in let steps = next_of c reading o ∷ k.steps in
    let still : mid ≡ held_still (names_at k) k w c reading o =
    ended_still k c f left id receipt held mid o d asks refl (receipt_is k c f left (actions.Unsubscribe id) receipt held asks) written in
    let ended = ends f.command (session_at k c) f id asks.does in let live = names_live k c f asks.reached (idle_reads w c asks.idle) ended.0 asks.free in
    let n = number_by c (id_of f) k.steps in
    ap (λ (v : View). option_map (λ (x : LeftView). x.to) (left_at (number_by c id k.steps) v)) still
    ∙ subst (λ (z : List ℕ). option_map (λ (x : LeftView). x.to) (left_at (number_by c z k.steps) (held_still (names_at k) k w c reading o)) ≡ Some (end_now w (number_by c z k.steps))) ended.1
    (closed_end k c n asks.reached live.there live.live (λ m. accepted_of m steps) (λ m. unread_at m steps) (λ m. text_out k.names m steps) (λ m. subscribe_frame m k.steps))

-- its RECEIPT is written, and the subscription ends
pub next_unsubscribes : (k : Core) (c : ℕ) (f : RawFrame) (left : Unread) (id : List ℕ) (receipt : Option (List ℕ)) (held mid new : View) (s : ℕ) (to : Stamp) (d : EndpointView)
    → Asks k c f left (actions.Unsubscribe id) receipt held → mid ≡ with_endpoint held c (written_endpoint (receipt_text receipt) (get_or held.endpoints c d))
    → Some s ≡ number_in mid c id → Some to ≡ option_map (λ (x : LeftView). x.to) (left_at s mid) → new ≡ closed_view s mid → Makes k (Event.Next c) (Outcome.Unsubscribed s to) new
next_unsubscribes k c f left id receipt held mid new s to d asks written number stamp is =
    let w = k.world in let n = number_by c id k.steps in let o = Outcome.Unsubscribed n (end_now w n) in let reading = Reading.Finds f left in
    let steps = next_of c reading o ∷ k.steps in let there = idle_there w c asks.idle in let here = ends_here k c f id asks.does in
    let still : mid ≡ held_still (names_at k) k w c reading o =
    ended_still k c f left id receipt held mid o d asks refl (receipt_is k c f left (actions.Unsubscribe id) receipt held asks) written in
    let ended = ends f.command (session_at k c) f id asks.does in let live = names_live k c f asks.reached (idle_reads w c asks.idle) ended.0 asks.free in
    let same : n ≡ s = some_same _ _ (sym (number ∙ next_finds k c f left id receipt held mid d asks written)) in
    let at : end_now w n ≡ to =
    some_same _ _ (sym (stamp ∙ (ap (λ (m : ℕ). option_map (λ (x : LeftView). x.to) (left_at m mid)) (sym same)
    ∙ next_leaves k c f left id receipt held mid d asks written))) in
    let found : n < length w.subscriptions = subst (λ (z : List ℕ). number_by c z k.steps < length w.subscriptions) ended.1 live.there in
    let alive = subst (λ (z : List ℕ). is_live c (subscription_at w (number_by c z k.steps)) ≡ true) ended.1 live.live in
    let view = closed_is k c n asks.reached there found alive (λ m. accepted_of m steps) (λ m. unread_at m steps) (λ m. text_out k.names m steps) (λ m. subscribe_frame m k.steps) in
    let after : view_with (names_at k) (move_effect w (Move.Unsubscribes c n)) (λ m. accepted_of m steps) (λ m. unread_at m steps) (λ m. text_out k.names m steps) (λ m. subscribe_frame m k.steps)
    ≡ view_after k.names (move_effect (core_for k f).world (Move.Unsubscribes c n)) steps =
    λ i. view_with (sym here.names i) (move_effect (sym here.core i).world (Move.Unsubscribes c n)) (λ m. accepted_of m steps) (λ m. unread_at m steps) (λ m. text_out k.names m steps) (λ m. subscribe_frame m k.steps) in
    subst (λ (p : Outcome). Makes k (Event.Next c) p new) (λ i. Outcome.Unsubscribed (same i) (at i))
    (move_makes k c f left (actions.Unsubscribe id) receipt held new (Move.Unsubscribes c n) o asks refl refl
    (subst (λ (z : Core). move_refusal z.world (Move.Unsubscribes c n) ≡ None) (sym here.core) (unsubscribe_free w c n asks.idle found alive))
    (ap (λ (z : Core). Some (Outcome.Unsubscribed n (end_now z.world n))) here.core) refl refl
    (is ∙ (ap (λ (m : ℕ). closed_view m mid) (sym same) ∙ (ap (λ (v : View). closed_view n v) still ∙ (view ∙ after)))))
