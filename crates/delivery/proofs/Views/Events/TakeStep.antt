-- A take of a subscription.
use Rattle.delivery.proofs.Words.All.{◌≡◌, ◌≢◌, ℕ, ◌<◌, ◌≤◌, ◌==◌, Bool, true, false, cond, not, nat_lt, ◌&&◌, ◌||◌, inl, inr, List, [], ◌∷◌, ◌++◌, map, length, get_or, set, Option, Some, None, refl, sym, ap, subst, ◌∙◌, arith, eq-eqb, slice_get, flat_map, is_some, option_map, option_or, option_and_then, option_to_list, ltb-true, ltb-false, lt-ltb, le-ltb, or_parts, or_right, false≢true, not-false, cases_Bool, cases_lt, append-nil, get_or_past, slice_get-get_or, slice_get_past, first_refusal, Item, group_after_take, GroupState, Entry, EntryEnd, RawFrame, receipt_of, error_frame, spelling_of, In-push, In-append_left, passes, some_same, none_some, Objection, refusal_of, World, Subscription, Connection, Standing, nobody, connection_at, speaker, subscription_at, entry_at, is_reading, is_gone, Move, Answer, move_refusal, needs_open, with_leaving, take_effect, take_answer, accepted_at, end_at, entry_items, entry_to, ConnectionFault, Event, Outcome, Refusal, connection_title, accepted_of, account_of, beginning_of, next_item, no_item, text_out, subscribe_frame, sub_id_text, sub_parts, Core, unread_at, names_at, unless, move_outcome, each_number, IsReached, Makes, endpoint_objection, sub_objection, take_objection, sub_held, next_of, group_held, next_held, has_lagged, after_next_item}
use Rattle.delivery.specs.Core.Output.{messages_for}
use Rattle.delivery.specs.Inner.Takes.{after_item}
use Rattle.delivery.specs.Inner.View.{View, EndpointView, SubView, view_of, view_with, group_view, sub_view, stage_view, leaving_endpoint, written_endpoint, parting_receipt, left_view as left_in_view, no_endpoint, no_group}
use Rattle.delivery.proofs.Words.Steps.{made_world, made_answer, same_world, none_of}
use Rattle.delivery.proofs.Views.Runs.AccountOfTransactions.{begins_as, next_is}
use Rattle.delivery.proofs.Words.Changes.{length-each_number, refused_is_quiet, take_without_is_quiet, open_there, differ, endpoint_missing, in_one, in_outcome, open_checked, left_with, written_with, quiet_makes, step_makes}
use Rattle.delivery.proofs.Views.Endpoints.DisconnectIsLast.{not_parting}
use Rattle.delivery.proofs.Views.Subscriptions.QueueOfSubscription.{HasQueue, has_queue, sub_is, next_is_of, lagged_is, taken_world, taken_groups, taken_subs, taken_live}
use Rattle.delivery.proofs.Views.Events.ReleaseStep.{group_at}
use Rattle.delivery.proofs.Theorem.SendersAreOwn.{reading_there}

-- ---- reading subscriptions

-- there is no subscription beyond the last
pub sub_missing : (endpoints : List EndpointView) (subs : List SubView) (s : ℕ) → length subs ≤ s → sub_objection endpoints (slice_get subs s) ≡ Some Objection.NoSub
sub_missing endpoints subs s none = ap (sub_objection endpoints) (slice_get_past subs s none)

-- what a closed subscription left is something
pub is_some_map : {X Y : Type 0} (f : X → Y) (o : Option X) → is_some (option_map f o) ≡ is_some o
is_some_map f None = refl
is_some_map f (Some x) = refl

-- it was closed
pub sub_closed : (endpoints : List EndpointView) (x : SubView) → is_some x.left ≡ true → sub_objection endpoints (Some x) ≡ Some Objection.Gone
sub_closed endpoints x closed = ap (λ (b : Bool). first_refusal ((b || is_some (endpoint_objection (slice_get endpoints x.connection)), Objection.Gone) ∷ [])) closed

-- its connection isn't open
pub sub_shut : (endpoints : List EndpointView) (x : SubView) (why : Objection) → endpoint_objection (slice_get endpoints x.connection) ≡ Some why → sub_objection endpoints (Some x) ≡ Some Objection.Gone
sub_shut endpoints x why shut =
    ap (λ (b : Bool). first_refusal ((b, Objection.Gone) ∷ [])) (or_right (is_some x.left) (is_some (endpoint_objection (slice_get endpoints x.connection))) (ap (λ (o : Option Objection). is_some o) shut))

-- neither
pub sub_open : (endpoints : List EndpointView) (x : SubView) → is_some x.left ≡ false → endpoint_objection (slice_get endpoints x.connection) ≡ None → sub_objection endpoints (Some x) ≡ None
sub_open endpoints x left free = λ i. first_refusal ((left i || is_some (free i), Objection.Gone) ∷ [])

-- where nothing stands against it, the subscription is there
pub free_there : (v : View) (s : ℕ) → take_objection v s ≡ None → s < length v.subs
free_there v s free = elim (cases_lt s (length v.subs)) [
  | inl l ↦ l
  | inr l ↦ none_some Objection.NoSub (sym free ∙ sub_missing v.endpoints v.subs s l)
]

-- so is its connection's endpoint
pub free_endpoint : (v : View) (s : ℕ) (x : SubView) → take_objection v s ≡ None → slice_get v.subs s ≡ Some x → x.connection < length v.endpoints
free_endpoint v s x free is = elim (cases_lt x.connection (length v.endpoints)) [
  | inl l ↦ l
  | inr l ↦ none_some Objection.Gone (sym free ∙ (ap (sub_objection v.endpoints) is ∙ sub_shut v.endpoints x Objection.NoConn (endpoint_missing v.endpoints x.connection l)))
]

-- where there is an item, so is its topic's group
pub next_there : (groups : List GroupState) (t s : ℕ) (item : Item) → next_of s (get_or groups t no_group) ≡ Some item → t < length groups
next_there groups t s item is = elim (cases_lt t (length groups)) [
  | inl l ↦ l
  | inr l ↦ none_some item (sym (ap (next_of s) (get_or_past groups t no_group l)) ∙ is)
]

-- a group and an endpoint were written: what is held is that after the item
pub item_put : (v : View) (s : ℕ) (x : SubView) (item : Item) (id : List ℕ) (g h : GroupState) (endpoint later : EndpointView)
    → sub_held v s ≡ x → next_held v s ≡ Some item → id ≡ x.id → get_or v.groups x.topic.0 no_group ≡ g → h ≡ group_after_take s g
    → get_or v.endpoints x.connection no_endpoint ≡ endpoint → later ≡ written_endpoint (flat_map spelling_of (messages_for x.parts id item)) endpoint
    → record v { groups = set v.groups x.topic.0 h; endpoints = set v.endpoints x.connection later } ≡ after_next_item v s (next_held v s)
item_put v s x item id g h endpoint later sub next named group taken old written =
    (λ i. record v { groups = set v.groups x.topic.0 (taken i); endpoints = set v.endpoints x.connection (written i) })
    ∙ ((λ i. record v {
      groups = set v.groups x.topic.0 (group_after_take s (sym group i));
      endpoints = set v.endpoints x.connection (written_endpoint (flat_map spelling_of (messages_for x.parts (named i) item)) (sym old i));
    })
    ∙ (ap (λ (y : SubView). record v {
      groups = set v.groups y.topic.0 (group_after_take s (get_or v.groups y.topic.0 no_group));
      endpoints = set v.endpoints y.connection (written_endpoint (flat_map spelling_of (messages_for y.parts y.id item)) (get_or v.endpoints y.connection no_endpoint));
    }) (sym sub)
    ∙ ap (after_next_item v s) (sym next)))

-- ---- what stands against it

standing_case : (standing : Standing) → is_some (first_refusal ((is_gone standing, Objection.Gone) ∷ (not (is_reading standing), Objection.Busy) ∷ [])) ≡ not (is_reading standing)
standing_case Standing.Open = refl
standing_case Standing.Leaving = refl
standing_case Standing.Gone = refl

-- something stands against an endpoint where its connection isn't open
endpoint_shut : (k : Core) (c : ℕ) → is_some (endpoint_objection (slice_get (view_of k).endpoints c)) ≡ not (is_reading (connection_at k.world c).standing)
endpoint_shut k c = ap (λ (o : Option Objection). is_some o) (open_checked k c) ∙ by_case (nat_lt c (length k.world.connections)) refl
  where
    st : Standing
    st = (connection_at k.world c).standing

    by_case : (b : Bool) → nat_lt c (length k.world.connections) ≡ b → is_some (first_refusal (needs_open k.world c)) ≡ not (is_reading st)
    by_case true e = ap (λ (b : Bool). is_some (first_refusal ((not b, Objection.NoConn) ∷ (is_gone st, Objection.Gone) ∷ (not (is_reading st), Objection.Busy) ∷ []))) e ∙ standing_case st
    by_case false e =
        ap (λ (b : Bool). is_some (first_refusal ((not b, Objection.NoConn) ∷ (is_gone st, Objection.Gone) ∷ (not (is_reading st), Objection.Busy) ∷ []))) e
        ∙ ap (λ (x : Connection). not (is_reading x.standing)) (sym (get_or_past k.world.connections c nobody (ltb-false c (length k.world.connections) e)))

-- the subscription is closed, or its connection isn't open
abbrev is_over : World → ℕ → Bool
is_over w s = is_some (subscription_at w s).closed || not (is_reading (connection_at w (subscription_at w s).connection).standing)

-- the first refusals of a take
abbrev first_checks : World → ℕ → List (Bool × Objection)
first_checks w s = (not (nat_lt s (length w.subscriptions)), Objection.NoSub) ∷ (is_over w s, Objection.Gone) ∷ []

objected : (k : Core) (s : ℕ) → take_objection (view_of k) s ≡ first_refusal (first_checks k.world s)
objected k s = elim (cases_Bool (nat_lt s (length k.world.subscriptions))) [
  | inl t ↦ here (ltb-true s (length k.world.subscriptions) t) ∙ ap (λ (b : Bool). first_refusal ((not b, Objection.NoSub) ∷ (is_over k.world s, Objection.Gone) ∷ [])) (sym t)
  | inr f ↦
      ap (sub_objection (view_of k).endpoints) (slice_get_past subs s (let n = length-each_number g 0 k.world.subscriptions in let m = ltb-false s (length k.world.subscriptions) f in omega arith))
      ∙ ap (λ (b : Bool). first_refusal ((not b, Objection.NoSub) ∷ (is_over k.world s, Objection.Gone) ∷ [])) (sym f)
]
  where
    g : ℕ → SubView
    g n = sub_view k.world n (subscribe_frame n k.steps)

    subs : List SubView
    subs = (view_of k).subs

    x : Subscription
    x = subscription_at k.world s

    here : s < length k.world.subscriptions → take_objection (view_of k) s ≡ first_refusal ((is_over k.world s, Objection.Gone) ∷ [])
    here l =
        let n = length-each_number (λ m. sub_view k.world m (subscribe_frame m k.steps)) 0 k.world.subscriptions in
        let read : slice_get subs s ≡ Some (sub_view k.world s (subscribe_frame s k.steps)) =
        slice_get-get_or subs s Rattle.delivery.specs.Inner.Subscriptions.no_sub (omega arith) ∙ ap Some (sub_is k s l) in
        ap (sub_objection (view_of k).endpoints) read
        ∙ (λ i. first_refusal ((is_some_map (left_in_view x.taken) x.closed i || endpoint_shut k x.connection i, Objection.Gone) ∷ []))

-- ---- a take that isn't refused at first

-- the subscription isn't closed, and its connection is open
pub record MayTake (k : Core) (s : ℕ) : Type 0 where
  pub queue : HasQueue k s
  pub unclosed : (subscription_at k.world s).closed ≡ None
  pub reads : is_reading (connection_at k.world (subscription_at k.world s).connection).standing ≡ true
  pub connection : (subscription_at k.world s).connection < length k.world.connections

-- so it is where nothing stands against it
pub may_take : (k : Core) (s : ℕ) → IsReached k → take_objection (view_of k) s ≡ None → MayTake k s
may_take k s reached free =
    let w = k.world in let h = passes (first_checks w s) (sym (objected k s) ∙ free) in
    let there = ltb-true s (length w.subscriptions) (not-false (nat_lt s (length w.subscriptions)) h.0) in
    let over = or_parts (is_some (subscription_at w s).closed) (not (is_reading (connection_at w (subscription_at w s).connection).standing)) h.1.0 in
    let unclosed = none_of (subscription_at w s).closed over.0 in let reads = not-false (is_reading (connection_at w (subscription_at w s).connection).standing) over.1 in
    record { queue = has_queue k s reached there unclosed; unclosed = unclosed; reads = reads; connection = open_there w.connections (subscription_at w s).connection reads }

-- what its queue has accepted, and where it has lagged
accepted_is : (k : Core) (s : ℕ) (m : MayTake k s) → accepted_at k.world s ≡ m.queue.entry.accepted
accepted_is k s m =
    ap (λ (o : Option EntryEnd). elim o [ None ↦ entry_items (entry_at k.world s) | Some end ↦ end.accepted ]) m.unclosed
    ∙ ap (λ (o : Option Entry). entry_items o) m.queue.found

end_is : (k : Core) (s : ℕ) (m : MayTake k s) → end_at k.world s ≡ m.queue.entry.to
end_is k s m =
    ap (λ (o : Option EntryEnd). elim o [ None ↦ entry_to (entry_at k.world s) | Some end ↦ Some end.to ]) m.unclosed
    ∙ ap (λ (o : Option Entry). entry_to o) m.queue.found

-- nothing is due, where its queue has this entry
abbrev is_idle : World → ℕ → Entry → Bool
is_idle w s e = not (nat_lt (subscription_at w s).taken (length e.accepted)) && not (is_some e.to)

-- what stands against it then
take_refusal : (k : Core) (s : ℕ) (m : MayTake k s)
    → move_refusal k.world (Move.Takes s) ≡ option_or (first_refusal ((is_idle k.world s m.queue.entry, Objection.NothingDue) ∷ [])) None
take_refusal k s m =
    let w = k.world in let there : nat_lt s (length w.subscriptions) ≡ true = lt-ltb s (length w.subscriptions) m.queue.there in
    let closed : is_some (subscription_at w s).closed ≡ false = ap (λ (o : Option EntryEnd). is_some o) m.unclosed in
    λ i. option_or (first_refusal (
    (not (there i), Objection.NoSub)
    ∷ (closed i || not (m.reads i), Objection.Gone)
    ∷ (not (nat_lt (subscription_at w s).taken (length (accepted_is k s m i))) && not (is_some (end_is k s m i)), Objection.NothingDue) ∷ [])) None

-- ---- refused

-- a refused take changes nothing
take_refused_by : (k : Core) (s : ℕ) (why : Objection) (refusal : Refusal) → move_refusal k.world (Move.Takes s) ≡ Some why → refusal_of why ≡ Some refusal
    → Makes k (Event.Take s) (Outcome.Refused refusal) (view_of k)
take_refused_by k s why refusal refused reported =
    quiet_makes k (Event.Take s) (Outcome.Refused refusal) k.world (refused_is_quiet k.names (Event.Take s) refusal k.steps) refl
    (in_one (Outcome.Refused refusal) _
    (ap (λ (o : Option Objection). unless o (move_outcome k (Move.Takes s) ++ Outcome.NoMemory ∷ [])) refused
    ∙ ap (λ (r : Option Refusal). option_to_list (option_map Outcome.Refused r)) reported)) (same_world k.world (Move.Takes s) why refused) refl

refused_first : (a b c : Bool) (why : Objection) → first_refusal ((a, Objection.NoSub) ∷ (b, Objection.Gone) ∷ []) ≡ Some why
    → option_or (first_refusal ((a, Objection.NoSub) ∷ (b, Objection.Gone) ∷ (c, Objection.NothingDue) ∷ [])) None ≡ Some why
refused_first true b c why e = e
refused_first false true c why e = e
refused_first false false c why e = none_some why (sym (sym e))

-- there is no such subscription, or it is over
pub take_refused : (k : Core) (s : ℕ) (why : Objection) (refusal : Refusal) → take_objection (view_of k) s ≡ Some why → refusal_of why ≡ Some refusal
    → Makes k (Event.Take s) (Outcome.Refused refusal) (view_of k)
take_refused k s why refusal stands reported =
    take_refused_by k s why refusal (refused_first (not (nat_lt s (length k.world.subscriptions))) (is_over k.world s) _ why (sym (objected k s) ∙ stands)) reported

-- ---- whether an item is due

-- the item is among these
is_within : (items : List Item) (n : ℕ) (item : Item) → slice_get items n ≡ Some item → n < length items
is_within items n item is = elim (cases_lt n (length items)) [
  | inl l ↦ l
  | inr l ↦ none_some item (sym (slice_get_past items n l) ∙ is)
]

-- none is left of these
is_past : (items : List Item) (n : ℕ) → slice_get items n ≡ None → nat_lt n (length items) ≡ false
is_past items n none = elim (cases_lt n (length items)) [
  | inl l ↦ none_some (get_or items n no_item) (sym none ∙ slice_get-get_or items n no_item l)
  | inr l ↦ le-ltb n (length items) l
]

-- with an item in its queue a take isn't refused
due_free : (k : Core) (s : ℕ) (m : MayTake k s) → (subscription_at k.world s).taken < length m.queue.entry.accepted → move_refusal k.world (Move.Takes s) ≡ None
due_free k s m l =
    let e = m.queue.entry in
    take_refusal k s m
    ∙ ap (λ (b : Bool). option_or (first_refusal ((not b && not (is_some e.to), Objection.NothingDue) ∷ [])) None) (lt-ltb (subscription_at k.world s).taken (length e.accepted) l)

-- without one it is refused unless the subscription has lagged
idle_refusal : (k : Core) (s : ℕ) (m : MayTake k s) (b : Bool) → next_held (view_of k) s ≡ None → has_lagged s (group_held (view_of k) s) ≡ b
    → move_refusal k.world (Move.Takes s) ≡ option_or (first_refusal ((not b, Objection.NothingDue) ∷ [])) None
idle_refusal k s m b none lagged =
    let e = m.queue.entry in let n = (subscription_at k.world s).taken in
    let past : nat_lt n (length e.accepted) ≡ false = is_past e.accepted n (sym (next_is_of k s m.queue) ∙ none) in
    let to : is_some e.to ≡ b = sym (lagged_is k s m.queue) ∙ lagged in
    take_refusal k s m ∙ (λ i. option_or (first_refusal ((not (past i) && not (to i), Objection.NothingDue) ∷ [])) None)

-- nothing is due
pub take_nothing : (k : Core) (s : ℕ) → IsReached k → take_objection (view_of k) s ≡ None → next_held (view_of k) s ≡ None
    → has_lagged s (group_held (view_of k) s) ≡ false → Makes k (Event.Take s) (Outcome.Refused Refusal.NothingDue) (view_of k)
take_nothing k s reached free none lagged = take_refused_by k s Objection.NothingDue Refusal.NothingDue (idle_refusal k s (may_take k s reached free) false none lagged) refl

-- ---- without memory

without : (k : Core) (s : ℕ) → move_refusal k.world (Move.Takes s) ≡ None → Makes k (Event.Take s) Outcome.NoMemory (view_of k)
without k s free =
    quiet_makes k (Event.Take s) Outcome.NoMemory k.world (take_without_is_quiet k.names s k.steps) refl
    (rw (ap (λ (o : Option Objection). unless o (move_outcome k (Move.Takes s) ++ Outcome.NoMemory ∷ [])) free) (In-push Outcome.NoMemory (move_outcome k (Move.Takes s)))) refl refl

-- an item that finds no memory stays
pub take_without : (k : Core) (s : ℕ) → IsReached k → take_objection (view_of k) s ≡ None → is_some (next_held (view_of k) s) ≡ true
    → Makes k (Event.Take s) Outcome.NoMemory (view_of k)
take_without k s reached free due = (elim (next_held (view_of k) s) as (λ (o : Option Item). next_held (view_of k) s ≡ o → is_some o ≡ true → Makes k (Event.Take s) Outcome.NoMemory (view_of k)) [
  | None ↦ λ is e. absurd (false≢true e)
  | Some item ↦ λ is e. (let m = may_take k s reached free in without k s (due_free k s m (is_within m.queue.entry.accepted (subscription_at k.world s).taken item (sym (next_is_of k s m.queue) ∙ is))))
]) refl due

-- so does an ERROR, and the subscription
pub lag_without : (k : Core) (s : ℕ) → IsReached k → take_objection (view_of k) s ≡ None → next_held (view_of k) s ≡ None
    → has_lagged s (group_held (view_of k) s) ≡ true → Makes k (Event.Take s) Outcome.NoMemory (view_of k)
lag_without k s reached free none lagged = without k s (idle_refusal k s (may_take k s reached free) true none lagged)

-- ---- what is written

-- the texts after these replies to its connection
abbrev text_after : Core → ℕ → List RawFrame → ℕ → List ℕ
text_after k s replies c =
    text_out k.names c k.steps
    ++ flat_map spelling_of (cond ((beginning_of s (account_of k.names k.steps)).connection == c) replies [])

written_own : (k : Core) (s : ℕ) (replies : List RawFrame) → IsReached k → s < length k.world.subscriptions
    → let c = (subscription_at k.world s).connection in text_after k s replies c ≡ text_out k.names c k.steps ++ flat_map spelling_of replies
written_own k s replies reached l =
    let c = (subscription_at k.world s).connection in
    ap (λ (b : Bool). text_out k.names c k.steps ++ flat_map spelling_of (cond b replies []))
    (eq-eqb (beginning_of s (account_of k.names k.steps)).connection c (begins_as k s reached l))

written_other : (k : Core) (s : ℕ) (replies : List RawFrame) → IsReached k → s < length k.world.subscriptions
    → (n : ℕ) → n ≢ (subscription_at k.world s).connection → text_after k s replies n ≡ text_out k.names n k.steps
written_other k s replies reached l n other =
    ap (λ (b : Bool). text_out k.names n k.steps ++ flat_map spelling_of (cond b replies []))
    (differ (beginning_of s (account_of k.names k.steps)).connection n (λ e. other (sym e ∙ begins_as k s reached l)))
    ∙ append-nil (text_out k.names n k.steps)

-- ---- an item

-- the view of the world after a take, with these texts
abbrev taken_view : Core → ℕ → (ℕ → List ℕ) → View
taken_view k s text = view_with (names_at k) (taken_world k.world s) (λ c. accepted_of c k.steps) (λ c. unread_at c k.steps) text (λ n. subscribe_frame n k.steps)

-- what is held after it, where its MESSAGEs were written
item_view : (k : Core) (s : ℕ) (item : Item) (text : ℕ → List ℕ) → IsReached k → (m : MayTake k s) → (subscription_at k.world s).taken < length m.queue.entry.accepted
    → (let c = (subscription_at k.world s).connection in text c ≡ text_out k.names c k.steps ++ flat_map spelling_of (messages_for (sub_parts s k.steps) (sub_id_text s k.steps) item))
    → ((n : ℕ) → n ≢ (subscription_at k.world s).connection → text n ≡ text_out k.names n k.steps) → after_item (view_of k) s item ≡ taken_view k s text
item_view k s item text reached m l own others =
    named ∙ (λ i. record (view_of k) { groups = groups i; endpoints = endpoints i; subs = subs i })
  where
    w : World
    w = k.world

    c : ℕ
    c = (subscription_at w s).connection

    v : View
    v = view_of k

    x : SubView
    x = sub_view w s (subscribe_frame s k.steps)

    with_sub : SubView → View
    with_sub y = record v {
      groups = set v.groups y.topic.0 (group_after_take s (get_or v.groups y.topic.0 no_group));
      endpoints = set v.endpoints y.connection (written_endpoint (flat_map spelling_of (messages_for y.parts y.id item)) (get_or v.endpoints y.connection no_endpoint));
    }

    named : after_item v s item ≡ with_sub x
    named = ap with_sub (sub_is k s m.queue.there)

    groups : set v.groups x.topic.0 (group_after_take s (get_or v.groups x.topic.0 no_group)) ≡ map (group_view (taken_world w s)) w.topics
    groups =
        ap (λ (g : GroupState). set v.groups x.topic.0 (group_after_take s g)) (group_at k x.topic no_group m.queue.topic)
        ∙ taken_groups k s m.queue reached l

    subs : v.subs ≡ (taken_view k s text).subs
    subs = taken_subs w s (λ n. subscribe_frame n k.steps) m.queue.there m.unclosed

    endpoints : set v.endpoints c (written_endpoint (flat_map spelling_of (messages_for x.parts x.id item)) (get_or v.endpoints c no_endpoint)) ≡ (taken_view k s text).endpoints
    endpoints =
        ap (λ (z : View). z.endpoints)
        (written_with (names_at k) w (λ n. accepted_of n k.steps) (λ n. unread_at n k.steps) (λ n. text_out k.names n k.steps) text (λ n. subscribe_frame n k.steps)
        c (flat_map spelling_of (messages_for x.parts x.id item)) no_endpoint m.connection own others)
        ∙ (λ i. each_number (λ n. record {
          sender = (connection_at w n).sender;
          stage = stage_view (names_at k) (connection_at w n).standing (speaker w n).flight (accepted_of n k.steps) (unread_at n k.steps);
          live = taken_live w s n i;
          output = text n;
        }) 0 w.connections)

-- the next item is delivered
take_item : (k : Core) (s : ℕ) (item : Item) → IsReached k → take_objection (view_of k) s ≡ None → next_held (view_of k) s ≡ Some item
    → Makes k (Event.Take s) (Outcome.Handed (length item.sends)) (after_item (view_of k) s item)
take_item k s item reached free due =
    let w = k.world in let m = may_take k s reached free in let found = sym (next_is_of k s m.queue) ∙ due in
    let l = is_within m.queue.entry.accepted (subscription_at w s).taken item found in let unrefused = due_free k s m l in
    let first : slice_get (accepted_at w s) (subscription_at w s).taken ≡ Some item =
    ap (λ (xs : List Item). slice_get xs (subscription_at w s).taken) (accepted_is k s m) ∙ found in
    let account = account_of k.names k.steps in
    let next : next_item s account ≡ item =
    some_same (next_item s account) item (next_is k s reached m.queue.there (subst (λ (xs : List Item). (subscription_at w s).taken < length xs) (sym (accepted_is k s m)) l) ∙ first) in
    let replies = messages_for (sub_parts s k.steps) (sub_id_text s k.steps) (next_item s account) in let text = λ (c : ℕ). text_after k s replies c in
    let own = written_own k s replies reached m.queue.there
    ∙ ap (λ (i : Item). text_out k.names (subscription_at w s).connection k.steps ++ flat_map spelling_of (messages_for (sub_parts s k.steps) (sub_id_text s k.steps) i)) next in
    let answered = made_answer w (Move.Takes s) unrefused ∙ ap (take_answer w s) first in
    step_makes k (Event.Take s) (Outcome.Handed (length item.sends)) (taken_world w s) refl
    (rw (ap (λ (o : Option Objection). unless o (move_outcome k (Move.Takes s) ++ Outcome.NoMemory ∷ [])) unrefused)
    (In-append_left (Outcome.Handed (length item.sends)) (move_outcome k (Move.Takes s)) (Outcome.NoMemory ∷ [])
    (in_outcome k (Move.Takes s) (Outcome.Handed (length item.sends)) (Answer.Handed s item) answered refl))) (made_world w (Move.Takes s) unrefused ∙ ap (take_effect w s) first)
    (item_view k s item text reached m l own (written_other k s replies reached m.queue.there)
    ∙ (λ i. view_with (names_at k) (taken_world w s) (λ n. sym (append-nil (accepted_of n k.steps)) i) (λ n. unread_at n k.steps) text (λ n. subscribe_frame n k.steps)))

-- what is answered where there is an item
pub take_makes : (k : Core) (s n : ℕ) → IsReached k → take_objection (view_of k) s ≡ None → Some n ≡ option_map (λ item. length item.sends) (next_held (view_of k) s)
    → Makes k (Event.Take s) (Outcome.Handed n) (after_next_item (view_of k) s (next_held (view_of k) s))
take_makes k s n reached free due = (elim (next_held (view_of k) s) as (λ (o : Option Item). next_held (view_of k) s ≡ o → Some n ≡ option_map (λ item. length item.sends) o → Makes k (Event.Take s) (Outcome.Handed n) (after_next_item (view_of k) s (next_held (view_of k) s))) [
  | None ↦ λ is e. none_some n (sym e)
  | Some item ↦ λ is e. subst (λ o. Makes k (Event.Take s) (Outcome.Handed n) (after_next_item (view_of k) s o)) (sym is) (subst (λ m. Makes k (Event.Take s) (Outcome.Handed m) (after_item (view_of k) s item)) (sym (some_same n (length item.sends) e)) (take_item k s item reached free is))
]) refl due

-- ---- a lag

-- the ERROR of a lag
abbrev pub lag_error : RawFrame
lag_error = error_frame (connection_title ConnectionFault.Lagged) None false

-- what is held after an ERROR of a lag to this connection
abbrev pub after_error : View → ℕ → View
after_error v c = record v { endpoints = set v.endpoints c (written_endpoint (spelling_of lag_error) (get_or v.endpoints c no_endpoint)) }

-- what is held once it is leaving too
abbrev pub after_lag : View → ℕ → View
after_lag v c = let u = after_error v c in record u { endpoints = set u.endpoints c (leaving_endpoint None (get_or u.endpoints c no_endpoint)) }

-- a subscription that has lagged ends its connection, once no item is left
pub take_lags : (k : Core) (s : ℕ) → IsReached k → take_objection (view_of k) s ≡ None → next_held (view_of k) s ≡ None → has_lagged s (group_held (view_of k) s) ≡ true
    → Makes k (Event.Take s) (Outcome.Faulted ConnectionFault.Lagged false) (after_lag (view_of k) (sub_held (view_of k) s).connection)
take_lags k s reached free none lagged =
    let w = k.world in let c = (subscription_at w s).connection in let m = may_take k s reached free in let o = Outcome.Faulted ConnectionFault.Lagged false in
    let unrefused = idle_refusal k s m true none lagged in
    let last : slice_get (accepted_at w s) (subscription_at w s).taken ≡ None =
    ap (λ (xs : List Item). slice_get xs (subscription_at w s).taken) (accepted_is k s m) ∙ (sym (next_is_of k s m.queue) ∙ none) in
    let accepted = λ (n : ℕ). accepted_of n k.steps in let unread = λ (n : ℕ). unread_at n k.steps in let text = λ (n : ℕ). text_after k s (lag_error ∷ []) n in
    let began = λ (n : ℕ). subscribe_frame n k.steps in
    let own = written_own k s (lag_error ∷ []) reached m.queue.there
    ∙ ap (λ (t : List ℕ). text_out k.names c k.steps ++ t) (append-nil (spelling_of lag_error)) in
    let parting : parting_receipt (accepted c) ≡ None = ap (λ (f : Option RawFrame). option_and_then receipt_of f) (not_parting k c reached m.reads) in
    let written : after_error (view_of k) c ≡ view_with (names_at k) w accepted unread text began =
    written_with (names_at k) w accepted unread (λ n. text_out k.names n k.steps) text began c (spelling_of lag_error) no_endpoint m.connection own
    (written_other k s (lag_error ∷ []) reached m.queue.there) in
    let answered = made_answer w (Move.Takes s) unrefused ∙ ap (take_answer w s) last in
    step_makes k (Event.Take s) o (with_leaving w c) refl
    (rw (ap (λ (why : Option Objection). unless why (move_outcome k (Move.Takes s) ++ Outcome.NoMemory ∷ [])) unrefused)
    (In-append_left o (move_outcome k (Move.Takes s)) (Outcome.NoMemory ∷ []) (in_outcome k (Move.Takes s) o (Answer.Error c) answered refl)))
    (made_world w (Move.Takes s) unrefused ∙ ap (take_effect w s) last)
    (ap (λ (x : SubView). after_lag (view_of k) x.connection) (sub_is k s m.queue.there)
    ∙ (ap (λ (v : View). record v { endpoints = set v.endpoints c (leaving_endpoint None (get_or v.endpoints c no_endpoint)) }) written
    ∙ (left_with (names_at k) w accepted unread text began c None no_endpoint m.connection (reading_there (connection_at w c).standing m.reads) parting
    ∙ (λ i. view_with (names_at k) (with_leaving w c) (λ n. sym (append-nil (accepted n)) i) unread text began))))

-- an ERROR was written and the connection is leaving: what is held is that after a lag
pub lag_put : (v u new : View) (c : ℕ) (title : List ℕ) → title ≡ connection_title ConnectionFault.Lagged
    → u ≡ record v { endpoints = set v.endpoints c (written_endpoint (spelling_of (error_frame title None false)) (get_or v.endpoints c no_endpoint)) }
    → new ≡ record u { endpoints = set u.endpoints c (leaving_endpoint None (get_or u.endpoints c no_endpoint)) } → new ≡ after_lag v c
lag_put v u new c title named written leaves =
    leaves
    ∙ ap (λ (z : View). record z { endpoints = set z.endpoints c (leaving_endpoint None (get_or z.endpoints c no_endpoint)) })
    (written ∙ ap (λ (t : List ℕ). record v { endpoints = set v.endpoints c (written_endpoint (spelling_of (error_frame t None false)) (get_or v.endpoints c no_endpoint)) }) named)
