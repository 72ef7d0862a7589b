-- A subscription that begins.
use Rattle.delivery.proofs.Words.All.{◌≡◌, ◌≢◌, ℕ, suc, ◌+◌, ◌<◌, nat_lt, Bool, true, false, cond, ◌&&◌, List, [], ◌∷◌, ◌++◌, map, length, get_or, set, Option, Some, None, refl, sym, ap, ◌∙◌, arith, eq-eqb, slice_get, position, position_or_len, option_map, option_map_or, slice_get-get_or, slice_get_past, get_or-map, map-set, set-get_or, get_or_append_left, append-nil, Topic, Stamp, Gauge, GroupState, TopicState, Entry, new_topic, insert_entry, after_subscribe, RawFrame, Unread, id_of, wants_parts, World, Connection, Subscription, no_subscription, nobody, topic_at, subscription_at, is_live, Event, Outcome, CoreStep, Reading, subscribe_frame, each_number, live_numbers, EndpointView, SubView, view_with, group_view, queue_gauge, left_view, endpoint_view, sub_view, no_group, no_endpoint, group_in, subscribed_view}
use Rattle.std.specs.List.{find}
use Rattle.std.proofs.lemmas.List.Folds.{find_at}
use Rattle.mcast_group.specs.Group.{gauges_with, group_after_subscribe}
use Rattle.mcast_group.proofs.Indices.{in_range}
use Rattle.delivery.specs.Machine.Moves.{subscribe_effect}
use Rattle.delivery.specs.Inner.Subscriptions.{longer_endpoint, new_gauge}
use Rattle.delivery.proofs.Machine.SubscriptionSteps.{at_push_two, at_end, beyond}
use Rattle.delivery.proofs.Words.Changes.{each_number-push, each_number-same, each_number-set, get_or-each_number, length-each_number, index_is, end_is, differ}

-- ---- live numbers

-- those of one more subscription
pub live_push : (c i : ℕ) (xs : List Subscription) (x : Subscription) → live_numbers c i (xs ++ x ∷ []) ≡ live_numbers c i xs ++ cond (is_live c x) ((i + length xs) ∷ []) []
live_push c i [] x = let e : i ≡ i + 0 = omega arith in ap (λ (n : ℕ). cond (is_live c x) (n ∷ []) []) e
live_push c i (y ∷ ys) x = by (is_live c y) (live_push c (i + 1) ys x ∙ ap (λ (n : ℕ). live_numbers c (i + 1) ys ++ cond (is_live c x) (n ∷ []) []) e)
  where
    e : (i + 1) + length ys ≡ i + suc (length ys)
    e = omega arith

    last : List ℕ
    last = cond (is_live c x) ((i + suc (length ys)) ∷ []) []

    by : (b : Bool) → live_numbers c (i + 1) (ys ++ x ∷ []) ≡ live_numbers c (i + 1) ys ++ last
        → cond b (i ∷ live_numbers c (i + 1) (ys ++ x ∷ [])) (live_numbers c (i + 1) (ys ++ x ∷ [])) ≡ cond b (i ∷ live_numbers c (i + 1) ys) (live_numbers c (i + 1) ys) ++ last
    by true rest = ap (λ (ns : List ℕ). i ∷ ns) rest
    by false rest = rest

-- ---- a group

gauges_added : (gauge : ℕ → Gauge) (e : Entry) (es : List Entry) → gauges_with e.number (gauge e.number) es (map (λ f. gauge f.number) es) ≡ map (λ f. gauge f.number) (insert_entry e es)
gauges_added gauge e [] = refl
gauges_added gauge e (f ∷ fs) = by (nat_lt e.number f.number) (gauges_added gauge e fs)
  where
    by : (b : Bool) → gauges_with e.number (gauge e.number) fs (map (λ g. gauge g.number) fs) ≡ map (λ g. gauge g.number) (insert_entry e fs)
        → cond b (gauge e.number ∷ gauge f.number ∷ map (λ g. gauge g.number) fs) (gauge f.number ∷ gauges_with e.number (gauge e.number) fs (map (λ g. gauge g.number) fs))
        ≡ map (λ g. gauge g.number) (cond b (e ∷ f ∷ fs) (f ∷ insert_entry e fs))
    by true rest = refl
    by false rest = ap (λ (rs : List Gauge). gauge f.number ∷ rs) rest

-- the group with an entry is that of the world's topic with it
subscribed_group : (w : World) (x : TopicState) → group_after_subscribe (length w.subscriptions) (new_gauge w.capacity) (group_view w x) ≡ group_view w (after_subscribe (length w.subscriptions) x)
subscribed_group w x =
    let n = length w.subscriptions in let none : subscription_at w n ≡ no_subscription = beyond w.subscriptions n no_subscription (omega arith) in
    let gauge : new_gauge w.capacity ≡ queue_gauge w n = ap (λ (z : Subscription). record { capacity = w.capacity; taken = Some z.taken }) (sym none) in
    ap (λ (r : Gauge). group_after_subscribe n r (group_view w x)) gauge
    ∙ ap (λ (gauges : List Gauge). record { topic = after_subscribe n x; gauges = gauges }) (gauges_added (queue_gauge w) (record { number = n; from = x.frontier; to = None; accepted = [] }) x.subscriptions)

-- ---- a world

-- what is taken of each queue stays
taken_stays : (w : World) (x : Subscription) (topics : List TopicState) → x.taken ≡ 0 → (n : ℕ)
    → queue_gauge w n ≡ queue_gauge (record w { topics = topics; subscriptions = w.subscriptions ++ x ∷ [] }) n
taken_stays w x topics none n =
    ap (λ (taken : ℕ). record { capacity = w.capacity; taken = Some taken })
    (at_push_two (λ (z : Subscription). (subscription_at w n).taken ≡ z.taken) w.subscriptions n x no_subscription
    (λ e. ap (λ (z : Subscription). z.taken) (beyond w.subscriptions n no_subscription (omega (arith, e))) ∙ sym none) (λ e. refl))

-- what is held once a subscription begins is the view of the machine after it, whatever was accepted, read and written
pub subscribed_is : (names : List (List ℕ)) (w : World) (c : ℕ) (frame : RawFrame) (t : Topic)
    (accepted : ℕ → List RawFrame) (unread : ℕ → Unread) (text : ℕ → List ℕ) (began later : ℕ → Option RawFrame)
    → c < length w.connections → t.0 < length w.topics → ((s : ℕ) → s < length w.subscriptions → later s ≡ began s) → later (length w.subscriptions) ≡ Some frame
    → subscribed_view c (id_of frame) (wants_parts frame) t (view_with names w accepted unread text began) ≡ view_with names (subscribe_effect w c t) accepted unread text later
subscribed_is names w c frame t accepted unread text began later spoken topic same own =
    let v = view_with names w accepted unread text began in let y = topic_at w t in let n = length w.subscriptions in
    let x : Subscription = record { connection = c; topic = t; from = y.frontier; taken = 0; closed = None } in let u = subscribe_effect w c t in
    let first : c ≡ 0 + c = omega arith in let last : 0 + n ≡ n = omega arith in let h : ℕ → SubView = λ m. sub_view w m (began m) in
    let h' : ℕ → SubView = λ m. sub_view u m (later m) in let count : length v.subs ≡ n = length-each_number h 0 w.subscriptions in
    let group : group_in v t ≡ group_view w y = get_or-map (group_view w) w.topics t.0 (new_topic t 0 0) no_group topic in
    let gauges : queue_gauge w ≡ queue_gauge u = λ i m. taken_stays w x (set w.topics t.0 (after_subscribe n y)) refl m i in
    let groups : set v.groups t.0 (group_after_subscribe (length v.subs) (new_gauge v.capacity) (group_in v t)) ≡ map (group_view u) (set w.topics t.0 (after_subscribe n y)) =
    (λ i. set v.groups t.0 (group_after_subscribe (count i) (new_gauge w.capacity) (group i)))
    ∙ (ap (λ (g : GroupState). set v.groups t.0 g) (subscribed_group w y)
    ∙ (sym (map-set (group_view w) w.topics t.0 (after_subscribe n y))
    ∙ ap (λ (gauge : ℕ → Gauge). map (λ (z : TopicState). record { topic = z; gauges = map (λ e. gauge e.number) z.subscriptions }) (set w.topics t.0 (after_subscribe n y))) gauges)) in
    let f : ℕ → EndpointView = λ m. endpoint_view names w m (accepted m) (unread m) (text m) in
    let g : ℕ → EndpointView = λ m. endpoint_view names u m (accepted m) (unread m) (text m) in
    let endpoint_with : ℕ → List ℕ → EndpointView = λ m ns. record (f m) { live = ns } in
    let live : (m : ℕ) (b : Bool) → is_live m x ≡ b → live_numbers m 0 (w.subscriptions ++ x ∷ []) ≡ live_numbers m 0 w.subscriptions ++ cond b (n ∷ []) [] = λ m b e.
    live_push m 0 w.subscriptions x ∙ (λ i. live_numbers m 0 w.subscriptions ++ cond (e i) (last i ∷ []) []) in
    let mine : is_live c x ≡ true = ap (λ (b : Bool). b && true) (eq-eqb c c refl) in
    let other : (m : ℕ) → m ≢ c → f m ≡ g m = λ m apart.
    ap (endpoint_with m) (sym (live m false (ap (λ (b : Bool). b && true) (differ c m (λ e. apart (sym e)))) ∙ append-nil (live_numbers m 0 w.subscriptions))) in
    let endpoint : longer_endpoint n (f c) ≡ g c = ap (endpoint_with c) (sym (live c true mine)) in
    let endpoints : set v.endpoints c (longer_endpoint (length v.subs) (get_or v.endpoints c no_endpoint)) ≡ each_number g 0 w.connections =
    ap (λ (m : ℕ). set v.endpoints c (longer_endpoint m (get_or v.endpoints c no_endpoint))) count
    ∙ (ap (λ (l : EndpointView). set v.endpoints c (longer_endpoint n l)) (get_or-each_number f 0 w.connections c no_endpoint spoken ∙ ap f (sym first))
    ∙ (ap (λ (l : EndpointView). set v.endpoints c l) (endpoint ∙ ap g first)
    ∙ (each_number-set f g 0 w.connections c (get_or w.connections c nobody) spoken (λ m low high apart. other m (λ e. apart (e ∙ first)))
    ∙ ap (λ (cs : List Connection). each_number g 0 cs) (set-get_or w.connections c nobody)))) in
    let sub_with : Option RawFrame → Subscription → SubView = λ o z. record { connection = z.connection; id = option_map_or id_of o []; parts = option_map_or wants_parts o false; topic = z.topic; from = z.from; left = option_map (left_view z.taken) z.closed } in
    let new : SubView = record { connection = c; id = id_of frame; parts = wants_parts frame; topic = t; from = (group_in v t).topic.frontier; left = None } in
    let older : (m : ℕ) → m < n → h m ≡ h' m = λ m l i. sub_with (sym (same m l) i) (sym (get_or_append_left w.subscriptions (x ∷ []) no_subscription m l) i) in
    let here : subscription_at u n ≡ x = at_end (λ (z : Subscription). z ≡ x) w.subscriptions x no_subscription refl in
    let newest : new ≡ h' (0 + n) =
    ap (λ (z : GroupState). record new { from = z.topic.frontier }) group
    ∙ ((λ i. sub_with (sym own i) (sym here i)) ∙ ap h' (sym last)) in
    let subs : v.subs ++ new ∷ [] ≡ each_number h' 0 (w.subscriptions ++ x ∷ []) =
    ap (λ (z : SubView). v.subs ++ z ∷ []) newest
    ∙ (ap (λ (zs : List SubView). zs ++ h' (0 + n) ∷ []) (each_number-same h h' 0 w.subscriptions (λ m low high. older m (omega (arith, high))))
    ∙ sym (each_number-push h' 0 w.subscriptions x)) in
    λ i. record v { groups = groups i; endpoints = endpoints i; subs = subs i }

-- its number and where its span begins
pub begun_as : (names : List (List ℕ)) (w : World) (t : Topic)
    (accepted : ℕ → List RawFrame) (unread : ℕ → Unread) (text : ℕ → List ℕ) (began : ℕ → Option RawFrame) → t.0 < length w.topics
    → (length (view_with names w accepted unread text began).subs ≡ length w.subscriptions)
    × ((group_in (view_with names w accepted unread text began) t).topic.frontier ≡ (topic_at w t).frontier)
begun_as names w t accepted unread text began topic = (
  length-each_number (λ m. sub_view w m (began m)) 0 w.subscriptions,
  ap (λ (z : GroupState). z.topic.frontier) (get_or-map (group_view w) w.topics t.0 (new_topic t 0 0) no_group topic),
)

-- ---- the number of an id

-- the first of them is at the index that is found
pub found_at : (p : ℕ → Bool) (ns : List ℕ) (i d : ℕ) → position p ns ≡ Some i → Some (get_or ns i d) ≡ find p ns
found_at p ns i d e = sym (slice_get-get_or ns i d (in_range p ns i e)) ∙ (ap (slice_get ns) (index_is p ns i e) ∙ sym (find_at p ns))

-- where none is found there is none
pub found_none : (p : ℕ → Bool) (ns : List ℕ) → position p ns ≡ None → None ≡ find p ns
found_none p ns e = let far = end_is p ns e in sym (find_at p ns ∙ slice_get_past ns (position_or_len p ns) (omega (arith, far)))

-- ---- its SUBSCRIBE

-- the step of an accepted SUBSCRIBE
abbrev pub begin_step : ℕ → RawFrame → Unread → ℕ → Stamp → CoreStep
begin_step c f left n from = record { event = Event.Next c; reading = Reading.Finds f left; outcome = Outcome.Subscribed n from }

-- the new number has the frame
pub new_frame : (c : ℕ) (f : RawFrame) (left : Unread) (n : ℕ) (from : Stamp) (older : List CoreStep) → subscribe_frame n (begin_step c f left n from ∷ older) ≡ Some f
new_frame c f left n from older = ap (λ (b : Bool). cond b (Some f) (subscribe_frame n older)) (eq-eqb n n refl)

-- the others keep theirs
pub old_frames : (c : ℕ) (f : RawFrame) (left : Unread) (n : ℕ) (from : Stamp) (older : List CoreStep)
    → (s : ℕ) → s < n → subscribe_frame s (begin_step c f left n from ∷ older) ≡ subscribe_frame s older
old_frames c f left n from older s l = ap (λ (b : Bool). cond b (Some f) (subscribe_frame s older)) (differ n s (λ e. omega (arith, e, l)))
