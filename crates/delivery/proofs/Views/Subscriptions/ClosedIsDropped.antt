-- A subscription that is closed.
use Rattle.std.proofs.Common.{filter}
use Rattle.delivery.proofs.Words.All.{◌≡◌, ◌≢◌, ℕ, zero, suc, ◌+◌, ◌<◌, ◌≤◌, ◌==◌, Bool, true, false, cond, not, ◌&&◌, inl, inr, List, [], ◌∷◌, map, length, get_or, set, Option, Some, None, refl, sym, ap, subst, ◌∙◌, arith, eq-eqb, nat_lt, slice_get, position, position_or_len, remove, is_some, option_map, option_map_or, option_and_then, eqb-true, cases_lt, slice_get-get_or, get_or_from_slice_get, get_or-map, map-set, set-get_or, get_or-set_same, get_or-set_other, Topic, zero_stamp, Gauge, NumbersDiffer, GroupState, gauge_at, TopicState, Entry, new_topic, find_entry, end_of, after_unsubscribe, RawFrame, Unread, id_of, wants_parts, at_set, numbers_differ, World, Connection, Subscription, no_subscription, nobody, topic_at, subscription_at, entry_at, is_live, end_now, close_effect, close_effect_of, final_world, Core, names_at, each_number, live_numbers, IsReached, View, EndpointView, SubView, LeftView, view_with, group_view, queue_gauge, left_view, endpoint_view, sub_view, no_group, no_endpoint, group_in, no_sub, left_in, left_at, without_number, closed_with, closed_if_left, closed_view}
use Rattle.mcast_group.specs.Group.{gauges_without, group_after_unsubscribe}
use Rattle.mcast_group.proofs.Subscribing.{others_stay}
use Rattle.delivery.specs.Inner.Subscriptions.{left_with, shorter_endpoint}
use Rattle.delivery.proofs.Machine.SubscriptionSteps.{found_entry, beyond}
use Rattle.delivery.proofs.Theorem.TopicsAreSound.{topics_are_sound}
use Rattle.delivery.proofs.Words.Changes.{by_world, each_number-set, get_or-each_number, length-each_number, differ}
use Rattle.delivery.proofs.Views.Runs.AccountOfTransactions.{has_entry}
use Rattle.delivery.proofs.Views.Subscriptions.GaugesOfEntries.{gauge_found}
use Rattle.delivery.proofs.Theorem.SpansAsAnswered.{live_unclosed}

-- ---- a number that is taken out

-- the index of a number, or the end
abbrev index_in : ℕ → List ℕ → ℕ
index_in s ns = position_or_len (λ n. n == s) ns

removed : (s : ℕ) (ns : List ℕ) → remove ns (index_in s ns) ≡ without_number s ns
removed s [] = refl
removed s (n ∷ ns) = (elim (n == s) as (λ (b : Bool). remove ns (index_in s ns) ≡ without_number s ns → remove (n ∷ ns) (cond (not b) (1 + index_in s ns) 0) ≡ cond b ns (n ∷ without_number s ns)) [
  | true ↦ λ rest. refl
  | false ↦ λ rest. (let next : 1 + index_in s ns ≡ suc (index_in s ns) = omega arith in rw next (ap (λ (others : List ℕ). n ∷ others) rest))
]) (removed s ns)

not_there : (s : ℕ) (ns : List ℕ) → nat_lt (index_in s ns) (length ns) ≡ false → ns ≡ without_number s ns
not_there s [] none = refl
not_there s (n ∷ ns) none = grind (arith, not_there s ns)

-- removed at the index that is found
pub forgotten : (s : ℕ) (ns : List ℕ) (i : ℕ) → position (λ n. n == s) ns ≡ Some i → remove ns i ≡ without_number s ns
forgotten s ns i at = (elim (nat_lt (index_in s ns) (length ns)) as (λ (b : Bool). cond b (Some (index_in s ns)) None ≡ Some i → remove ns i ≡ without_number s ns) [
  | true ↦ λ at. (let e : index_in s ns ≡ i = cc in subst (λ j. remove ns j ≡ without_number s ns) e (removed s ns))
  | false ↦ λ at. absurd cc
]) at

-- where none is found nothing is
pub unforgotten : (s : ℕ) (ns : List ℕ) → position (λ n. n == s) ns ≡ None → ns ≡ without_number s ns
unforgotten s ns at = (elim (nat_lt (index_in s ns) (length ns)) as (λ (b : Bool). nat_lt (index_in s ns) (length ns) ≡ b → cond b (Some (index_in s ns)) None ≡ None → ns ≡ without_number s ns) [
  | true ↦ λ there at. absurd cc
  | false ↦ λ there at. not_there s ns there
]) refl at

-- ---- views

-- the subscription that was read
pub sub_read : (subs : List SubView) (s : ℕ) (x : SubView) → s < length subs → x ≡ get_or subs s x → slice_get subs s ≡ Some x
sub_read subs s x there is = slice_get-get_or subs s x there ∙ ap (λ (z : SubView). Some z) (sym is)

-- it has no entry at its topic
pub close_none : (v : View) (s : ℕ) (x : SubView) → slice_get v.subs s ≡ Some x → left_in s (group_in v x.topic) ≡ None → left_at s v ≡ None
close_none v s x there none = ap (λ (o : Option SubView). option_and_then (λ x. left_in s (group_in v x.topic)) o) there ∙ none

-- it has left this
pub close_some : (v : View) (s : ℕ) (x : SubView) (left : LeftView) → slice_get v.subs s ≡ Some x → left_in s (group_in v x.topic) ≡ Some left → left_at s v ≡ Some left
close_some v s x left there some = ap (λ (o : Option SubView). option_and_then (λ x. left_in s (group_in v x.topic)) o) there ∙ some

-- the view where nothing is left
pub unclosed : (v : View) (s : ℕ) → left_at s v ≡ None → closed_view s v ≡ v
unclosed v s none = ap (λ (o : Option LeftView). closed_if_left s o v) none

-- and where this is
pub closed_by : (v : View) (s : ℕ) (x : SubView) (left : LeftView) → slice_get v.subs s ≡ Some x → left_at s v ≡ Some left → closed_view s v ≡ closed_with s x left v
closed_by v s x left there some =
    ap (λ (o : Option LeftView). closed_if_left s o v) some
    ∙ ap (λ (y : SubView). closed_with s y left v) (get_or_from_slice_get v.subs s x no_sub there)

-- there is no group beyond the last
pub no_group_there : (v : View) (t : Topic) (s : ℕ) → length v.groups ≤ t.0 → left_in s (group_in v t) ≡ None
no_group_there v t s far = ap (left_in s) (beyond v.groups t.0 no_group far)

-- a group in its own place
pub same_groups : (v : View) (i : ℕ) → record v { groups = set v.groups i (get_or v.groups i no_group) } ≡ v
same_groups v i = ap (λ (gs : List GroupState). record v { groups = gs }) (set-get_or v.groups i no_group)

-- ---- a group

gauges_left : (gauge : ℕ → Gauge) (s : ℕ) (es : List Entry) → NumbersDiffer es
    → gauges_without s es (map (λ e. gauge e.number) es) ≡ map (λ e. gauge e.number) (filter (λ (e : Entry). not (e.number == s)) es)
gauges_left gauge s [] h = refl
gauges_left gauge s (e ∷ es) h = by (e.number == s) refl (gauges_left gauge s es h.1)
  where
    rest : List Entry
    rest = filter (λ (f : Entry). not (f.number == s)) es

    by : (b : Bool) → (e.number == s) ≡ b → gauges_without s es (map (λ f. gauge f.number) es) ≡ map (λ f. gauge f.number) rest
        → cond b (map (λ f. gauge f.number) es) (gauge e.number ∷ gauges_without s es (map (λ f. gauge f.number) es)) ≡ map (λ f. gauge f.number) (cond (not b) (e ∷ rest) rest)
    by true is ih = ap (λ (fs : List Entry). map (λ f. gauge f.number) fs) (sym (others_stay s es (λ f i same. h.0 f i (same ∙ sym (eqb-true e.number s is)))))
    by false is ih = ap (λ (rs : List Gauge). gauge e.number ∷ rs) ih

-- the group without an entry is that of the world's topic without it
unsubscribed_group : (w : World) (s : ℕ) (x : TopicState) → NumbersDiffer x.subscriptions → group_after_unsubscribe s (group_view w x) ≡ group_view w (after_unsubscribe s x)
unsubscribed_group w s x h = ap (λ (gauges : List Gauge). record { topic = after_unsubscribe s x; gauges = gauges }) (gauges_left (queue_gauge w) s x.subscriptions h)

-- ---- live numbers

-- those of another connection stay
pub live_of_others : (n i j : ℕ) (xs : List Subscription) (x : Subscription) → x.connection ≡ (get_or xs j no_subscription).connection → x.connection ≢ n
    → live_numbers n i (set xs j x) ≡ live_numbers n i xs
live_of_others n i j [] x same other = refl
live_of_others n i zero (y ∷ ys) x same other =
    ap (λ b. cond (b && not (is_some x.closed)) (i ∷ live_numbers n (i + 1) ys) (live_numbers n (i + 1) ys)) (differ x.connection n other)
    ∙ sym (ap (λ b. cond (b && not (is_some y.closed)) (i ∷ live_numbers n (i + 1) ys) (live_numbers n (i + 1) ys)) (differ y.connection n (λ e. other (same ∙ e))))
live_of_others n i (suc j) (y ∷ ys) x same other = ap (λ (ns : List ℕ). cond (is_live n y) (i ∷ ns) ns) (live_of_others n (i + 1) j ys x same other)

-- of its own connection it is taken out
pub live_of_own : (c i j : ℕ) (xs : List Subscription) (x : Subscription) → j < length xs → is_live c (get_or xs j no_subscription) ≡ true → is_live c x ≡ false
    → live_numbers c i (set xs j x) ≡ without_number (i + j) (live_numbers c i xs)
live_of_own c i j [] x there live closed = absurd (omega arith)
live_of_own c i zero (y ∷ ys) x there live closed =
    let rest = live_numbers c (i + 1) ys in let e : i ≡ i + 0 = omega arith in
    ap (λ b. cond b (i ∷ rest) rest) closed
    ∙ sym (ap (λ b. without_number (i + 0) (cond b (i ∷ rest) rest)) live
    ∙ ap (λ b. cond b rest (i ∷ without_number (i + 0) rest)) (eq-eqb i (i + 0) e))
live_of_own c i (suc j) (y ∷ ys) x there live closed =
    ap (λ (ns : List ℕ). cond (is_live c y) (i ∷ ns) ns) (live_of_own c (i + 1) j ys x (omega arith) live closed ∙ ap (λ n. without_number n rest) e)
    ∙ later (is_live c y)
  where
    rest : List ℕ
    rest = live_numbers c (i + 1) ys

    e : (i + 1) + j ≡ i + suc j
    e = omega arith

    not_first : (i == i + suc j) ≡ false
    not_first = differ i (i + suc j) (λ z. omega arith)

    later : (b : Bool) → cond b (i ∷ without_number (i + suc j) rest) (without_number (i + suc j) rest) ≡ without_number (i + suc j) (cond b (i ∷ rest) rest)
    later true = sym (ap (λ b. cond b rest (i ∷ without_number (i + suc j) rest)) not_first)
    later false = refl

-- ---- a world

-- whose a live subscription is
pub live_owned : (c : ℕ) (x : Subscription) → is_live c x ≡ true → x.connection ≡ c
live_owned c x e = eqb-true x.connection c ((elim (x.connection == c) as (λ (b : Bool). (b && not (is_some x.closed)) ≡ true → b ≡ true) [ true ↦ λ e. refl | false ↦ λ e. e ]) e)

not_live : (c : ℕ) (b : Bool) → (b && false) ≡ false
not_live c true = refl
not_live c false = refl

-- what the queue of a subscription shows of what was taken stays
gauge_stays : (w : World) (s : ℕ) (x : Subscription) (topics : List TopicState) → x.taken ≡ (subscription_at w s).taken → (n : ℕ)
    → queue_gauge w n ≡ queue_gauge (record w { topics = topics; subscriptions = set w.subscriptions s x }) n
gauge_stays w s x topics same n =
    ap (λ (taken : ℕ). record { capacity = w.capacity; taken = Some taken })
    (at_set (λ (z : Subscription). (subscription_at w n).taken ≡ z.taken) w.subscriptions s n x no_subscription
    (λ e. ap (λ (m : ℕ). (subscription_at w m).taken) e ∙ sym same) refl)

-- the topic of an entry is there
entry_topic : (w : World) (s : ℕ) (e : Entry) → entry_at w s ≡ Some e → (subscription_at w s).topic.0 < length w.topics
entry_topic w s e found = elim (cases_lt (subscription_at w s).topic.0 (length w.topics)) [
  | inl l ↦ l
  | inr far ↦ no_entry (sym (ap (λ (x : TopicState). find_entry s x.subscriptions) (beyond w.topics (subscription_at w s).topic.0 (new_topic (subscription_at w s).topic 0 0) far)) ∙ found)
]
  where
    no_entry : None ≡ Some e → (subscription_at w s).topic.0 < length w.topics
    no_entry h = absurd (cc)

-- what a subscription with this entry leaves
abbrev leaves : World → ℕ → Entry → LeftView
leaves w s e = left_view (subscription_at w s).taken (end_of (topic_at w (subscription_at w s).topic).frontier e)

-- it is what is found in the view
pub left_is : (names : List (List ℕ)) (w : World) (s : ℕ) (e : Entry) (accepted : ℕ → List RawFrame) (unread : ℕ → Unread) (text : ℕ → List ℕ) (began : ℕ → Option RawFrame)
    → s < length w.subscriptions → entry_at w s ≡ Some e → (slice_get (view_with names w accepted unread text began).subs s ≡ Some (sub_view w s (began s)))
    × (left_at s (view_with names w accepted unread text began) ≡ Some (leaves w s e))
left_is names w s e accepted unread text began there found =
    let v = view_with names w accepted unread text began in let h = λ (n : ℕ). sub_view w n (began n) in let x = subscription_at w s in let y = topic_at w x.topic in
    let many : s < length (each_number h 0 w.subscriptions) = omega (arith, there, length-each_number h 0 w.subscriptions) in let first : 0 + s ≡ s = omega arith in
    let sub : slice_get v.subs s ≡ Some (h s) =
    slice_get-get_or (each_number h 0 w.subscriptions) s (h s) many
    ∙ ap (λ (z : SubView). Some z) (get_or-each_number h 0 w.subscriptions s (h s) there ∙ ap h first) in
    let group : group_in v x.topic ≡ group_view w y = get_or-map (group_view w) w.topics x.topic.0 (new_topic x.topic 0 0) no_group (entry_topic w s e found) in
    let entry = found_entry s y.subscriptions e found in
    let gauge : gauge_at s y.subscriptions (map (λ e. queue_gauge w e.number) y.subscriptions) ≡ Some (queue_gauge w s) =
    gauge_found (queue_gauge w) y.subscriptions s e entry.stands (sym entry.is) in
    let left : left_in s (group_view w y) ≡ Some (leaves w s e) =
    (λ i. left_with y.frontier (found i) (gauge i)) in
    (sub, close_some v s (h s) (leaves w s e) sub (ap (left_in s) group ∙ left))

-- the view of a world in which a subscription with this entry is closed
closed_in : (names : List (List ℕ)) (w : World) (c s : ℕ) (e : Entry) (accepted : ℕ → List RawFrame) (unread : ℕ → Unread) (text : ℕ → List ℕ) (began : ℕ → Option RawFrame)
    → c < length w.connections → s < length w.subscriptions → is_live c (subscription_at w s) ≡ true → entry_at w s ≡ Some e
    → NumbersDiffer (topic_at w (subscription_at w s).topic).subscriptions
    → closed_view s (view_with names w accepted unread text began) ≡ view_with names (close_effect_of w s (Some e)) accepted unread text began
closed_in names w c s e accepted unread text began spoken there live found numbers =
    let v = view_with names w accepted unread text began in let x = subscription_at w s in let t = x.topic in let y = topic_at w t in let u = close_effect_of w s (Some e) in
    let x' : Subscription = record x { closed = Some (end_of y.frontier e) } in let left = left_is names w s e accepted unread text began there found in
    let own : x.connection ≡ c = live_owned c x live in let topic : t.0 < length w.topics = entry_topic w s e found in let from : 0 + s ≡ s = omega arith in
    let first : c ≡ 0 + c = omega arith in let gauges : queue_gauge w ≡ queue_gauge u = λ i n. gauge_stays w s x' (set w.topics t.0 (after_unsubscribe s y)) refl n i in
    let groups : set v.groups t.0 (group_after_unsubscribe s (group_in v t)) ≡ map (group_view u) (set w.topics t.0 (after_unsubscribe s y)) =
    ap (λ (g : GroupState). set v.groups t.0 (group_after_unsubscribe s g)) (get_or-map (group_view w) w.topics t.0 (new_topic t 0 0) no_group topic)
    ∙ (ap (λ (g : GroupState). set v.groups t.0 g) (unsubscribed_group w s y numbers)
    ∙ (sym (map-set (group_view w) w.topics t.0 (after_unsubscribe s y))
    ∙ ap (λ (gauge : ℕ → Gauge). map (λ (z : TopicState). record { topic = z; gauges = map (λ e. gauge e.number) z.subscriptions }) (set w.topics t.0 (after_unsubscribe s y))) gauges)) in
    let f = λ (n : ℕ). endpoint_view names w n (accepted n) (unread n) (text n) in let g = λ (n : ℕ). endpoint_view names u n (accepted n) (unread n) (text n) in
    let endpoint_with : ℕ → List ℕ → EndpointView = λ n ns. record (f n) { live = ns } in
    let other : (n : ℕ) → n ≢ c → f n ≡ g n = λ n apart. ap (endpoint_with n) (sym (live_of_others n 0 s w.subscriptions x' refl (λ same. apart (sym (sym own ∙ same))))) in
    let endpoint : shorter_endpoint s (f c) ≡ g c =
    ap (endpoint_with c) (ap (λ (m : ℕ). without_number m (live_numbers c 0 w.subscriptions)) (sym from) ∙ sym (live_of_own c 0 s w.subscriptions x' there live (not_live c (x.connection == c)))) in
    let endpoints : set v.endpoints x.connection (shorter_endpoint s (get_or v.endpoints x.connection no_endpoint)) ≡ each_number g 0 w.connections =
    ap (λ (m : ℕ). set v.endpoints m (shorter_endpoint s (get_or v.endpoints m no_endpoint))) own
    ∙ (ap (λ (l : EndpointView). set v.endpoints c (shorter_endpoint s l)) (get_or-each_number f 0 w.connections c no_endpoint spoken ∙ ap f (sym first))
    ∙ (ap (λ (l : EndpointView). set v.endpoints c l) (endpoint ∙ ap g first)
    ∙ (each_number-set f g 0 w.connections c (get_or w.connections c nobody) spoken (λ n low high apart. other n (λ same. apart (same ∙ first)))
    ∙ ap (λ (cs : List Connection). each_number g 0 cs) (set-get_or w.connections c nobody)))) in
    let h = λ (n : ℕ). sub_view w n (began n) in let h' = λ (n : ℕ). sub_view u n (began n) in
    let sub_with : ℕ → Subscription → SubView = λ n z. record { connection = z.connection; id = option_map_or id_of (began n) []; parts = option_map_or wants_parts (began n) false; topic = z.topic; from = z.from; left = option_map (left_view z.taken) z.closed } in
    let own_sub : record (h s) { left = Some (leaves w s e) } ≡ h' s = ap (sub_with s) (sym (get_or-set_same w.subscriptions s x' no_subscription there)) in
    let subs : set v.subs s (record (h s) { left = Some (leaves w s e) }) ≡ each_number h' 0 (set w.subscriptions s x') =
    ap (λ (z : SubView). set v.subs s z) (own_sub ∙ ap h' (sym from))
    ∙ each_number-set h h' 0 w.subscriptions s x' there
    (λ n low high apart. ap (sub_with n) (sym (get_or-set_other w.subscriptions s n x' no_subscription (λ same. apart (same ∙ sym from))))) in
    closed_by v s (h s) (leaves w s e) left.0 left.1
    ∙ (λ i. record v { groups = groups i; endpoints = endpoints i; subs = subs i })

-- ---- a core

-- a live subscription has an entry
record HasEntry (w : World) (s : ℕ) : Type 0 where
  entry : Entry
  found : entry_at w s ≡ Some entry

has : (w : World) (s : ℕ) → entry_at w s ≢ None → HasEntry w s
has w s some = (elim (entry_at w s) as (λ (o : Option Entry). entry_at w s ≡ o → HasEntry w s) [ None ↦ λ e. absurd (some e) | Some entry ↦ λ e. record { entry = entry; found = e } ]) refl

live_entry : (k : Core) (c s : ℕ) → IsReached k → s < length k.world.subscriptions → is_live c (subscription_at k.world s) ≡ true → HasEntry k.world s
live_entry k c s reached there live = has k.world s (has_entry k s reached there (live_unclosed c (subscription_at k.world s) live))

-- closing a live subscription gives the view of the machine after it, whatever was accepted, read and written
pub closed_is : (k : Core) (c s : ℕ) → IsReached k → c < length k.world.connections → s < length k.world.subscriptions → is_live c (subscription_at k.world s) ≡ true
    → (accepted : ℕ → List RawFrame) (unread : ℕ → Unread) (text : ℕ → List ℕ) (began : ℕ → Option RawFrame)
    → closed_view s (view_with (names_at k) k.world accepted unread text began) ≡ view_with (names_at k) (close_effect k.world s) accepted unread text began
closed_is k c s reached spoken there live accepted unread text began =
    let has = live_entry k c s reached there live in
    let numbers : NumbersDiffer (topic_at k.world (subscription_at k.world s).topic).subscriptions =
    by_world (λ w. NumbersDiffer (topic_at w (subscription_at w s).topic).subscriptions) k reached
    (λ r. numbers_differ _ (topics_are_sound r (subscription_at (final_world r) s).topic).0.numbers) in
    closed_in (names_at k) k.world c s has.entry accepted unread text began spoken there live has.found numbers
    ∙ ap (λ (o : Option Entry). view_with (names_at k) (close_effect_of k.world s o) accepted unread text began) (sym has.found)

-- its span ends where the machine says
pub closed_end : (k : Core) (c s : ℕ) → IsReached k → s < length k.world.subscriptions → is_live c (subscription_at k.world s) ≡ true
    → (accepted : ℕ → List RawFrame) (unread : ℕ → Unread) (text : ℕ → List ℕ) (began : ℕ → Option RawFrame)
    → option_map (λ left. left.to) (left_at s (view_with (names_at k) k.world accepted unread text began)) ≡ Some (end_now k.world s)
closed_end k c s reached there live accepted unread text began =
    let has = live_entry k c s reached there live in let w = k.world in
    ap (λ (o : Option LeftView). option_map (λ (left : LeftView). left.to) o) (left_is (names_at k) w s has.entry accepted unread text began there has.found).1
    ∙ ap (λ (o : Option Entry). Some (elim o [ None ↦ zero_stamp | Some e ↦ (end_of (topic_at w (subscription_at w s).topic).frontier e).to ])) (sym has.found)
