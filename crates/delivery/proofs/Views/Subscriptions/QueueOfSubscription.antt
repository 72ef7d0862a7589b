-- The queue of a subscription that isn't closed: in its topic's group, and after a take.
use Rattle.delivery.proofs.Words.All.{◌≡◌, ◌≢◌, ℕ, zero, suc, ◌+◌, ◌<◌, ◌==◌, Bool, true, false, cond, inl, inr, List, [], ◌∷◌, map, length, get_or, set, Option, Some, None, refl, sym, ap, subst, ◌∙◌, arith, eq-eqb, slice_get, is_some, option_map, option_map_or, eqb-true, true≢false, lt-ltb, cases_lt, get_or-set_same, get_or-set_other, get_or_past, get_or_default, In, Topic, Gauge, group_after_take, GroupState, shows, TopicState, Entry, EntryEnd, new_topic, find_entry, NumbersDiffer, RawFrame, id_of, wants_parts, numbers_differ, none_some, World, Subscription, no_subscription, topic_at, subscription_at, entry_at, is_live, entry_to, subscribe_frame, Core, each_number, live_numbers, IsReached, sub_held, next_of, has_lagged, group_held, next_held, no_sub}
use Rattle.sub_queue.specs.Shown.{gauge_after_take}
use Rattle.mcast_group.specs.Counted.{gauges_after_take}
use Rattle.delivery.specs.Machine.World.{with_subscription}
use Rattle.delivery.specs.Inner.Takes.{next_shown}
use Rattle.delivery.specs.Inner.View.{SubView, view_of, group_view, no_group, queue_gauge, sub_view, left_view as left_in_view}
use Rattle.delivery.proofs.Words.Steps.{found_entry, reached}
use Rattle.delivery.proofs.Views.Runs.AccountOfTransactions.{has_entry}
use Rattle.delivery.proofs.Words.Changes.{get_or-each_number, by_world, same_or}
use Rattle.delivery.proofs.Views.Events.ReleaseStep.{group_at}
use Rattle.delivery.proofs.Views.Subscriptions.GaugesOfEntries.{shown_found}

-- ---- a queue

-- the entry of a subscription, at its topic
pub record HasQueue (k : Core) (s : ℕ) : Type 0 where
  pub there : s < length k.world.subscriptions
  pub entry : Entry
  pub found : entry_at k.world s ≡ Some entry
  pub topic : (subscription_at k.world s).topic.0 < length k.world.topics

-- one that isn't closed has it
pub has_queue : (k : Core) (s : ℕ) → IsReached k → s < length k.world.subscriptions → (subscription_at k.world s).closed ≡ None → HasQueue k s
has_queue k s reached l unclosed = by_case (entry_at k.world s) refl
  where
    t : Topic
    t = (subscription_at k.world s).topic

    by_case : (o : Option Entry) → entry_at k.world s ≡ o → HasQueue k s
    by_case None e = absurd (has_entry k s reached l unclosed e)
    by_case (Some entry) e = record {
      there = l;
      entry = entry;
      found = e;
      topic = elim (cases_lt t.0 (length k.world.topics)) [
        | inl m ↦ m
        | inr m ↦ none_some entry (sym (ap (λ (x : TopicState). find_entry s x.subscriptions) (get_or_past k.world.topics t.0 (new_topic t 0 0) m)) ∙ e)
      ];
    }

-- the subscription as it is held
pub sub_is : (k : Core) (s : ℕ) → s < length k.world.subscriptions → sub_held (view_of k) s ≡ sub_view k.world s (subscribe_frame s k.steps)
sub_is k s l =
    let f = λ (n : ℕ). sub_view k.world n (subscribe_frame n k.steps) in let e : 0 + s ≡ s = omega arith in get_or-each_number f 0 k.world.subscriptions s no_sub l ∙ ap f e

-- its topic's group
pub group_is : (k : Core) (s : ℕ) → HasQueue k s → group_held (view_of k) s ≡ group_view k.world (topic_at k.world (subscription_at k.world s).topic)
group_is k s q =
    ap (λ (x : SubView). get_or (view_of k).groups x.topic.0 no_group) (sub_is k s q.there)
    ∙ group_at k (subscription_at k.world s).topic no_group q.topic

-- its next item
pub next_is_of : (k : Core) (s : ℕ) (q : HasQueue k s) → next_held (view_of k) s ≡ slice_get q.entry.accepted (subscription_at k.world s).taken
next_is_of k s q = let w = k.world in ap (next_of s) (group_is k s q) ∙ ap next_shown (shown_found w s (topic_at w (subscription_at w s).topic) q.entry q.found)

-- whether it has lagged
pub lagged_is : (k : Core) (s : ℕ) (q : HasQueue k s) → has_lagged s (group_held (view_of k) s) ≡ is_some q.entry.to
lagged_is k s q = ap (has_lagged s) (group_is k s q) ∙ ap (λ (o : Option Entry). is_some (entry_to o)) q.found

-- ---- after a take

-- the world after a take of subscription s
abbrev pub taken_world : World → ℕ → World
taken_world w s = with_subscription w s (record (subscription_at w s) { taken = (subscription_at w s).taken + 1 })

-- another subscription stays
pub other_stays : (w : World) (s n : ℕ) → n ≢ s → subscription_at (taken_world w s) n ≡ subscription_at w n
other_stays w s n differ = get_or-set_other w.subscriptions s n (record (subscription_at w s) { taken = (subscription_at w s).taken + 1 }) no_subscription differ

-- this one has one more item taken
pub this_taken : (w : World) (s : ℕ) → s < length w.subscriptions → subscription_at (taken_world w s) s ≡ record (subscription_at w s) { taken = (subscription_at w s).taken + 1 }
this_taken w s l = get_or-set_same w.subscriptions s (record (subscription_at w s) { taken = (subscription_at w s).taken + 1 }) no_subscription l

others_gauges : (w : World) (s : ℕ) (es : List Entry) → ((e : Entry) → In e es → e.number ≢ s)
    → map (λ e. queue_gauge w e.number) es ≡ map (λ e. queue_gauge (taken_world w s) e.number) es
others_gauges w s [] h = refl
others_gauges w s (e ∷ es) h =
    ap (λ (x : Subscription). record { capacity = w.capacity; taken = Some x.taken } ∷ map (λ (f : Entry). queue_gauge w f.number) es) (sym (other_stays w s e.number (h e (inl refl))))
    ∙ ap (λ (rs : List Gauge). queue_gauge (taken_world w s) e.number ∷ rs) (others_gauges w s es (λ f i. h f (inr i)))

-- the gauges after a take, where the entry of this number has a further item
taken_gauges : (w : World) (s : ℕ) (es : List Entry) → s < length w.subscriptions → NumbersDiffer es
    → ((e : Entry) → In e es → e.number ≡ s → (subscription_at w s).taken < length e.accepted)
    → gauges_after_take s es (map (λ e. queue_gauge w e.number) es) ≡ map (λ e. queue_gauge (taken_world w s) e.number) es
taken_gauges w s [] l d h = refl
taken_gauges w s (e ∷ es) l d h = by_case (taken_gauges w s es l d.1 (λ f i. h f (inr i))) (s == e.number) refl
  where
    rest : List Gauge
    rest = map (λ f. queue_gauge w f.number) es

    by_case : gauges_after_take s es rest ≡ map (λ f. queue_gauge (taken_world w s) f.number) es → (b : Bool) → (s == e.number) ≡ b
        → cond b (gauge_after_take (shows e (queue_gauge w e.number)) ∷ rest) (queue_gauge w e.number ∷ gauges_after_take s es rest)
        ≡ queue_gauge (taken_world w s) e.number ∷ map (λ f. queue_gauge (taken_world w s) f.number) es
    by_case ih true k =
        let same : e.number ≡ s = sym (eqb-true s e.number k) in
        let m : (subscription_at w e.number).taken < length e.accepted = subst (λ (n : ℕ). (subscription_at w n).taken < length e.accepted) (sym same) (h e (inl refl) same) in
        let one : gauge_after_take (shows e (queue_gauge w e.number)) ≡ queue_gauge (taken_world w s) e.number =
        ap (λ (b : Bool). record { capacity = w.capacity; taken = Some (cond b ((subscription_at w e.number).taken + 1) (subscription_at w e.number).taken) }) (lt-ltb (subscription_at w e.number).taken (length e.accepted) m)
        ∙ (ap (λ (n : ℕ). record { capacity = w.capacity; taken = Some ((subscription_at w n).taken + 1) }) same
        ∙ (ap (λ (x : Subscription). record { capacity = w.capacity; taken = Some x.taken }) (sym (this_taken w s l))
        ∙ ap (queue_gauge (taken_world w s)) (sym same))) in
        ap (λ (r : Gauge). r ∷ rest) one
        ∙ ap (λ (rs : List Gauge). queue_gauge (taken_world w s) e.number ∷ rs) (others_gauges w s es (λ f i n. d.0 f i (n ∙ sym same)))
    by_case ih false k =
        let differ : e.number ≢ s = λ n. true≢false (sym (eq-eqb s e.number (sym n)) ∙ k) in
        ap (λ (x : Subscription). record { capacity = w.capacity; taken = Some x.taken } ∷ gauges_after_take s es rest) (sym (other_stays w s e.number differ))
        ∙ ap (λ (rs : List Gauge). queue_gauge (taken_world w s) e.number ∷ rs) ih

-- one value is another, and the others are the same
map_but_one : {X Y : Type 0} (f g : X → Y) (xs : List X) (i : ℕ) (d : X) → ((n : ℕ) → n < length xs → n ≢ i → f (get_or xs n d) ≡ g (get_or xs n d))
    → i < length xs → set (map f xs) i (g (get_or xs i d)) ≡ map g xs
map_but_one f g [] i d h l = absurd (omega arith)
map_but_one {Y = Y} f g (x ∷ xs) zero d h l = ap (λ (ys : List Y). g x ∷ ys) (all xs (λ n m. h (suc n) (omega arith) (λ z. omega arith)))
  where
    all : (zs : List _) → ((n : ℕ) → n < length zs → f (get_or zs n d) ≡ g (get_or zs n d)) → map f zs ≡ map g zs
    all [] k = refl
    all (z ∷ zs) k = ap (λ (y : Y). y ∷ map f zs) (k zero (omega arith)) ∙ ap (λ (ys : List Y). g z ∷ ys) (all zs (λ n m. k (suc n) (omega arith)))
map_but_one {Y = Y} f g (x ∷ xs) (suc i) d h l =
    ap (λ (y : Y). y ∷ set (map f xs) i (g (get_or xs i d))) (h zero (omega arith) (λ z. omega arith))
    ∙ ap (λ (ys : List Y). g x ∷ ys) (map_but_one f g xs i d (λ n m z. h (suc n) (omega arith) (λ y. z (omega arith))) (omega arith))

-- the groups after a take of a subscription whose queue has a further item
pub taken_groups : (k : Core) (s : ℕ) (q : HasQueue k s) → IsReached k → (subscription_at k.world s).taken < length q.entry.accepted
    → set (view_of k).groups (subscription_at k.world s).topic.0 (group_after_take s (group_view k.world (topic_at k.world (subscription_at k.world s).topic)))
    ≡ map (group_view (taken_world k.world s)) k.world.topics
taken_groups k s q at l =
    ap (λ (g : GroupState). set (view_of k).groups t.0 g) own
    ∙ (ap (λ (y : TopicState). set (view_of k).groups t.0 (group_view (taken_world w s) y)) (get_or_default w.topics t.0 (new_topic t 0 0) d q.topic)
    ∙ map_but_one (group_view w) (group_view (taken_world w s)) w.topics t.0 d elsewhere q.topic)
  where
    w : World
    w = k.world

    t : Topic
    t = (subscription_at k.world s).topic

    x : TopicState
    x = topic_at k.world t

    d : TopicState
    d = new_topic t 0 0

    numbers : NumbersDiffer x.subscriptions
    numbers = numbers_differ x.subscriptions (by_world (λ v. Rattle.mcast_txn.specs.Lists.RisesBy (λ (e : Entry). e.number) (topic_at v t).subscriptions) k at (λ r. ((reached r).inv.tied t).sound.numbers))

    further : (e : Entry) → In e x.subscriptions → e.number ≡ s → (subscription_at w s).taken < length e.accepted
    further e i n =
        let f = found_entry s x.subscriptions q.entry q.found in
        let same : q.entry ≡ e = by_world (λ v. In q.entry (topic_at v t).subscriptions → In e (topic_at v t).subscriptions → q.entry ≡ e) k at (λ r a b. (reached r).inv.subscribes.one t q.entry e a b (f.is ∙ sym n)) f.stands i in
        subst (λ (z : Entry). (subscription_at w s).taken < length z.accepted) same l

    own : group_after_take s (group_view w x) ≡ group_view (taken_world w s) x
    own = ap (λ (rs : List Gauge). record { topic = x; gauges = rs }) (taken_gauges w s x.subscriptions q.there numbers further)

    elsewhere : (n : ℕ) → n < length w.topics → n ≢ t.0 → group_view w (get_or w.topics n d) ≡ group_view (taken_world w s) (get_or w.topics n d)
    elsewhere n m differ =
        let u : Topic = record { 0 = n } in let read : topic_at w u ≡ get_or w.topics n d = get_or_default w.topics n (new_topic u 0 0) d m in
        subst (λ (y : TopicState). group_view w y ≡ group_view (taken_world w s) y) read
        (ap (λ (rs : List Gauge). record { topic = topic_at w u; gauges = rs }) (others_gauges w s (topic_at w u).subscriptions
        (λ e i z. differ (ap (λ (v : Topic). v.0)
        (sym (by_world (λ v. In e (topic_at v u).subscriptions → (subscription_at v e.number).topic ≡ u) k at (λ r a. ((reached r).inv.subscribes.owned u e a).topic) i)
        ∙ ap (λ (j : ℕ). (subscription_at w j).topic) z)))))

each_number-any : {X Y : Type 0} (f : ℕ → Y) (i : ℕ) (xs : List X) (j : ℕ) (x : X) → each_number f i (set xs j x) ≡ each_number f i xs
each_number-any f i [] j x = refl
each_number-any f i (y ∷ ys) zero x = refl
each_number-any {Y = Y} f i (y ∷ ys) (suc j) x = ap (λ (zs : List Y). f i ∷ zs) (each_number-any f (i + 1) ys j x)

-- this subscription, which this SUBSCRIBE began
abbrev shape : Option RawFrame → Subscription → SubView
shape began x = record { connection = x.connection; id = option_map_or id_of began []; parts = option_map_or wants_parts began false; topic = x.topic; from = x.from; left = option_map (left_in_view x.taken) x.closed }

-- a subscription that isn't closed shows nothing of what was taken
same_sub : (w : World) (s : ℕ) (began : Option RawFrame) → s < length w.subscriptions → (subscription_at w s).closed ≡ None → sub_view w s began ≡ sub_view (taken_world w s) s began
same_sub w s began l unclosed =
    let x = subscription_at w s in let later : Subscription = record x { taken = x.taken + 1 } in
    ap (λ (o : Option EntryEnd). record (shape began x) { left = option_map (left_in_view x.taken) o }) unclosed
    ∙ (ap (λ (o : Option EntryEnd). record (shape began x) { left = option_map (left_in_view later.taken) o }) (sym unclosed)
    ∙ ap (shape began) (sym (this_taken w s l)))

-- the subscriptions after the take are held as before
pub taken_subs : (w : World) (s : ℕ) (began : ℕ → Option RawFrame) → s < length w.subscriptions → (subscription_at w s).closed ≡ None
    → each_number (λ n. sub_view w n (began n)) 0 w.subscriptions ≡ each_number (λ n. sub_view (taken_world w s) n (began n)) 0 (taken_world w s).subscriptions
taken_subs w s began l unclosed =
    (λ i. each_number (λ n. each n i) 0 w.subscriptions)
    ∙ sym (each_number-any (λ n. sub_view (taken_world w s) n (began n)) 0 w.subscriptions s (record (subscription_at w s) { taken = (subscription_at w s).taken + 1 }))
  where
    each : (n : ℕ) → sub_view w n (began n) ≡ sub_view (taken_world w s) n (began n)
    each n = elim (same_or n s) [
      | inl e ↦ subst (λ (m : ℕ). sub_view w m (began m) ≡ sub_view (taken_world w s) m (began m)) (sym e) (same_sub w s (began s) l unclosed)
      | inr ne ↦ ap (shape (began n)) (sym (other_stays w s n ne))
    ]

live_set : (c i : ℕ) (xs : List Subscription) (j : ℕ) (x : Subscription) → is_live c x ≡ is_live c (get_or xs j no_subscription) → live_numbers c i (set xs j x) ≡ live_numbers c i xs
live_set c i [] j x e = refl
live_set c i (y ∷ ys) zero x e = ap (λ (b : Bool). cond b (i ∷ live_numbers c (i + 1) ys) (live_numbers c (i + 1) ys)) e
live_set c i (y ∷ ys) (suc j) x e = ap (λ (ns : List ℕ). cond (is_live c y) (i ∷ ns) ns) (live_set c (i + 1) ys j x e)

-- so are the numbers of those that aren't closed
pub taken_live : (w : World) (s c : ℕ) → live_numbers c 0 w.subscriptions ≡ live_numbers c 0 (taken_world w s).subscriptions
taken_live w s c = sym (live_set c 0 w.subscriptions s (record (subscription_at w s) { taken = (subscription_at w s).taken + 1 }) refl)
