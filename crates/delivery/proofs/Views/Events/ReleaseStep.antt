-- A release of a topic's group.
use Rattle.delivery.proofs.Words.All.{◌≡◌, ℕ, ◌<◌, Bool, true, false, nat_lt, List, [], ◌∷◌, map, length, get_or, set, Option, Some, None, inl, inr, refl, sym, ap, subst, ◌∙◌, ◌≤◌, arith, not, is_some, option_or, option_map, lt-ltb, ltb-true, cases_Bool, get_or-map, map-set, set-get_or, length-map, In, TxnId, Gauge, takes_of, GroupState, TopicState, Entry, Pending, new_topic, after_release, due_part, item_of, entry_after, first_refusal, Topic, after_release_if, delivered_by, Objection, World, topic_at, with_topic, Move, Answer, move_refusal, queue_has_room, release_answer, Event, Outcome, Refusal, Core, Makes, View, view_of, group_view, no_group, queue_gauge}
use Rattle.mcast_group.specs.Counted.{takes_in}
use Rattle.mcast_group.specs.Group.{group_after_release}
use Rattle.delivery.proofs.Machine.Effects.{made_world, made_answer}
use Rattle.delivery.proofs.Words.Changes.{map_alike, release_is_quiet, in_outcome, refused_makes, quiet_makes}
use Rattle.delivery.proofs.Machine.QueueSteps.{Goes, release_goes}
use Rattle.delivery.proofs.Views.Subscriptions.GaugesOfEntries.{gauge_found}

-- a group's queue takes an item where the world's has room
pub takes_same : (w : World) (x : TopicState) (e f : Entry) → In f x.subscriptions → e.number ≡ f.number → takes_of (group_view w x) e ≡ queue_has_room w e
takes_same w x e f here same = ap (λ (r : Option Gauge). takes_in r e) (gauge_found (queue_gauge w) x.subscriptions e.number f here same)

-- ---- a release

released_same : (t u : Entry → Bool) (x : TopicState) (o : Option Pending) → ((e : Entry) → In e x.subscriptions → t e ≡ u e) → after_release_if t x o ≡ after_release_if u x o
released_same t u x None same = refl
released_same t u x (Some p) same =
    ap (λ (es : List Entry). record (after_release_if u x (Some p)) { subscriptions = es })
    (map_alike (entry_after t x.frontier (item_of p)) (entry_after u x.frontier (item_of p)) x.subscriptions
    (λ e here. delivered_by t u x.frontier (item_of p) e (same e here)))

map_step : {Y : Type 0} (f : ℕ → Y) (step : Entry → Entry) → ((e : Entry) → (step e).number ≡ e.number) → (es : List Entry)
    → map (λ e. f e.number) (map step es) ≡ map (λ e. f e.number) es
map_step f step same [] = refl
map_step {Y = Y} f step same (e ∷ es) =
    ap (λ (n : ℕ). f n ∷ map (λ e. f e.number) (map step es)) (same e)
    ∙ ap (λ (ys : List Y). f e.number ∷ ys) (map_step f step same es)

-- the gauges stay where entries keep their numbers
pub gauges_stay : (w : World) (x y : TopicState) → Goes w x y → map (λ e. queue_gauge w e.number) x.subscriptions ≡ map (λ e. queue_gauge w e.number) y.subscriptions
gauges_stay w x y goes = sym (ap (λ (es : List Entry). map (λ e. queue_gauge w e.number) es) goes.are ∙ map_step (queue_gauge w) goes.step goes.number x.subscriptions)

-- the group after a release is that of the world's topic after it
pub released_group : (w : World) (x : TopicState) → group_after_release (takes_of (group_view w x)) (group_view w x) ≡ group_view w (after_release (queue_has_room w) x)
released_group w x =
    let same : after_release (takes_of (group_view w x)) x ≡ after_release (queue_has_room w) x =
    released_same (takes_of (group_view w x)) (queue_has_room w) x (due_part x) (λ e here. takes_same w x e e here refl) in
    λ i. record { topic = same i; gauges = gauges_stay w x (after_release (queue_has_room w) x) (release_goes w x) i }

-- the group of a topic that is there
pub group_at : (k : Core) (t : Topic) (d : GroupState) → t.0 < length k.world.topics → get_or (view_of k).groups t.0 d ≡ group_view k.world (topic_at k.world t)
group_at k t d there = get_or-map (group_view k.world) k.world.topics t.0 (new_topic t 0 0) d there

-- as many groups are held as there are topics
pub topics_held : (k : Core) (groups : List GroupState) → groups ≡ (view_of k).groups → length groups ≡ length k.world.topics
topics_held k groups is = ap (λ (gs : List GroupState). length gs) is ∙ length-map k.world.topics (group_view k.world)

-- ---- the event

release_refusal : (w : World) (t : Topic) (b d : Bool) → nat_lt t.0 (length w.topics) ≡ b → is_some (due_part (topic_at w t)) ≡ d
    → move_refusal w (Move.Releases t) ≡ option_or (first_refusal ((not b, Objection.NotNamed) ∷ (not d, Objection.NothingDue) ∷ [])) None
release_refusal w t b d there due = λ i. option_or (first_refusal ((not (there i), Objection.NotNamed) ∷ (not (due i), Objection.NothingDue) ∷ [])) None

-- there is no such topic
pub release_unnamed : (k : Core) (t : Topic) → length k.world.topics ≤ t.0 → Makes k (Event.Release t) (Outcome.Refused Refusal.NotNamed) (view_of k)
release_unnamed k t none =
    refused_makes k (Event.Release t) Refusal.NotNamed (Move.Releases t) Objection.NotNamed refl refl
    (release_refusal k.world t false (is_some (due_part (topic_at k.world t))) (not_lt t.0 (length k.world.topics) none) refl) refl refl
  where
    not_lt : (a b : ℕ) → b ≤ a → nat_lt a b ≡ false
    not_lt a b h = elim (cases_Bool (nat_lt a b)) [ inl on ↦ absurd (omega (arith, h, ltb-true a b on)) | inr off ↦ off ]

-- nothing is due
pub release_nothing : (k : Core) (t : Topic) (d : GroupState) → t.0 < length k.world.topics → due_part (topic_at k.world t) ≡ None
    → Makes k (Event.Release t) (Outcome.Refused Refusal.NothingDue)
    (record (view_of k) { groups = set (view_of k).groups t.0 (group_after_release (takes_of (get_or (view_of k).groups t.0 d)) (get_or (view_of k).groups t.0 d)) })
release_nothing k t d there due =
    let w = k.world in let x = topic_at w t in
    let none : group_after_release (takes_of (group_view w x)) (group_view w x) ≡ group_view w x =
    ap (λ (o : Option Pending). record (group_view w x) { topic = after_release_if (takes_of (group_view w x)) x o }) due in
    let at = group_at k t d there in
    let group : group_after_release (takes_of (get_or (view_of k).groups t.0 d)) (get_or (view_of k).groups t.0 d) ≡ get_or (view_of k).groups t.0 d =
    ap (λ (g : GroupState). group_after_release (takes_of g) g) at ∙ (none ∙ sym at) in
    let groups = ap (λ (g : GroupState). set (view_of k).groups t.0 g) group ∙ set-get_or (view_of k).groups t.0 d in
    subst (λ (gs : List GroupState). Makes k (Event.Release t) (Outcome.Refused Refusal.NothingDue) (record (view_of k) { groups = gs })) (sym groups)
    (refused_makes k (Event.Release t) Refusal.NothingDue (Move.Releases t) Objection.NothingDue refl refl
    (release_refusal w t true false (lt-ltb t.0 (length w.topics) there) (ap (λ (o : Option Pending). is_some o) due)) refl refl)

-- the part that is due is released
pub release_makes : (k : Core) (t : Topic) (p : Pending) (d : GroupState) → t.0 < length k.world.topics → due_part (topic_at k.world t) ≡ Some p
    → Makes k (Event.Release t) (Outcome.Released p.part.id)
    (record (view_of k) { groups = set (view_of k).groups t.0 (group_after_release (takes_of (get_or (view_of k).groups t.0 d)) (get_or (view_of k).groups t.0 d)) })
release_makes k t p d there due =
    let w = k.world in let x = topic_at w t in let y = after_release (queue_has_room w) x in
    let free = release_refusal w t true true (lt-ltb t.0 (length w.topics) there) (ap (λ (o : Option Pending). is_some o) due) in
    let groups : set (view_of k).groups t.0 (group_after_release (takes_of (get_or (view_of k).groups t.0 d)) (get_or (view_of k).groups t.0 d))
    ≡ map (group_view w) (set w.topics t.0 y) =
    ap (λ (g : GroupState). set (view_of k).groups t.0 (group_after_release (takes_of g) g)) (group_at k t d there)
    ∙ (ap (λ (g : GroupState). set (view_of k).groups t.0 g) (released_group w x)
    ∙ sym (map-set (group_view w) w.topics t.0 y)) in
    quiet_makes k (Event.Release t) (Outcome.Released p.part.id) (with_topic w t y) (release_is_quiet k.names t p.part.id k.steps) refl
    (in_outcome k (Move.Releases t) (Outcome.Released p.part.id) (Answer.Released t p.part.id) (made_answer w (Move.Releases t) free ∙ ap (release_answer t) due) refl)
    (made_world w (Move.Releases t) free) (ap (λ (gs : List GroupState). record (view_of k) { groups = gs }) groups)

-- the same by the transaction that was answered
pub release_some : (k : Core) (t : Topic) (id : TxnId) → t.0 < length k.world.topics
    → Some id ≡ option_map (λ p. p.part.id) (due_part (get_or (view_of k).groups t.0 no_group).topic) → Makes k (Event.Release t) (Outcome.Released id)
    (record (view_of k) { groups = set (view_of k).groups t.0 (group_after_release (takes_of (get_or (view_of k).groups t.0 no_group)) (get_or (view_of k).groups t.0 no_group)) })
release_some k t id there is = go (due_part (topic_at k.world t)) refl (is ∙ ap (λ (g : GroupState). option_map (λ (p : Pending). p.part.id) (due_part g.topic)) (group_at k t no_group there))
  where
    go : (o : Option Pending) → due_part (topic_at k.world t) ≡ o → Some id ≡ option_map (λ (p : Pending). p.part.id) o → Makes k (Event.Release t) (Outcome.Released id)
        (record (view_of k) { groups = set (view_of k).groups t.0 (group_after_release (takes_of (get_or (view_of k).groups t.0 no_group)) (get_or (view_of k).groups t.0 no_group)) })
    go None e h = absurd (cc)
    go (Some p) e h =
        let same : p.part.id ≡ id = cc in
        subst (λ (i : TxnId). Makes k (Event.Release t) (Outcome.Released i)
        (record (view_of k) { groups = set (view_of k).groups t.0 (group_after_release (takes_of (get_or (view_of k).groups t.0 no_group)) (get_or (view_of k).groups t.0 no_group)) }))
        same (release_makes k t p no_group there e)

-- the same where none was answered
pub release_none : (k : Core) (t : Topic) → t.0 < length k.world.topics → None ≡ option_map (λ p. p.part.id) (due_part (get_or (view_of k).groups t.0 no_group).topic)
    → Makes k (Event.Release t) (Outcome.Refused Refusal.NothingDue)
    (record (view_of k) { groups = set (view_of k).groups t.0 (group_after_release (takes_of (get_or (view_of k).groups t.0 no_group)) (get_or (view_of k).groups t.0 no_group)) })
release_none k t there is = go (due_part (topic_at k.world t)) refl (is ∙ ap (λ (g : GroupState). option_map (λ (p : Pending). p.part.id) (due_part g.topic)) (group_at k t no_group there))
  where
    go : (o : Option Pending) → due_part (topic_at k.world t) ≡ o → None ≡ option_map (λ (p : Pending). p.part.id) o
        → Makes k (Event.Release t) (Outcome.Refused Refusal.NothingDue)
        (record (view_of k) { groups = set (view_of k).groups t.0 (group_after_release (takes_of (get_or (view_of k).groups t.0 no_group)) (get_or (view_of k).groups t.0 no_group)) })
    go None e h = release_nothing k t no_group there e
    go (Some p) e h = absurd (cc)

-- a view after a release at this topic's group
abbrev pub released_at : View → Topic → View
released_at v t = record v { groups = set v.groups t.0 (group_after_release (takes_of (get_or v.groups t.0 no_group)) (get_or v.groups t.0 no_group)) }

-- whose part is due there
abbrev pub due_id_at : View → Topic → Option TxnId
due_id_at v t = option_map (λ (p : Pending). p.part.id) (due_part (get_or v.groups t.0 no_group).topic)
