-- A turn of a topic.
use Rattle.delivery.proofs.Words.All.{◌≡◌, ℕ, ◌<◌, ◌≤◌, ◌-◌, Bool, true, false, not, List, [], ◌∷◌, map, length, get_or, set, Option, None, refl, sym, ap, ◌∙◌, option_or, lt-ltb, le-ltb, map-set, Topic, TxnId, Decision, first_refusal, takes_of, GroupState, TopicState, after_turn, Objection, World, topic_at, with_topic, Move, Answer, is_topic, queue_has_room, verdict_in, move_refusal, Event, Outcome, Refusal, Core, IsReached, Makes, verdict_held, group_after_turn, group_turn_count, after_turn_at, verdict_at, view_of, group_view, no_group}
use Rattle.mcast_group.specs.Group.{AreFound}
use Rattle.delivery.proofs.Machine.Effects.{made_world, made_answer}
use Rattle.delivery.proofs.Machine.QueueSteps.{turned_goes}
use Rattle.delivery.proofs.Words.Changes.{turn_is_quiet, in_outcome, refused_makes, quiet_makes}
use Rattle.delivery.proofs.Views.Events.ReleaseStep.{takes_same, gauges_stay, group_at}
use Rattle.delivery.proofs.Views.Subscriptions.TurnAsksOwnEntries.{turn_same}
use Rattle.delivery.proofs.Views.Verdicts.FoundVerdict.{verdict_is}

-- ---- a group

-- a turn with what was found is one that finds all verdicts of the table
pub turn_found : (table : List (List (Option Decision))) (g new : GroupState) (find : TxnId → Option Decision)
    → AreFound (λ part found. found ≡ verdict_at part.id table) find g.topic.pending → new ≡ record g { topic = after_turn (takes_of g) find g.topic }
    → new ≡ group_after_turn (λ id. verdict_at id table) g
turn_found table g new find found is =
    is
    ∙ ap (λ (x : TopicState). record g { topic = x })
    (turn_same (takes_of g) (takes_of g) find (λ id. verdict_at id table) g.topic (λ e f here same. refl) (λ p here. found p here))

-- the world's topic after a turn
abbrev turned : World → Topic → TopicState
turned w t = after_turn (queue_has_room w) (verdict_in w) (topic_at w t)

turned_topic : (k : Core) (t : Topic) → IsReached k
    → after_turn (takes_of (group_view k.world (topic_at k.world t))) (verdict_held (view_of k)) (topic_at k.world t) ≡ turned k.world t
turned_topic k t reached =
    let w = k.world in let x = topic_at w t in
    turn_same (takes_of (group_view w x)) (queue_has_room w) (verdict_held (view_of k)) (verdict_in w) x
    (λ e f here same. takes_same w x e f here same) (λ p here. verdict_is k p.part.id reached)

-- the group after it is that of the world's topic after it
turned_group : (k : Core) (t : Topic) → IsReached k → group_after_turn (verdict_held (view_of k)) (group_view k.world (topic_at k.world t)) ≡ group_view k.world (turned k.world t)
turned_group k t reached =
    λ i. record { topic = turned_topic k t reached i; gauges = gauges_stay k.world (topic_at k.world t) (turned k.world t) (turned_goes k.world (topic_at k.world t)) i }

-- ---- the event

turn_refusal : (w : World) (t : Topic) (b : Bool) → is_topic w t ≡ b → move_refusal w (Move.Turns t) ≡ option_or (first_refusal ((not b, Objection.NotNamed) ∷ [])) None
turn_refusal w t b there = λ i. option_or (first_refusal ((not (there i), Objection.NotNamed) ∷ [])) None

-- there is no such topic
pub turn_unnamed : (k : Core) (t : Topic) → length k.world.topics ≤ t.0 → Makes k (Event.Turn t) (Outcome.Refused Refusal.NotNamed) (view_of k)
turn_unnamed k t none =
    refused_makes k (Event.Turn t) Refusal.NotNamed (Move.Turns t) Objection.NotNamed refl refl
    (turn_refusal k.world t false (le-ltb t.0 (length k.world.topics) none)) refl refl

-- the topic learns and releases
pub turn_makes : (k : Core) (t : Topic) (n : ℕ) → IsReached k → t.0 < length k.world.topics
    → n ≡ group_turn_count (verdict_held (view_of k)) (get_or (view_of k).groups t.0 no_group) → Makes k (Event.Turn t) (Outcome.Turned n) (after_turn_at (view_of k) t.0 no_group)
turn_makes k t n reached there is =
    let w = k.world in let x = topic_at w t in let y = turned w t in let free = turn_refusal w t true (lt-ltb t.0 (length w.topics) there) in
    let count : n ≡ length y.held - length x.held =
    is
    ∙ (ap (λ (g : GroupState). group_turn_count (verdict_held (view_of k)) g) (group_at k t no_group there)
    ∙ ap (λ (z : TopicState). length z.held - length x.held) (turned_topic k t reached)) in
    let groups : set (view_of k).groups t.0 (group_after_turn (verdict_held (view_of k)) (get_or (view_of k).groups t.0 no_group))
    ≡ map (group_view w) (set w.topics t.0 y) =
    ap (λ (g : GroupState). set (view_of k).groups t.0 (group_after_turn (verdict_held (view_of k)) g)) (group_at k t no_group there)
    ∙ (ap (λ (g : GroupState). set (view_of k).groups t.0 g) (turned_group k t reached)
    ∙ sym (map-set (group_view w) w.topics t.0 y)) in
    quiet_makes k (Event.Turn t) (Outcome.Turned n) (with_topic w t y) (turn_is_quiet k.names t n k.steps) refl
    (in_outcome k (Move.Turns t) (Outcome.Turned n) (Answer.Turned t n) (made_answer w (Move.Turns t) free ∙ ap (λ (m : ℕ). Answer.Turned t m) (sym count)) refl)
    (made_world w (Move.Turns t) free) (ap (λ (gs : List GroupState). record (view_of k) { groups = gs }) groups)
