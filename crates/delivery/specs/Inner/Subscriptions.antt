-- Only serves proofs: what the code of the core holds once a subscription begins or ends.
use Rattle.std.specs.Prelude.{ℕ, Bool, false, List, [], ◌∷◌, ◌++◌, ◌==◌, length, get_or, set, slice_get, Option, Some, None, if◌then◌else◌}
use Rattle.std.specs.List.{find}
use Rattle.std.specs.Option.{option_map_or, option_and_then}
use Rattle.std.specs.Str.{bytes_eq}
use Rattle.mcast_txn.specs.declared.id.Topic.{Topic}
use Rattle.mcast_txn.specs.declared.stamp.Stamp.{Stamp}
use Rattle.mcast_txn.specs.Stamp.{zero_stamp}
use Rattle.sub_queue.specs.Shown.{Gauge, known_taken}
use Rattle.mcast_group.specs.Group.{GroupState, gauge_at, group_after_subscribe, group_after_unsubscribe}
use Rattle.mcast_group.specs.Machine.{Entry, find_entry, end_of}
use Rattle.stomp_session.specs.Open.{asks_parts}
use Rattle.delivery.specs.declared.stage.Stage.{Stage}
use Rattle.delivery.specs.Inner.View.{View, EndpointView, SubView, LeftView, left_view, no_endpoint, group_in}

-- what stands for a subscription that there is none of
abbrev pub no_sub : SubView
no_sub = record {
  connection = 0;
  id = [];
  parts = false;
  topic = record { 0 = 0 };
  from = zero_stamp;
  left = None;
}

-- ---- an end

-- what this entry with this gauge leaves, at a topic of this frontier
abbrev pub left_with : Stamp → Option Entry → Option Gauge → Option LeftView
left_with frontier None gauge = None
left_with frontier (Some e) None = None
left_with frontier (Some e) (Some gauge) = Some (left_view (known_taken gauge.taken) (end_of frontier e))

-- what the subscription of this number leaves at its group, if it has an entry there
abbrev pub left_in : ℕ → GroupState → Option LeftView
left_in s g =
    left_with g.topic.frontier (find_entry s g.topic.subscriptions)
    (gauge_at s g.topic.subscriptions g.gauges)

-- the same, of a subscription that is held
abbrev pub left_at : ℕ → View → Option LeftView
left_at s v = option_and_then (λ x. left_in s (group_in v x.topic)) (slice_get v.subs s)

-- the group without it, if it had an entry there
abbrev pub group_if_left : ℕ → Option LeftView → GroupState → GroupState
group_if_left s None g = g
group_if_left s (Some left) g = group_after_unsubscribe s g

-- the numbers but for the first that is this
abbrev pub without_number : ℕ → List ℕ → List ℕ
without_number s [] = []
without_number s (n ∷ ns) = if n == s then ns else n ∷ without_number s ns

-- an endpoint whose subscription s is closed
abbrev pub shorter_endpoint : ℕ → EndpointView → EndpointView
shorter_endpoint s endpoint = record endpoint { live = without_number s endpoint.live }

-- subscription s, which was this, has left this
abbrev pub closed_with : ℕ → SubView → LeftView → View → View
closed_with s x left v = record v {
  groups = set v.groups x.topic.0 (group_after_unsubscribe s (group_in v x.topic));
  endpoints = set v.endpoints x.connection (shorter_endpoint s (get_or v.endpoints x.connection no_endpoint));
  subs = set v.subs s (record x { left = Some left });
}

-- the same where it left something
abbrev pub closed_if_left : ℕ → Option LeftView → View → View
closed_if_left s None v = v
closed_if_left s (Some left) v = closed_with s (get_or v.subs s no_sub) left v

-- subscription s is closed, if it has an entry at its topic
abbrev pub closed_view : ℕ → View → View
closed_view s v = closed_if_left s (left_at s v) v

-- ---- a beginning

-- the open subscription of this id asked for parts, by the session of a connection of this stage
abbrev pub stage_parts : List ℕ → Stage → Bool
stage_parts id (Stage.Open endpoint) = asks_parts id endpoint.session
stage_parts id (Stage.Leaving parting) = false
stage_parts id Stage.Gone = false

-- the same of connection c
abbrev pub parts_in : View → ℕ → List ℕ → Bool
parts_in v c id = stage_parts id (get_or v.endpoints c no_endpoint).stage

-- an endpoint with one more subscription
abbrev pub longer_endpoint : ℕ → EndpointView → EndpointView
longer_endpoint s endpoint = record endpoint { live = endpoint.live ++ s ∷ [] }

-- the gauge of a new queue
abbrev pub new_gauge : ℕ → Gauge
new_gauge capacity = record { capacity = capacity; taken = Some 0 }

-- a new subscription of connection c with this id to t, which asks for parts or doesn't
abbrev pub subscribed_view : ℕ → List ℕ → Bool → Topic → View → View
subscribed_view c id parts t v = record v {
  groups = set v.groups t.0 (group_after_subscribe (length v.subs) (new_gauge v.capacity) (group_in v t));
  endpoints = set v.endpoints c (longer_endpoint (length v.subs) (get_or v.endpoints c no_endpoint));
  subs = v.subs
      ++ record {
        connection = c;
        id = id;
        parts = parts;
        topic = t;
        from = (group_in v t).topic.frontier;
        left = None;
      } ∷ [];
}

-- ---- a search

-- the subscription of this number has this id
abbrev pub has_sub_id : List SubView → List ℕ → ℕ → Bool
has_sub_id subs id s = option_map_or (λ x. bytes_eq x.id id) (slice_get subs s) false

-- the number of the connection's subscription with this id that isn't closed, if there is one
abbrev pub number_in : View → ℕ → List ℕ → Option ℕ
number_in v c id = find (has_sub_id v.subs id) (get_or v.endpoints c no_endpoint).live
