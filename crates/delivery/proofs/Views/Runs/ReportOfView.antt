-- The report of what the code holds of a core is that core's.
use Rattle.delivery.proofs.Words.All.{◌≡◌, ℕ, zero, suc, ◌+◌, ◌<◌, ◌≤◌, List, [], ◌∷◌, map, take, length, Option, Some, None, inl, inr, refl, sym, ap, ◌∙◌, arith, slice_get, enumerate_from, option_map, option_and_then, slice_get-get_or, slice_get_past, length-enumerate_from, length-map, get_or-map, cases_lt, Topic, Stamp, LogRow, Item, Gauge, GroupState, shown_with, shown_at, TopicState, Entry, EntryEnd, new_topic, find_entry, Lag, RawFrame, World, subscription_at, topic_at, entry_at, entry_items, entry_to, text_out, subscribe_frame, QueueReport, queue_report, each_number, report_of, accepted_of, Core, unread_at, names_at, View, SubView, EndpointView, view_of, group_view, queue_gauge, sub_view, left_view, endpoint_view, report_in, sub_report}
use Rattle.mcast_group.specs.declared.state.SubState.{SubState}
use Rattle.mcast_group.specs.Machine.{subscription_state, state_of_entry}
use Rattle.delivery.specs.Inner.ViewReports.{open_report, closed_report, lag_of, lag_in, queue_shown, queued_items, handed_items}
use Rattle.delivery.proofs.Views.Lists.ByNumber.{each_number-same}
use Rattle.delivery.proofs.Views.Subscriptions.GaugesOfEntries.{shown_is}
use Rattle.delivery.proofs.Machine.SubscriptionSteps.{beyond}

-- ---- lists

-- f of each value of a list by numbers
pub map-each_number : {X Y Z : Type 0} (f : Y → Z) (g : ℕ → Y) (i : ℕ) (xs : List X) → map f (each_number g i xs) ≡ each_number (λ n. f (g n)) i xs
map-each_number f g i [] = refl
map-each_number {Z = Z} f g i (x ∷ xs) = ap (λ (zs : List Z). f (g i) ∷ zs) (map-each_number f g (i + 1) xs)

-- f of each number and its value
pub map-enumerate : {X Y Z : Type 0} (f : ℕ → Y → Z) (g : ℕ → Y) (i : ℕ) (xs : List X)
    → map (λ p. f p.0 p.1) (enumerate_from i (each_number g i xs)) ≡ each_number (λ n. f n (g n)) i xs
map-enumerate f g i [] = refl
map-enumerate {Z = Z} f g i (x ∷ xs) = ap (λ (zs : List Z). f i (g i) ∷ zs) (map-enumerate f g (i + 1) xs)

logs_are : (w : World) (xs : List TopicState) → map (λ (g : GroupState). g.topic.held) (map (group_view w) xs) ≡ map (λ (x : TopicState). x.held) xs
logs_are w [] = refl
logs_are w (x ∷ xs) = ap (λ (rows : List (List LogRow)). x.held ∷ rows) (logs_are w xs)

-- ---- an open subscription

-- the group of this topic shows nothing beyond the last topic, and else the topic of this number
by_topic : {Y : Type 0} (w : World) (t : Topic) (f : GroupState → Option Y) → ((x : TopicState) → x.subscriptions ≡ [] → f (group_view w x) ≡ None)
    → option_and_then f (slice_get (map (group_view w) w.topics) t.0) ≡ f (group_view w (topic_at w t))
by_topic {Y = Y} w t f none =
    elim (cases_lt t.0 (length w.topics)) [
      | inl l ↦
          let many : t.0 < length (map (group_view w) w.topics) = omega (arith, l, length-map w.topics (group_view w)) in
          ap (λ (o : Option GroupState). option_and_then f o)
          (slice_get-get_or (map (group_view w) w.topics) t.0 (group_view w (new_topic t 0 0)) many
          ∙ ap (λ (g : GroupState). Some g) (get_or-map (group_view w) w.topics t.0 (new_topic t 0 0) (group_view w (new_topic t 0 0)) l))
      | inr g ↦
          let many : length (map (group_view w) w.topics) ≤ t.0 = omega (arith, g, length-map w.topics (group_view w)) in
          ap (λ (o : Option GroupState). option_and_then f o) (slice_get_past (map (group_view w) w.topics) t.0 many)
          ∙ sym (none (topic_at w t) (ap (λ (x : TopicState). x.subscriptions) (beyond w.topics t.0 (new_topic t 0 0) g)))
    ]

-- where the entry has lagged
lag_of_entry : (o : Option Entry) → option_and_then lag_of (option_map state_of_entry o) ≡ entry_to o
lag_of_entry None = refl
lag_of_entry (Some e) = (elim e.to as (λ (to : Option Stamp). e.to ≡ to → lag_of (state_of_entry e) ≡ e.to) [
  | None ↦ λ is. ap (λ (z : Option Stamp). lag_of (elim z [ None ↦ SubState.Open | Some end ↦ SubState.Lag end ])) is ∙ sym is
  | Some end ↦ λ is. ap (λ (z : Option Stamp). lag_of (elim z [ None ↦ SubState.Open | Some end ↦ SubState.Lag end ])) is ∙ sym is
]) refl

queued_with : (o : Option Entry) (gauge : Gauge) → queued_items (shown_with o (option_map (λ (e : Entry). gauge) o)) ≡ entry_items o
queued_with None gauge = refl
queued_with (Some e) gauge = refl

-- a subscription without an entry has no queue
no_shown : (w : World) (s : ℕ) (x : TopicState) → x.subscriptions ≡ [] → shown_at s (group_view w x) ≡ None
no_shown w s x none = shown_is w s x ∙ ap (λ (es : List Entry). shown_with (find_entry s es) (option_map (λ (e : Entry). queue_gauge w s) (find_entry s es))) none

-- where it lagged, and what its queue shows, at its topic's group
lag_is : (w : World) (t : Topic) (s : ℕ) → lag_in (map (group_view w) w.topics) t s ≡ entry_to (find_entry s (topic_at w t).subscriptions)
lag_is w t s =
    ap (λ (o : Option SubState). option_and_then lag_of o)
    (by_topic w t (λ (g : GroupState). subscription_state s g.topic)
    (λ x none. ap (λ (es : List Entry). option_map state_of_entry (find_entry s es)) none))
    ∙ lag_of_entry (find_entry s (topic_at w t).subscriptions)

queue_is : (w : World) (t : Topic) (s : ℕ) → queue_shown (map (group_view w) w.topics) t s
    ≡ shown_with (find_entry s (topic_at w t).subscriptions) (option_map (λ (e : Entry). queue_gauge w s) (find_entry s (topic_at w t).subscriptions))
queue_is w t s = by_topic w t (shown_at s) (λ x none. no_shown w s x none) ∙ shown_is w s (topic_at w t)

-- ---- a subscription

-- subscription s as it is reported, with this entry at its topic and with what it left
abbrev reported_with : World → ℕ → Option Entry → Option EntryEnd → QueueReport
reported_with w s entry closed = record {
  span = record { topic = (subscription_at w s).topic; from = (subscription_at w s).from; to = elim closed [ None ↦ entry_to entry | Some end ↦ Some end.to ] };
  cause = elim closed [ None ↦ option_map (λ end. Lag) (entry_to entry) | Some end ↦ Some end.cause ];
  queued = elim closed [ None ↦ entry_items entry | Some end ↦ end.accepted ];
  handed = take (subscription_at w s).taken (elim closed [ None ↦ entry_items entry | Some end ↦ end.accepted ]);
}

open_is : (w : World) (s : ℕ) (x : SubView) → x.topic ≡ (subscription_at w s).topic → x.from ≡ (subscription_at w s).from
    → open_report (map (group_view w) w.topics) s x ≡ reported_with w s (entry_at w s) None
open_is w s x topic from =
    let groups = map (group_view w) w.topics in let t = (subscription_at w s).topic in
    let lag : lag_in groups x.topic s ≡ entry_to (entry_at w s) = ap (λ (u : Topic). lag_in groups u s) topic ∙ lag_is w t s in
    let queue : queue_shown groups x.topic s ≡ shown_with (entry_at w s) (option_map (λ (e : Entry). queue_gauge w s) (entry_at w s)) =
    ap (λ (u : Topic). queue_shown groups u s) topic ∙ queue_is w t s in
    let queued : queued_items (queue_shown groups x.topic s) ≡ entry_items (entry_at w s) = ap queued_items queue ∙ queued_with (entry_at w s) (queue_gauge w s) in
    let handed : handed_items (queue_shown groups x.topic s) ≡ take (subscription_at w s).taken (entry_items (entry_at w s)) =
    ap handed_items queue ∙ elim (entry_at w s) as (λ (o : Option Entry). handed_items (shown_with o (option_map (λ (e : Entry). queue_gauge w s) o)) ≡ take (subscription_at w s).taken (entry_items o)) [
      | None ↦ elim ((subscription_at w s).taken) as (λ n. ◌≡◌ {A = List Item} [] (take n [])) [ zero ↦ refl | suc n ↦ refl ]
      | Some e ↦ refl
    ] in
    λ i. record { span = record { topic = topic i; from = from i; to = lag i }; cause = option_map (λ end. Lag) (lag i); queued = queued i; handed = handed i }

-- a subscription of the view is reported as the machine's
sub_is : (w : World) (s : ℕ) (began : Option RawFrame) → sub_report (map (group_view w) w.topics) s (sub_view w s began) ≡ queue_report w s
sub_is w s began = by_closed (subscription_at w s).closed refl
  where
    by_closed : (closed : Option EntryEnd) → (subscription_at w s).closed ≡ closed → sub_report (map (group_view w) w.topics) s (sub_view w s began) ≡ queue_report w s
    by_closed None is =
        ap (λ (z : Option EntryEnd). elim (option_map (left_view (subscription_at w s).taken) z) [
          | None ↦ open_report (map (group_view w) w.topics) s (sub_view w s began)
          | Some left ↦ closed_report (sub_view w s began) left
        ]) is
        ∙ (open_is w s (sub_view w s began) refl refl
        ∙ sym (ap (reported_with w s (entry_at w s)) is))
    by_closed (Some end) is =
        ap (λ (z : Option EntryEnd). elim (option_map (left_view (subscription_at w s).taken) z) [
          | None ↦ open_report (map (group_view w) w.topics) s (sub_view w s began)
          | Some left ↦ closed_report (sub_view w s began) left
        ]) is
        ∙ sym (ap (reported_with w s (entry_at w s)) is)

-- ---- all together

-- the report of the view of a core is the core's report
pub reported : (k : Core) → report_in (view_of k) ≡ report_of k
reported k =
    let w = k.world in let subs = λ (s : ℕ). sub_view w s (subscribe_frame s k.steps) in
    let endpoint = λ (c : ℕ). endpoint_view (names_at k) w c (accepted_of c k.steps) (unread_at c k.steps) (text_out k.names c k.steps) in
    let logs : map (λ (g : GroupState). g.topic.held) (map (group_view w) w.topics) ≡ map (λ (x : TopicState). x.held) w.topics = logs_are w w.topics in
    let subscriptions : map (λ (p : ℕ × SubView). sub_report (map (group_view w) w.topics) p.0 p.1) (enumerate_from 0 (each_number subs 0 w.subscriptions))
    ≡ each_number (queue_report w) 0 w.subscriptions =
    map-enumerate (sub_report (map (group_view w) w.topics)) subs 0 w.subscriptions
    ∙ each_number-same (λ s. sub_report (map (group_view w) w.topics) s (subs s)) (queue_report w) 0 w.subscriptions (λ s low high. sub_is w s (subscribe_frame s k.steps)) in
    let outs : map (λ (l : EndpointView). l.output) (each_number endpoint 0 w.connections) ≡ each_number (λ c. text_out k.names c k.steps) 0 w.connections =
    map-each_number (λ (l : EndpointView). l.output) endpoint 0 w.connections in
    λ i. record { commits = (report_of k).commits; logs = logs i; subscriptions = subscriptions i; outs = outs i }

-- ---- what is reported of each subscription

-- there are as many as subscriptions
pub subs_length : (v : View) → length (report_in v).subscriptions ≡ length v.subs
subs_length v =
    length-map (enumerate_from 0 v.subs) (λ (p : ℕ × SubView). sub_report v.groups p.0 p.1)
    ∙ length-enumerate_from 0 v.subs

-- f of each number and its value, at an index
at_number : {X Y : Type 0} (f : ℕ × X → Y) (i : ℕ) (xs : List X) (s : ℕ) → slice_get (map f (enumerate_from i xs)) s ≡ option_map (λ (x : X). f (i + s, x)) (slice_get xs s)
at_number f i [] s = refl
at_number {X = X} f i (x ∷ xs) zero = ap (λ (n : ℕ). Some (f (n, x))) (omega arith)
at_number {X = X} {Y = Y} f i (x ∷ xs) (suc s) =
    let next : i + 1 + s ≡ i + suc s = omega arith in at_number f (i + 1) xs s ∙ ap (λ (n : ℕ). option_map (λ (y : X). f (n, y)) (slice_get xs s)) next

-- the one of a number, if there is one
pub sub_reported : (v : View) (s : ℕ) → slice_get (report_in v).subscriptions s ≡ option_map (sub_report v.groups s) (slice_get v.subs s)
sub_reported v s =
    let first : 0 + s ≡ s = omega arith in
    at_number (λ (p : ℕ × SubView). sub_report v.groups p.0 p.1) 0 v.subs s
    ∙ ap (λ (n : ℕ). option_map (sub_report v.groups n) (slice_get v.subs s)) first
