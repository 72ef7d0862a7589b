-- A Next whose frame is accepted: its destination has its topic before anything else is done.
use Rattle.delivery.proofs.Words.All.{◌≡◌, ℕ, Bool, true, false, cond, not, ◌&&◌, List, [], ◌∷◌, ◌++◌, map, length, Option, refl, sym, ap, subst, ◌∙◌, codes, length-map, map-append, In, GroupState, new_topic, RawFrame, Unread, field, has_destination, with_destination, is_known, IsKnownTo, state-later, Standing, Undecided, connection_at, speaker, Move, run, Stage, live_numbers, text_out, each_number, Core, core_for, log_limit, names_at, unread_at, accepted_of, IsReached, EndpointView, endpoint_view, group_view, made_group, new_group, stage_view, view_of}
use Rattle.delivery.specs.Inner.View.{named_view}
use Rattle.delivery.proofs.Core.Counts.{limit_counted}
use Rattle.delivery.proofs.Core.FrameWorld.{with_topic}
use Rattle.delivery.proofs.Core.NamesKnown.{known_all}
use Rattle.delivery.proofs.Views.Events.NextStep.{view_by}
use Rattle.delivery.proofs.Views.Lists.ByNumber.{each_number-same}

-- ---- the view

-- an endpoint's session takes nothing from names that come later
stage_later : (names more : List (List ℕ)) (standing : Standing) (flight : Option Undecided) (accepted : List RawFrame) (unread : Unread)
    → ((g : RawFrame) → In g accepted → IsKnownTo names g) → stage_view names standing flight accepted unread ≡ stage_view (names ++ more) standing flight accepted unread
stage_later names more Standing.Open flight accepted unread known =
    ap (λ s. Stage.Open (record { reader = unread; session = s; receipt = Rattle.delivery.specs.Inner.View.pending_receipt accepted flight })) (sym (state-later names more accepted known))
stage_later names more Standing.Leaving flight accepted unread known = refl
stage_later names more Standing.Gone flight accepted unread known = refl

-- what is held with one more name and one more group is held of the world with one more topic
made_view : (k : Core) (name : List ℕ) → k.world.log_limit ≡ log_limit
    → record (view_of k) { names = names_at k ++ name ∷ []; groups = (view_of k).groups ++ made_group (length (view_of k).groups) ∷ [] }
    ≡ view_by (names_at k ++ name ∷ []) (record k { world = with_topic k.world })
made_view k name limit =
    let names = names_at k in let w = k.world in let v = with_topic w in
    let group : made_group (length (map (group_view w) w.topics)) ≡ group_view v (new_topic (record { 0 = length w.topics }) w.log_limit 0) =
    λ i. new_group (new_topic (record { 0 = length-map w.topics (group_view w) i }) (sym limit i) 0) in
    let groups : map (group_view w) w.topics ++ made_group (length (map (group_view w) w.topics)) ∷ [] ≡ map (group_view v) v.topics =
    ap (λ (g : GroupState). map (group_view w) w.topics ++ g ∷ []) group
    ∙ sym (map-append (group_view v) w.topics (new_topic (record { 0 = length w.topics }) w.log_limit 0 ∷ [])) in
    let f : ℕ → EndpointView = λ c. endpoint_view names w c (accepted_of c k.steps) (unread_at c k.steps) (text_out k.names c k.steps) in
    let g : ℕ → EndpointView = λ c. endpoint_view (names ++ name ∷ []) v c (accepted_of c k.steps) (unread_at c k.steps) (text_out k.names c k.steps) in
    let same : (c : ℕ) → f c ≡ g c = λ c i. record {
      sender = (connection_at w c).sender;
      stage = stage_later names (name ∷ []) (connection_at w c).standing (speaker w c).flight (accepted_of c k.steps) (unread_at c k.steps) (λ x j. known_all k.names k.steps c x j) i;
      live = live_numbers c 0 w.subscriptions;
      output = text_out k.names c k.steps;
    } in
    let endpoints : each_number f 0 w.connections ≡ each_number g 0 w.connections = each_number-same f g 0 w.connections (λ m low high. same m) in
    λ i. record (view_of k) { names = names ++ name ∷ []; groups = groups i; endpoints = endpoints i }

-- what is held once a frame's destination has its topic
pub named_is : (k : Core) (f : RawFrame) → IsReached k → named_view f (view_of k) ≡ view_by (with_destination f (names_at k)) (core_for k f)
named_is k f reached = go (has_destination f.command) (is_known name names)
  where
    names : List (List ℕ)
    names = names_at k

    name : List ℕ
    name = field (codes "destination") f

    go : (a b : Bool)
        → cond (a && not b) (record (view_of k) { names = names ++ name ∷ []; groups = (view_of k).groups ++ made_group (length (view_of k).groups) ∷ [] }) (view_of k)
        ≡ view_by (cond a (cond b names (names ++ name ∷ [])) names) (record k { world = run (cond (a && not b) (Move.AddsTopic 0 ∷ []) []) k.world })
    go true true = refl
    go true false = made_view k name (subst (λ (z : Core). z.world.log_limit ≡ log_limit) (sym reached.is) (limit_counted reached.topics reached.capacity reached.steps))
    go false b = refl
