-- A topic that an accepted frame makes, and its being taken back where the frame finds no memory.
use Rattle.delivery.proofs.Words.All.{◌≡◌, ℕ, ◌-◌, ◌<◌, Bool, true, false, cond, not, ◌&&◌, List, [], ◌∷◌, ◌++◌, length, refl, sym, ap, ◌∙◌, arith, codes, nat_lt, take, Option, false≢true, lt-ltb, ltb-true, and_parts, length-append, length-map, Command, RawFrame, is_connect, Unread, Action, takes_memory, field, has_destination, with_destination, is_known, max_topics, Held, Core, names_at, session_at, Asks, AsksNamed, AsksUnnamed, MayLack, accepted_stage, staged_endpoint, IsReached, View, EndpointView, group_view, made_group, view_of}
use Rattle.stomp_frame.specs.declared.command.Command.TheVariants as commands
use Rattle.delivery.specs.Inner.Nexts.{AsksOver, changed_endpoint}
use Rattle.delivery.specs.Inner.View.{grouped_view}
use Rattle.delivery.proofs.Core.NamesFew.{room_for}
use Rattle.delivery.proofs.Views.Events.WantsMemory.{by_session}
use Rattle.delivery.proofs.Views.Senders.SendsAreToTopics.{topics_as_named}
use Rattle.delivery.proofs.Views.Verdicts.VerdictTable.{last_dropped}

-- the frame makes its topic
abbrev pub is_first_use : Core → RawFrame → Bool
is_first_use k f = has_destination f.command && not (is_known (field (codes "destination") f) (names_at k))

-- there are as many groups as names
groups_named : (k : Core) → IsReached k → length (view_of k).groups ≡ length (names_at k)
groups_named k reached = length-map k.world.topics (group_view k.world) ∙ topics_as_named k reached

not_less : (m n : ℕ) → m ≡ n → nat_lt m n ≡ false
not_less m n e = (elim (nat_lt m n) as (λ (b : Bool). nat_lt m n ≡ b → b ≡ false) [ true ↦ λ h. (let l = ltb-true m n h in absurd (omega (arith, l, e))) | false ↦ λ h. refl ]) refl

one_more : (m : ℕ) (names : List (List ℕ)) (name : List ℕ) → m ≡ length names → nat_lt m (length (names ++ name ∷ [])) ≡ true
one_more m names name e = let n = length-append names (name ∷ []) in lt-ltb m (length (names ++ name ∷ [])) (omega (arith, n, e))

-- the names that a frame leaves, as whether it has a destination and whether that is known say
abbrev names_by : Core → RawFrame → Bool → Bool → List (List ℕ)
names_by k f a b = cond a (cond b (names_at k) (names_at k ++ field (codes "destination") f ∷ [])) (names_at k)

-- there is a name without a group exactly where the frame makes its topic
lacks_group : (k : Core) (f : RawFrame) → IsReached k → (a b : Bool) → nat_lt (length (view_of k).groups) (length (names_by k f a b)) ≡ (a && not b)
lacks_group k f reached true true = not_less (length (view_of k).groups) (length (names_at k)) (groups_named k reached)
lacks_group k f reached true false = one_more (length (view_of k).groups) (names_at k) (field (codes "destination") f) (groups_named k reached)
lacks_group k f reached false b = not_less (length (view_of k).groups) (length (names_at k)) (groups_named k reached)

last_name : (k : Core) (f : RawFrame) → is_first_use k f ≡ true → take (length (with_destination f (names_at k)) - 1) (with_destination f (names_at k)) ≡ names_at k
last_name k f used = by (has_destination f.command) (is_known (field (codes "destination") f) (names_at k)) used
  where
    by : (a b : Bool) → (a && not b) ≡ true → take (length (names_by k f a b) - 1) (names_by k f a b) ≡ names_at k
    by true false e = last_dropped (names_at k) (field (codes "destination") f)
    by true true e = absurd (false≢true e)
    by false b e = absurd (false≢true e)

-- a frame that makes its topic has a destination
pub has_destination_of : (k : Core) (f : RawFrame) → is_first_use k f ≡ true → has_destination f.command ≡ true
has_destination_of k f used = (and_parts (has_destination f.command) _ used).0

-- and so is no CONNECT
pub uses_other : (command : Command) → has_destination command ≡ true → is_connect command ≡ false
uses_other commands.Connect e = absurd (false≢true e)
uses_other commands.Stomp e = absurd (false≢true e)
uses_other _ e = refl

takes_by : (command : Command) (s : Held) (f : RawFrame) → has_destination command ≡ true → takes_memory command s f ≡ true
takes_by commands.Send s f has = refl
takes_by commands.Subscribe s f has = refl
takes_by _ s f has = absurd (false≢true has)

-- a group of the last name changes no endpoint
pub grouped_length : (v : View) → length (grouped_view v).endpoints ≡ length v.endpoints
grouped_length v = elim (nat_lt (length v.groups) (length v.names)) as (λ (b : Bool). length (cond b (record v { groups = v.groups ++ made_group (length v.groups) ∷ [] }) v).endpoints ≡ length v.endpoints) [ true ↦ refl | false ↦ refl ]

module _ (k : Core) (c : ℕ) (f : RawFrame) (left : Unread) (action : Action) (receipt : Option (List ℕ)) (held : View) where
  abbrev stage : EndpointView → EndpointView
  stage = staged_endpoint (accepted_stage k c f left)

  -- it asks so where another view is held, over another base
  again : {base other seen : View} → AsksOver base k c f left action receipt held → seen ≡ changed_endpoint stage c other → AsksOver other k c f left action receipt seen
  again asks view = record { reached = asks.reached; idle = asks.idle; read = asks.read; cased = asks.cased; free = asks.free; does = asks.does; wants = asks.wants; view = view }

  -- so it is said of what is held once the frame is accepted
  pub made_is : AsksNamed k c f left action receipt held → nat_lt (length held.groups) (length held.names) ≡ is_first_use k f
  made_is asks =
      ap (λ (v : View). nat_lt (length v.groups) (length v.names)) asks.view
      ∙ lacks_group k f asks.reached (has_destination f.command) (is_known (field (codes "destination") f) (names_at k))

  -- where there is no room for a group, none is made
  pub named_room : AsksNamed k c f left action receipt held → length held.groups < length held.names → length held.groups < max_topics
  named_room asks less = by (has_destination f.command) refl (is_known (field (codes "destination") f) (names_at k)) refl
    where
      used : is_first_use k f ≡ true
      used = sym (made_is asks) ∙ lt-ltb (length held.groups) (length held.names) less

      many : length held.groups ≡ length (names_at k)
      many = ap (λ (v : View). length v.groups) asks.view ∙ groups_named k asks.reached

      by : (a : Bool) → has_destination f.command ≡ a → (b : Bool) → is_known (field (codes "destination") f) (names_at k) ≡ b → length held.groups < max_topics
      by true has true known = absurd (false≢true (sym (λ i. has i && not (known i)) ∙ used))
      by true has false new = let l = room_for (session_at k c) f asks.free has new in omega (arith, l, many)
      by false has b known = absurd (false≢true (sym (λ i. has i && not (known i)) ∙ used))

  -- with its group the destination has its topic
  pub grouped_asks : AsksNamed k c f left action receipt held → Asks k c f left action receipt (grouped_view held)
  grouped_asks asks = again asks (ap grouped_view asks.view ∙ by (has_destination f.command) (is_known (field (codes "destination") f) (names_at k)))
    where
      v : View
      v = view_of k

      grown : List (List ℕ)
      grown = names_at k ++ field (codes "destination") f ∷ []

      by : (a b : Bool) → grouped_view (changed_endpoint stage c (record v { names = names_by k f a b }))
          ≡ changed_endpoint stage c (cond (a && not b) (record v { names = grown; groups = v.groups ++ made_group (length v.groups) ∷ [] }) v)
      by true true =
          ap (λ (t : Bool). cond t (record (changed_endpoint stage c v) { groups = v.groups ++ made_group (length v.groups) ∷ [] }) (changed_endpoint stage c v))
          (lacks_group k f asks.reached true true)
      by true false =
          ap (λ (t : Bool). cond t (changed_endpoint stage c (record v { names = grown; groups = v.groups ++ made_group (length v.groups) ∷ [] })) (changed_endpoint stage c (record v { names = grown })))
          (lacks_group k f asks.reached true false)
      by false b =
          ap (λ (t : Bool). cond t (record (changed_endpoint stage c v) { groups = v.groups ++ made_group (length v.groups) ∷ [] }) (changed_endpoint stage c v))
          (lacks_group k f asks.reached false b)

  -- without the name all is what it was but for its endpoint
  pub name_taken : AsksNamed k c f left action receipt held → is_first_use k f ≡ true
      → AsksUnnamed k c f left action receipt (record held { names = take (length held.names - 1) held.names })
  name_taken asks used = again asks (ap (λ (v : View). record v { names = take (length v.names - 1) v.names }) asks.view
      ∙ ap (λ (names : List (List ℕ)). changed_endpoint stage c (record (view_of k) { names = names })) (last_name k f used))

  -- neither with its group
  pub topic_taken : Asks k c f left action receipt held → is_first_use k f ≡ true
      → AsksUnnamed k c f left action receipt (record held { names = take (length held.names - 1) held.names; groups = take (length held.groups - 1) held.groups })
  topic_taken asks used = again asks (ap (λ (v : View). record v { names = take (length v.names - 1) v.names; groups = take (length v.groups - 1) v.groups }) (asks.view ∙ ap (λ (t : Bool). changed_endpoint stage c (cond t made (view_of k))) used)
      ∙ (λ i. changed_endpoint stage c (record (view_of k) { names = last_dropped (names_at k) (field (codes "destination") f) i; groups = last_dropped (view_of k).groups (made_group (length (view_of k).groups)) i })))
    where
      made : View
      made = record (view_of k) { names = names_at k ++ field (codes "destination") f ∷ []; groups = (view_of k).groups ++ made_group (length (view_of k).groups) ∷ [] }

  -- where it makes no topic there is none to take back
  pub none_taken : Asks k c f left action receipt held → is_first_use k f ≡ false → AsksUnnamed k c f left action receipt held
  none_taken asks none = again asks (asks.view
      ∙ ap (λ (t : Bool). changed_endpoint stage c (cond t (record (view_of k) { names = names_at k ++ field (codes "destination") f ∷ []; groups = (view_of k).groups ++ made_group (length (view_of k).groups) ∷ [] }) (view_of k))) none)

  -- there is a group, and a name, to take back
  pub some_taken : Asks k c f left action receipt held → is_first_use k f ≡ true → (0 < length held.groups) × (0 < length held.names)
  some_taken asks used =
      let view = asks.view ∙ ap (λ (t : Bool). changed_endpoint stage c (cond t (record (view_of k) { names = names_at k ++ field (codes "destination") f ∷ []; groups = (view_of k).groups ++ made_group (length (view_of k).groups) ∷ [] }) (view_of k))) used in
      let groups = ap (λ (v : View). length v.groups) view ∙ length-append (view_of k).groups (made_group (length (view_of k).groups) ∷ []) in
      let names = ap (λ (v : View). length v.names) view ∙ length-append (names_at k) (field (codes "destination") f ∷ []) in (omega (arith, groups), omega (arith, names))

  -- a frame that makes its topic wants memory
  pub first_use_wants : is_first_use k f ≡ true → MayLack k c f
  first_use_wants used = by_session k c f (takes_by f.command (session_at k c) f (and_parts _ _ used).0)
