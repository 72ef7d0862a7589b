-- Outlets that are told what was taken have no less room.
use Rattle.std.proofs.Common.{◌≡◌, ℕ, ◌+◌, ◌≤◌, ◌==◌, Bool, true, false, length, Option, Some, None, IfSome, refl, sym, ap, subst, ◌∙◌, arith}
use Rattle.std.specs.Option.{option_map, option_map_or}
use Rattle.std.proofs.lemmas.Bool.{eqb-true, true≢false}
use Rattle.std.proofs.lemmas.Bool.Decides.{nat_tests}
use Rattle.sub_queue.specs.Shown.{Gauge, Shown, known_taken, room, shown_told}
use Rattle.mcast_group.specs.Group.{GroupState, IsTold, gauge_at, group_told, shown_at, shown_with, shows}
use Rattle.mcast_group.specs.Machine.{Entry, find_entry}
use Rattle.mcast_group.proofs.Telling.{shown_after_told}
use Rattle.broker_locks.specs.Place.{PlaceState}
use Rattle.broker_locks.specs.Room.{HasHeard, HasRoom, KeepsRoom, KnowsMore, KnowsMoreOf, RoomState, due_at, fits, takes_more}
use Rattle.broker_locks.proofs.Lookups.{shown_beside}

-- ---- hearing

knows_same : (s : Shown) → KnowsMore s s
knows_same s = record { accepted = refl; capacity = refl; taken = omega arith }

pub knows_itself : (o : Option Shown) → KnowsMoreOf o o
knows_itself None = tt
knows_itself (Some s) = knows_same s

knows_then : (a b c : Option Shown) → KnowsMoreOf a b → KnowsMoreOf b c → KnowsMoreOf a c
knows_then None None None h k = tt
knows_then None None (Some c) h k = k
knows_then None (Some b) c h k = absurd h
knows_then (Some a) None c h k = absurd h
knows_then (Some a) (Some b) None h k = k
knows_then (Some a) (Some b) (Some c) h k = record { accepted = k.accepted ∙ h.accepted; capacity = k.capacity ∙ h.capacity; taken = omega (arith, h.taken, k.taken) }

-- nothing was heard
pub heard_none : (p : PlaceState) → HasHeard p p
heard_none p = record { topic = refl; each = λ n. knows_itself (shown_at n p.cells.group); same = refl }

-- what was heard first, and then more
pub heard_then : (a b c : PlaceState) → HasHeard a b → HasHeard b c → HasHeard a c
heard_then a b c h k = record {
  topic = k.topic ∙ h.topic;
  each = λ n. knows_then (shown_at n a.cells.group) (shown_at n b.cells.group) (shown_at n c.cells.group) (h.each n) (k.each n);
  same = k.same ∙ ap (λ (p : PlaceState). record p { cells = record p.cells { group = c.cells.group } }) h.same;
}

told_itself : (taken : ℕ) (o : Option Shown) → IfSome o (λ s. known_taken s.gauge.taken ≤ taken) → KnowsMoreOf o (option_map (shown_told taken) o)
told_itself taken None h = tt
told_itself taken (Some s) h = record { accepted = refl; capacity = refl; taken = h }

-- one outlet was told
pub knows_told : (n m : ℕ) (g new : GroupState) → IsTold n g new → KnowsMoreOf (shown_at m g) (shown_at m new)
knows_told n m g new told = subst (λ (z : GroupState). KnowsMoreOf (shown_at m g) (shown_at m z)) (sym told.2) (go (n == m) refl)
  where
    go : (b : Bool) → (n == m) ≡ b → KnowsMoreOf (shown_at m g) (shown_at m (group_told n told.0 g))
    go true k =
        let is : n ≡ m = eqb-true n m k in
        subst (λ (j : ℕ). KnowsMoreOf (shown_at j g) (shown_at j (group_told n told.0 g))) is
        (subst (KnowsMoreOf (shown_at n g)) (sym (shown_after_told n told.0 g)) (told_itself told.0 (shown_at n g) told.1))
    go false k =
        subst (KnowsMoreOf (shown_at m g)) (sym (shown_beside n m told.0 g (λ d. true≢false (sym (grind (arith, nat_tests)) ∙ k)))) (knows_itself (shown_at m g))

pub heard_told : (n : ℕ) (old new : PlaceState) → IsTold n old.cells.group new.cells.group → new ≡ record old { cells = record old.cells { group = new.cells.group } } → HasHeard old new
heard_told n old new told same = record {
  topic = ap (λ (g : GroupState). g.topic) told.2;
  each = λ m. knows_told n m old.cells.group new.cells.group told;
  same = same;
}

-- ---- room

more_room : (s t : Shown) → KnowsMore s t → room s ≤ room t
more_room s t h =
    let long : length t.accepted ≡ length s.accepted = ap length h.accepted in
    omega (arith, long, h.capacity, h.taken)

-- what fits still fits
pub fits_more : (due : ℕ) (n : ℕ) (g new : GroupState) → KnowsMoreOf (shown_at n g) (shown_at n new) → fits due g n ≡ true → fits due new n ≡ true
fits_more due n g new h f = go (shown_at n g) (shown_at n new) h f
  where
    go : (a b : Option Shown) → KnowsMoreOf a b → option_map_or (takes_more due) a false ≡ true → option_map_or (takes_more due) b false ≡ true
    go None b h f = absurd (true≢false (sym f))
    go (Some s) None h f = absurd h
    go (Some s) (Some t) h f =
        let more = more_room s t h in
        grind (arith, nat_tests)

-- who has room has it still
pub room_more : (due : ℕ) (n : ℕ) (g new : GroupState) → new.topic ≡ g.topic → KnowsMoreOf (shown_at n g) (shown_at n new) → HasRoom due g n → HasRoom due new n
room_more due n g new same h r =
    let found : find_entry n new.topic.subscriptions ≡ Some r.entry = ap (λ x. find_entry n x.subscriptions) same ∙ r.found in
    let was : shown_at n g ≡ Some (shows r.entry r.gauge) = ap (λ (o : Option Entry). shown_with o (gauge_at n g.topic.subscriptions g.gauges)) r.found ∙ ap (shown_with (Some r.entry)) r.gauged in
    let is : shown_at n new ≡ shown_with (Some r.entry) (gauge_at n new.topic.subscriptions new.gauges) = ap (λ (o : Option Entry). shown_with o (gauge_at n new.topic.subscriptions new.gauges)) found in
    go found (gauge_at n new.topic.subscriptions new.gauges) refl (subst (λ (o : Option Shown). KnowsMoreOf o (shown_with (Some r.entry) (gauge_at n new.topic.subscriptions new.gauges))) was (subst (KnowsMoreOf (shown_at n g)) is h))
  where
    go : find_entry n new.topic.subscriptions ≡ Some r.entry → (o : Option Gauge) → gauge_at n new.topic.subscriptions new.gauges ≡ o → KnowsMoreOf (Some (shows r.entry r.gauge)) (shown_with (Some r.entry) o) → HasRoom due new n
    go found None e k = absurd k
    go found (Some own) e k = record { entry = r.entry; gauge = own; found = found; gauged = e; is_open = r.is_open; fits = omega (arith, r.fits, more_room (shows r.entry r.gauge) (shows r.entry own) k) }

-- room is kept as outlets are told
pub keeps_heard : (state : RoomState) (old new : PlaceState) → HasHeard old new → KeepsRoom state old.cells.group → KeepsRoom state new.cells.group
keeps_heard state old new h keeps n i =
    let due : due_at state new.cells.group ≡ due_at state old.cells.group = ap (λ x. length x.pending + state.reserved) h.topic in
    subst (λ (k : ℕ). HasRoom k new.cells.group n) (sym due) (room_more (due_at state old.cells.group) n old.cells.group new.cells.group h.topic (h.each n) (keeps n i))

-- what fits, fits where it is less
pub fits_less : (less due : ℕ) (g : GroupState) (n : ℕ) → less ≤ due → fits due g n ≡ true → fits less g n ≡ true
fits_less less due g n le f = go (shown_at n g) f
  where
    go : (o : Option Shown) → option_map_or (takes_more due) o false ≡ true → option_map_or (takes_more less) o false ≡ true
    go None f = f
    go (Some s) f = grind (arith, nat_tests)
