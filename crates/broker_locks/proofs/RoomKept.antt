-- Each call of a topic behind a lock keeps room for whoever is waited for.
use Rattle.std.proofs.Common.{◌≡◌, ◌≢◌, ℕ, zero, suc, ◌+◌, ◌-◌, ◌<◌, ◌≤◌, ◌==◌, ◌&&◌, nat_lt, not, Bool, true, false, cond, inl, inr, [], length, Option, Some, None, Result, Ok, Err, OnOk, OnErr, refl, sym, ap, subst, ◌∙◌, arith}
use Rattle.std.specs.Option.{is_some, option_map_or}
use Rattle.std.proofs.lemmas.Bool.{eq-eqb, true≢false, not-true}
use Rattle.std.proofs.lemmas.Bool.Decides.{nat_tests}
use Rattle.std.proofs.Math.Bool.{Bool-set}
use Rattle.std.proofs.Math.Logic.{∥∥₁_elim}
use Rattle.mcast_txn.specs.Lists.{In, insert_by_number}
use Rattle.mcast_txn.proofs.Inserting.{In-insert_cases}
use Rattle.mcast_txn.proofs.Members.{In-filter_cases}
use Rattle.mcast_txn.specs.declared.stamp.Stamp.{Stamp}
use Rattle.sub_queue.specs.Shown.{Gauge, Shown, room}
use Rattle.mcast_group.specs.CellGroup.{ProposalState}
use Rattle.mcast_group.specs.Group.{GroupState, gauge_at, shown_at, shown_with, shows}
use Rattle.mcast_group.specs.Machine.{Entry, find_entry, next_number}
use Rattle.mcast_group.specs.declared.fault.SubFault.TheVariants.{SubInUse}
use Rattle.mcast_group.proofs.Parts.{none_some}
use Rattle.broker_locks.specs.KeptTrace.{was_used}
use Rattle.broker_locks.specs.Place.{IsBalanced, PlaceState, place_after_propose, place_after_subscribe, place_after_unsubscribe, place_subscribe_fault}
use Rattle.broker_locks.specs.Room.{HasHeard, HasRoom, KeepsRoom, RoomState, due_at, fits, is_waited_for, one_given_back, one_reserved, passing_over, more_reserved, room_after_enter, takes_more, waiting_for, waiting_without}
use Rattle.broker_locks.specs.Inner.Waited.{HaveSpare, spare_after_enter}
use Rattle.broker_locks.proofs.Hearing.{fits_less, keeps_heard, room_more}
use Rattle.broker_locks.proofs.Lookups.{beside_ended, beside_new}
use Rattle.broker_locks.proofs.Roomy.{entered_longer, keeps_of, room_of}

-- ---- what fits

-- whose outlet takes so many items has room for them
pub fits_room : (due some : ℕ) (g : GroupState) (n : ℕ) → HasRoom some g n → fits due g n ≡ true → HasRoom due g n
fits_room due some g n h f =
    let is : shown_at n g ≡ Some (shows h.entry h.gauge) = ap (λ (o : Option Entry). shown_with o (gauge_at n g.topic.subscriptions g.gauges)) h.found ∙ ap (shown_with (Some h.entry)) h.gauged in
    let takes : takes_more due (shows h.entry h.gauge) ≡ true = sym (ap (λ (o : Option Shown). option_map_or (takes_more due) o false) is) ∙ f in
    record { entry = h.entry; gauge = h.gauge; found = h.found; gauged = h.gauged; is_open = h.is_open; fits = at_least (room (shows h.entry h.gauge)) takes }
  where
    at_least : (r : ℕ) → not (nat_lt r due) ≡ true → due ≤ r
    at_least r t = grind (arith, nat_tests)

-- who has room for so many items has an outlet that takes them
pub room_fits : (due : ℕ) (g : GroupState) (n : ℕ) → HasRoom due g n → fits due g n ≡ true
room_fits due g n h =
    let is : shown_at n g ≡ Some (shows h.entry h.gauge) = ap (λ (o : Option Entry). shown_with o (gauge_at n g.topic.subscriptions g.gauges)) h.found ∙ ap (shown_with (Some h.entry)) h.gauged in
    ap (λ (o : Option Shown). option_map_or (takes_more due) o false) is ∙ at_least (room (shows h.entry h.gauge)) h.fits
  where
    at_least : (r : ℕ) → due ≤ r → not (nat_lt r due) ≡ true
    at_least r le = grind (arith, nat_tests)

-- ---- what is spared

more_due : (spare : ℕ) (state : RoomState) (g : GroupState) → due_at (more_reserved spare state) g ≡ due_at state g + spare
more_due spare state g = omega arith

have_spare : (spare : ℕ) (state : RoomState) (g : GroupState) → KeepsRoom (more_reserved spare state) g → HaveSpare spare state g
have_spare spare state g keeps n i = subst (λ (k : ℕ). fits k g n ≡ true) (more_due spare state g) (room_fits (due_at (more_reserved spare state) g) g n (keeps n i))

-- whoever is waited for takes the spare, where room is kept for it
pub known_spare : (spare : ℕ) (state : RoomState) (g : GroupState) → ∥ KeepsRoom (more_reserved spare state) g ∥₁ → HaveSpare spare state g
known_spare spare state g keeps n i = ∥∥₁_elim keeps (Bool-set _ _) (λ k. have_spare spare state g k n i)

-- room is kept for the spare, where whoever is waited for takes it
pub keeps_spare : (spare : ℕ) (some state : RoomState) (g : GroupState) → ((n : ℕ) → In n state.waited → In n some.waited) → KeepsRoom some g → HaveSpare spare state g → KeepsRoom (more_reserved spare state) g
keeps_spare spare some state g fewer keeps have n i =
    subst (λ (k : ℕ). HasRoom k g n) (sym (more_due spare state g)) (fits_room (due_at state g + spare) (due_at some g) g n (keeps n (fewer n i)) (have n i))

-- ---- a reservation

-- a reservation keeps room
pub keeps_reserve : (r : Result Unit (Option ℕ)) (had spare : ℕ) (old new : RoomState) (g : GroupState) → OnOk r (new ≡ one_reserved old) → OnOk r (HaveSpare spare new g) → OnErr r (new ≡ old) → OnErr r (spare ≡ had) → KeepsRoom (more_reserved had old) g → KeepsRoom (more_reserved spare new) g
keeps_reserve (Err e) had spare old new g ok have err same keeps = rw (err, same) keeps
keeps_reserve (Ok u) had spare old new g ok have err same keeps =
    keeps_spare spare (more_reserved had old) new g (λ n i. subst (λ (s : RoomState). In n s.waited) ok i) keeps have

-- what is given back keeps room
pub keeps_given_back : (spare : ℕ) (state : RoomState) (g : GroupState) → KeepsRoom (more_reserved spare state) g → KeepsRoom (more_reserved spare (one_given_back state)) g
keeps_given_back spare state g keeps = keeps_of (more_reserved spare state) (more_reserved spare (one_given_back state)) g g refl refl (λ n i. i) (omega arith) keeps

-- ---- a part that enters

-- who has room for all that are due is left
pub keeps_passed : (state : RoomState) (g : GroupState) → ((n : ℕ) → In n state.waited → HasRoom 0 g n) → KeepsRoom (passing_over g state) g
keeps_passed state g some n i =
    let f = In-filter_cases (fits (due_at state g) g) n state.waited i in
    fits_room (due_at state g) 0 g n (some n f.stands) f.passes

-- where a part was entered, whoever was waited for takes what was spared, but for one
pub entered_spare : (spare : ℕ) (state : RoomState) (floor : Stamp) (proposal : ProposalState) (old : PlaceState) → 0 < spare → HaveSpare spare state old.cells.group → HaveSpare 0 state (place_after_propose floor proposal old).cells.group
entered_spare spare state floor proposal old some have n i =
    let longer = entered_longer (record { part = proposal.part; number = next_number floor old.cells.group.topic; learnt = None }) old.cells.group.topic.pending in
    let less : due_at state (place_after_propose floor proposal old).cells.group + 0 ≤ due_at state old.cells.group + spare = omega (arith, longer, some) in
    fits_less _ (due_at state old.cells.group + spare) old.cells.group n less (have n i)

-- a part that is entered keeps room
pub keeps_enter : (with_reserved : Bool) (spare left : ℕ) (state new_state : RoomState) (floor : Stamp) (proposal : ProposalState) (old new : PlaceState) → HasHeard (place_after_propose floor proposal old) new → new_state ≡ room_after_enter with_reserved new.cells.group state → left ≡ spare_after_enter with_reserved state spare
    → KeepsRoom (more_reserved spare state) old.cells.group → KeepsRoom (more_reserved left new_state) new.cells.group
keeps_enter with_reserved spare left state new_state floor proposal old new heard is leaves keeps = rw (is, leaves) (go (with_reserved && nat_lt 0 state.reserved) refl)
  where
    mid : PlaceState
    mid = place_after_propose floor proposal old

    longer : length mid.cells.group.topic.pending ≡ length old.cells.group.topic.pending + 1
    longer = entered_longer (record { part = proposal.part; number = next_number floor old.cells.group.topic; learnt = None }) old.cells.group.topic.pending

    is_reserved : (b : Bool) → (b && nat_lt 0 state.reserved) ≡ true → 0 < state.reserved
    is_reserved true e = grind (arith, nat_tests)
    is_reserved false e = absurd (true≢false (sym e))

    passed : KeepsRoom (passing_over new.cells.group state) new.cells.group
    passed = keeps_passed state new.cells.group (λ n i.
        room_more 0 n mid.cells.group new.cells.group heard.topic (heard.each n) (room_of (due_at (more_reserved spare state) old.cells.group) 0 n old.cells.group mid.cells.group refl refl (omega arith) (keeps n i)))

    -- where one was spared, all have room for the others, and nobody is passed over
    spared : (k : ℕ) → spare ≡ k → KeepsRoom (more_reserved (k - 1) (passing_over new.cells.group state)) new.cells.group
    spared zero e = subst (λ (s : RoomState). KeepsRoom s new.cells.group) (nothing_more (passing_over new.cells.group state)) passed
      where
        nothing_more : (s : RoomState) → s ≡ more_reserved (0 - 1) s
        nothing_more s = ap (λ (r : ℕ). record s { reserved = r }) (omega arith)
    spared (suc k) e = λ n i.
        let f = In-filter_cases (fits (due_at state new.cells.group) new.cells.group) n state.waited i in
        keeps_heard (more_reserved (suc k - 1) state) mid new heard
        (keeps_of (more_reserved spare state) (more_reserved (suc k - 1) state) old.cells.group mid.cells.group refl refl (λ m j. j) (omega (arith, longer, e)) keeps) n f.stands

    go : (b : Bool) → (with_reserved && nat_lt 0 state.reserved) ≡ b → KeepsRoom (more_reserved (cond b spare (spare - 1)) (cond b (one_given_back state) (passing_over new.cells.group state))) new.cells.group
    go true e =
        let some : 0 < state.reserved = is_reserved with_reserved e in
        keeps_heard (more_reserved spare (one_given_back state)) mid new heard
        (keeps_of (more_reserved spare state) (more_reserved spare (one_given_back state)) old.cells.group mid.cells.group refl refl (λ n i. i) (omega (arith, longer, some)) keeps)
    go false e = spared spare refl

-- ---- who is waited for

-- one more
pub keeps_waiting : (spare : ℕ) (n : ℕ) (state : RoomState) (g : GroupState) → (is_waited_for n state ≡ false → HasRoom (due_at state g + spare) g n) → KeepsRoom (more_reserved spare state) g → KeepsRoom (more_reserved spare (waiting_for n state)) g
keeps_waiting spare n state g has keeps = go (is_waited_for n state) refl
  where
    go : (b : Bool) → is_waited_for n state ≡ b → KeepsRoom (more_reserved spare (cond b state (record state { waited = insert_by_number (λ m. m) n state.waited }))) g
    go true e = λ m i. keeps m i
    go false e = λ m i. elim (In-insert_cases _ m n state.waited i) [
      | inl is ↦ subst (λ (k : ℕ). HasRoom (due_at (more_reserved spare state) g) g k) is (subst (λ (k : ℕ). HasRoom k g n) (sym (more_due spare state g)) (has e))
      | inr j ↦ keeps m j
    ]

-- one less
pub keeps_without : (n : ℕ) (state : RoomState) (g : GroupState) → KeepsRoom state g → KeepsRoom (waiting_without n state) g
keeps_without n state g keeps m i = keeps m (In-filter_cases (λ (k : ℕ). not (k == n)) m state.waited i).stands

-- ---- subscriptions

not_found : (number : ℕ) (place : PlaceState) → place_subscribe_fault number place ≡ None → is_some (find_entry number place.cells.group.topic.subscriptions) ≡ false
not_found number place e = go (was_used number place.kept) (is_some (find_entry number place.cells.group.topic.subscriptions)) e
  where
    go : (b c : Bool) → cond b (Some SubInUse) (cond c (Some SubInUse) None) ≡ None → c ≡ false
    go true c k = none_some SubInUse (sym k)
    go false true k = none_some SubInUse (sym k)
    go false false k = refl

-- a subscription that begins takes room from none
pub keeps_begun : (state : RoomState) (number : ℕ) (gauge : Gauge) (place : PlaceState) → place_subscribe_fault number place ≡ None → KeepsRoom state place.cells.group → KeepsRoom state (place_after_subscribe number gauge place).cells.group
keeps_begun state number gauge place allowed keeps n i =
    let h = keeps n i in
    let x = place.cells.group.topic in
    let differ : number ≢ n = λ d. true≢false (sym (ap (λ (m : ℕ). is_some (find_entry m x.subscriptions)) d ∙ ap is_some h.found) ∙ not_found number place allowed) in
    let new : Entry = record { number = number; from = x.frontier; to = None; accepted = [] } in
    let has = beside_new n new gauge x.subscriptions place.cells.group.gauges h.entry h.gauge differ (record { found = h.found; gauged = h.gauged }) in
    record { entry = h.entry; gauge = h.gauge; found = has.found; gauged = has.gauged; is_open = h.is_open; fits = h.fits }

-- nor does one that ends, which isn't waited for any more
pub keeps_ended : (state : RoomState) (number : ℕ) (place : PlaceState) → IsBalanced place → KeepsRoom state place.cells.group → KeepsRoom (waiting_without number state) (place_after_unsubscribe number place).cells.group
keeps_ended state number place balanced keeps n i =
    let f = In-filter_cases (λ (k : ℕ). not (k == number)) n state.waited i in
    let h = keeps n f.stands in
    let x = place.cells.group.topic in
    let differ : number ≢ n = λ d. true≢false (sym (eq-eqb n number (sym d)) ∙ not-true (n == number) f.passes) in
    let has = beside_ended n number x.subscriptions place.cells.group.gauges h.entry h.gauge differ balanced.sound.numbers (record { found = h.found; gauged = h.gauged }) in
    record { entry = h.entry; gauge = h.gauge; found = has.found; gauged = has.gauged; is_open = h.is_open; fits = h.fits }

-- ---- what else a topic keeps

-- as outlets are told, its limit and its tickets stay
pub heard_limit : (old new : PlaceState) → HasHeard old new → new.cells.group.topic.log_limit ≡ old.cells.group.topic.log_limit
heard_limit old new h = ap (λ x. x.log_limit) h.topic

pub heard_tickets : (old new : PlaceState) → HasHeard old new → new.tickets ≡ old.tickets
heard_tickets old new h = ap (λ (p : PlaceState). p.tickets) h.same

-- ---- by what a call answers

-- what holds of what was done, and of what was there, holds of what is there now
pub either : {A E : Type 0} (P : PlaceState → Type 0) (r : Result A E) (old done new : PlaceState) → OnOk r (new ≡ done) → OnErr r (new ≡ old) → P done → P old → P new
either P (Ok a) old done new ok err h k = subst P (sym ok) h
either P (Err e) old done new ok err h k = subst P (sym err) k

pub keeps_wait : (b : Bool) (n had spare : ℕ) (old new : RoomState) (g : GroupState) → spare ≤ had → (b ≡ true → new ≡ waiting_for n old) → (b ≡ true → is_waited_for n old ≡ false → HasRoom (due_at old g + spare) g n) → (b ≡ false → new ≡ old) → KeepsRoom (more_reserved had old) g → KeepsRoom (more_reserved spare new) g
keeps_wait b n had spare old new g le done has same keeps = go b refl
  where
    less : KeepsRoom (more_reserved spare old) g
    less = keeps_of (more_reserved had old) (more_reserved spare old) g g refl refl (λ m i. i) (omega (arith, le)) keeps

    go : (c : Bool) → b ≡ c → KeepsRoom (more_reserved spare new) g
    go true e = subst (λ (s : RoomState). KeepsRoom (more_reserved spare s) g) (sym (done e)) (keeps_waiting spare n old g (has e) less)
    go false e = subst (λ (s : RoomState). KeepsRoom (more_reserved spare s) g) (sym (same e)) less

pub keeps_pass_over : (b : Bool) (n spare : ℕ) (old new : RoomState) (g : GroupState) → (b ≡ true → new ≡ waiting_without n old) → (b ≡ false → new ≡ old) → KeepsRoom (more_reserved spare old) g → KeepsRoom (more_reserved spare new) g
keeps_pass_over true n spare old new g done same keeps = subst (λ (s : RoomState). KeepsRoom (more_reserved spare s) g) (sym (done refl)) (keeps_without n (more_reserved spare old) g keeps)
keeps_pass_over false n spare old new g done same keeps = subst (λ (s : RoomState). KeepsRoom (more_reserved spare s) g) (sym (same refl)) keeps
