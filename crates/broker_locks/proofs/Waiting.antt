-- Whoever is waited for: numbers that rise, of which each is asked in its turn.
use Rattle.std.proofs.Common.{◌≡◌, ◌≢◌, ℕ, zero, suc, ◌+◌, ◌<◌, ◌≤◌, ◌==◌, nat_lt, not, ◌&&◌, Bool, true, false, cond, inl, inr, ◌⊎◌, List, [], ◌∷◌, ◌++◌, length, take, drop, get_or, Option, Some, None, refl, sym, ap, subst, ◌∙◌, append-nil, append_assoc, min, IfSome, IfNone, Result, Ok, Err, IfOk, IfErr, OnOk, OnErr, ◌||◌, arith}
use Rattle.std.specs.List.{AllByRecursion, filter, find, list_any}
use Rattle.std.proofs.lemmas.Bool.{eq-eqb, eqb-true, ne_eqb, true≢false}
use Rattle.std.proofs.lemmas.Bool.Decides.{nat_tests}
use Rattle.std.proofs.lemmas.List.{get_or-drop, take-append-drop, take_all}
use Rattle.std.proofs.lemmas.List.Elements.{filter-append, filter_more}
use Rattle.std.proofs.lemmas.List.Filters.{FiltersInPlace}
use Rattle.std.proofs.lemmas.List.Folds.{find-append}
use Rattle.std.specs.List.{insert, remove}
use Rattle.std.specs.Option.{is_some, option_map_or, option_or}
use Rattle.std.specs.Result.{is_ok}
use Rattle.sub_queue.specs.Shown.{Shown}
use Rattle.mcast_txn.specs.Lists.{In, RisesBy}
use Rattle.mcast_txn.proofs.Inserting.{puts_in_gap, rises_inserted}
use Rattle.mcast_txn.proofs.Members.{In-filter_cases, In-get_or, any_found, any_from, filter_all, filter_same}
use Rattle.mcast_txn.proofs.Rising.{Finds, IsAt, IsGap, below_later, none_in_gap}
use Rattle.mcast_group.specs.Group.{GroupState, IsTold}
use Rattle.broker_locks.specs.Place.{PlaceState}
use Rattle.broker_locks.specs.Room.{HasHeard, IsPushed, RoomState, asked_from, due_at, fits, is_waited_for, room_after_enter, takes_more, waiting_for, wanted}
use Rattle.broker_locks.specs.PartOctets.{places_for}
use Rattle.broker_locks.specs.Inner.Waited.{HaveSpare, waited_number}
use Rattle.broker_locks.proofs.Hearing.{fits_less, fits_more}
use Rattle.broker_locks.proofs.Lookups.{shown_beside}

-- ---- lists

-- one that was asked before, or the last
in_more : (xs : List ℕ) (i : ℕ) (d n : ℕ) → i < length xs → In n (take (suc i) xs) → In n (take i xs) ⊎ (get_or xs i d ≡ n)
in_more [] i d n h m = absurd (omega (arith, h))
in_more (x ∷ xs) zero d n h (inl e) = inr e
in_more (x ∷ xs) zero d n h (inr m) = absurd m
in_more (x ∷ xs) (suc i) d n h (inl e) = inl (inl e)
in_more (x ∷ xs) (suc i) d n h (inr m) = elim (in_more xs i d n (omega (arith, h)) m) [ inl k ↦ inl (inr k) | inr e ↦ inr e ]

-- nobody is found where nobody passes
pub found_none : (p : ℕ → Bool) (xs : List ℕ) → ((n : ℕ) → In n xs → p n ≡ false) → find p xs ≡ None
found_none p [] h = refl
found_none p (x ∷ xs) h = let a = h x (inl refl) in let ih = found_none p xs (λ n i. h n (inr i)) in rw (a, ih) refl

-- the first that passes is found
pub found_first : (p : ℕ → Bool) (xs : List ℕ) (i d : ℕ) → i < length xs → ((n : ℕ) → In n (take i xs) → p n ≡ false) → p (get_or xs i d) ≡ true → find p xs ≡ Some (get_or xs i d)
found_first p [] i d l h e = absurd (omega (arith, l))
found_first p (x ∷ xs) zero d l h e = rw e refl
found_first p (x ∷ xs) (suc i) d l h e =
    let a = h x (inl refl) in
    let ih = found_first p xs i d (omega (arith, l)) (λ n m. h n (inr m)) e in
    rw (a, ih) refl

-- each that was asked before is below
pub asked_below : (xs : List ℕ) (i d n : ℕ) → RisesBy waited_number xs → i < length xs → In n (take i xs) → n < get_or xs i d
asked_below [] i d n rises l m = absurd (omega (arith, l))
asked_below (x ∷ xs) zero d n rises l m = absurd m
asked_below (x ∷ xs) (suc i) d n rises l (inl e) = subst (λ (z : ℕ). z < get_or xs i d) e (above xs i rises.0 (omega (arith, l)))
  where
    above : (ys : List ℕ) (j : ℕ) → AllByRecursion (λ (y : ℕ). x < y) ys → j < length ys → x < get_or ys j d
    above [] j all k = absurd (omega (arith, k))
    above (y ∷ ys) zero all k = all.0
    above (y ∷ ys) (suc j) all k = above ys j all.1 (omega (arith, k))
asked_below (x ∷ xs) (suc i) d n rises l (inr m) = asked_below xs i d n rises.1 (omega (arith, l)) m

all_filter : (P : ℕ → Type 0) (p : ℕ → Bool) (xs : List ℕ) → AllByRecursion P xs → AllByRecursion P (filter p xs)
all_filter P p [] all = tt
all_filter P p (x ∷ xs) all = go (p x) (all_filter P p xs all.1)
  where
    go : (b : Bool) → AllByRecursion P (filter p xs) → AllByRecursion P (cond b (x ∷ filter p xs) (filter p xs))
    go true ih = (all.0, ih)
    go false ih = ih

-- those that are kept rise
pub rises_filter : (p : ℕ → Bool) (xs : List ℕ) → RisesBy waited_number xs → RisesBy waited_number (filter p xs)
rises_filter p [] rises = tt
rises_filter p (x ∷ xs) rises = go (p x) (rises_filter p xs rises.1)
  where
    go : (b : Bool) → RisesBy waited_number (filter p xs) → RisesBy waited_number (cond b (x ∷ filter p xs) (filter p xs))
    go true ih = (all_filter (λ y. x < y) p xs rises.0, ih)
    go false ih = ih

-- ---- a number among those that are waited for

-- one that is found is waited for
pub waited_at : (xs : List ℕ) (n i : ℕ) → IsAt waited_number xs n i → list_any (λ (m : ℕ). m == n) xs ≡ true
waited_at [] n i at = absurd (omega (arith, at.in_range))
waited_at (x ∷ xs) n i at =
    any_from (λ (z : ℕ). z == n) (get_or (x ∷ xs) i x) (x ∷ xs) (In-get_or (x ∷ xs) i x at.in_range) (eq-eqb (get_or (x ∷ xs) i x) n (at.has_key x))

none_waited : (xs : List ℕ) (n : ℕ) → AllByRecursion (λ (m : ℕ). waited_number m ≢ n) xs → list_any (λ (m : ℕ). m == n) xs ≡ false
none_waited [] n all = refl
none_waited (x ∷ xs) n all = let a = ne_eqb x n all.0 in let ih = none_waited xs n all.1 in rw (a, ih) refl

-- one for which there is a gap isn't
pub unwaited_at : (xs : List ℕ) (n i : ℕ) → IsGap waited_number xs n i → list_any (λ (m : ℕ). m == n) xs ≡ false
unwaited_at xs n i gap = none_waited xs n (none_in_gap waited_number xs n i gap)

-- taking out one that is found leaves the others
pub out_found : (xs : List ℕ) (n i : ℕ) → RisesBy waited_number xs → IsAt waited_number xs n i → remove xs i ≡ filter (λ (m : ℕ). not (m == n)) xs
out_found [] n i rises at = absurd (omega (arith, at.in_range))
out_found (x ∷ xs) n zero rises at =
    let same : (x == n) ≡ true = eq-eqb x n (at.has_key x) in
    let others = filter_all (λ (m : ℕ). not (m == n)) xs (λ m k. ap not (ne_eqb m n (λ e. omega (arith, above xs m rises.0 k, e, at.has_key x)))) in
    rw (same, others) refl
  where
    above : (ys : List ℕ) (m : ℕ) → AllByRecursion (λ (y : ℕ). x < y) ys → In m ys → x < m
    above [] m all k = absurd k
    above (y ∷ ys) m all (inl e) = subst (λ (z : ℕ). x < z) e all.0
    above (y ∷ ys) m all (inr k) = above ys m all.1 k
out_found (x ∷ xs) n (suc i) rises at =
    let less : i < length xs = omega (arith, at.in_range) in
    let differs : (x == n) ≡ false = ne_eqb x n (λ e. omega (arith, asked_below (x ∷ xs) (suc i) x x rises at.in_range (inl refl), e, at.has_key x)) in
    let ih = out_found xs n i rises.1 (record { in_range = less; has_key = at.has_key }) in
    rw (differs, sym ih) refl

-- who is waited for is one of them
pub waited_in : (xs : List ℕ) (n : ℕ) → list_any (λ (m : ℕ). m == n) xs ≡ true → In n xs
waited_in xs n e =
    let f = any_found (λ (m : ℕ). m == n) xs e in
    subst (λ (m : ℕ). In m xs) (eqb-true f.it n f.passes) f.stands

-- who isn't, isn't
pub unwaited_other : (xs : List ℕ) (n m : ℕ) → list_any (λ (k : ℕ). k == n) xs ≡ false → In m xs → m ≢ n
unwaited_other xs n m e i d = true≢false (sym (any_from (λ (k : ℕ). k == n) m xs i (eq-eqb m n d)) ∙ e)

-- where one isn't there, nobody is taken out
pub out_none : (xs : List ℕ) (n i : ℕ) → IsGap waited_number xs n i → xs ≡ filter (λ (m : ℕ). not (m == n)) xs
out_none xs n i gap = sym (filter_all (λ (m : ℕ). not (m == n)) xs (λ m k. ap not (ne_eqb m n (unwaited_other xs n m (unwaited_at xs n i gap) k))))

-- ---- each is asked in its turn

-- those who were asked have room, and one more
pub asked_more : (due : ℕ) (xs : List ℕ) (i d : ℕ) (old new : PlaceState) → HasHeard old new → i < length xs → ((n : ℕ) → In n (take i xs) → fits due old.cells.group n ≡ true)
    → fits due new.cells.group (get_or xs i d) ≡ true → (n : ℕ) → In n (take (i + 1) xs) → fits due new.cells.group n ≡ true
asked_more due xs i d old new heard l asked e n m =
    let next : i + 1 ≡ suc i = omega arith in
    let k : In n (take (suc i) xs) = subst (λ (j : ℕ). In n (take j xs)) next m in
    elim (in_more xs i d n l k) [
      | inl o ↦ fits_more due n old.cells.group new.cells.group (heard.each n) (asked n o)
      | inr is ↦ subst (λ (j : ℕ). fits due new.cells.group j ≡ true) is e
    ]

-- those who were asked, and one more, have the least spare of all
pub spare_more : (due : ℕ) (xs : List ℕ) (i d least more : ℕ) (old new : PlaceState) → HasHeard old new → i < length xs → ((n : ℕ) → In n (take i xs) → fits (due + least) old.cells.group n ≡ true)
    → fits (due + more) new.cells.group (get_or xs i d) ≡ true → (n : ℕ) → In n (take (i + 1) xs) → fits (due + min least more) new.cells.group n ≡ true
spare_more due xs i d least more old new heard l asked e =
    let fewer : due + min least more ≤ due + least = omega arith in
    let fewer_here : due + min least more ≤ due + more = omega arith in
    asked_more (due + min least more) xs i d old new heard l
    (λ n m. fits_less (due + min least more) (due + least) old.cells.group n fewer (asked n m))
    (fits_less (due + min least more) (due + more) new.cells.group (get_or xs i d) fewer_here e)

-- the first who has none is found
pub first_found : (due : ℕ) (xs : List ℕ) (i d least : ℕ) (old new : PlaceState) → HasHeard old new → i < length xs → ((n : ℕ) → In n (take i xs) → fits (due + least) old.cells.group n ≡ true)
    → fits due new.cells.group (get_or xs i d) ≡ false → find (λ n. not (fits due new.cells.group n)) xs ≡ Some (get_or xs i d)
first_found due xs i d least old new heard l asked e =
    let fewer : due ≤ due + least = omega arith in
    found_first (λ n. not (fits due new.cells.group n)) xs i d l (λ n m. ap not (fits_more due n old.cells.group new.cells.group (heard.each n) (fits_less due (due + least) old.cells.group n fewer (asked n m)))) (ap not e)

-- all were asked
pub all_asked : (due : ℕ) (xs : List ℕ) (i : ℕ) (g : GroupState) → length xs ≤ i → ((n : ℕ) → In n (take i xs) → fits due g n ≡ true) → (n : ℕ) → In n xs → fits due g n ≡ true
all_asked due xs i g l asked n m = asked n (subst (In n) (sym (take_all i xs l)) m)

-- where all have room, nobody is found
pub nobody_found : (due least : ℕ) (xs : List ℕ) (g : GroupState) → ((n : ℕ) → In n xs → fits (due + least) g n ≡ true) → find (λ n. not (fits due g n)) xs ≡ None
nobody_found due least xs g asked =
    let fewer : due ≤ due + least = omega arith in
    found_none (λ n. not (fits due g n)) xs (λ n m. ap not (fits_less due (due + least) g n fewer (asked n m)))

-- whether there is a spare says whether it fits
pub spare_says : (due n : ℕ) (g : GroupState) (o : Option ℕ) → IfSome o (λ more. fits (due + more) g n ≡ true) → IfNone o (fits due g n ≡ false) → is_some o ≡ fits due g n
spare_says due n g None some none = sym none
spare_says due n g (Some more) some none = let fewer : due ≤ due + more = omega arith in sym (fits_less due (due + more) g n fewer some)

-- ---- the order in which they are asked

-- what is in two lists is in the one or in the other
in_both : (n : ℕ) (xs ys : List ℕ) → In n (xs ++ ys) → In n xs ⊎ In n ys
in_both n [] ys m = inr m
in_both n (x ∷ xs) ys (inl e) = inl (inl e)
in_both n (x ∷ xs) ys (inr m) = elim (in_both n xs ys m) [ inl k ↦ inl (inr k) | inr k ↦ inr k ]

-- who is asked is waited for
asked_waited : (start : ℕ) (xs : List ℕ) (n : ℕ) → In n (asked_from start xs) → In n xs
asked_waited start xs n m =
    elim (in_both n (filter (λ k. not (nat_lt k start)) xs) (filter (λ k. nat_lt k start) xs) m) [
      | inl k ↦ (In-filter_cases (λ k. not (nat_lt k start)) n xs k).stands
      | inr k ↦ (In-filter_cases (λ k. nat_lt k start) n xs k).stands
    ]

-- those from this number on, and those below it
pub record AskedParts (start : ℕ) (xs : List ℕ) (i : ℕ) : Type 0 where
  pub above : filter (λ n. not (nat_lt n start)) xs ≡ drop i xs
  pub below : filter (λ n. nat_lt n start) xs ≡ take i xs

asked_parts : (start : ℕ) (xs : List ℕ) (i : ℕ) → ((j d : ℕ) → j < i → j < length xs → get_or xs j d < start) → ((j d : ℕ) → i ≤ j → j < length xs → start ≤ get_or xs j d) → AskedParts start xs i
asked_parts start [] zero low high = record { above = refl; below = refl }
asked_parts start [] (suc i) low high = record { above = refl; below = refl }
asked_parts start (x ∷ xs) zero low high =
    let is : nat_lt x start ≡ false = not_below x start (high 0 x (omega arith) (omega arith)) in
    let ih = asked_parts start xs zero (λ j d h l. absurd (omega (arith, h))) (λ j d h l. high (suc j) d (omega arith) (omega (arith, l))) in
    record { above = rw (is, ih.above) refl; below = rw (is, ih.below) refl }
  where
    not_below : (a b : ℕ) → b ≤ a → nat_lt a b ≡ false
    not_below a b le = grind (arith, nat_tests)
asked_parts start (x ∷ xs) (suc i) low high =
    let is : nat_lt x start ≡ true = is_below x start (low 0 x (omega arith) (omega arith)) in
    let ih = asked_parts start xs i (λ j d h l. low (suc j) d (omega (arith, h)) (omega (arith, l))) (λ j d h l. high (suc j) d (omega (arith, h)) (omega (arith, l))) in
    record { above = rw (is, ih.above) refl; below = rw (is, ih.below) refl }
  where
    is_below : (a b : ℕ) → a < b → nat_lt a b ≡ true
    is_below a b less = grind (arith, nat_tests)

asked_of : (start : ℕ) (xs : List ℕ) (i : ℕ) → AskedParts start xs i → asked_from start xs ≡ drop i xs ++ take i xs
asked_of start xs i parts = rw (parts.above, parts.below) refl

-- where the number is waited for
pub asked_at : (start : ℕ) (xs : List ℕ) (i : ℕ) → RisesBy waited_number xs → IsAt waited_number xs start i → asked_from start xs ≡ drop i xs ++ take i xs
asked_at start xs i rises at =
    asked_of start xs i (asked_parts start xs i
    (λ j d h l. subst (λ (k : ℕ). get_or xs j d < k) (at.has_key d) (below_later waited_number xs j i d rises h at.in_range))
    (λ j d h l. elim (nat_cases i j h) [
      | inl e ↦ subst (λ (q : ℕ). start ≤ get_or xs q d) e (subst (λ (k : ℕ). start ≤ k) (sym (at.has_key d)) (omega arith))
      | inr less ↦ (let later = below_later waited_number xs i j d rises less l in
          let here : get_or xs i d ≡ start = at.has_key d in omega (arith, later, here))
    ]))
  where
    nat_cases : (a b : ℕ) → a ≤ b → (a ≡ b) ⊎ (a < b)
    nat_cases zero zero le = inl refl
    nat_cases zero (suc b) le = inr (omega arith)
    nat_cases (suc a) zero le = absurd (omega (arith, le))
    nat_cases (suc a) (suc b) le = elim (nat_cases a b (omega (arith, le))) [ inl e ↦ inl (ap suc e) | inr less ↦ inr (omega (arith, less)) ]

-- where it isn't
pub asked_gap : (start : ℕ) (xs : List ℕ) (i : ℕ) → IsGap waited_number xs start i → asked_from start xs ≡ drop i xs ++ take i xs
asked_gap start xs i gap =
    asked_of start xs i (asked_parts start xs i (λ j d h l. gap.below j d h) (λ j d h l. (let up = gap.above j d h l in omega (arith, up))))

-- two parts were asked, one after the other
module _ (due start i least : ℕ) (xs : List ℕ) (mid new : PlaceState) (heard : HasHeard mid new) (is : asked_from start xs ≡ drop i xs ++ take i xs) (first : (n : ℕ) → In n (drop i xs) → fits (due + least) mid.cells.group n ≡ true) where
  still : (less : ℕ) → less ≤ least → (n : ℕ) → In n (drop i xs) → fits (due + less) new.cells.group n ≡ true
  still less le n m =
      let fewer : due + less ≤ due + least = omega (arith, le) in
      fits_more (due + less) n mid.cells.group new.cells.group (heard.each n) (fits_less (due + less) (due + least) mid.cells.group n fewer (first n m))

  -- each has the least spare
  pub both_asked : (less : ℕ) → less ≤ least → ((n : ℕ) → In n (take i xs) → fits (due + less) new.cells.group n ≡ true) → (n : ℕ) → In n xs → fits (due + less) new.cells.group n ≡ true
  both_asked less le then n m =
      elim (in_both n (take i xs) (drop i xs) (subst (In n) (sym (take-append-drop i xs)) m)) [ inl k ↦ then n k | inr k ↦ still less le n k ]

  -- nobody lacks room
  pub both_none : (less : ℕ) → less ≤ least → ((n : ℕ) → In n (take i xs) → fits (due + less) new.cells.group n ≡ true) → find (λ n. not (fits due new.cells.group n)) (asked_from start xs) ≡ None
  both_none less le then =
      let fewer : due ≤ due + less = omega arith in
      found_none (λ n. not (fits due new.cells.group n)) (asked_from start xs) (λ n m. ap not (fits_less due (due + less) new.cells.group n fewer (both_asked less le then n (asked_waited start xs n m))))

  -- the first who lacks it is one of those below
  pub below_first : (o : Option ℕ) → find (λ n. not (fits due new.cells.group n)) (take i xs) ≡ o → find (λ n. not (fits due new.cells.group n)) (asked_from start xs) ≡ o
  below_first o found =
      let fewer : due ≤ due + 0 = omega arith in
      let none : find (λ n. not (fits due new.cells.group n)) (drop i xs) ≡ None = found_none (λ n. not (fits due new.cells.group n)) (drop i xs) (λ n m. ap not (fits_less due (due + 0) new.cells.group n fewer (still 0 (omega arith) n m))) in
      ap (find (λ n. not (fits due new.cells.group n))) is ∙ (find-append (λ n. not (fits due new.cells.group n)) (drop i xs) (take i xs) ∙ (ap (λ (f : Option ℕ). option_or f (find (λ n. not (fits due new.cells.group n)) (take i xs))) none ∙ found))

-- the first who lacks it is one of those from the number on
pub above_first : (p : ℕ → Bool) (start i number : ℕ) (xs : List ℕ) → asked_from start xs ≡ drop i xs ++ take i xs → find p (drop i xs) ≡ Some number → find p (asked_from start xs) ≡ Some number
above_first p start i number xs is found =
    ap (find p) is ∙ (find-append p (drop i xs) (take i xs) ∙ ap (λ (f : Option ℕ). option_or f (find p (take i xs))) found)

-- what follows from two facts of the value
pub ok_both : {A B : Type 0} {P Q S : A → Type 0} (r : Result A B) → ((a : A) → P a → Q a → S a) → IfOk r P → IfOk r Q → IfOk r S
ok_both (Ok a) f p q = f a p q
ok_both (Err e) f p q = tt

pub ok_both_on : {A B S : Type 0} {P Q : A → Type 0} (r : Result A B) → ((a : A) → P a → Q a → S) → IfOk r P → IfOk r Q → OnOk r S
ok_both_on (Ok a) f p q = f a p q
ok_both_on (Err e) f p q = tt

pub err_one : {A B : Type 0} {P S : B → Type 0} (r : Result A B) → ((b : B) → P b → S b) → IfErr r P → IfErr r S
err_one (Ok a) f p = tt
err_one (Err e) f p = f e p

-- what is answered where so many places are wanted
abbrev pub answer_at : ℕ → ℕ → ℕ → RoomState → GroupState → Result Unit (Option ℕ)
answer_at capacity places start state g =
    cond (nat_lt capacity places) (Err None) (elim (find (λ number. not (fits places g number)) (asked_from start state.waited)) [
      | None ↦ Ok tt
      | Some number ↦ Err (Some number)
    ])

-- where a queue has fewer, nobody is asked
pub many_refuse : (capacity places start : ℕ) (state : RoomState) (g : GroupState) → capacity < places → Err None ≡ answer_at capacity places start state g
many_refuse capacity places start state g more =
    let many : nat_lt capacity places ≡ true = grind (arith, nat_tests) in
    rw many refl

-- a reservation of the spare is allowed
pub spare_answers : (capacity places start spare : ℕ) (state : RoomState) (g : GroupState) → places ≤ capacity → places ≤ due_at state g + spare → HaveSpare spare state g → Ok tt ≡ answer_at capacity places start state g
spare_answers capacity places start spare state g less some have =
    let nobody = found_none (λ n. not (fits places g n)) (asked_from start state.waited) (λ n m. ap not (fits_less places (due_at state g + spare) g n some (have n (asked_waited start state.waited n m)))) in
    let few : nat_lt capacity places ≡ false = grind (arith, nat_tests) in
    rw (few, nobody) refl

-- so is one for which nobody lacks room
pub nobody_refuses : (capacity places start : ℕ) (state : RoomState) (g : GroupState) → places ≤ capacity → find (λ n. not (fits places g n)) (asked_from start state.waited) ≡ None → Ok tt ≡ answer_at capacity places start state g
nobody_refuses capacity places start state g less found =
    let few : nat_lt capacity places ≡ false = grind (arith, nat_tests) in
    rw (few, found) refl

-- a reservation is refused by the first who lacks room
pub first_refuses : (capacity places start number : ℕ) (state : RoomState) (g : GroupState) → places ≤ capacity → find (λ n. not (fits places g n)) (asked_from start state.waited) ≡ Some number → Err (Some number) ≡ answer_at capacity places start state g
first_refuses capacity places start number state g less found =
    let few : nat_lt capacity places ≡ false = grind (arith, nat_tests) in
    rw (few, found) refl

-- where all have room, nobody is passed over
pub spare_passes : (with_reserved : Bool) (state : RoomState) (g : GroupState) → (with_reserved && nat_lt 0 state.reserved) ≡ false → HaveSpare 0 state g → state ≡ room_after_enter with_reserved g state
spare_passes with_reserved state g none have =
    let plain : due_at state g + 0 ≡ due_at state g = omega arith in
    let all = filter_all (fits (due_at state g) g) state.waited (λ n m. subst (λ (k : ℕ). fits k g n ≡ true) plain (have n m)) in
    rw none (ap (λ (ns : List ℕ). record { reserved = state.reserved; waited = ns }) (sym all))

-- who was asked before shows the same as another is told
pub told_same : (due : ℕ) (number n : ℕ) (g new : GroupState) → IsTold number g new → number ≢ n → fits due new n ≡ fits due g n
told_same due number n g new told differ =
    ap (λ (z : GroupState). fits due z n) told.2
    ∙ ap (λ (o : Option Shown). option_map_or (takes_more due) o false) (shown_beside number n told.0 g differ)

-- those who were asked before fit as before
pub asked_same : (due : ℕ) (xs : List ℕ) (i d : ℕ) (g new : GroupState) → RisesBy waited_number xs → i < length xs → IsTold (get_or xs i d) g new → (n : ℕ) → In n (take i xs) → fits due new n ≡ fits due g n
asked_same due xs i d g new rises l told n m = told_same due (get_or xs i d) n g new told (λ e. (let below = asked_below xs i d n rises l m in omega (arith, below, e)))

-- they are kept as before
pub still_filtered : (due : ℕ) (xs ys : List ℕ) (k i d : ℕ) (g new : GroupState) → RisesBy waited_number xs → i < length xs → IsTold (get_or xs i d) g new → FiltersInPlace (fits due g) xs ys k i → FiltersInPlace (fits due new) xs ys k i
still_filtered due xs ys k i d g new rises l told h = record {
  front = h.front ∙ filter_same (fits due g) (fits due new) (take i xs) (λ n m. sym (asked_same due xs i d g new rises l told n m));
  rest = h.rest;
  behind = h.behind;
  within = h.within;
  long = h.long;
}

-- the same, as the places in front are filled
pub kept_told : (due : ℕ) (xs ys : List ℕ) (k i x : ℕ) (g new : GroupState) → RisesBy waited_number xs → i < length ys → x ≡ get_or ys i x → IsTold x g new → FiltersInPlace (fits due g) xs ys k i → FiltersInPlace (fits due new) xs ys k i
kept_told due xs ys k i x g new rises l is told h =
    let plain : i + 0 ≡ i = omega arith in
    let at : (zs : List ℕ) → get_or (drop i zs) 0 x ≡ get_or zs i x = λ (zs : List ℕ). get_or-drop i zs 0 x ∙ ap (λ (j : ℕ). get_or zs j x) plain in
    let read : x ≡ get_or xs i x = is ∙ (sym (at ys) ∙ (ap (λ (zs : List ℕ). get_or zs 0 x) h.rest ∙ at xs)) in
    still_filtered due xs ys k i x g new rises (omega (arith, l, h.long)) (subst (λ (n : ℕ). IsTold n g new) read told) h

-- the numbers that lack room
abbrev pub lack : ℕ → GroupState → List ℕ → List ℕ
lack due g xs = filter (λ n. not (fits due g n)) xs

-- they lack it as before
pub still_lack : (due : ℕ) (xs : List ℕ) (i d : ℕ) (g new : GroupState) → RisesBy waited_number xs → i < length xs → IsTold (get_or xs i d) g new → lack due new (take i xs) ≡ lack due g (take i xs)
still_lack due xs i d g new rises l told = filter_same _ _ (take i xs) (λ n m. ap not (asked_same due xs i d g new rises l told n m))

-- the first of them, and the others
pub lack_parts : (due : ℕ) (g : GroupState) (xs : List ℕ) (i : ℕ) → lack due g xs ≡ lack due g (take i xs) ++ lack due g (drop i xs)
lack_parts due g xs i = ap (lack due g) (sym (take-append-drop i xs)) ∙ filter-append (λ n. not (fits due g n)) (take i xs) (drop i xs)

-- ---- one more, and one less

-- whether a search finds it says whether it is waited for
pub search_is : (xs : List ℕ) (n : ℕ) (r : Result ℕ ℕ) → Finds waited_number xs n r → is_ok r ≡ list_any (λ (m : ℕ). m == n) xs
search_is xs n (Ok i) h = sym (waited_at xs n i h.found)
search_is xs n (Err i) h = sym (unwaited_at xs n i h.absent)

-- they rise with one more
pub put_rises : (b : Bool) (xs ys : List ℕ) (i n : ℕ) → IsGap waited_number xs n i → RisesBy waited_number xs → ys ≡ cond b (insert xs i n) xs → RisesBy waited_number ys
put_rises true xs ys i n gap rises e =
    subst (RisesBy waited_number) (sym (e ∙ puts_in_gap waited_number xs i n gap))
    (rises_inserted waited_number n xs rises (λ m k. unwaited_other xs n m (unwaited_at xs n i gap) k))
put_rises false xs ys i n gap rises e = subst (RisesBy waited_number) (sym e) rises

-- and are those with it
pub put_waits : (state : RoomState) (b : Bool) (ys : List ℕ) (i n : ℕ) → IsGap waited_number state.waited n i → ys ≡ cond b (insert state.waited i n) state.waited → b ≡ true → record { reserved = state.reserved; waited = ys } ≡ waiting_for n state
put_waits state true ys i n gap e k =
    let unwaited : is_waited_for n state ≡ false = unwaited_at state.waited n i gap in
    rw unwaited (ap (λ (zs : List ℕ). record { reserved = state.reserved; waited = zs }) (e ∙ puts_in_gap waited_number state.waited i n gap))
put_waits state false ys i n gap e k = absurd (true≢false (sym k))

-- ---- who lacks room

any_filtered : (p : ℕ → Bool) (n : ℕ) (xs : List ℕ) → list_any (λ (m : ℕ). m == n) (filter p xs) ≡ (p n && list_any (λ (m : ℕ). m == n) xs)
any_filtered p n [] = go (p n)
  where
    go : (b : Bool) → false ≡ (b && false)
    go true = refl
    go false = refl
any_filtered p n (x ∷ xs) = go (p x) refl (x == n) refl (p n) refl (any_filtered p n xs)
  where
    same : (x == n) ≡ true → p x ≡ p n
    same k = ap p (eqb-true x n k)

    go : (b : Bool) → p x ≡ b → (c : Bool) → (x == n) ≡ c → (d : Bool) → p n ≡ d → list_any (λ (m : ℕ). m == n) (filter p xs) ≡ (d && list_any (λ (m : ℕ). m == n) xs)
        → list_any (λ (m : ℕ). m == n) (cond b (x ∷ filter p xs) (filter p xs)) ≡ (d && (c || list_any (λ (m : ℕ). m == n) xs))
    go true e true k true l ih = rw k refl
    go true e true k false l ih = absurd (true≢false (sym e ∙ (same k ∙ l)))
    go true e false k true l ih = rw k ih
    go true e false k false l ih = rw k ih
    go false e true k true l ih = absurd (true≢false (sym l ∙ (sym (same k) ∙ e)))
    go false e true k false l ih = ih
    go false e false k true l ih = ih
    go false e false k false l ih = ih

-- those that lack room where so many places are wanted
abbrev pub lacking_at : ℕ → ℕ → GroupState → RoomState → List ℕ
lacking_at capacity places g state = cond (nat_lt capacity places) [] (filter (λ number. not (fits places g number)) state.waited)

-- who lacks room, of whom this is known
pub lacks : (capacity places : ℕ) (g : GroupState) (state : RoomState) (n : ℕ) → list_any (λ (m : ℕ). m == n) (lacking_at capacity places g state) ≡ (not (nat_lt capacity places) && (not (fits places g n) && is_waited_for n state))
lacks capacity places g state n = go (nat_lt capacity places)
  where
    go : (b : Bool) → list_any (λ (m : ℕ). m == n) (cond b [] (filter (λ (m : ℕ). not (fits places g m)) state.waited)) ≡ (not b && (not (fits places g n) && is_waited_for n state))
    go true = refl
    go false = any_filtered (λ (m : ℕ). not (fits places g m)) n state.waited

-- as many are due as before it was heard
pub due_heard : (state : RoomState) (old new : PlaceState) → HasHeard old new → due_at state new.cells.group ≡ due_at state old.cells.group
due_heard state old new h = ap (λ x. length x.pending + state.reserved) h.topic

-- so as many places are wanted
pub wanted_heard : (capacity octets : ℕ) (state : RoomState) (old new : PlaceState) → HasHeard old new → wanted capacity octets state new.cells.group ≡ wanted capacity octets state old.cells.group
wanted_heard capacity octets state old new h = ap (λ (due : ℕ). due + places_for capacity octets) (due_heard state old new h)

-- ---- those that lack it, added to a list

-- one more of them
pub lack_one : (due : ℕ) (xs : List ℕ) (i d : ℕ) (g new : GroupState) (base list : List ℕ) → RisesBy waited_number xs → i < length xs → IsTold (get_or xs i d) g new → fits due new (get_or xs i d) ≡ false
    → list ≡ base ++ lack due g (take i xs) → list ++ get_or xs i d ∷ [] ≡ base ++ lack due new (take (i + 1) xs)
lack_one due xs i d g new base list rises l told e is =
    let x = get_or xs i d in
    let here : cond (not (fits due new x)) (x ∷ []) [] ≡ x ∷ [] = ap (λ (b : Bool). cond (not b) (x ∷ []) []) e in
    let more : lack due new (take (i + 1) xs) ≡ lack due new (take i xs) ++ x ∷ [] = filter_more (λ n. not (fits due new n)) xs i d l ∙ ap (λ (ys : List ℕ). lack due new (take i xs) ++ ys) here in
    ap (λ (ys : List ℕ). ys ++ x ∷ []) (is ∙ ap (λ (ys : List ℕ). base ++ ys) (sym (still_lack due xs i d g new rises l told)))
    ∙ (append_assoc base (lack due new (take i xs)) (x ∷ []) ∙ ap (λ (ys : List ℕ). base ++ ys) (sym more))

-- one that has room isn't
pub lack_none : (due : ℕ) (xs : List ℕ) (i d : ℕ) (g new : GroupState) (base list : List ℕ) → RisesBy waited_number xs → i < length xs → IsTold (get_or xs i d) g new → fits due new (get_or xs i d) ≡ true
    → list ≡ base ++ lack due g (take i xs) → list ≡ base ++ lack due new (take (i + 1) xs)
lack_none due xs i d g new base list rises l told e is =
    let x = get_or xs i d in
    let here : cond (not (fits due new x)) (x ∷ []) [] ≡ [] = ap (λ (b : Bool). cond (not b) (x ∷ []) []) e in
    let more : lack due new (take (i + 1) xs) ≡ lack due new (take i xs) = filter_more (λ n. not (fits due new n)) xs i d l ∙ (ap (λ (ys : List ℕ). lack due new (take i xs) ++ ys) here ∙ append-nil (lack due new (take i xs))) in
    is ∙ ap (λ (ys : List ℕ). base ++ ys) (sym (still_lack due xs i d g new rises l told) ∙ sym more)

-- the first of them were added
pub pushed_first : (due : ℕ) (xs : List ℕ) (i d : ℕ) (g new : GroupState) (base list : List ℕ) → RisesBy waited_number xs → i < length xs → IsTold (get_or xs i d) g new
    → list ≡ base ++ lack due g (take i xs) → IsPushed (lack due new xs) base list
pushed_first due xs i d g new base list rises l told is =
    (lack due new (take i xs), lack due new (drop i xs), lack_parts due new xs i, is ∙ ap (λ (ys : List ℕ). base ++ ys) (sym (still_lack due xs i d g new rises l told)))

-- what holds anyway holds on an error
pub on_err_anyway : {A E : Type 0} {P : Type 0} (r : Result A E) → P → OnErr r P
on_err_anyway (Ok a) p = tt
on_err_anyway (Err e) p = p

-- nobody lacks room where more places are wanted than a queue has
pub lacks_full : (capacity places : ℕ) (g : GroupState) (state : RoomState) (n : ℕ) → capacity < places → false ≡ list_any (λ (m : ℕ). m == n) (lacking_at capacity places g state)
lacks_full capacity places g state n more =
    let many : nat_lt capacity places ≡ true = grind (arith, nat_tests) in
    sym (lacks capacity places g state n ∙ ap (λ (b : Bool). not b && (not (fits places g n) && is_waited_for n state)) many)

-- one that isn't waited for doesn't lack it
pub lacks_unwaited : (capacity places : ℕ) (g : GroupState) (state : RoomState) (n : ℕ) → is_waited_for n state ≡ false → false ≡ list_any (λ (m : ℕ). m == n) (lacking_at capacity places g state)
lacks_unwaited capacity places g state n e =
    sym (lacks capacity places g state n ∙ (ap (λ (w : Bool). not (nat_lt capacity places) && (not (fits places g n) && w)) e ∙ go (nat_lt capacity places) (fits places g n)))
  where
    go : (b c : Bool) → (not b && (not c && false)) ≡ false
    go false true = refl
    go false false = refl
    go true c = refl

-- nor does one that has it
pub lacks_fitting : (capacity places : ℕ) (g : GroupState) (state : RoomState) (n : ℕ) → fits places g n ≡ true → false ≡ list_any (λ (m : ℕ). m == n) (lacking_at capacity places g state)
lacks_fitting capacity places g state n e =
    sym (lacks capacity places g state n ∙ (ap (λ (w : Bool). not (nat_lt capacity places) && (not w && is_waited_for n state)) e ∙ go (nat_lt capacity places)))
  where
    go : (b : Bool) → (not b && false) ≡ false
    go true = refl
    go false = refl

-- one that is waited for and has none does
pub lacks_one : (capacity places : ℕ) (g : GroupState) (state : RoomState) (n : ℕ) → places ≤ capacity → is_waited_for n state ≡ true → fits places g n ≡ false → true ≡ list_any (λ (m : ℕ). m == n) (lacking_at capacity places g state)
lacks_one capacity places g state n less w e =
    let few : nat_lt capacity places ≡ false = grind (arith, nat_tests) in
    sym (lacks capacity places g state n ∙ (ap (λ (b : Bool). not b && (not (fits places g n) && is_waited_for n state)) few
    ∙ (ap (λ (b : Bool). not b && is_waited_for n state) e ∙ w)))
