-- Segments of a log: how many rows they have, the row at an index, and what each edit of them leaves.
use Rattle.std.proofs.Common.{◌≡◌, ℕ, zero, suc, ◌+◌, ◌-◌, ◌*◌, ◌/◌, ◌<◌, ◌≤◌, ◌⊎◌, inl, inr, List, [], ◌∷◌, ◌++◌, length, take, drop, get_or, set, None, refl, sym, ap, subst, ◌∙◌, arith}
use Rattle.std.specs.List.{slice_get}
use Rattle.std.proofs.lemmas.List.{length-append, length_push}
use Rattle.std.proofs.lemmas.Bool.{cases_lt}
use Rattle.std.proofs.lemmas.Option.{slice_get_past}
use Rattle.mcast_txn.specs.Span.{LogRow}
use Rattle.mcast_group.specs.Inner.Log.{AreSegments, joined_rows}

-- as many rows as they have in all
pub rows_many : (size n : ℕ) (ss : List (List LogRow)) → AreSegments size n ss → length (joined_rows ss) ≡ n
rows_many size n [] h = sym h
rows_many size n (s ∷ ss) h =
    let ih = rows_many size (n - size) ss h.1 in
    let a = h.0 in
    length-append s (joined_rows ss) ∙ omega arith

-- they have room for their rows
pub rows_fit : (size n : ℕ) (ss : List (List LogRow)) → AreSegments size n ss → n ≤ size * length ss
rows_fit size n [] h = omega (arith, h)
rows_fit size n (s ∷ ss) h =
    let ih : n - size ≤ size * length ss = rows_fit size (n - size) ss h.1 in
    omega arith

-- where they have room for one row more, there is a segment of its index
pub room_for_one : (n : ℕ) (ss : List (List LogRow)) → AreSegments 256 n ss → length (joined_rows ss) < 256 * length ss → n / 256 < length ss
room_for_one n ss h l = let many = rows_many 256 n ss h in omega arith

-- none, where they have none in all
pub rows_none : (size : ℕ) (ss : List (List LogRow)) → AreSegments size 0 ss → joined_rows ss ≡ []
rows_none size ss h = empty (joined_rows ss) (rows_many size 0 ss h)
  where
    empty : (rs : List LogRow) → length rs ≡ 0 → rs ≡ []
    empty [] e = refl
    empty (r ∷ rs) e = absurd (omega arith)

-- ---- the row at an index

get_front : (xs ys : List LogRow) (i : ℕ) → i < length xs → slice_get (xs ++ ys) i ≡ slice_get xs i
get_front [] ys i l = absurd (omega arith)
get_front (x ∷ xs) ys zero l = refl
get_front (x ∷ xs) ys (suc i) l = get_front xs ys i (omega arith)

get_after : (xs ys : List LogRow) (i : ℕ) → slice_get (xs ++ ys) (length xs + i) ≡ slice_get ys i
get_after [] ys i = ap (λ (j : ℕ). slice_get ys j) (omega arith)
get_after (x ∷ xs) ys i =
    let e : suc (length xs) + i ≡ suc (length xs + i) = omega arith in
    ap (λ (j : ℕ). slice_get (x ∷ (xs ++ ys)) j) e ∙ get_after xs ys i

-- the row at an index is in the segment of its quotient, at its rest
pub row_at : (size n : ℕ) (ss : List (List LogRow)) (q r : ℕ) (d : List LogRow) → AreSegments size n ss → r < size → q < length ss → slice_get (joined_rows ss) (size * q + r) ≡ slice_get (get_or ss q d) r
row_at size n [] q r d h l m = absurd (omega arith)
row_at size n (s ∷ ss) zero r d h l m = by (cases_lt r (length s))
  where
    by : (r < length s) ⊎ (length s ≤ r) → slice_get (s ++ joined_rows ss) (size * 0 + r) ≡ slice_get s r
    by (inl k) = ap (λ (i : ℕ). slice_get (s ++ joined_rows ss) i) (omega arith) ∙ get_front s (joined_rows ss) r k
    by (inr k) =
        let many = rows_many size n (s ∷ ss) h in
        let a = h.0 in
        slice_get_past (s ++ joined_rows ss) (size * 0 + r) (omega arith) ∙ sym (slice_get_past s r k)
row_at size n (s ∷ ss) (suc q) r d h l m = by (row_at size (n - size) ss q r d h.1 l (omega arith)) (cases_lt (size * suc q + r) n)
  where
    by : slice_get (joined_rows ss) (size * q + r) ≡ slice_get (get_or ss q d) r → (size * suc q + r < n) ⊎ (n ≤ size * suc q + r) → slice_get (s ++ joined_rows ss) (size * suc q + r) ≡ slice_get (get_or ss q d) r
    by later (inl k) =
        let a = h.0 in
        let i : size * suc q + r ≡ length s + (size * q + r) = omega arith in
        ap (λ (j : ℕ). slice_get (s ++ joined_rows ss) j) i ∙ (get_after s (joined_rows ss) (size * q + r) ∙ later)
    by later (inr k) =
        let many = rows_many size n (s ∷ ss) h in
        let rest = rows_many size (n - size) ss h.1 in
        slice_get_past (s ++ joined_rows ss) (size * suc q + r) (omega arith)
        ∙ (sym (slice_get_past (joined_rows ss) (size * q + r) (omega arith)) ∙ later)

-- past their room there is no row
pub no_row_at : (n i : ℕ) (ss : List (List LogRow)) → AreSegments 256 n ss → length ss ≤ i / 256 → slice_get (joined_rows ss) i ≡ None
no_row_at n i ss h l =
    let many = rows_many 256 n ss h in
    let fit = rows_fit 256 n ss h in
    slice_get_past (joined_rows ss) i (omega arith)

-- the row of an index from two lists, one after the other
pub row_in_first : (xs ys : List LogRow) (i : ℕ) → i < length xs → slice_get (xs ++ ys) i ≡ slice_get xs i
row_in_first xs ys i l = get_front xs ys i l

pub row_in_rest : (xs ys : List LogRow) (i k : ℕ) → i ≡ length xs + k → slice_get (xs ++ ys) i ≡ slice_get ys k
row_in_rest xs ys i k e = ap (λ (j : ℕ). slice_get (xs ++ ys) j) e ∙ get_after xs ys k

-- ---- a row more

-- segments after an edit
pub record Has (size n : ℕ) (ss : List (List LogRow)) (held : List LogRow) : Type 0 where
  pub shape : AreSegments size n ss
  pub rows : joined_rows ss ≡ held

-- the segment that gets the next row has as many as the rest
pub next_many : (size n : ℕ) (ss : List (List LogRow)) (q r : ℕ) (d : List LogRow) → AreSegments size n ss → n ≡ size * q + r → r < size → q < length ss → length (get_or ss q d) ≡ r
next_many size n [] q r d h e l m = absurd (omega arith)
next_many size n (s ∷ ss) zero r d h e l m = let a = h.0 in omega arith
next_many size n (s ∷ ss) (suc q) r d h e l m = next_many size (n - size) ss q r d h.1 (omega arith) l (omega arith)

pub nothing_after : (xs : List LogRow) → xs ++ [] ≡ xs
nothing_after [] = refl
nothing_after (x ∷ xs) = ap (λ (zs : List LogRow). x ∷ zs) (nothing_after xs)

joined : (xs ys zs : List LogRow) → xs ++ (ys ++ zs) ≡ (xs ++ ys) ++ zs
joined [] ys zs = refl
joined (x ∷ xs) ys zs = ap (λ (ws : List LogRow). x ∷ ws) (joined xs ys zs)

-- one row more at the end of the segment that gets the next one
pub row_pushed : (size n : ℕ) (ss : List (List LogRow)) (q r : ℕ) (d : List LogRow) (row : LogRow) → AreSegments size n ss → n ≡ size * q + r → r < size → q < length ss → Has size (n + 1) (set ss q (get_or ss q d ++ row ∷ [])) (joined_rows ss ++ row ∷ [])
row_pushed size n [] q r d row h e l m = absurd (omega arith)
row_pushed size n (s ∷ ss) zero r d row h e l m =
    let a = h.0 in
    let rest : AreSegments size 0 ss = subst (λ (k : ℕ). AreSegments size k ss) (omega arith) h.1 in
    let none : joined_rows ss ≡ [] = rows_none size ss rest in
    record {
      shape = (length_push s row ∙ omega arith, subst (λ (k : ℕ). AreSegments size k ss) (omega arith) h.1);
      rows = ap (λ (zs : List LogRow). (s ++ row ∷ []) ++ zs) none ∙ (nothing_after (s ++ row ∷ []) ∙ sym (ap (λ (zs : List LogRow). (s ++ zs) ++ row ∷ []) none ∙ ap (λ (zs : List LogRow). zs ++ row ∷ []) (nothing_after s)));
    }
row_pushed size n (s ∷ ss) (suc q) r d row h e l m =
    let a = h.0 in
    let ih = row_pushed size (n - size) ss q r d row h.1 (omega arith) l (omega arith) in
    record {
      shape = (omega arith, subst (λ (k : ℕ). AreSegments size k (set ss q (get_or ss q d ++ row ∷ []))) (omega arith) ih.shape);
      rows = ap (λ (zs : List LogRow). s ++ zs) ih.rows ∙ joined s (joined_rows ss) (row ∷ []);
    }

-- ---- segments more and fewer

-- one without rows is added
pub segment_added : (size n : ℕ) (ss : List (List LogRow)) → AreSegments size n ss → Has size n (ss ++ [] ∷ []) (joined_rows ss)
segment_added size n [] h = record { shape = (omega (arith, h), omega (arith, h)); rows = refl }
segment_added size n (s ∷ ss) h =
    let ih = segment_added size (n - size) ss h.1 in
    record { shape = (h.0, ih.shape); rows = ap (λ (zs : List LogRow). s ++ zs) ih.rows }

-- those that have the rows, and those after them
pub record Parted (size n used : ℕ) (ss : List (List LogRow)) : Type 0 where
  pub taken : AreSegments size n (take used ss)
  pub left : AreSegments size 0 (drop used ss)
  pub rows : joined_rows (take used ss) ≡ joined_rows ss

pub segments_parted : (size n used : ℕ) (ss : List (List LogRow)) → AreSegments size n ss → n ≤ size * used → Parted size n used ss
segments_parted size n zero ss h l =
    let e : n ≡ 0 = omega arith in
    let none = subst (λ (k : ℕ). AreSegments size k ss) e h in
    record { taken = e; left = none; rows = sym (rows_none size ss none) }
segments_parted size n (suc used) [] h l = record { taken = h; left = refl; rows = refl }
segments_parted size n (suc used) (s ∷ ss) h l =
    let ih = segments_parted size (n - size) used ss h.1 (omega arith) in
    record { taken = (h.0, ih.taken); left = ih.left; rows = ap (λ (zs : List LogRow). s ++ zs) ih.rows }

-- the first alone has rows, and gives them
pub first_is_all : (size n : ℕ) (ss : List (List LogRow)) (d : List LogRow) → AreSegments size n ss → n ≤ size → 0 < length ss → joined_rows ss ≡ get_or ss 0 d
first_is_all size n [] d h l m = absurd (omega arith)
first_is_all size n (s ∷ ss) d h l m =
    let rest : AreSegments size 0 ss = subst (λ (k : ℕ). AreSegments size k ss) (omega arith) h.1 in
    ap (λ (zs : List LogRow). s ++ zs) (rows_none size ss rest) ∙ nothing_after s

pub first_emptied : (size n : ℕ) (ss : List (List LogRow)) → AreSegments size n ss → n ≤ size → Has size 0 (set ss 0 []) []
first_emptied size n [] h l = record { shape = refl; rows = refl }
first_emptied size n (s ∷ ss) h l =
    let rest : AreSegments size 0 ss = subst (λ (k : ℕ). AreSegments size k ss) (omega arith) h.1 in
    record { shape = (omega arith, subst (λ (k : ℕ). AreSegments size k ss) (omega arith) rest); rows = rows_none size ss rest }

-- those after the first
pub first_taken : (size n : ℕ) (s : List LogRow) (ss : List (List LogRow)) → AreSegments size n (s ∷ ss) → AreSegments size (n - length s) ss
first_taken size n s ss h = let a = h.0 in subst (λ (k : ℕ). AreSegments size k ss) (omega arith) h.1

-- the first has a row, where they have any
pub first_has : (size n : ℕ) (s : List LogRow) (ss : List (List LogRow)) → AreSegments size n (s ∷ ss) → 0 < size → 0 < n → 0 < length s
first_has size n s ss h l m = let a = h.0 in omega arith
