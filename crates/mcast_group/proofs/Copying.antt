-- Copies of each pending part.
use Rattle.std.proofs.Common.{◌≡◌, ℕ, zero, suc, ◌+◌, ◌<◌, ◌≤◌, inl, inr, List, [], ◌∷◌, ◌++◌, length, get_or, set, map, take, Option, None, Some, refl, sym, ap, ◌∙◌, arith}
use Rattle.std.proofs.lemmas.List.{length_push, length-take-le}
use Rattle.mcast_txn.specs.Lists.{In}
use Rattle.std.specs.List.{insert}
use Rattle.mcast_txn.specs.Transaction.{TopicPart}
use Rattle.mcast_txn.proofs.Members.{In-push_cases, In-take}
use Rattle.mcast_group.specs.Machine.{Pending}
use Rattle.mcast_group.specs.Inner.Copies.{AreOf, HaveCopies, IsFirst, with_first}

-- the first i have one copy more
abbrev pub HaveMore : ℕ → ℕ → List Pending → List (List TopicPart) → Type 0
HaveMore n zero ps cs = HaveCopies n ps cs
HaveMore n (suc i) [] [] = Unit {0}
HaveMore n (suc i) [] (c ∷ cs) = Prim.⊥
HaveMore n (suc i) (p ∷ ps) [] = Prim.⊥
HaveMore n (suc i) (p ∷ ps) (c ∷ cs) = ((length c ≡ n + 1) × AreOf p.part c) × HaveMore n i ps cs

AreOf-push : (p q : TopicPart) (c : List TopicPart) → AreOf p c → q ≡ p → AreOf p (c ++ q ∷ [])
AreOf-push p q c h e x k = elim (In-push_cases x q c k) [
  | inl o ↦ h x o
  | inr m ↦ sym m ∙ e
]

-- a copy of the next part is added: one part more has one copy more
pub more_step : (n i : ℕ) (ps : List Pending) (cs : List (List TopicPart)) (p : Pending) (c new : List TopicPart) → i < length ps → p ≡ get_or ps i p → c ≡ get_or cs i c → new ≡ c ++ p.part ∷ [] → HaveMore n i ps cs → HaveMore n (suc i) ps (set cs i new)
more_step n zero [] cs p c new l e k m h = absurd (omega arith)
more_step n zero (q ∷ ps) [] p c new l e k m h = absurd h
more_step n zero (q ∷ ps) (b ∷ cs) p c new l e k m h =
    let g : length new ≡ length (c ++ p.part ∷ []) = ap (λ (z : List TopicPart). length z) m in
    let j = length_push c p.part in
    let f : length c ≡ length b = ap (λ (z : List TopicPart). length z) k in
    let a : length b ≡ n = h.0.0 in
    ((omega arith, rw (m, k) (AreOf-push q.part p.part b h.0.1 (ap (λ (z : Pending). z.part) e))), h.1)
more_step n (suc i) [] cs p c new l e k m h = absurd (omega arith)
more_step n (suc i) (q ∷ ps) [] p c new l e k m h = absurd h
more_step n (suc i) (q ∷ ps) (b ∷ cs) p c new l e k m h = (h.0, more_step n i ps cs p c new (omega arith) e k m h.1)

-- ---- at most so many are kept

-- a cut list of images is the images of the cut list
pub map_take : {X Y : Type 0} (f : X → Y) (n : ℕ) (xs : List X) → map f (take n xs) ≡ take n (map f xs)
map_take f zero xs = refl
map_take f (suc n) [] = refl
map_take f (suc n) (x ∷ xs) = ap (λ ys. f x ∷ ys) (map_take f n xs)

-- what is put behind the others is behind all
pub with_first-append : {X : Type 0} (first : Option X) (xs ys : List X) → with_first first (xs ++ ys) ≡ with_first first xs ++ ys
with_first-append None xs ys = refl
with_first-append (Some x) xs ys = refl

-- a list that keeps its first is cut by cutting the others
pub with_first-take : {X : Type 0} (n : ℕ) (first : Option X) (others : List X) → IsFirst first others → with_first first (take n others) ≡ take (suc n) (with_first first others)
with_first-take zero None others e = rw e refl
with_first-take (suc n) None others e = rw e refl
with_first-take n (Some x) others e = refl

-- the first i lists are cut
abbrev pub kept_front : {X : Type 0} → ℕ → ℕ → List (List X) → List (List X)
kept_front most zero cs = cs
kept_front most (suc i) [] = []
kept_front most (suc i) (c ∷ cs) = take most c ∷ kept_front most i cs

-- the next one is cut
pub kept_step : {X : Type 0} (most i : ℕ) (cs : List (List X)) (d : List X) → i < length cs → d ≡ get_or (kept_front most i cs) i d → set (kept_front most i cs) i (take most d) ≡ kept_front most (suc i) cs
kept_step most i [] d l e = absurd (omega arith)
kept_step most zero (c ∷ cs) d l e = ap (λ z. take most z ∷ cs) e
kept_step most (suc i) (c ∷ cs) d l e = ap (λ zs. take most c ∷ zs) (kept_step most i cs d (omega arith) e)

pub kept_length : {X : Type 0} (most i : ℕ) (cs : List (List X)) → length (kept_front most i cs) ≡ length cs
kept_length most zero cs = refl
kept_length most (suc i) [] = refl
kept_length most (suc i) (c ∷ cs) = ap suc (kept_length most i cs)

-- all are cut
pub kept_all : {X : Type 0} (most i : ℕ) (cs : List (List X)) → length cs ≤ i → kept_front most i cs ≡ map (take most) cs
kept_all most zero [] l = refl
kept_all most zero (c ∷ cs) l = absurd (omega arith)
kept_all most (suc i) [] l = refl
kept_all most (suc i) (c ∷ cs) l = ap (λ zs. take most c ∷ zs) (kept_all most i cs (omega arith))

-- where each part has n copies and m of them are kept, each has m
pub copies_kept : (n m : ℕ) (ps : List Pending) (cs : List (List TopicPart)) → m ≤ n → HaveCopies n ps cs → HaveCopies m ps (map (take m) cs)
copies_kept n m [] [] l h = tt
copies_kept n m [] (c ∷ cs) l h = h
copies_kept n m (p ∷ ps) [] l h = h
copies_kept n m (p ∷ ps) (c ∷ cs) l h =
    let a : length c ≡ n = h.0.0 in
    ((length-take-le m c (omega arith), λ x k. h.0.1 x (In-take x m c k)), copies_kept n m ps cs l h.1)

-- where the first i parts have one copy more, each has n once n are kept
pub more_cut : (n i : ℕ) (ps : List Pending) (cs : List (List TopicPart)) → HaveMore n i ps cs → HaveCopies n ps (map (take n) cs)
more_cut n zero ps cs h = copies_kept n n ps cs (omega arith) h
more_cut n (suc i) [] [] h = tt
more_cut n (suc i) [] (c ∷ cs) h = h
more_cut n (suc i) (p ∷ ps) [] h = h
more_cut n (suc i) (p ∷ ps) (c ∷ cs) h =
    let a : length c ≡ n + 1 = h.0.0 in
    ((length-take-le n c (omega arith), λ x k. h.0.1 x (In-take x n c k)), more_cut n i ps cs h.1)

-- where all parts have one copy more, each has n + 1
pub more_all : (n i : ℕ) (ps : List Pending) (cs : List (List TopicPart)) → length ps ≤ i → HaveMore n i ps cs → HaveCopies (n + 1) ps cs
more_all n zero [] [] l h = tt
more_all n zero [] (c ∷ cs) l h = h
more_all n zero (p ∷ ps) cs l h = absurd (omega arith)
more_all n (suc i) [] [] l h = tt
more_all n (suc i) [] (c ∷ cs) l h = h
more_all n (suc i) (p ∷ ps) [] l h = h
more_all n (suc i) (p ∷ ps) (c ∷ cs) l h = (h.0, more_all n i ps cs (omega arith) h.1)

-- copies of a part are so with one more
-- what is among the first of a list is in it
In-first : (x : TopicPart) (n : ℕ) (xs : List TopicPart) → In x (take n xs) → In x xs
In-first x zero [] h = absurd h
In-first x zero (y ∷ xs) h = absurd h
In-first x (suc n) [] h = absurd h
In-first x (suc n) (y ∷ xs) (inl e) = inl e
In-first x (suc n) (y ∷ xs) (inr h) = inr (In-first x n xs h)

-- the first of its copies are of the part, too
pub AreOf-first : (p : TopicPart) (n : ℕ) (c : List TopicPart) → AreOf p c → AreOf p (take n c)
AreOf-first p n c h x k = h x (In-first x n c k)

pub AreOf-more : (p : TopicPart) (c : List TopicPart) → AreOf p c → AreOf p (c ++ p ∷ [])
AreOf-more p c h = AreOf-push p p c h refl

-- a part and its copies are inserted at one index: each part has its copies
pub copies_insert : (n i : ℕ) (ps : List Pending) (cs : List (List TopicPart)) (p : Pending) (c : List TopicPart) → i ≤ length ps → HaveCopies n ps cs → length c ≡ n → AreOf p.part c → HaveCopies n (insert ps i p) (insert cs i c)
copies_insert n zero ps cs p c l h m a = ((m, a), h)
copies_insert n (suc i) [] cs p c l h m a = absurd (omega arith)
copies_insert n (suc i) (q ∷ ps) [] p c l h m a = absurd h
copies_insert n (suc i) (q ∷ ps) (b ∷ cs) p c l h m a = (h.0, copies_insert n i ps cs p c (omega arith) h.1 m a)
