-- Lists that are filtered, numbered and taken.
use Rattle.delivery.proofs.Words.All.{◌≡◌, ℕ, zero, suc, ◌+◌, ◌<◌, ◌==◌, Bool, true, false, List, [], ◌∷◌, ◌++◌, map, get_or, refl, sym, ap, ◌∙◌, append-nil, arith, flat_map, enumerate_from, eq-eqb, nat_tests, filter-append, filter, In, filter_none}
use Rattle.mcast_txn.proofs.Members.{filter_all}

map_case : {X Y : Type 0} (p : Y → Bool) (f : X → Y) (x : X) (xs : List X) (b : Bool) → p (f x) ≡ b
    → filter p (map f xs) ≡ map f (filter (λ y. p (f y)) xs) → filter p (map f (x ∷ xs)) ≡ map f (filter (λ y. p (f y)) (x ∷ xs))
map_case p f x xs true e ih = rw (e, ih) refl
map_case p f x xs false e ih = rw (e, ih) refl

-- a mapped list is filtered by what the test says of f
pub filter_mapped : {X Y : Type 0} (p : Y → Bool) (f : X → Y) (xs : List X) → filter p (map f xs) ≡ map f (filter (λ x. p (f x)) xs)
filter_mapped p f [] = refl
filter_mapped p f (x ∷ xs) = map_case p f x xs (p (f x)) refl (filter_mapped p f xs)

-- ---- numbered lists

-- what f makes of each item and its number, where the first has number i
abbrev pub made_of : {X Y : Type 0} → (ℕ → X → List Y) → ℕ → List X → List Y
made_of f i xs = flat_map (λ p. f p.0 p.1) (enumerate_from i xs)

made_above : {X Y : Type 0} (f : ℕ → X → List Y) (key : Y → ℕ) → ((i : ℕ) (x : X) (y : Y) → In y (f i x) → key y ≡ i)
    → (i n : ℕ) (xs : List X) → n < i → filter (λ y. key y == n) (made_of f i xs) ≡ []
made_above f key own i n [] l = refl
made_above f key own i n (x ∷ xs) l =
    filter-append (λ y. key y == n) (f i x) (made_of f (i + 1) xs)
    ∙ (ap (λ ys. ys ++ filter (λ y. key y == n) (made_of f (i + 1) xs)) (filter_none (λ y. key y == n) (f i x) (λ y k. (let e = own i x y k in grind (arith, nat_tests))))
    ∙ made_above f key own (i + 1) n xs (omega arith))

-- of what is made of numbered items, what has number n is made of the item of that number, or of none
pub made_at : {X Y : Type 0} (f : ℕ → X → List Y) (key : Y → ℕ) → ((i : ℕ) (x : X) (y : Y) → In y (f i x) → key y ≡ i)
    → (i j n : ℕ) (xs : List X) (d : X) → n ≡ i + j → f n d ≡ [] → filter (λ y. key y == n) (made_of f i xs) ≡ f n (get_or xs j d)
made_at f key own i zero n [] d e none = sym none
made_at f key own i (suc j) n [] d e none = sym none
made_at f key own i zero n (x ∷ xs) d e none =
    let same : i ≡ n = omega (arith, e) in
    filter-append (λ y. key y == n) (f i x) (made_of f (i + 1) xs)
    ∙ (ap (λ ys. filter (λ y. key y == n) (f i x) ++ ys) (made_above f key own (i + 1) n xs (omega (arith, e)))
    ∙ (append-nil (filter (λ y. key y == n) (f i x))
    ∙ (filter_all (λ y. key y == n) (f i x) (λ y k. eq-eqb (key y) n (own i x y k ∙ same))
    ∙ ap (λ m. f m x) same)))
made_at f key own i (suc j) n (x ∷ xs) d e none =
    filter-append (λ y. key y == n) (f i x) (made_of f (i + 1) xs)
    ∙ (ap (λ ys. ys ++ filter (λ y. key y == n) (made_of f (i + 1) xs)) (filter_none (λ y. key y == n) (f i x) (λ y k. (let h = own i x y k in grind (arith, nat_tests))))
    ∙ made_at f key own (i + 1) j n xs d (omega (arith, e)) none)
