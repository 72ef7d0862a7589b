-- Lists of values by their numbers, and new topics.
use Rattle.delivery.proofs.Words.All.{◌≡◌, ◌≢◌, ℕ, zero, suc, ◌+◌, ◌<◌, ◌≤◌, List, [], ◌∷◌, ◌++◌, map, length, get_or, set, refl, ap, ◌∙◌, arith, ltb, inl, inr, Bool, true, false, cond, Some, None, take, position, position_or_len, ltb-false, map-append, take_more, In, TopicState, new_topic, GroupState, World, new_topics, each_number, group_view, new_group}
use Rattle.std.proofs.lemmas.List.{length-take}

-- one more topic
pub new_topics-push : (i limit : ℕ) (clocks : List ℕ) (clock : ℕ)
    → new_topics i limit (clocks ++ clock ∷ []) ≡ new_topics i limit clocks ++ new_topic (record { 0 = i + length clocks }) limit clock ∷ []
new_topics-push i limit [] clock = let e : i ≡ i + 0 = omega arith in ap (λ (n : ℕ). new_topic (record { 0 = n }) limit clock ∷ []) e
new_topics-push i limit (c ∷ clocks) clock =
    let e : (i + 1) + length clocks ≡ i + suc (length clocks) = omega arith in
    ap (λ (xs : List TopicState). new_topic (record { 0 = i }) limit c ∷ xs)
    (new_topics-push (i + 1) limit clocks clock
    ∙ ap (λ (n : ℕ). new_topics (i + 1) limit clocks ++ new_topic (record { 0 = n }) limit clock ∷ []) e)

-- the groups of new topics
pub new_groups_view : (w : World) (i limit : ℕ) (clocks : List ℕ) → map new_group (new_topics i limit clocks) ≡ map (group_view w) (new_topics i limit clocks)
new_groups_view w i limit [] = refl
new_groups_view w i limit (c ∷ clocks) = ap (λ (xs : List GroupState). new_group (new_topic (record { 0 = i }) limit c) ∷ xs) (new_groups_view w (i + 1) limit clocks)

-- the groups of one more of these topics
pub new_groups-push : (limit i : ℕ) (clocks : List ℕ) → i < length clocks → map new_group (new_topics 0 limit (take (i + 1) clocks))
    ≡ map new_group (new_topics 0 limit (take i clocks)) ++ new_group (new_topic (record { 0 = i }) limit (get_or clocks i 0)) ∷ []
new_groups-push limit i clocks h =
    let n : 0 + length (take i clocks) ≡ i = omega (arith, length-take i clocks) in
    ap (λ (cs : List ℕ). map new_group (new_topics 0 limit cs)) (take_more clocks i 0 h)
    ∙ (ap (λ (xs : List TopicState). map new_group xs) (new_topics-push 0 limit (take i clocks) (get_or clocks i 0))
    ∙ (map-append new_group (new_topics 0 limit (take i clocks)) (new_topic (record { 0 = 0 + length (take i clocks) }) limit (get_or clocks i 0) ∷ [])
    ∙ ap (λ (k : ℕ). map new_group (new_topics 0 limit (take i clocks)) ++ new_group (new_topic (record { 0 = k }) limit (get_or clocks i 0)) ∷ []) n))

-- one more value
pub each_number-push : {X Y : Type 0} (f : ℕ → Y) (i : ℕ) (xs : List X) (x : X) → each_number f i (xs ++ x ∷ []) ≡ each_number f i xs ++ f (i + length xs) ∷ []
each_number-push f i [] x = let e : i ≡ i + 0 = omega arith in ap (λ (n : ℕ). f n ∷ []) e
each_number-push {Y = Y} f i (y ∷ xs) x =
    let e : (i + 1) + length xs ≡ i + suc (length xs) = omega arith in
    ap (λ (zs : List Y). f i ∷ zs)
    (each_number-push f (i + 1) xs x ∙ ap (λ (n : ℕ). each_number f (i + 1) xs ++ f n ∷ []) e)

-- it has as many values as the list
pub length-each_number : {X Y : Type 0} (f : ℕ → Y) (i : ℕ) (xs : List X) → length (each_number f i xs) ≡ length xs
length-each_number f i [] = refl
length-each_number f i (x ∷ xs) = ap (λ (n : ℕ). suc n) (length-each_number f (i + 1) xs)

-- values that are the same at each number
pub each_number-same : {X Y : Type 0} (f g : ℕ → Y) (i : ℕ) (xs : List X) → ((n : ℕ) → i ≤ n → n < i + length xs → f n ≡ g n) → each_number f i xs ≡ each_number g i xs
each_number-same f g i [] h = refl
each_number-same {Y = Y} f g i (x ∷ xs) h =
    let first : f i ≡ g i = h i (omega arith) (omega arith) in
    let rest : each_number f (i + 1) xs ≡ each_number g (i + 1) xs = each_number-same f g (i + 1) xs (λ n a b. h n (omega arith) (omega arith)) in
    ap (λ (y : Y). y ∷ each_number f (i + 1) xs) first ∙ ap (λ (zs : List Y). g i ∷ zs) rest

-- the value at a number
pub get_or-each_number : {X Y : Type 0} (f : ℕ → Y) (i : ℕ) (xs : List X) (n : ℕ) (d : Y) → n < length xs → get_or (each_number f i xs) n d ≡ f (i + n)
get_or-each_number f i [] n d h = absurd (omega arith)
get_or-each_number f i (x ∷ xs) zero d h = let e : i ≡ i + 0 = omega arith in ap f e
get_or-each_number f i (x ∷ xs) (suc n) d h = let e : (i + 1) + n ≡ i + suc n = omega arith in get_or-each_number f (i + 1) xs n d (omega arith) ∙ ap f e

-- one value is another, and of the list of values one too
pub each_number-set : {X Y : Type 0} (f g : ℕ → Y) (i : ℕ) (xs : List X) (k : ℕ) (x : X) → k < length xs → ((n : ℕ) → i ≤ n → n < i + length xs → n ≢ i + k → f n ≡ g n)
    → set (each_number f i xs) k (g (i + k)) ≡ each_number g i (set xs k x)
each_number-set f g i [] k x h same = absurd (omega arith)
each_number-set {Y = Y} f g i (y ∷ xs) zero x h same =
    let e : i + 0 ≡ i = omega arith in
    let rest : each_number f (i + 1) xs ≡ each_number g (i + 1) xs = each_number-same f g (i + 1) xs (λ n a b. same n (omega arith) (omega arith) (λ z. omega arith)) in
    ap (λ (n : ℕ). g n ∷ each_number f (i + 1) xs) e ∙ ap (λ (zs : List Y). g i ∷ zs) rest
each_number-set {Y = Y} f g i (y ∷ xs) (suc k) x h same =
    let e : i + suc k ≡ (i + 1) + k = omega arith in let first : f i ≡ g i = same i (omega arith) (omega arith) (λ z. omega arith) in
    let rest : set (each_number f (i + 1) xs) k (g ((i + 1) + k)) ≡ each_number g (i + 1) (set xs k x) =
    each_number-set f g (i + 1) xs k x (omega arith) (λ n a b c. same n (omega arith) (omega arith) (λ z. c (omega arith))) in
    ap (λ (y : Y). y ∷ set (each_number f (i + 1) xs) k (g (i + suc k))) first
    ∙ (ap (λ (n : ℕ). g i ∷ set (each_number f (i + 1) xs) k (g n)) e
    ∙ ap (λ (zs : List Y). g i ∷ zs) rest)

-- ---- the place that a test finds

-- the place is that of the first that passes, or the end
pub index_is : {X : Type 0} (p : X → Bool) (xs : List X) (i : ℕ) → position p xs ≡ Some i → i ≡ position_or_len p xs
index_is p xs i e = (elim (ltb (position_or_len p xs) (length xs)) as (λ (b : Bool). cond b (Some (position_or_len p xs)) None ≡ Some i → i ≡ position_or_len p xs) [ true ↦ λ e. cc | false ↦ λ e. cc ]) e

-- where none passes, it is the length or beyond
pub end_is : {X : Type 0} (p : X → Bool) (xs : List X) → position p xs ≡ None → length xs ≤ position_or_len p xs
end_is p xs e = (elim (ltb (position_or_len p xs) (length xs)) as (λ (b : Bool). ltb (position_or_len p xs) (length xs) ≡ b → cond b (Some (position_or_len p xs)) None ≡ None → length xs ≤ position_or_len p xs) [
  | true ↦ λ k e. cc
  | false ↦ λ k e. ltb-false (position_or_len p xs) (length xs) k
]) refl e

-- two functions that agree on each value of a list
pub map_alike : {X Y : Type 0} (f g : X → Y) (xs : List X) → ((x : X) → In x xs → f x ≡ g x) → map f xs ≡ map g xs
map_alike f g [] same = refl
map_alike {Y = Y} f g (x ∷ xs) same = ap (λ (y : Y). y ∷ map f xs) (same x (inl refl)) ∙ ap (λ (ys : List Y). g x ∷ ys) (map_alike f g xs (λ z here. same z (inr here)))
