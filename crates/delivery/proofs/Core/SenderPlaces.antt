-- The senders that claims have begun, listed: a client-id is among them where it is kept, at its sender's number.
use Rattle.delivery.proofs.Words.All.{◌≡◌, ℕ, suc, ◌+◌, Bool, true, false, cond, not, ◌&&◌, ◌||◌, List, [], ◌∷◌, ◌++◌, length, Option, Some, None, refl, sym, ap, subst, ◌∙◌, arith, length-append, true≢false, list_any, position_or_len, bytes_eq, same_octets, Claim, is_kept, begun_count, kept_sender, is_one_client, senders_of}

-- ---- lists

or_nothing : (b : Bool) → (b || false) ≡ b
or_nothing true = refl
or_nothing false = refl

any_push : {X : Type 0} (p : X → Bool) (xs : List X) (x : X) → list_any p (xs ++ x ∷ []) ≡ (list_any p xs || p x)
any_push p [] x = or_nothing (p x)
any_push p (y ∷ ys) x = elim (p y) as (λ b. (b || list_any p (ys ++ x ∷ [])) ≡ ((b || list_any p ys) || p x)) [ true ↦ refl | false ↦ (any_push p ys x) ]

one_later : (a b : Bool) (i n : ℕ) → 1 + cond a i (cond b n (n + 1)) ≡ cond a (1 + i) (cond b (suc n) (suc n + 1))
one_later true b i n = refl
one_later false true i n = omega arith
one_later false false i n = omega arith

place_push : {X : Type 0} (p : X → Bool) (xs : List X) (x : X)
    → position_or_len p (xs ++ x ∷ []) ≡ cond (list_any p xs) (position_or_len p xs) (cond (p x) (length xs) (length xs + 1))
place_push p [] x = elim (p x) as (λ b. cond (not b) (1 + 0) 0 ≡ cond b 0 (0 + 1)) [ true ↦ refl | false ↦ refl ]
place_push p (y ∷ ys) x = by (p y) (place_push p ys x)
  where
    by : (b : Bool) → position_or_len p (ys ++ x ∷ []) ≡ cond (list_any p ys) (position_or_len p ys) (cond (p x) (length ys) (length ys + 1))
        → cond (not b) (1 + position_or_len p (ys ++ x ∷ [])) 0
        ≡ cond (b || list_any p ys) (cond (not b) (1 + position_or_len p ys) 0) (cond (p x) (suc (length ys)) (suc (length ys) + 1))
    by true h = refl
    by false h = ap (λ (n : ℕ). 1 + n) h ∙ one_later (list_any p ys) (p x) (position_or_len p ys) (length ys)

-- ---- one without a client-id

none_is : (senders : List (Option (List ℕ))) → list_any (is_one_client None) senders ≡ false
none_is [] = refl
none_is (sender ∷ senders) = none_is senders

none_at : (senders : List (Option (List ℕ))) → position_or_len (is_one_client None) senders ≡ length senders
none_at [] = refl
none_at (sender ∷ senders) = ap (λ (n : ℕ). 1 + n) (none_at senders) ∙ omega arith

-- ---- a client-id

-- the senders once this one claims
abbrev and_then : Option (List ℕ) → List Claim → List (Option (List ℕ))
and_then client before = cond (list_any (is_one_client client) (senders_of before)) (senders_of before) (senders_of before ++ client ∷ [])

-- one without a client-id is added
adds_none : (before : List Claim) → and_then None before ≡ senders_of before ++ None ∷ []
adds_none before = ap (λ (b : Bool). cond b (senders_of before) (senders_of before ++ None ∷ [])) (none_is (senders_of before))

or_turned : (a b : Bool) → (a || b) ≡ (b || a)
or_turned true true = refl
or_turned true false = refl
or_turned false true = refl
or_turned false false = refl

-- each client-id is among the senders where it is kept
abbrev AreKnown : List Claim → Type 0
AreKnown claims = (id : List ℕ) → list_any (is_one_client (Some id)) (senders_of claims) ≡ is_kept id claims

known_then : (connection : ℕ) (o : Option (List ℕ)) (before : List Claim) → AreKnown before → AreKnown (record { connection = connection; client = o } ∷ before)
known_then connection None before known id =
    ap (list_any (is_one_client (Some id))) (adds_none before)
    ∙ (any_push (is_one_client (Some id)) (senders_of before) None ∙ (or_nothing (list_any (is_one_client (Some id)) (senders_of before)) ∙ known id))
known_then connection (Some other) before known id =
    ap (λ (b : Bool). list_any (is_one_client (Some id)) (cond b (senders_of before) (senders_of before ++ Some other ∷ []))) (known other)
    ∙ by (is_kept other before) refl
  where
    there : (h : Bool) → bytes_eq id other ≡ h → is_kept other before ≡ true → is_kept id before ≡ (h || is_kept id before)
    there false e k = refl
    there true e k = subst (λ (z : List ℕ). is_kept z before ≡ true) (sym (same_octets id other e)) k

    by : (k : Bool) → is_kept other before ≡ k
        → list_any (is_one_client (Some id)) (cond k (senders_of before) (senders_of before ++ Some other ∷ [])) ≡ (bytes_eq id other || is_kept id before)
    by true e = known id ∙ there (bytes_eq id other) refl e
    by false e =
        any_push (is_one_client (Some id)) (senders_of before) (Some other)
        ∙ (ap (λ (b : Bool). b || bytes_eq id other) (known id) ∙ or_turned (is_kept id before) (bytes_eq id other))

known : (claims : List Claim) → AreKnown claims
known [] id = refl
known (claim ∷ before) id = known_then claim.connection claim.client before (known before) id

-- as many senders have begun
many_then : (connection : ℕ) (o : Option (List ℕ)) (before : List Claim) → length (senders_of before) ≡ begun_count before
    → length (senders_of (record { connection = connection; client = o } ∷ before)) ≡ begun_count (record { connection = connection; client = o } ∷ before)
many_then connection None before many =
    ap (λ (z : List (Option (List ℕ))). length z) (adds_none before)
    ∙ (length-append (senders_of before) (None ∷ []) ∙ ap (λ (n : ℕ). n + 1) many)
many_then connection (Some other) before many =
    ap (λ (b : Bool). length (cond b (senders_of before) (senders_of before ++ Some other ∷ []))) (known before other)
    ∙ elim (is_kept other before) as (λ (k : Bool). length (cond k (senders_of before) (senders_of before ++ Some other ∷ [])) ≡ cond (not k) (begun_count before + 1) (begun_count before)) [
      | true ↦ many
      | false ↦ length-append (senders_of before) (Some other ∷ []) ∙ ap (λ (n : ℕ). n + 1) many
    ]

as_many : (claims : List Claim) → length (senders_of claims) ≡ begun_count claims
as_many [] = refl
as_many (claim ∷ before) = many_then claim.connection claim.client before (as_many before)

-- a claim without a client-id is of the next to begin
pub no_place : (claims : List Claim) → position_or_len (is_one_client None) (senders_of claims) ≡ begun_count claims
no_place claims = none_at (senders_of claims) ∙ as_many claims

-- a client-id's sender, or how many there are
abbrev pub at_number : List ℕ → List Claim → ℕ
at_number id claims = cond (is_kept id claims) (kept_sender id claims) (begun_count claims)

abbrev pub IsPlaced : List ℕ → List Claim → Type 0
IsPlaced id claims = position_or_len (is_one_client (Some id)) (senders_of claims) ≡ at_number id claims

placed_then : (id : List ℕ) (connection : ℕ) (o : Option (List ℕ)) (before : List Claim) → IsPlaced id before → IsPlaced id (record { connection = connection; client = o } ∷ before)
placed_then id connection o before placed = by o
  where
    p : Option (List ℕ) → Bool
    p = is_one_client (Some id)

    n : ℕ
    n = begun_count before

    kept : ℕ
    kept = kept_sender id before

    -- its number then, if the claim has its client-id as h says, it was kept as k says, and the claim begins a sender as b says
    after : (h k b : Bool) → ℕ
    after h k b = cond (h || k) (cond (h && not k) n kept) (cond b (n + 1) n)

    pushed : (o : Option (List ℕ)) → position_or_len p (senders_of before ++ o ∷ []) ≡ cond (is_kept id before) (cond (is_kept id before) kept n) (cond (p o) n (n + 1))
    pushed o =
        place_push p (senders_of before) o
        ∙ (ap (λ (b : Bool). cond b (position_or_len p (senders_of before)) (cond (p o) (length (senders_of before)) (length (senders_of before) + 1))) (known before id)
        ∙ (ap (λ (i : ℕ). cond (is_kept id before) i (cond (p o) (length (senders_of before)) (length (senders_of before) + 1))) placed
        ∙ ap (λ (i : ℕ). cond (is_kept id before) (at_number id before) (cond (p o) i (i + 1))) (as_many before)))

    none : (k : Bool) → cond k (cond k kept n) (n + 1) ≡ after false k true
    none true = refl
    none false = refl

    old : (other : List ℕ) (h k : Bool) → bytes_eq id other ≡ h → is_kept id before ≡ k → is_kept other before ≡ true → cond k kept n ≡ after h k false
    old other false true e d m = refl
    old other false false e d m = refl
    old other true true e d m = refl
    old other true false e d m = absurd (true≢false (sym m ∙ (ap (λ (z : List ℕ). is_kept z before) (sym (same_octets id other e)) ∙ d)))

    new : (other : List ℕ) (h k : Bool) → bytes_eq id other ≡ h → is_kept id before ≡ k → is_kept other before ≡ false → cond k (cond k kept n) (cond h n (n + 1)) ≡ after h k true
    new other false true e d m = refl
    new other false false e d m = refl
    new other true false e d m = refl
    new other true true e d m = absurd (true≢false (sym d ∙ (ap (λ (z : List ℕ). is_kept z before) (same_octets id other e) ∙ m)))

    by_known : (other : List ℕ) (m : Bool) → is_kept other before ≡ m
        → position_or_len p (cond m (senders_of before) (senders_of before ++ Some other ∷ [])) ≡ after (bytes_eq id other) (is_kept id before) (not m)
    by_known other true e = placed ∙ old other (bytes_eq id other) (is_kept id before) refl refl e
    by_known other false e = pushed (Some other) ∙ new other (bytes_eq id other) (is_kept id before) refl refl e

    by : (o : Option (List ℕ)) → IsPlaced id (record { connection = connection; client = o } ∷ before)
    by None = ap (λ (z : List (Option (List ℕ))). position_or_len p z) (adds_none before) ∙ (pushed None ∙ none (is_kept id before))
    by (Some other) =
        ap (λ (b : Bool). position_or_len p (cond b (senders_of before) (senders_of before ++ Some other ∷ []))) (known before other)
        ∙ by_known other (is_kept other before) refl

-- and one of a client-id is of its sender, or of the next
pub place_of : (id : List ℕ) (claims : List Claim) → IsPlaced id claims
place_of id [] = refl
place_of id (claim ∷ before) = placed_then id claim.connection claim.client before (place_of id before)
