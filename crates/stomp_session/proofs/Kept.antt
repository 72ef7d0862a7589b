-- Entries, and the same with one thing of each value.
use Rattle.std.proofs.Common.{◌≡◌, ℕ, suc, Bool, true, false, cond, not, ◌||◌, List, [], ◌∷◌, ◌++◌, Some, refl, ap, nat_lt, length}
use Rattle.std.specs.Map.{lookup}
use Rattle.std.specs.Option.{option_map}
use Rattle.std.specs.Str.{bytes_eq}
use Rattle.stomp_session.specs.Inner.Effects.{entries_without}
use Rattle.stomp_session.specs.Inner.Stored.{with_each}
use Rattle.stomp_session.specs.Refusals.{is_full, is_open, open_limit}

module _ {X Y : Type 0} (f : X → Y) where
  -- the same are open
  pub is_open-with_each : (id : List ℕ) (es : List (List ℕ × X)) → is_open id (with_each f es) ≡ is_open id es
  is_open-with_each id [] = refl
  is_open-with_each id (e ∷ es) = ap (λ b. bytes_eq id e.0 || b) (is_open-with_each id es)

  length-with_each : (es : List (List ℕ × X)) → length (with_each f es) ≡ length es
  length-with_each [] = refl
  length-with_each (e ∷ es) = ap suc (length-with_each es)

  -- as many are
  pub is_full-with_each : (es : List (List ℕ × X)) → is_full (with_each f es) ≡ is_full es
  is_full-with_each es = ap (λ (n : ℕ). not (nat_lt n open_limit)) (length-with_each es)

  -- what is found is that of the value
  pub lookup-with_each : (p : List ℕ → Bool) (es : List (List ℕ × X)) → lookup p (with_each f es) ≡ option_map f (lookup p es)
  lookup-with_each p [] = refl
  lookup-with_each p (e ∷ es) = by (p e.0) (lookup-with_each p es)
    where
      by : (b : Bool) → lookup p (with_each f es) ≡ option_map f (lookup p es) → cond b (Some (f e.1)) (lookup p (with_each f es)) ≡ option_map f (cond b (Some e.1) (lookup p es))
      by true rest = refl
      by false rest = rest

  -- without one
  pub without-with_each : (id : List ℕ) (es : List (List ℕ × X)) → with_each f (entries_without id es) ≡ entries_without id (with_each f es)
  without-with_each id [] = refl
  without-with_each id (e ∷ es) = by (bytes_eq id e.0) (without-with_each id es)
    where
      by : (b : Bool) → with_each f (entries_without id es) ≡ entries_without id (with_each f es)
          → with_each f (cond b es (e ∷ entries_without id es)) ≡ cond b (with_each f es) ((e.0, f e.1) ∷ entries_without id (with_each f es))
      by true rest = refl
      by false rest = ap (λ them. (e.0, f e.1) ∷ them) rest

  -- with one more
  pub with_each-push : (es : List (List ℕ × X)) (id : List ℕ) (x : X) → with_each f (es ++ (id, x) ∷ []) ≡ with_each f es ++ (id, f x) ∷ []
  with_each-push [] id x = refl
  with_each-push (e ∷ es) id x = ap (λ them. (e.0, f e.1) ∷ them) (with_each-push es id x)
