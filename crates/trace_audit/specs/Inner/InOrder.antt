-- Serves proofs only: lines that are added to a state one by one, and the first that isn't added.
use Rattle.std.specs.Prelude.{◌≡◌, ℕ, ◌+◌, List, [], ◌∷◌, ◌++◌, length, Option, Some, None, Result, Ok, Err}
use Rattle.std.specs.Option.{option_map_or}

-- the state with these lines, or the number of the first that isn't added, counted from n
abbrev pub added_from : {S : Type 0} → (List ℕ → S → Option S) → ℕ → List (List ℕ) → S → Result S ℕ
added_from add n [] old = Ok old
added_from add n (line ∷ lines) old =
    option_map_or (λ new. added_from add (n + 1) lines new) (add line old) (Err n)

-- each of these lines is added, and in order they lead from one state to the other
abbrev pub AddsInOrder : {S : Type 0} → (List ℕ → S → Option S) → List (List ℕ) → S → S → Type 0
AddsInOrder add [] old new = new ≡ old
AddsInOrder add (line ∷ lines) old new = (mid : _) × (add line old ≡ Some mid) × AddsInOrder add lines mid new

-- line m, counted from n, is the first that isn't added
pub record IsFirstRefused {S : Type 0} (add : List ℕ → S → Option S) (n : ℕ) (lines : List (List ℕ)) (old : S)
    (m : ℕ) : Type 0 where
  pub front : List (List ℕ)
  pub line : List ℕ
  pub back : List (List ℕ)
  pub state : S
  pub cut : lines ≡ front ++ line ∷ back
  pub number : m ≡ length front + n
  pub added : AddsInOrder add front old state
  pub refused : add line state ≡ None
