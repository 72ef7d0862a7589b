-- Lines that are added to a state one by one: what adding gives is the state that they lead to, or the number of
-- the first that isn't added.
use Rattle.std.proofs.Common.{◌≡◌, ℕ, ◌+◌, List, [], ◌∷◌, ◌++◌, length, Option, Some, None, Ok, Err, refl, sym, ap, ◌∙◌, arith}
use Rattle.trace_audit.specs.Inner.InOrder.{added_from, AddsInOrder, IsFirstRefused}

module _ {S : Type 0} (add : List ℕ → S → Option S) where
  -- where adding gives a state, the lines lead to it
  pub adds_in_order : (n : ℕ) (lines : List (List ℕ)) (old new : S) → added_from add n lines old ≡ Ok new → AddsInOrder add lines old new
  adds_in_order n [] old new e = cc
  adds_in_order n (line ∷ lines) old new e = go (add line old) refl (λ mid f. adds_in_order (n + 1) lines mid new f)
    where
      go : (o : Option S) → add line old ≡ o → ((mid : S) → added_from add (n + 1) lines mid ≡ Ok new → AddsInOrder add lines mid new) → AddsInOrder add (line ∷ lines) old new
      go None k later = absurd (let f : Err n ≡ Ok new = sym (rw k refl) ∙ e in cc)
      go (Some mid) k later = (mid, k, later mid (sym (rw k refl) ∙ e))

  -- where the lines lead to a state, adding gives it
  pub adds_in_order_again : (n : ℕ) (lines : List (List ℕ)) (old new : S) → AddsInOrder add lines old new → added_from add n lines old ≡ Ok new
  adds_in_order_again n [] old new a = ap Ok (sym a)
  adds_in_order_again n (line ∷ lines) old new a = rw a.1 (adds_in_order_again (n + 1) lines a.0 new a.2)

  -- where adding fails with a number, it is that of the first line that isn't added
  pub first_refused : (n : ℕ) (lines : List (List ℕ)) (old : S) (m : ℕ) → added_from add n lines old ≡ Err m → IsFirstRefused add n lines old m
  first_refused n [] old m e = absurd cc
  first_refused n (line ∷ lines) old m e = go (add line old) refl (λ mid f. first_refused (n + 1) lines mid m f)
    where
      go : (o : Option S) → add line old ≡ o → ((mid : S) → added_from add (n + 1) lines mid ≡ Err m → IsFirstRefused add (n + 1) lines mid m) → IsFirstRefused add n (line ∷ lines) old m
      go None k later = record {
        front = [];
        line = line;
        back = lines;
        state = old;
        cut = refl;
        number = (let f : Err n ≡ Err m = sym (rw k refl) ∙ e in let g : m ≡ n = cc in g ∙ omega arith);
        added = refl;
        refused = k;
      }
      go (Some mid) k later =
          let b = later mid (sym (rw k refl) ∙ e) in
          record {
            front = line ∷ b.front;
            line = b.line;
            back = b.back;
            state = b.state;
            cut = ap (λ (z : List (List ℕ)). line ∷ z) b.cut;
            number = (let f = b.number in omega arith);
            added = (mid, k, b.added);
            refused = b.refused;
          }

  refused_after : (n : ℕ) (front : List (List ℕ)) (line : List ℕ) (back : List (List ℕ)) (old state : S) → AddsInOrder add front old state → add line state ≡ None
      → added_from add n (front ++ line ∷ back) old ≡ Err (length front + n)
  refused_after n [] line back old state a refused =
      let e : add line old ≡ None = ap (add line) (sym a) ∙ refused in
      let z : n ≡ 0 + n = omega arith in
      rw e (ap Err z)
  refused_after n (next ∷ front) line back old state a refused =
      let r = refused_after (n + 1) front line back a.0 state a.2 refused in
      let m : length front + (n + 1) ≡ length (next ∷ front) + n = omega arith in
      rw a.1 (r ∙ ap Err m)

  -- where a line is the first that isn't added, adding fails with its number
  pub first_refused_again : (n : ℕ) (lines : List (List ℕ)) (old : S) (m : ℕ) → IsFirstRefused add n lines old m → added_from add n lines old ≡ Err m
  first_refused_again n lines old m b =
      ap (λ (z : List (List ℕ)). added_from add n z old) b.cut ∙ refused_after n b.front b.line b.back old b.state b.added b.refused
      ∙ ap Err (sym b.number)
