-- Names that stand behind others.
use Rattle.std.proofs.Common.{◌≡◌, ◌++◌, ℕ, List, [], append-nil, drop, length, take, sym, ap, ◌∙◌}
use Rattle.std.proofs.lemmas.List.{take-append-drop}
use Rattle.broker_server.specs.Judging.{Grows}

-- none
pub grows_none : (names : List (List ℕ)) → Grows names names
grows_none names = ([], sym (append-nil names))

-- those of which these are the first
pub grows_front : (names all : List (List ℕ)) → take (length names) all ≡ names → Grows names all
grows_front names all front =
    let rest = drop (length names) all in
    (rest, sym (take-append-drop (length names) all) ∙ ap (λ (xs : List (List ℕ)). xs ++ rest) front)
