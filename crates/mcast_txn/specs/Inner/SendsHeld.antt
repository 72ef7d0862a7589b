-- Serves proofs only: how the SENDs of a part are stored, for its model; no public contract cites it.
use Rattle.std.specs.Prelude.{◌≡◌, List, [], ◌++◌, map, Option, None}
use Rattle.std.specs.Option.{option_to_list}

-- the first one and those that follow it, where f says what one shows
abbrev pub sends_held : {A B : Type 0} → (A → B) → Option A → List A → List B
sends_held f first later = map f (option_to_list first ++ later)

-- where there is no first one, none follows
abbrev pub BeginsAtFirst : {A : Type 0} → Option A → List A → Type 0
BeginsAtFirst first later = first ≡ None → later ≡ []
