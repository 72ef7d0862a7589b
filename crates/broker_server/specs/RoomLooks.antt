-- What a sender finds that has no room at a topic.
use Rattle.std.specs.Prelude.{ℕ, Bool, ◌||◌, ◌&&◌, ◌==◌, Some, List, ◌∷◌, [], ◌++◌, if◌then◌else◌}
use Rattle.std.specs.Option.{is_none}
use Rattle.broker_server.specs.declared.serving.price.Price.{Price}
use Rattle.broker_server.specs.declared.serving.seat.Seat.{Seat}
use Rattle.broker_server.specs.declared.serving.standing.Standing.{Standing}
use Rattle.broker_server.specs.Purses.{is_below, is_free, is_trusted}

-- The dearest of those that lack room, with one more of this price, of this connection. So the first of two that are as
-- dear stays.
abbrev pub standing_with : Standing → Price → ℕ → Standing
standing_with standing price connection =
    if is_none standing.connection || is_below standing.price price
    then record { price = price; connection = Some connection } else standing

-- the numbers of those whose waiting has to be paid by what is common, with one more
abbrev pub dear_with : List ℕ → ℕ → Price → List ℕ
dear_with dear sub price = if is_free price || is_trusted price then dear else dear ++ sub ∷ []

-- and of those that are trusted
abbrev pub trusted_with : List ℕ → ℕ → Price → List ℕ
trusted_with trusted sub price = if is_trusted price then trusted ++ sub ∷ [] else trusted

-- They are one seat: of one connection, and of one number there.
abbrev pub is_seat : Seat → Seat → Bool
is_seat one other = one.connection == other.connection && one.number == other.number
