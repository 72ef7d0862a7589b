-- The names of the topics.
use Rattle.std.specs.Prelude.{ℕ, ◌∷◌, [], ◌++◌, List, Bool, ◌&&◌, nat_lt, nat_le, length, if◌then◌else◌}
use Rattle.std.specs.List.{list_all, list_any, position_or_len}
use Rattle.std.specs.Str.{bytes_eq}

-- the most topics that there are (own)
abbrev pub max_topics : ℕ
max_topics = 1024

-- from ! to ~
abbrev pub is_graphic : ℕ → Bool
is_graphic b = nat_le 33 b && nat_le b 126

-- what a topic that frames make may be named: one or more such octets (own); so not `A B`
abbrev pub is_name : List ℕ → Bool
is_name text = nat_lt 0 (length text) && list_all is_graphic text

-- whether it's one of these names
abbrev pub is_known : List ℕ → List (List ℕ) → Bool
is_known name names = list_any (bytes_eq name) names

-- A name's index among them, from 0: the number of its topic. Of a name that isn't there it is how many there
-- are: the number that its topic gets where it is made. So of A and B, B has 1, and C gets 2.
abbrev pub index_of : List ℕ → List (List ℕ) → ℕ
index_of name names = position_or_len (bytes_eq name) names

-- with this name after them, where it isn't there yet; so A and B with B are A and B
abbrev pub with_name : List ℕ → List (List ℕ) → List (List ℕ)
with_name name names = if is_known name names then names else names ++ name ∷ []
