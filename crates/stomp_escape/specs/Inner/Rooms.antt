-- Where a list of octets lies.
use Rattle.std.specs.Prelude.{List, ℕ}
use Rattle.stomp_escape.specs.declared.storage.Storage.{Storage}
use Rattle.stomp_escape.specs.declared.storage.Storage.TheVariants.{Short, Long}

-- the octets that lie there
abbrev pub octets_in : Storage → List ℕ
octets_in (Short octets) = octets
octets_in (Long octets) = octets.items
