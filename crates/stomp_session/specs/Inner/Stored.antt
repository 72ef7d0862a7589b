-- What maps of octets and lists of names store. Only proofs go by it; no public contract speaks of it.
use Rattle.std.specs.Prelude.{◌≡◌, ℕ, Bool, List, [], map, nat_eq, position, slice_get, Option, None, Some, Vec}
use Rattle.std.specs.declared.alloc.Global.{Global}
use Rattle.std.specs.declared.sync.Arc.{Arc}
use Rattle.std.specs.Arc.{arc_value}
use Rattle.std.specs.Hash.FoldHasher.{initial, write, finish}
use Rattle.std.specs.Map.{lookup}
use Rattle.std.specs.Str.{bytes_eq}
use Rattle.mcast_txn.specs.declared.id.Topic.{Topic}
use Rattle.stomp_session.specs.declared.subscription.Subscription.{Subscription}

-- the entries of a map, with their ids as octets
abbrev pub entries_of : {X : Type 0} → List (Vec ℕ Global × X) → List (List ℕ × X)
entries_of entries = map (λ entry. (entry.0.items, entry.1)) entries

-- the entries with this of each value
abbrev pub with_each : {X Y : Type 0} → (X → Y) → List (List ℕ × X) → List (List ℕ × Y)
with_each f entries = map (λ entry. (entry.0, f entry.1)) entries

-- the open subscriptions with their topics, and whether each asked for parts
pub record OpenSubscriptions : Type 0 where
  pub topics : List (List ℕ × Topic)
  pub parts : List (List ℕ × Bool)

-- both of what is kept of each
abbrev pub both_of : List (List ℕ × Subscription) → OpenSubscriptions
both_of entries = record {
  topics = with_each (λ s. s.topic) entries;
  parts = with_each (λ s. s.parts) entries;
}

-- the number by which these octets are searched for
unfoldable pub fingerprint : List ℕ → ℕ
fingerprint text = finish (write initial text)

-- the names, which are shared
abbrev pub names_of : List (Arc (List ℕ) Global) → List (List ℕ)
names_of names = map arc_value names

-- of each fingerprint the map has the index of the first of these names that has it
abbrev pub FindsFirsts : List (ℕ × ℕ) → List (List ℕ) → Type 0
FindsFirsts entries names = (f : ℕ) → lookup (nat_eq f) entries ≡ position (λ name. nat_eq f (fingerprint name)) names

-- no two of these names are the same: each is the first of its octets
abbrev pub AreDistinct : List (List ℕ) → Type 0
AreDistinct names = (at : ℕ) (name : List ℕ) → slice_get names at ≡ Some name → position (bytes_eq name) names ≡ Some at

-- the names of a list that is there from the first on
abbrev pub names_in : Option (Arc (List (List ℕ)) Global) → List (List ℕ)
names_in None = []
names_in (Some set) = arc_value set
