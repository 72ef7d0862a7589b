-- A map of octets and its entries, as contracts see them.
use Rattle.std.proofs.Common.{◌≡◌, ◌+◌, ℕ, zero, suc, slice_get, Bool, true, false, cond, List, [], ◌∷◌, ◌++◌, is_some, Some, None, refl, sym, ap, ◌∙◌, Vec, arith, position, ◌||◌, true≢false, nat_lt, length}
use Rattle.std.specs.declared.alloc.Global.{Global}
use Rattle.std.specs.List.{position_or_len}
use Rattle.std.specs.Option.{unwrap_or}
use Rattle.std.specs.Map.{keys_of, lookup, remove_entry, values_of}
use Rattle.std.specs.Str.{bytes_eq}
use Rattle.indexmap.specs.IndexMap.{insert_entry, set_value_at}
use Rattle.mcast_txn.specs.declared.draft.sent_message.SentMessage.{SentMessage}
use Rattle.stomp_session.specs.Inner.Stored.{entries_of}
use Rattle.stomp_session.specs.Refusals.{is_open, sends_in}
use Rattle.stomp_session.specs.Inner.Effects.{index_of_id, entries_without, with_send}

-- a name or an id, as a set or a map holds it
abbrev pub Key : Type 0
Key = Vec ℕ Global

-- the test of a key by octets, and the equality of two keys
abbrev pub is_key : List ℕ → Key → Bool
is_key id k = bytes_eq id k.items

-- the keys have the same octets
abbrev pub same_key : Key → Key → Bool
same_key x y = bytes_eq x.items y.items

-- an id is open if and only if its key is found
pub is_open-lookup : {X : Type 0} (id : List ℕ) (es : List (Key × X)) → is_open id (entries_of es) ≡ is_some (lookup (is_key id) es)
is_open-lookup id [] = refl
is_open-lookup id (e ∷ es) = by (bytes_eq id e.0.items) refl (is_open-lookup id es)
  where
    by : (b : Bool) → bytes_eq id e.0.items ≡ b → is_open id (entries_of es) ≡ is_some (lookup (is_key id) es) → is_open id (entries_of (e ∷ es)) ≡ is_some (lookup (is_key id) (e ∷ es))
    by true t rest = rw t
    by false t rest = rw t rest

-- removing a key's entry leaves the entries without that of its id
pub entries_of-remove : {X : Type 0} (id : List ℕ) (es : List (Key × X)) → entries_of (remove_entry (is_key id) es) ≡ entries_without id (entries_of es)
entries_of-remove id [] = refl
entries_of-remove id (e ∷ es) = by (bytes_eq id e.0.items) refl (entries_of-remove id es)
  where
    by : (b : Bool) → bytes_eq id e.0.items ≡ b → entries_of (remove_entry (is_key id) es) ≡ entries_without id (entries_of es) → entries_of (remove_entry (is_key id) (e ∷ es)) ≡ entries_without id (entries_of (e ∷ es))
    by true t rest = rw t
    by false t rest = rw t (ap (λ them. (e.0.items, e.1) ∷ them) rest)

-- inserting a key that isn't open adds its entry at the end
pub entries_of-insert : {X : Type 0} (es : List (Key × X)) (k : Key) (v : X) → is_open k.items (entries_of es) ≡ false → entries_of (insert_entry same_key es k v) ≡ entries_of es ++ (k.items, v) ∷ []
entries_of-insert [] k v new = refl
entries_of-insert (e ∷ es) k v new = by (bytes_eq k.items e.0.items) refl new (entries_of-insert es k v)
  where
    by : (b : Bool) → bytes_eq k.items e.0.items ≡ b → (b || is_open k.items (entries_of es)) ≡ false
        → (is_open k.items (entries_of es) ≡ false → entries_of (insert_entry same_key es k v) ≡ entries_of es ++ (k.items, v) ∷ [])
        → entries_of (insert_entry same_key (e ∷ es) k v) ≡ entries_of (e ∷ es) ++ (k.items, v) ∷ []
    by true t none rest = absurd (true≢false none)
    by false t none rest = rw t (ap (λ them. (e.0.items, e.1) ∷ them) (rest none))

-- an id is looked up among the entries as its key is in the map
pub lookup-entries_of : {X : Type 0} (id : List ℕ) (es : List (Key × X)) → lookup (bytes_eq id) (entries_of es) ≡ lookup (is_key id) es
lookup-entries_of id [] = refl
lookup-entries_of id (e ∷ es) = ap (cond (bytes_eq id e.0.items) (Some e.1)) (lookup-entries_of id es)

-- the SENDs of a transaction are what is found for its key
pub sends_in-lookup : (id : List ℕ) (es : List (Key × List SentMessage)) (d : List SentMessage) → lookup (is_key id) es ≡ Some d → sends_in id (entries_of es) ≡ d
sends_in-lookup id es d at = ap (λ o. unwrap_or o []) (lookup-entries_of id es ∙ at)

-- one more SEND for the entry at the index of this id
pub entries_of-set_value_at : (id : List ℕ) (send : SentMessage) (es : List (Key × List SentMessage)) (i : ℕ) (d : List SentMessage)
    → i ≡ index_of_id id (entries_of es) → slice_get (values_of es) i ≡ Some d
    → entries_of (set_value_at es i (d ++ send ∷ [])) ≡ with_send id send (entries_of es)
entries_of-set_value_at id send [] i d index at = refl
entries_of-set_value_at id send (e ∷ es) i d index at = by (bytes_eq id e.0.items) refl i index at (λ j. entries_of-set_value_at id send es j d)
  where
    by : (b : Bool) → bytes_eq id e.0.items ≡ b → (i : ℕ) → i ≡ index_of_id id (entries_of (e ∷ es)) → slice_get (values_of (e ∷ es)) i ≡ Some d
        → ((j : ℕ) → j ≡ index_of_id id (entries_of es) → slice_get (values_of es) j ≡ Some d → entries_of (set_value_at es j (d ++ send ∷ [])) ≡ with_send id send (entries_of es))
        → entries_of (set_value_at (e ∷ es) i (d ++ send ∷ [])) ≡ with_send id send (entries_of (e ∷ es))
    by true t zero index at rest = let g : e.1 ≡ d = cc in rw t (ap (λ sends. (e.0.items, sends ++ send ∷ []) ∷ entries_of es) (sym g))
    by true t (suc i) index at rest = let none : suc i ≡ 0 = rw t at index in absurd (omega (arith, none))
    by false t zero index at rest = let none : 0 ≡ 1 + index_of_id id (entries_of es) = rw t at index in absurd (omega (arith, none))
    by false t (suc i) index at rest =
        let next : suc i ≡ 1 + index_of_id id (entries_of es) = rw t at index in
        rw t (ap (λ them. (e.0.items, e.1) ∷ them) (rest i (omega (arith, next)) at))

-- the index of an id is the index of its key
pub index_of_id-entries_of : {X : Type 0} (id : List ℕ) (es : List (Key × X)) → index_of_id id (entries_of es) ≡ position_or_len (is_key id) (keys_of es)
index_of_id-entries_of id [] = refl
index_of_id-entries_of id (e ∷ es) = grind (arith, index_of_id-entries_of id es)

-- a index that is found is the one that position_or_len gives
pub position-Some : {X : Type 0} (p : X → Bool) (xs : List X) (i : ℕ) → position p xs ≡ Some i → i ≡ position_or_len p xs
position-Some p xs i at = by (nat_lt (position_or_len p xs) (length xs)) at
  where
    by : (b : Bool) → cond b (Some (position_or_len p xs)) None ≡ Some i → i ≡ position_or_len p xs
    by true at = cc
    by false at = cc
