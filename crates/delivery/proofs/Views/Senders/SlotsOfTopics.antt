-- Slots of a transaction's topics: looked up, and written.
use Rattle.delivery.proofs.Words.All.{◌≡◌, ◌≢◌, ℕ, ◌==◌, Bool, true, false, cond, ◌||◌, List, [], ◌∷◌, map, Option, Some, None, inl, inr, refl, sym, ap, ◌∙◌, nat_lt, eqb-true, eq-eqb, true≢false, or_parts, option_map, option_and_then, Topic, Stamp, row_at, Slots, slot_at, held_at, with_slot, names, or_third, has_ticket, insert_ticket, is_slot}
use Rattle.std.specs.List.{find}
use Rattle.delivery.proofs.Views.Endpoints.StandingOfConnection.{same_or, differ}

-- the topics of these slots
pub slot_topics : {A : Type 0} (g : Topic → Option A) (t : Topic) (ts : List Topic) → is_slot t (map {B = Topic × Option A} (λ u. (u, g u)) ts) ≡ names t ts
slot_topics g t [] = refl
slot_topics g t (u ∷ us) = ap (λ (b : Bool). (u.0 == t.0) || b) (slot_topics g t us)

-- what stands for a topic
pub slot_named : {A : Type 0} (g : Topic → Option A) (t : Topic) (ts : List Topic) → names t ts ≡ true → slot_at t (map {B = Topic × Option A} (λ u. (u, g u)) ts) ≡ Some (g t)
slot_named g t [] e = absurd (true≢false (sym e))
slot_named {A = A} g t (u ∷ us) e = go (slot_named g t us) (u.0 == t.0) refl e
  where
    go : (names t us ≡ true → slot_at t (map {B = Topic × Option A} (λ u. (u, g u)) us) ≡ Some (g t)) → (b : Bool) → (u.0 == t.0) ≡ b → b || names t us ≡ true
        → option_map {T = Topic × Option A} (λ s. s.1) (cond (u.0 == t.0) (Some (u, g u)) (find (λ s. s.0.0 == t.0) (map {B = Topic × Option A} (λ u. (u, g u)) us))) ≡ Some (g t)
    go later true same is =
        ap (λ (c : Bool). option_map {T = Topic × Option A} (λ s. s.1) (cond c (Some (u, g u)) (find (λ s. s.0.0 == t.0) (map {B = Topic × Option A} (λ u. (u, g u)) us)))) same
        ∙ ap (λ (n : ℕ). Some (g (record { 0 = n }))) (eqb-true u.0 t.0 same)
    go later false same is =
        ap (λ (c : Bool). option_map {T = Topic × Option A} (λ s. s.1) (cond c (Some (u, g u)) (find (λ s. s.0.0 == t.0) (map {B = Topic × Option A} (λ u. (u, g u)) us)))) same
        ∙ later is

-- what is held for it
pub held_named : {A : Type 0} (g : Topic → Option A) (t : Topic) (ts : List Topic) → names t ts ≡ true → held_at t (map {B = Topic × Option A} (λ u. (u, g u)) ts) ≡ g t
held_named {A = A} g t ts named = ap (λ (o : Option (Option A)). option_and_then (λ p. p) o) (slot_named g t ts named)

-- one is written
pub slot_written : {A : Type 0} (f g : Topic → Option A) (t : Topic) (o : Option A) (ts : List Topic) → g t ≡ o → ((u : Topic) → u.0 ≢ t.0 → f u ≡ g u)
    → with_slot t o (map {B = Topic × Option A} (λ u. (u, f u)) ts) ≡ map {B = Topic × Option A} (λ u. (u, g u)) ts
slot_written f g t o [] new others = refl
slot_written {A = A} f g t o (u ∷ us) new others =
    ap (λ (s : Topic × Option A). s ∷ with_slot t o (map {B = Topic × Option A} (λ u. (u, f u)) us)) (elim (same_or u.0 t.0) [
      | inl e ↦ ap (λ (b : Bool). cond b (u, o) (u, f u)) (eq-eqb u.0 t.0 e)
          ∙ ap (λ (p : Option A). (u, p)) (sym new ∙ ap (λ (n : ℕ). g (record { 0 = n })) (sym e))
      | inr ne ↦ ap (λ (b : Bool). cond b (u, o) (u, f u)) (differ u.0 t.0 ne) ∙ ap (λ (p : Option A). (u, p)) (others u ne)
    ])
    ∙ ap (λ (ss : Slots A). (u, g u) ∷ ss) (slot_written f g t o us new others)

-- ---- a ticket among others

-- its topic has a ticket, and any other has it as before
pub ticket_inserted : (a : Stamp) (u : Topic) (given : List Stamp) → has_ticket u (insert_ticket a given) ≡ ((a.topic.0 == u.0) || has_ticket u given)
ticket_inserted a u [] = refl
ticket_inserted a u (b ∷ bs) = (elim (nat_lt a.topic.0 b.topic.0) as (λ (c : Bool). has_ticket u (insert_ticket a bs) ≡ ((a.topic.0 == u.0) || has_ticket u bs) → has_ticket u (cond c (a ∷ b ∷ bs) (b ∷ insert_ticket a bs)) ≡ ((a.topic.0 == u.0) || has_ticket u (b ∷ bs))) [
  | true ↦ λ later. refl
  | false ↦ λ later. ap (λ (z : Bool). (b.topic.0 == u.0) || z) later ∙ or_third (b.topic.0 == u.0) (a.topic.0 == u.0) (has_ticket u bs)
]) (ticket_inserted a u bs)

-- a topic's number, of two that are looked at in turn
abbrev first_of : Bool → ℕ → Option ℕ → Option ℕ
first_of b n later = cond b (Some n) later

row_head : (t : Topic) (b : Stamp) (bs : List Stamp) → row_at t (b ∷ bs) ≡ first_of (b.topic.0 == t.0) b.n (row_at t bs)
row_head t b bs = elim (b.topic.0 == t.0) as (λ (c : Bool). option_map (λ (row : Stamp). row.n) (cond c (Some b) (find (λ row. row.topic.0 == t.0) bs)) ≡ first_of c b.n (row_at t bs)) [ true ↦ refl | false ↦ refl ]

-- the number of another topic stays
pub row_other : (a : Stamp) (u : Topic) (given : List Stamp) → a.topic.0 ≢ u.0 → row_at u (insert_ticket a given) ≡ row_at u given
row_other a u [] ne = row_head u a [] ∙ ap (λ (c : Bool). first_of c a.n None) (differ a.topic.0 u.0 ne)
row_other a u (b ∷ bs) ne = (elim (nat_lt a.topic.0 b.topic.0) as (λ (c : Bool). row_at u (insert_ticket a bs) ≡ row_at u bs → row_at u (cond c (a ∷ b ∷ bs) (b ∷ insert_ticket a bs)) ≡ row_at u (b ∷ bs)) [
  | true ↦ λ later. row_head u a (b ∷ bs) ∙ ap (λ (c : Bool). first_of c a.n (row_at u (b ∷ bs))) (differ a.topic.0 u.0 ne)
  | false ↦ λ later. row_head u b (insert_ticket a bs) ∙ (ap (λ (o : Option ℕ). first_of (b.topic.0 == u.0) b.n o) later ∙ sym (row_head u b bs))
]) (row_other a u bs ne)

-- the number of its own topic is its number, where that gave none before
pub row_own : (a : Stamp) (u : Topic) (given : List Stamp) → a.topic.0 ≡ u.0 → has_ticket u given ≡ false → row_at u (insert_ticket a given) ≡ Some a.n
row_own a u [] e none = row_head u a [] ∙ ap (λ (c : Bool). first_of c a.n None) (eq-eqb a.topic.0 u.0 e)
row_own a u (b ∷ bs) e none =
    let parts = or_parts (b.topic.0 == u.0) (has_ticket u bs) none in
    (elim (nat_lt a.topic.0 b.topic.0) as (λ (c : Bool). (b.topic.0 == u.0) ≡ false → row_at u (insert_ticket a bs) ≡ Some a.n → row_at u (cond c (a ∷ b ∷ bs) (b ∷ insert_ticket a bs)) ≡ Some a.n) [
      | true ↦ λ other later. row_head u a (b ∷ bs) ∙ ap (λ (c : Bool). first_of c a.n (row_at u (b ∷ bs))) (eq-eqb a.topic.0 u.0 e)
      | false ↦ λ other later. row_head u b (insert_ticket a bs) ∙ (ap (λ (c : Bool). first_of c b.n (row_at u (insert_ticket a bs))) other ∙ later)
    ]) parts.0 (row_own a u bs e parts.1)

-- where it gave none, it has no number
pub row_none_given : (u : Topic) (given : List Stamp) → has_ticket u given ≡ false → row_at u given ≡ None
row_none_given u [] none = refl
row_none_given u (b ∷ bs) none =
    let parts = or_parts (b.topic.0 == u.0) (has_ticket u bs) none in row_head u b bs ∙ (ap (λ (c : Bool). first_of c b.n (row_at u bs)) parts.0 ∙ row_none_given u bs parts.1)
