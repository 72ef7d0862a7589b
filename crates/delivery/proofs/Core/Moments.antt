-- What holds at each moment of a run: of all that was answered or told, and of what was before each part of it.
use Rattle.std.proofs.Common.{◌≡◌, Bool, true, false, List, [], ◌∷◌, ◌++◌, refl, sym, ap, subst}
use Rattle.delivery.proofs.Words.All.{Transaction, Answer, txn_of_id, Told}
use Rattle.delivery.proofs.Core.Said.{said, is_said}
use Rattle.delivery.proofs.Core.SaidParts.{said_kept, unsaid_same}
use Rattle.delivery.proofs.Core.Tells.{tell}

-- P holds of the list, and of each tail of it
abbrev pub Always : {X : Type 0} → (List X → Type 0) → List X → Type 0
Always P [] = P []
Always P (x ∷ xs) = P (x ∷ xs) × Always P xs

-- so of the whole
pub now : {X : Type 0} (P : List X → Type 0) (xs : List X) → Always P xs → P xs
now P [] h = h
now P (x ∷ xs) h = h.0

-- and of what is before any part
pub at_moment : {X : Type 0} (P : List X → Type 0) (xs : List X) → Always P xs → (later before : List X) → xs ≡ later ++ before → P before
at_moment {X = X} P xs h later before e = below later (subst (λ (z : List X). Always P z) e h)
  where
    below : (later : List X) → Always P (later ++ before) → P before
    below [] k = now P before k
    below (x ∷ later) k = below later k.1

pub from_moments : {X : Type 0} (P : List X → Type 0) (xs : List X) → ((later before : List X) → xs ≡ later ++ before → P before) → Always P xs
from_moments P [] h = h [] [] refl
from_moments P (x ∷ xs) h = (h [] (x ∷ xs) refl, from_moments P xs (λ later before e. h (x ∷ later) before (ap (λ z. x ∷ z) e)))

-- what holds of each list
pub always_all : {X : Type 0} (P : List X → Type 0) → ((xs : List X) → P xs) → (xs : List X) → Always P xs
always_all P f [] = f []
always_all P f (x ∷ xs) = (f (x ∷ xs), always_all P f xs)

-- what follows at each moment from two
pub always_both : {X : Type 0} (P Q R : List X → Type 0) → ((xs : List X) → P xs → Q xs → R xs) → (xs : List X) → Always P xs → Always Q xs → Always R xs
always_both P Q R f [] h k = f [] h k
always_both P Q R f (x ∷ xs) h k = (f (x ∷ xs) h.0 k.0, always_both P Q R f xs h.1 k.1)

-- or from one
pub always_one : {X : Type 0} (P Q : List X → Type 0) → ((xs : List X) → P xs → Q xs) → (xs : List X) → Always P xs → Always Q xs
always_one P Q f [] h = f [] h
always_one P Q f (x ∷ xs) h = (f (x ∷ xs) h.0, always_one P Q f xs h.1)

-- ---- what is said and told of answers

-- each moment of what an account says is one of the answers
pub always_said : (P : List Answer → Type 0) → ((past : List Answer) → P past → P (said past)) → (past : List Answer) → Always P past → Always P (said past)
always_said P f [] h = h
always_said P f (o ∷ past) h = (elim (is_said o) as (λ (b : Bool). is_said o ≡ b → Always P (said past) → Always P (said (o ∷ past))) [
  | true ↦ λ e k. subst (λ (z : List Answer). Always P z) (sym (said_kept o past e)) (subst P (said_kept o past e) (f (o ∷ past) h.0), k)
  | false ↦ λ e k. subst (λ (z : List Answer). Always P z) (sym (unsaid_same o past e)) k
]) refl (always_said P f past h.1)

-- each moment of what is told is one of the answers, or one between what a withdrawal tells
pub always_told : (P : List Told → Type 0) → ((txn : Transaction) (told : List Told) → P told → P (Told.Withdrawn txn ∷ told))
    → (past : List Answer) → Always (λ (z : List Answer). P (tell z)) past → Always P (tell past)
always_told P f [] h = h
always_told P f (o ∷ past) h = more o h.0 (always_told P f past h.1)
  where
    more : (o : Answer) → P (tell (o ∷ past)) → Always P (tell past) → Always P (tell (o ∷ past))
    more (Answer.Begun txn) k a = (k, a)
    more (Answer.Subscribed s c t from) k a = (k, a)
    more (Answer.Unsubscribed s to) k a = (k, a)
    more (Answer.Leaving c) k a = (k, a)
    more (Answer.Error c) k a = (k, a)
    more (Answer.Ticket id ticket) k a = (k, a)
    more (Answer.Decided id stamp) k a = (k, a)
    more (Answer.Withdrawn id c) k a = (k, (f (txn_of_id id past) (tell past) (now P (tell past) a), a))
    more (Answer.Cancelled id t) k a = (k, a)
    more (Answer.Released t id) k a = (k, a)
    more (Answer.Turned t count) k a = (k, a)
    more (Answer.Handed s item) k a = (k, a)
    more o k a = a
