-- What is left after cancelling.
use Rattle.std.proofs.Common.{◌≡◌, ◌≢◌, ◌<◌, ◌||◌, ◌++◌, ℕ, zero, suc, Bool, true, false, if◌then◌else◌, List, [], ◌∷◌, map, length, get_or, take, append_assoc, ◌≤◌, ◌+◌, refl, sym, ap, subst, ◌∙◌, arith, inl, inr}
use Rattle.std.proofs.lemmas.List.{map-append, take_more, take_all}
use Rattle.std.specs.List.{AllByRecursion, list_any}
use Rattle.std.proofs.lemmas.Bool.Decides.{nat_tests}
use Rattle.std.proofs.lemmas.Bool.{or_right}
use Rattle.mcast_txn.specs.declared.id.Topic.{Topic}
use Rattle.mcast_txn.specs.declared.id.TxnId.{TxnId}
use Rattle.mcast_txn.specs.declared.stamp.Stamp.{Stamp}
use Rattle.mcast_txn.specs.Lists.{In, RisesBy}
use Rattle.mcast_txn.proofs.Members.{In-get_or}
use Rattle.mcast_txn.proofs.Orders.{id_itself}
use Rattle.mcast_txn.proofs.Rising.{below_later}
use Rattle.broker_locks.specs.Commits.{EnteredPart, entered}
use Rattle.broker_locks.specs.Rows.{PlaceRow, Entered, Cancelled, is_pair, is_uncancelled, uncancelled_after, pairs_without}
use Rattle.broker_locks.specs.Inner.Cancelling.{AreUncancelled, cancelled_at}

-- rows after others
pub after_both : (pairs : List (Topic × TxnId)) (xs ys : List PlaceRow) → uncancelled_after pairs (xs ++ ys) ≡ uncancelled_after (uncancelled_after pairs xs) ys
after_both pairs [] ys = refl
after_both pairs (Entered part floor n ∷ xs) ys = after_both ((part.topic, part.id) ∷ pairs) xs ys
after_both pairs (Cancelled t id ∷ xs) ys = after_both (pairs_without t id pairs) xs ys

module _ (t : Topic) (id : TxnId) where
  -- a pair of another topic isn't this one
  other_pair : (u : Topic) (other : TxnId) (pair : Topic × TxnId) → u.0 ≢ t.0 → is_pair u other pair ≡ true → is_pair t id pair ≡ false
  other_pair u other pair differ is = grind (arith, nat_tests)

  -- to drop a pair of another topic leaves this one
  without_other : (u : Topic) (other : TxnId) (pairs : List (Topic × TxnId)) → u.0 ≢ t.0
      → list_any (is_pair t id) (pairs_without u other pairs) ≡ list_any (is_pair t id) pairs
  without_other u other [] differ = refl
  without_other u other (pair ∷ pairs) differ = by_case (is_pair u other pair) refl (without_other u other pairs differ)
    where
      by_case : (b : Bool) → is_pair u other pair ≡ b → list_any (is_pair t id) (pairs_without u other pairs) ≡ list_any (is_pair t id) pairs
          → list_any (is_pair t id) (if b then pairs else pair ∷ pairs_without u other pairs) ≡ is_pair t id pair || list_any (is_pair t id) pairs
      by_case true is rest = sym (ap (λ (x : Bool). x || list_any (is_pair t id) pairs) (other_pair u other pair differ is))
      by_case false is rest = ap (λ (x : Bool). is_pair t id pair || x) rest

  -- cancelling at topics below this one leaves it
  stays : (pairs : List (Topic × TxnId)) (other : TxnId) (us : List Topic) → AllByRecursion (λ u. u.0 < t.0) us
      → list_any (is_pair t id) pairs ≡ true → list_any (is_pair t id) (uncancelled_after pairs (map (cancelled_at other) us)) ≡ true
  stays pairs other [] below is = is
  stays pairs other (u ∷ us) below is =
      stays (pairs_without u other pairs) other us below.1 (without_other u other pairs (let h = below.0 in λ (e : u.0 ≡ t.0). omega (arith, h, e)) ∙ is)

  -- entering more leaves it
  still : (pairs : List (Topic × TxnId)) (floor : Stamp) (ps : List EnteredPart)
      → list_any (is_pair t id) pairs ≡ true → list_any (is_pair t id) (uncancelled_after pairs (map (entered floor) ps)) ≡ true
  still pairs floor [] is = is
  still pairs floor (p ∷ ps) is =
      let more : is_pair t id (p.part.topic, p.part.id) || list_any (is_pair t id) pairs ≡ true = or_right (is_pair t id (p.part.topic, p.part.id)) (list_any (is_pair t id) pairs) is in
      still ((p.part.topic, p.part.id) ∷ pairs) floor ps more

-- what was entered is there
entered_there : (pairs : List (Topic × TxnId)) (floor : Stamp) (ps : List EnteredPart) (p : EnteredPart) → In p ps
    → list_any (is_pair p.part.topic p.part.id) (uncancelled_after pairs (map (entered floor) ps)) ≡ true
entered_there pairs floor [] p at = absurd at
entered_there pairs floor (q ∷ ps) p (inl e) =
    let is : is_pair p.part.topic p.part.id (q.part.topic, q.part.id) ≡ true =
    subst (λ (r : EnteredPart). is_pair p.part.topic p.part.id (r.part.topic, r.part.id) ≡ true) (sym e) (own_pair p.part.topic p.part.id) in
    still p.part.topic p.part.id ((q.part.topic, q.part.id) ∷ pairs) floor ps (ap (λ (b : Bool). b || list_any (is_pair p.part.topic p.part.id) pairs) is)
  where
    own_pair : (t : Topic) (id : TxnId) → is_pair t id (t, id) ≡ true
    own_pair t id = let h = id_itself id in grind (arith, nat_tests, h)
entered_there pairs floor (q ∷ ps) p (inr at) = entered_there ((q.part.topic, q.part.id) ∷ pairs) floor ps p at

-- a part that was entered last is uncancelled
pub was_entered : (old : List PlaceRow) (floor : Stamp) (ps : List EnteredPart) (p : EnteredPart) → In p ps
    → is_uncancelled p.part.topic p.part.id (old ++ map (entered floor) ps) ≡ true
was_entered old floor ps p at =
    ap (λ (pairs : List (Topic × TxnId)). list_any (is_pair p.part.topic p.part.id) pairs) (after_both [] old (map (entered floor) ps))
    ∙ entered_there (uncancelled_after [] old) floor ps p at

-- the topics before one that rise are below it
below_next : (us : List Topic) (k : ℕ) (d : Topic) → RisesBy (λ t. t.0) us → k < length us → AllByRecursion (λ u. u.0 < (get_or us k d).0) (take k us)
below_next [] k d rises h = absurd (omega (arith, h))
below_next (u ∷ us) zero d rises h = tt
below_next (u ∷ us) (suc k) d rises h = (below_later (λ (t : Topic). t.0) (u ∷ us) 0 (suc k) d rises (omega arith) h, below_next us k d rises.1 (omega (arith, h)))

-- the next topic, where those before it were cancelled
pub next_uncancelled : (us : List Topic) (id : TxnId) (old rows : List PlaceRow) (k : ℕ) (d : Topic) → AreUncancelled us id old → k < length us
    → rows ≡ old ++ map (cancelled_at id) (take k us) → is_uncancelled (get_or us k d) id rows ≡ true
next_uncancelled us id old rows k d are h e =
    let t = get_or us k d in
    ap (λ (r : List PlaceRow). is_uncancelled t id r) e
    ∙ (ap (λ (pairs : List (Topic × TxnId)). list_any (is_pair t id) pairs) (after_both [] old (map (cancelled_at id) (take k us)))
    ∙ stays t id (uncancelled_after [] old) id (take k us) (below_next us k d are.rises h) (are.each t (In-get_or us k d h)))

-- one topic more was cancelled
pub next_cancelled : (us : List Topic) (id : TxnId) (old rows after : List PlaceRow) (k : ℕ) (d : Topic) → k < length us
    → rows ≡ old ++ map (cancelled_at id) (take k us) → after ≡ rows ++ Cancelled (get_or us k d) id ∷ []
    → after ≡ old ++ map (cancelled_at id) (take (k + 1) us)
next_cancelled us id old rows after k d h e f =
    f
    ∙ (ap (λ (r : List PlaceRow). r ++ Cancelled (get_or us k d) id ∷ []) e
    ∙ (append_assoc old (map (cancelled_at id) (take k us)) (Cancelled (get_or us k d) id ∷ [])
    ∙ ap (λ (r : List PlaceRow). old ++ r)
    (sym (map-append (cancelled_at id) (take k us) (get_or us k d ∷ [])) ∙ ap (map (cancelled_at id)) (sym (take_more us k d h)))))

-- all were
pub all_cancelled : (us : List Topic) (id : TxnId) (old rows : List PlaceRow) (k : ℕ) → length us ≤ k
    → rows ≡ old ++ map (cancelled_at id) (take k us) → rows ≡ old ++ map (cancelled_at id) us
all_cancelled us id old rows k h e = e ∙ ap (λ (l : List Topic). old ++ map (cancelled_at id) l) (take_all k us h)
