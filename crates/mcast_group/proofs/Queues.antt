-- What a queue accepted, beside the held rows.
use Rattle.std.proofs.Common.{◌≡◌, ℕ, Bool, true, false, cond, not, ◌⊎◌, inl, inr, List, [], ◌∷◌, ◌++◌, Option, Some, None, refl, sym, ap, subst, ◌∙◌, append_assoc}
use Rattle.std.proofs.lemmas.Bool.{true≢false, and_parts, and_from}
use Rattle.mcast_txn.specs.Stamp.{stamp_lt}
use Rattle.mcast_txn.specs.Lists.{In}
use Rattle.mcast_txn.specs.declared.stamp.Stamp.{Stamp}
use Rattle.mcast_txn.proofs.Orders.{lt_irrefl, lt_asym, le_lt}
use Rattle.mcast_txn.proofs.Members.{In-append_left, In-push, In-push_cases}
use Rattle.mcast_txn.proofs.Sorting.{Rises-push}
use Rattle.mcast_txn.specs.Span.{LogRow, Item, in_span, item_stamp}
use Rattle.mcast_group.specs.Sound.{IsQueueOf, IsItemOf, HasItem, HasRow}
use Rattle.mcast_group.specs.Machine.{Entry, entry_after, end_of}
use Rattle.mcast_group.proofs.Parts.{some_same, none_some}

abbrev entry : ℕ → Stamp → Option Stamp → List Item → Entry
entry number from to accepted = record { number = number; from = from; to = to; accepted = accepted }

HasItem-more : (r : LogRow) (items : List Item) (i : Item) → HasItem r items → HasItem r (items ++ i ∷ [])
HasItem-more r items i h = record { item = h.item; stands = In-append_left h.item items (i ∷ []) h.stands; is = h.is }

HasRow-more : (i : Item) (rows : List LogRow) (r : LogRow) → HasRow i rows → HasRow i (rows ++ r ∷ [])
HasRow-more i rows r h = record { row = h.row; stands = In-append_left h.row rows (r ∷ []) h.stands; is = h.is }

-- a new row r with its item i, above the frontier
pub record Next (frontier : Stamp) (held : List LogRow) (r : LogRow) (i : Item) : Type 0 where
  pub up : stamp_lt frontier r.stamp ≡ true
  pub past : (q : LogRow) → In q held → stamp_lt frontier q.stamp ≡ false
  pub is : IsItemOf r i

-- a queue that gets nothing of the new row, since its span ends before
pub Queue-closed : (base frontier : Stamp) (held : List LogRow) (from end : Stamp) (accepted : List Item) (r : LogRow) (i : Item) → Next frontier held r i → IsQueueOf base frontier held from (Some end) accepted → IsQueueOf base r.stamp (held ++ r ∷ []) from (Some end) accepted
Queue-closed base frontier held from end accepted r i new h =
    let l : stamp_lt from r.stamp ≡ true = le_lt from frontier r.stamp h.from_past new.up in
    let m : stamp_lt end r.stamp ≡ true = le_lt end frontier r.stamp (h.to_past end refl) new.up in
    record {
      from_past = lt_asym from r.stamp l;
      to_past = λ e k. subst (λ z. stamp_lt r.stamp z ≡ false) (some_same end e k) (lt_asym end r.stamp m);
      rises = h.rises;
      within = h.within;
      past = λ j k. lt_asym j.stamp r.stamp (le_lt j.stamp frontier r.stamp (h.past j k) new.up);
      only_rows = λ j k b. HasRow-more j held r (h.only_rows j k b);
      all_rows = λ q k s. elim (In-push_cases q r held k) [
        | inl o ↦ h.all_rows q o s
        | inr e ↦ absurd (true≢false (sym (ap (λ (z : LogRow). in_span from (Some end) z.stamp) e ∙ s) ∙ rw (l, m) refl))
      ];
    }

-- an open queue that takes the item
queue_takes : (base frontier : Stamp) (held : List LogRow) (from : Stamp) (accepted : List Item) (r : LogRow) (i : Item) → Next frontier held r i → IsQueueOf base frontier held from None accepted → IsQueueOf base r.stamp (held ++ r ∷ []) from None (accepted ++ i ∷ [])
queue_takes base frontier held from accepted r i new h =
    let l : stamp_lt from r.stamp ≡ true = le_lt from frontier r.stamp h.from_past new.up in
    record {
      from_past = lt_asym from r.stamp l;
      to_past = λ e k. none_some e k;
      rises = Rises-push item_stamp accepted i h.rises
          (λ j k. subst (λ z. stamp_lt j.stamp z ≡ true) (sym new.is.stamp) (le_lt j.stamp frontier r.stamp (h.past j k) new.up));
      within = λ j k. elim (In-push_cases j i accepted k) [
        | inl o ↦ h.within j o
        | inr e ↦ subst (λ (z : Item). in_span from None z.stamp ≡ true) e (rw (new.is.stamp, l) refl)
      ];
      past = λ j k. elim (In-push_cases j i accepted k) [
        | inl o ↦ lt_asym j.stamp r.stamp (le_lt j.stamp frontier r.stamp (h.past j o) new.up)
        | inr e ↦ subst (λ (z : Item). stamp_lt r.stamp z.stamp ≡ false) e (rw new.is.stamp (lt_irrefl r.stamp))
      ];
      only_rows = λ j k b. elim (In-push_cases j i accepted k) [
        | inl o ↦ HasRow-more j held r (h.only_rows j o b)
        | inr e ↦ record { row = r; stands = In-push r held; is = subst (λ z. IsItemOf r z) e new.is }
      ];
      all_rows = λ q k s. elim (In-push_cases q r held k) [
        | inl o ↦ HasItem-more q accepted i (h.all_rows q o s)
        | inr e ↦ record { item = i; stands = In-push i accepted; is = subst (λ z. IsItemOf z i) e new.is }
      ];
    }

-- an open queue that ends at the frontier
queue_ends : (base frontier : Stamp) (held : List LogRow) (from : Stamp) (accepted : List Item) → IsQueueOf base frontier held from None accepted → IsQueueOf base frontier held from (Some frontier) accepted
queue_ends base frontier held from accepted h = record {
  from_past = h.from_past;
  to_past = λ e k. subst (λ z. stamp_lt frontier z ≡ false) (some_same frontier e k) (lt_irrefl frontier);
  rises = h.rises;
  within = λ j k. rw ((and_parts (stamp_lt from j.stamp) true (h.within j k)).0, h.past j k) refl;
  past = h.past;
  only_rows = h.only_rows;
  all_rows = λ q k s. h.all_rows q k (and_from (stamp_lt from q.stamp) true (and_parts (stamp_lt from q.stamp) (not (stamp_lt frontier q.stamp)) s).0 refl);
}

delivered_open : (base frontier : Stamp) (held : List LogRow) (number : ℕ) (from : Stamp) (accepted : List Item) (r : LogRow) (i : Item) → Next frontier held r i → IsQueueOf base frontier held from None accepted → (b : Bool) → let e = cond b (entry number from None (accepted ++ i ∷ [])) (entry number from (Some frontier) accepted) in IsQueueOf base r.stamp (held ++ r ∷ []) e.from e.to e.accepted
delivered_open base frontier held number from accepted r i new h true = queue_takes base frontier held from accepted r i new h
delivered_open base frontier held number from accepted r i new h false =
    Queue-closed base frontier held from frontier accepted r i new (queue_ends base frontier held from accepted h)

delivered_of : (takes : Entry → Bool) (base frontier : Stamp) (held : List LogRow) (number : ℕ) (from : Stamp) (to : Option Stamp) (accepted : List Item) (r : LogRow) (i : Item) → Next frontier held r i → IsQueueOf base frontier held from to accepted → let e = entry_after takes frontier i (entry number from to accepted) in IsQueueOf base r.stamp (held ++ r ∷ []) e.from e.to e.accepted
delivered_of takes base frontier held number from None accepted r i new h = delivered_open base frontier held number from accepted r i new h _
delivered_of takes base frontier held number from (Some end) accepted r i new h = Queue-closed base frontier held from end accepted r i new h

-- IsQueueOf holds of an entry after an item was due to it, with the item's row in the log
pub Queue-delivered : (takes : Entry → Bool) (base frontier : Stamp) (held : List LogRow) (r : LogRow) (i : Item) (e : Entry) → Next frontier held r i → IsQueueOf base frontier held e.from e.to e.accepted → let d = entry_after takes frontier i e in IsQueueOf base r.stamp (held ++ r ∷ []) d.from d.to d.accepted
Queue-delivered takes base frontier held r i e new h = delivered_of takes base frontier held e.number e.from e.to e.accepted r i new h

ended_of : (base frontier : Stamp) (held : List LogRow) (number : ℕ) (from : Stamp) (to : Option Stamp) (accepted : List Item) → IsQueueOf base frontier held from to accepted → let d = end_of frontier (entry number from to accepted) in IsQueueOf base frontier held from (Some d.to) d.accepted
ended_of base frontier held number from None accepted h = queue_ends base frontier held from accepted h
ended_of base frontier held number from (Some end) accepted h = h

-- IsQueueOf holds of what an entry leaves as it ends
pub Queue-ended : (base frontier : Stamp) (held : List LogRow) (e : Entry) → IsQueueOf base frontier held e.from e.to e.accepted → IsQueueOf base frontier held e.from (Some (end_of frontier e).to) (end_of frontier e).accepted
Queue-ended base frontier held e h = ended_of base frontier held e.number e.from e.to e.accepted h

-- IsQueueOf holds of an empty queue whose span begins at the frontier
pub Queue-new : (base frontier : Stamp) (held : List LogRow) → ((q : LogRow) → In q held → stamp_lt frontier q.stamp ≡ false) → IsQueueOf base frontier held frontier None []
Queue-new base frontier held past = record {
  from_past = lt_irrefl frontier;
  to_past = λ e k. none_some e k;
  rises = tt;
  within = λ i k. absurd k;
  past = λ i k. absurd k;
  only_rows = λ i k b. absurd k;
  all_rows = λ q k s. absurd (true≢false (sym (and_parts (stamp_lt frontier q.stamp) true s).0 ∙ past q k));
}

-- IsQueueOf holds after the held rows were drained
pub Queue-drained : (base frontier : Stamp) (held : List LogRow) (from : Stamp) (to : Option Stamp) (accepted : List Item) → IsQueueOf base frontier held from to accepted → IsQueueOf frontier frontier [] from to accepted
Queue-drained base frontier held from to accepted h = record {
  from_past = h.from_past;
  to_past = h.to_past;
  rises = h.rises;
  within = h.within;
  past = h.past;
  only_rows = λ i k b. absurd (true≢false (sym b ∙ h.past i k));
  all_rows = λ q k s. absurd k;
}

-- what an entry keeps as items come
delivered_same : (takes : Entry → Bool) (frontier : Stamp) (i : Item) (number : ℕ) (from : Stamp) (to : Option Stamp) (accepted : List Item) → ((entry_after takes frontier i (entry number from to accepted)).number ≡ number) × ((entry_after takes frontier i (entry number from to accepted)).from ≡ from)
delivered_same takes frontier i number from None accepted = by (takes (entry number from None accepted))
  where
    by : (b : Bool) → ((cond b (entry number from None (accepted ++ i ∷ [])) (entry number from (Some frontier) accepted)).number ≡ number) × ((cond b (entry number from None (accepted ++ i ∷ [])) (entry number from (Some frontier) accepted)).from ≡ from)
    by true = (refl, refl)
    by false = (refl, refl)
delivered_same takes frontier i number from (Some end) accepted = (refl, refl)

-- an entry keeps its number as an item is due to it
pub delivered_number : (takes : Entry → Bool) (frontier : Stamp) (i : Item) (e : Entry) → (entry_after takes frontier i e).number ≡ e.number
delivered_number takes frontier i e = (delivered_same takes frontier i e.number e.from e.to e.accepted).0

-- an entry keeps its beginning as an item is due to it
pub delivered_from : (takes : Entry → Bool) (frontier : Stamp) (i : Item) (e : Entry) → (entry_after takes frontier i e).from ≡ e.from
delivered_from takes frontier i e = (delivered_same takes frontier i e.number e.from e.to e.accepted).1

-- what comes into a queue is the item
delivered_items : (takes : Entry → Bool) (frontier : Stamp) (i : Item) (number : ℕ) (from : Stamp) (to : Option Stamp) (accepted : List Item) (j : Item) → In j (entry_after takes frontier i (entry number from to accepted)).accepted → In j accepted ⊎ (i ≡ j)
delivered_items takes frontier i number from None accepted j k = by (takes (entry number from None accepted)) k
  where
    by : (b : Bool) → In j (cond b (entry number from None (accepted ++ i ∷ [])) (entry number from (Some frontier) accepted)).accepted → In j accepted ⊎ (i ≡ j)
    by true k = In-push_cases j i accepted k
    by false k = inl k
delivered_items takes frontier i number from (Some end) accepted j k = inl k

-- what is in a queue after an item was due to it was there before, or is the item
pub In-delivered_cases : (takes : Entry → Bool) (frontier : Stamp) (i : Item) (e : Entry) (j : Item) → In j (entry_after takes frontier i e).accepted → In j e.accepted ⊎ (i ≡ j)
In-delivered_cases takes frontier i e j k = delivered_items takes frontier i e.number e.from e.to e.accepted j k

-- what a queue has accepted only grows
pub record More (xs ys : List Item) : Type 0 where
  pub more : List Item
  pub is : ys ≡ xs ++ more

nothing_more : (xs : List Item) → xs ≡ xs ++ []
nothing_more [] = refl
nothing_more (x ∷ xs) = ap (λ z. x ∷ z) (nothing_more xs)

-- More holds of a list and itself
pub More-same : (xs : List Item) → More xs xs
More-same xs = record { more = []; is = nothing_more xs }

-- More is transitive
pub More-then : (xs ys zs : List Item) → More xs ys → More ys zs → More xs zs
More-then xs ys zs a b = record { more = a.more ++ b.more; is = b.is ∙ (ap (λ z. z ++ b.more) a.is ∙ append_assoc xs a.more b.more) }

delivered_more : (takes : Entry → Bool) (frontier : Stamp) (i : Item) (number : ℕ) (from : Stamp) (to : Option Stamp) (accepted : List Item) → More accepted (entry_after takes frontier i (entry number from to accepted)).accepted
delivered_more takes frontier i number from None accepted = by (takes (entry number from None accepted))
  where
    by : (b : Bool) → More accepted (cond b (entry number from None (accepted ++ i ∷ [])) (entry number from (Some frontier) accepted)).accepted
    by true = record { more = i ∷ []; is = refl }
    by false = More-same accepted
delivered_more takes frontier i number from (Some end) accepted = More-same accepted

-- a queue has what it had, and maybe more, after an item was due to it
pub More-delivered : (takes : Entry → Bool) (frontier : Stamp) (i : Item) (e : Entry) → More e.accepted (entry_after takes frontier i e).accepted
More-delivered takes frontier i e = delivered_more takes frontier i e.number e.from e.to e.accepted
