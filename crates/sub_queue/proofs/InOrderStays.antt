-- Each step of a shared queue keeps its rule: the making, the split into two ends, a push that enters or finds it full, a take
-- that gives or finds it empty, and the joining.
use Rattle.std.proofs.Common.{◌≡◌, ◌≢◌, ◌≤◌, ◌⊎◌, ℕ, zero, suc, true, false, true≢false, List, [], ◌∷◌, ◌++◌, length, drop, set, arith, inl, inr, sym, refl, ap, ◌∙◌, subst, append_assoc, append-nil}
use Rattle.std.proofs.Math.Seq.{drop-append_seam}
use Rattle.std.proofs.lemmas.List.{length-append}
use mathlib.Core.Option.{some, some-injective, some-ne-none}
use lib.ListN.{get_elem?}
use Rattle.crossbeam_queue.specs.Fifo.{Pushes, Pops, Forks, Merges, Learns}
use Rattle.crossbeam_queue.proofs.Lists.{at_set}
use Rattle.mcast_txn.specs.Lists.{Rises}
use Rattle.mcast_txn.specs.Span.{Item, item_stamp}
use Rattle.mcast_txn.proofs.Sorting.{Rises-front}
use Rattle.sub_queue.specs.declared.rule.Knowledge.{Knowledge}
use Rattle.sub_queue.specs.Rule.{knowledge, pusher_knowledge, taker_knowledge, witness_knowledge, no_knowledge, knowing_taken, after_pushing, after_taking, Agrees, BeginsWithItems, IsInOrder, EndsUntaken, rest_of, IsFront}
use Rattle.sub_queue.specs.Shown.{IsAboveLast}
use Rattle.sub_queue.proofs.RisingItems.{rises_after_push}

-- what is true of the end that changed, and of each other as it was, is true of all
all_after : (P : ℕ → Knowledge → Type 0) (ends : List Knowledge) (n : ℕ) (w : Knowledge) → P n w → ((m : ℕ) (u : Knowledge) → m ≢ n → get_elem? ends m ≡ some u → P m u) → (m : ℕ) (u : Knowledge) → get_elem? (set ends n w) m ≡ some u → P m u
all_after P ends n w this others m u at = elim (at_set ends n m w u at) [
  | inl e ↦ subst (λ k. P k u) (sym e.0) (subst (P n) e.1 this)
  | inr e ↦ others m u e.0 e.1
]

-- an end of a longer list was there, or is the new one, at the length
at_push : (ends : List Knowledge) (new u : Knowledge) (m : ℕ) → get_elem? (ends ++ new ∷ []) m ≡ some u → (get_elem? ends m ≡ some u) ⊎ ((m ≡ length ends) × (new ≡ u))
at_push [] new u zero at = inr (refl, some-injective new u at)
at_push [] new u (suc m) at = absurd (some-ne-none u (sym at))
at_push (x ∷ xs) new u zero at = inl at
at_push (x ∷ xs) new u (suc m) at = elim (at_push xs new u m at) [
  | inl e ↦ inl e
  | inr e ↦ inr (ap suc e.0, e.1)
]

-- what is left, where what was pushed is what was taken and then these items
left_is : (v : Knowledge) (items : List Item) → v.pushed ≡ v.taken ++ items → rest_of v ≡ items
left_is v items e = ap (drop (length v.taken)) e ∙ drop-append_seam v.taken items

is_front : (v : Knowledge) (items : List Item) → v.pushed ≡ v.taken ++ items → IsFront v
is_front v items e = e ∙ ap (λ xs. v.taken ++ xs) (sym (left_is v items e))

-- every list begins with none of its items, and with all of them
begins_none : (xs : List Item) → BeginsWithItems [] xs
begins_none xs = (xs, refl)

begins_same : (xs ys : List Item) → xs ≡ ys → BeginsWithItems xs ys
begins_same xs ys e = ([], sym e ∙ sym (append-nil xs))

-- it does so after one more item
begins_more : (xs ys : List Item) (item : Item) → BeginsWithItems xs ys → BeginsWithItems xs (ys ++ item ∷ [])
begins_more xs ys item b = (b.0 ++ item ∷ [], ap (λ zs. zs ++ item ∷ []) b.1 ∙ append_assoc xs b.0 (item ∷ []))

-- an empty queue, with one end that pushes and takes
pub begins : IsInOrder [] (knowledge true [] true [] ∷ [])
begins = record { source = 0; taker = 0; pushed = []; taken = []; order = refl; rises = tt; agree = only }
  where
    only : (n : ℕ) (v : Knowledge) → get_elem? (knowledge true [] true [] ∷ []) n ≡ some v → Agrees 0 0 [] [] n v
    only zero v at = subst (Agrees 0 0 [] [] 0) (some-injective (knowledge true [] true []) v at) (record { pushes = λ _. (refl, refl); takes = λ _. (refl, refl); known = begins_none [] })
    only (suc n) v at = absurd (some-ne-none v (sym at))

-- an end that pushes and takes is split into one that pushes and one that takes
pub splits : (n : ℕ) (v : Knowledge) → v.pushes ≡ true → v.takes ≡ true → Forks IsInOrder n v (pusher_knowledge v.pushed) (taker_knowledge v.taken)
splits n v pushes takes items ends h at =
    let mine = h.agree n v at in
    let first = set ends n (pusher_knowledge v.pushed) in
    let Agreed : ℕ → Knowledge → Type 0 = Agrees h.source (length first) h.pushed h.taken in
    let this : Agreed n (pusher_knowledge v.pushed) = record { pushes = λ _. mine.pushes pushes; takes = λ no. absurd (true≢false (sym no)); known = begins_none h.taken } in
    let others : (m : ℕ) (u : Knowledge) → m ≢ n → get_elem? ends m ≡ some u → Agreed m u =
    λ m u apart there. record { pushes = (h.agree m u there).pushes; takes = λ yes. absurd (apart (((h.agree m u there).takes yes).0 ∙ sym (mine.takes takes).0)); known = (h.agree m u there).known } in
    let second : Agreed (length first) (taker_knowledge v.taken) = record { pushes = λ no. absurd (true≢false (sym no)); takes = λ _. (refl, (mine.takes takes).1); known = mine.known } in
    record {
      source = h.source;
      taker = length first;
      pushed = h.pushed;
      taken = h.taken;
      order = h.order;
      rises = h.rises;
      agree = λ m u there. elim (at_push first (taker_knowledge v.taken) u m there) [
        | inl e ↦ all_after Agreed ends n (pusher_knowledge v.pushed) this others m u e
        | inr e ↦ subst (λ k. Agreed k u) (sym e.0) (subst (Agreed (length first)) e.1 second)
      ];
    }

-- a push that enters puts the item at the end of what was pushed
pub push_enters : (capacity n : ℕ) (v : Knowledge) (item : Item) → v.pushes ≡ true → IsAboveLast v.pushed item.stamp → Pushes IsInOrder capacity n v item (λ w. w ≡ after_pushing item v)
push_enters capacity n v item pushes above items ends _ h at =
    let mine = h.agree n v at in
    let is = (mine.pushes pushes).1 in
    let more = h.pushed ++ item ∷ [] in
    let Agreed : ℕ → Knowledge → Type 0 = Agrees h.source h.taker more h.taken in
    let this : Agreed n (after_pushing item v) = record { pushes = λ _. ((mine.pushes pushes).0, ap (λ xs. xs ++ item ∷ []) is); takes = mine.takes; known = mine.known } in
    let others : (m : ℕ) (u : Knowledge) → m ≢ n → get_elem? ends m ≡ some u → Agreed m u =
    λ m u apart there. record { pushes = λ yes. absurd (apart (((h.agree m u there).pushes yes).0 ∙ sym (mine.pushes pushes).0)); takes = (h.agree m u there).takes; known = (h.agree m u there).known } in (
      after_pushing item v,
      record {
        source = h.source;
        taker = h.taker;
        pushed = more;
        taken = h.taken;
        order = ap (λ xs. xs ++ item ∷ []) h.order ∙ append_assoc h.taken items (item ∷ []);
        rises = rises_after_push h.pushed item h.rises (subst (λ xs. IsAboveLast xs item.stamp) is above);
        agree = all_after Agreed ends n (after_pushing item v) this others;
      },
      refl,
    )

-- where a push finds the queue full, what was pushed ends with what it holds, behind all that is known to be taken
pub push_finds_full : (n : ℕ) (v : Knowledge) → v.pushes ≡ true → Learns IsInOrder n v (λ items. EndsUntaken items v)
push_finds_full n v pushes items ends h at =
    let mine = h.agree n v at in
    let long = ap length mine.known.1 ∙ length-append v.taken mine.known.0 in
    (h.taken, (mine.pushes pushes).1 ∙ h.order, omega (arith, long))

-- a witness of what is known to be taken is made beside the end that knows it
pub witnesses : (n : ℕ) (v : Knowledge) → Forks IsInOrder n v v (witness_knowledge v.taken)
witnesses n v items ends h at =
    let mine = h.agree n v at in
    let first = set ends n v in
    let Agreed : ℕ → Knowledge → Type 0 = Agrees h.source h.taker h.pushed h.taken in
    let new : Agreed (length first) (witness_knowledge v.taken) = record { pushes = λ no. absurd (true≢false (sym no)); takes = λ no. absurd (true≢false (sym no)); known = mine.known } in
    record {
      source = h.source;
      taker = h.taker;
      pushed = h.pushed;
      taken = h.taken;
      order = h.order;
      rises = h.rises;
      agree = λ m u there. elim (at_push first (witness_knowledge v.taken) u m there) [
        | inl e ↦ all_after Agreed ends n v mine (λ k w _ other. h.agree k w other) m u e
        | inr e ↦ subst (λ k. Agreed k u) (sym e.0) (subst (Agreed (length first)) e.1 new)
      ];
    }

-- what an end that pushes knows to be taken, it pushed
pub knows_pushed : (n : ℕ) (v : Knowledge) → v.pushes ≡ true → Learns IsInOrder n v (λ items. length v.taken ≤ length v.pushed)
knows_pushed n v pushes items ends h at =
    let mine = h.agree n v at in
    let all = ap length ((mine.pushes pushes).1 ∙ h.order) ∙ length-append h.taken items in
    let some = ap length mine.known.1 ∙ length-append v.taken mine.known.0 in
    omega (arith, all, some)

-- an end that doesn't take hears of what a witness knows
pub hears : (n : ℕ) (v : Knowledge) (other : ℕ) (u : Knowledge) → v.takes ≡ false → Merges IsInOrder n v other u (knowing_taken u.taken v) no_knowledge
hears n v other u quiet items ends h at two at' =
    let new = knowing_taken u.taken v in
    let mine = h.agree n v at in
    let known : BeginsWithItems u.taken h.taken = elim (at_set ends n other new u at') [
      | inl e ↦ absurd (two e.0)
      | inr e ↦ (h.agree other u e.1).known
    ] in
    let Agreed : ℕ → Knowledge → Type 0 = Agrees h.source h.taker h.pushed h.taken in
    let spent : Agreed other no_knowledge = record { pushes = λ no. absurd (true≢false (sym no)); takes = λ no. absurd (true≢false (sym no)); known = begins_none h.taken } in
    let this : Agreed n new = record { pushes = mine.pushes; takes = λ yes. absurd (true≢false (sym yes ∙ quiet)); known = known } in
    record {
      source = h.source;
      taker = h.taker;
      pushed = h.pushed;
      taken = h.taken;
      order = h.order;
      rises = h.rises;
      agree = all_after Agreed (set ends n new) other no_knowledge spent (λ m w apart there. all_after Agreed ends n new this (λ k x _ was. h.agree k x was) m w there);
    }

-- the rule after a take
rule_after_take : (n : ℕ) (v : Knowledge) → v.takes ≡ true → (item : Item) (items : List Item) (ends : List Knowledge) → IsInOrder (item ∷ items) ends → get_elem? ends n ≡ some v → IsInOrder items (set ends n (after_taking item v))
rule_after_take n v takes item items ends h at =
    let mine = h.agree n v at in
    let more = h.taken ++ item ∷ [] in
    let Agreed : ℕ → Knowledge → Type 0 = Agrees h.source h.taker h.pushed more in
    let this : Agreed n (after_taking item v) = record { pushes = mine.pushes; takes = λ _. ((mine.takes takes).0, ap (λ xs. xs ++ item ∷ []) (mine.takes takes).1); known = begins_same (v.taken ++ item ∷ []) more (ap (λ xs. xs ++ item ∷ []) (mine.takes takes).1) } in
    let others : (m : ℕ) (u : Knowledge) → m ≢ n → get_elem? ends m ≡ some u → Agreed m u =
    λ m u apart there. record { pushes = (h.agree m u there).pushes; takes = λ yes. absurd (apart (((h.agree m u there).takes yes).0 ∙ sym (mine.takes takes).0)); known = begins_more u.taken h.taken item (h.agree m u there).known } in
    record {
      source = h.source;
      taker = h.taker;
      pushed = h.pushed;
      taken = more;
      order = h.order ∙ sym (append_assoc h.taken (item ∷ []) items);
      rises = h.rises;
      agree = all_after Agreed ends n (after_taking item v) this others;
    }

-- a take that gives puts the item at the end of what was taken, which rises
pub take_gives : (n : ℕ) (v : Knowledge) → v.takes ≡ true → Pops IsInOrder n v (λ item w. (w ≡ after_taking item v) × Rises item_stamp w.taken)
take_gives n v takes item items ends h at =
    let more = h.taken ++ item ∷ [] in
    let order : h.pushed ≡ more ++ items = h.order ∙ sym (append_assoc h.taken (item ∷ []) items) in
    let rises : Rises item_stamp more = Rises-front item_stamp more items (subst (Rises item_stamp) order h.rises) in (
      after_taking item v,
      rule_after_take n v takes item items ends h at,
      (refl, subst (λ xs. Rises item_stamp (xs ++ item ∷ [])) (sym ((h.agree n v at).takes takes).1) rises),
    )

-- where a take finds the queue empty, what was taken rises
pub take_finds_empty : (n : ℕ) (v : Knowledge) → v.takes ≡ true → Learns IsInOrder n v (λ items. Rises item_stamp v.taken)
take_finds_empty n v takes items ends h at =
    subst (Rises item_stamp) (sym ((h.agree n v at).takes takes).1) (Rises-front item_stamp h.taken items (subst (Rises item_stamp) h.order h.rises))

-- an end that pushes and one that takes are joined
pub joins : (n : ℕ) (v : Knowledge) (other : ℕ) (u : Knowledge) → v.pushes ≡ true → u.takes ≡ true → Merges IsInOrder n v other u (knowledge true v.pushed true u.taken) no_knowledge
joins n v other u pushes takes items ends h at two at' =
    let both = knowledge true v.pushed true u.taken in
    let mine = (h.agree n v at).pushes pushes in
    let theirs : (other ≡ h.taker) × (u.taken ≡ h.taken) = elim (at_set ends n other both u at') [
      | inl e ↦ absurd (two e.0)
      | inr e ↦ (h.agree other u e.1).takes takes
    ] in
    let Agreed : ℕ → Knowledge → Type 0 = Agrees h.source n h.pushed h.taken in
    let spent : Agreed other no_knowledge = record { pushes = λ no. absurd (true≢false (sym no)); takes = λ no. absurd (true≢false (sym no)); known = begins_none h.taken } in
    let this : Agreed n both = record { pushes = λ _. mine; takes = λ _. (refl, theirs.1); known = begins_same u.taken h.taken theirs.1 } in
    let others : (m : ℕ) (w : Knowledge) → m ≢ other → get_elem? (set ends n both) m ≡ some w → Agreed m w =
    λ m w apart there. elim (at_set ends n m both w there) [
      | inl e ↦ subst (λ k. Agreed k w) (sym e.0) (subst (Agreed n) e.1 this)
      | inr e ↦ record { pushes = (h.agree m w e.1).pushes; takes = λ yes. absurd (apart (((h.agree m w e.1).takes yes).0 ∙ sym theirs.0)); known = (h.agree m w e.1).known }
    ] in
    record {
      source = h.source;
      taker = n;
      pushed = h.pushed;
      taken = h.taken;
      order = h.order;
      rises = h.rises;
      agree = all_after Agreed (set ends n both) other no_knowledge spent others;
    }

-- what an end that pushes and takes knows of all the rest
knows : (n : ℕ) (v : Knowledge) → v.pushes ≡ true → v.takes ≡ true → (items : List Item) (ends : List Knowledge) → IsInOrder items ends → get_elem? ends n ≡ some v → v.pushed ≡ v.taken ++ items
knows n v pushes takes items ends h at =
    let mine = h.agree n v at in
    (mine.pushes pushes).1 ∙ h.order ∙ ap (λ xs. xs ++ items) (sym (mine.takes takes).1)

-- where both lists are known, what is left is what the queue holds
pub left_is_held : (n : ℕ) (v : Knowledge) → v.pushes ≡ true → v.takes ≡ true → Learns IsInOrder n v (λ items. (rest_of v ≡ items) × IsFront v × Rises item_stamp v.pushed)
left_is_held n v pushes takes items ends h at =
    let e = knows n v pushes takes items ends h at in
    (left_is v items e, is_front v items e, subst (Rises item_stamp) (sym ((h.agree n v at).pushes pushes).1) h.rises)

-- where both lists are known, a take gives the first of what is left
pub left_gives : (n : ℕ) (v : Knowledge) → v.pushes ≡ true → v.takes ≡ true → Pops IsInOrder n v (λ item w. (w ≡ after_taking item v) × (rest_of v ≡ item ∷ rest_of w) × IsFront w)
left_gives n v pushes takes item items ends h at =
    let e = knows n v pushes takes (item ∷ items) ends h at in
    let w = after_taking item v in
    let e' : w.pushed ≡ w.taken ++ items = e ∙ sym (append_assoc v.taken (item ∷ []) items) in (
      w,
      rule_after_take n v takes item items ends h at,
      (refl, left_is v (item ∷ items) e ∙ ap (λ xs. item ∷ xs) (sym (left_is w items e')), is_front w items e'),
    )
