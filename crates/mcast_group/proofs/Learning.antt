-- A stamp that is learnt, and verdicts that are found.
use Rattle.std.proofs.Common.{◌≡◌, ℕ, zero, suc, ◌+◌, ◌<◌, ◌≤◌, Bool, true, false, cond, if◌then◌else◌, inl, inr, List, [], ◌∷◌, ◌++◌, map, length, get_or, Option, Some, None, refl, sym, ap, subst, ◌∙◌, arith}
use Rattle.std.specs.List.{position}
use Rattle.std.specs.Option.{is_some}
use Rattle.std.proofs.lemmas.Bool.{true≢false, false≢true}
use Rattle.std.proofs.lemmas.List.{length_push}
use Rattle.mcast_txn.specs.declared.id.TxnId.{TxnId}
use Rattle.mcast_txn.specs.declared.stamp.Stamp.{Stamp}
use Rattle.mcast_txn.specs.Lists.{In}
use Rattle.mcast_txn.specs.Ids.{same_id}
use Rattle.mcast_txn.specs.Ballot.{Decision}
use Rattle.mcast_txn.specs.Transaction.{TopicPart}
use Rattle.mcast_txn.specs.Span.{LogRow}
use Rattle.sub_queue.specs.Shown.{Shown}
use Rattle.mcast_txn.proofs.Orders.{id_itself, id_same}
use Rattle.mcast_group.specs.declared.fault.LearnFault.{LearnFault}
use Rattle.mcast_group.specs.declared.subscription.Subscription.{Subscription}
use Rattle.mcast_group.specs.Sound.{IsSound, RisesById}
use Rattle.mcast_group.specs.Machine.{TopicState, Pending, Entry, decided_stamp, find_pending, key, learn_fault, learn_fault_of, after_learn, with_stamp, after_try, after_tries, due_part, after_release, row_of}
use Rattle.mcast_group.specs.Group.{AreFound, CanLearn, GroupState, Tries, TriesAll, Turns, group_after_releases, group_after_release, group_after_tries}
use Rattle.mcast_group.specs.CellGroup.{open_count}
use Rattle.mcast_group.specs.Inner.Copies.{HaveCopies}
use Rattle.mcast_group.specs.Inner.GroupInvariant.{IsKept}
use Rattle.mcast_group.proofs.Parts.{map_length, told_how, after_release_if, earlier_differs}
use Rattle.mcast_group.proofs.Indices.{part_at as index_of_part}
use Rattle.mcast_group.proofs.ByKey.{own_index}
use Rattle.mcast_group.proofs.Keeping.{Learns, key_past, learns_is, Sound-learned}
use Rattle.mcast_txn.specs.Stamp.{stamp_lt}
use Rattle.mcast_txn.proofs.Members.{In-get_or}

-- ---- a stamp that is learnt

copies_told : (id : TxnId) (stamp : Stamp) (n : ℕ) (ps : List Pending) (cs : List (List TopicPart)) → HaveCopies n ps cs → HaveCopies n (map (with_stamp id stamp) ps) cs
copies_told id stamp n [] [] h = tt
copies_told id stamp n [] (c ∷ cs) h = h
copies_told id stamp n (p ∷ ps) [] h = h
copies_told id stamp n (p ∷ ps) (c ∷ cs) h = ((h.0.0, rw (told_how id stamp p).part h.0.1), copies_told id stamp n ps cs h.1)

-- IsKept holds after a stamp is learnt
pub kept_learned : {Q : Type 0} (spare : Q → ℕ) (x y : TopicState) (capacity : ℕ) (copies : List (List TopicPart)) (subs : List (Subscription Q)) (id : TxnId) (index : ℕ) (stamp : Stamp) → IsKept spare x capacity copies subs → CanLearn id index stamp x → y ≡ after_learn id stamp x → IsKept spare y capacity copies subs
kept_learned spare x y capacity copies subs id index stamp h can e =
    let m = map_length (with_stamp id stamp) x.pending in
    subst (λ (z : TopicState). IsKept spare z capacity copies subs) (sym e) (record {
      sound = subst (λ (s : Stamp). IsSound (after_learn id s x)) (sym can.is) (Sound-learned id can.verdict x h.sound (learns_is id can.verdict x can.allowed));
      room = let r : length x.held + length x.pending ≤ capacity = h.room in omega arith;
      spares = λ s k n. let r : length x.pending ≤ spare s.outlet = h.spares s k n in omega arith;
      copied = copies_told id stamp (open_count x.subscriptions) x.pending copies h.copied;
    })

-- the part that may learn a stamp: it isn't below its key, and is no other part's
pub record MayLearn (stamp : Stamp) (i : ℕ) (x : TopicState) : Type 0 where
  pub within : i < length x.pending
  pub past : (d : Pending) → stamp_lt stamp (key (get_or x.pending i d)) ≡ false
  pub free : (d q : Pending) → In q x.pending → key q ≡ stamp → q ≡ get_or x.pending i d

pub may_learn : (id : TxnId) (i : ℕ) (stamp : Stamp) (x : TopicState) → IsSound x → CanLearn id i stamp x → MayLearn stamp i x
may_learn id i stamp x h can =
    let l = learns_is id can.verdict x can.allowed in
    record {
      within = (index_of_part id x.pending i l.part can.at).in_range;
      past = λ d. rw (can.is, sym (own l d)) (key_past id can.verdict x l);
      free = λ d q k e. h.one_part q (get_or x.pending i d) k (In-get_or x.pending i d (index_of_part id x.pending i d can.at).in_range)
          (subst (λ (z : TxnId). same_id q.part.id z ≡ true) (sym (index_of_part id x.pending i d can.at).is) (l.new q k (e ∙ can.is)));
    }
  where
    own : (l : Learns id can.verdict x) (d : Pending) → l.part ≡ get_or x.pending i d
    own l d =
        let at = index_of_part id x.pending i d can.at in
        h.one_part l.part (get_or x.pending i d) l.stands (In-get_or x.pending i d at.in_range) (id_same l.part.part.id (get_or x.pending i d).part.id (l.is ∙ sym at.is))

-- ---- one part

-- why the part doesn't learn whose index is found for a transaction is why that transaction's doesn't
pub fault_found : (id : TxnId) (v : Decision) (ps : List Pending) (i : ℕ) (d : Pending) → position (λ (p : Pending). same_id p.part.id id) ps ≡ Some i → learn_fault_of v ps (Some (get_or ps i d)) ≡ learn_fault_of v ps (find_pending id ps)
fault_found id v ps i d e = ap (learn_fault_of v ps) (sym (index_of_part id ps i d e).found)

-- why the part at an index doesn't learn is why its transaction's doesn't
pub fault_at : (v : Decision) (x : TopicState) (i : ℕ) (p : Pending) → RisesById x.pending → i < length x.pending → p ≡ get_or x.pending i p → learn_fault_of v x.pending (Some (get_or x.pending i p)) ≡ learn_fault p.part.id v x
fault_at v x i p rises l e = fault_found p.part.id v x.pending i p (own_index x.pending i p rises l e)

-- no fault
pub is_allowed : (o : Option LearnFault) → is_some o ≡ false → o ≡ None
is_allowed None e = refl
is_allowed (Some fault) e = absurd (true≢false e)

-- what was found is refused
pub tried_fault : (finds : TopicPart → Option Decision → Type 0) (p : Pending) (g : GroupState) (o : Option Decision) (v : Decision) → finds p.part o → o ≡ Some v → is_some (learn_fault p.part.id v g.topic) ≡ true → Tries finds p g g
tried_fault finds p g o v h e k =
    (Some v, subst (finds p.part) e h, ap (λ (x : TopicState). record { topic = x; gauges = g.gauges }) (sym (same (learn_fault p.part.id v g.topic) k)))
  where
    same : (o : Option LearnFault) → is_some o ≡ true → let y : TopicState = elim o [ None ↦ after_learn p.part.id (decided_stamp v) g.topic | Some fault ↦ g.topic ] in y ≡ g.topic
    same None k = absurd (false≢true k)
    same (Some fault) k = refl

-- what was found is learnt
pub tried_learns : (finds : TopicPart → Option Decision → Type 0) (p : Pending) (g new : GroupState) (o : Option Decision) (v : Decision) (stamp : Stamp) → finds p.part o → o ≡ Some v → learn_fault p.part.id v g.topic ≡ None → stamp ≡ decided_stamp v → new ≡ record g { topic = after_learn p.part.id stamp g.topic } → Tries finds p g new
tried_learns finds p g new o v stamp h e k s n =
    (Some v, subst (finds p.part) e h, n ∙ ap (λ (x : TopicState). record { topic = x; gauges = g.gauges }) (ap (λ (z : Stamp). after_learn p.part.id z g.topic) s ∙ sym (same k)))
  where
    same : learn_fault p.part.id v g.topic ≡ None → after_try p.part.id (Some v) g.topic ≡ after_learn p.part.id (decided_stamp v) g.topic
    same k = rw (k, after_try) refl

-- ---- each part in turn

-- the parts
abbrev pub parts : List Pending → List TopicPart
parts ps = map (λ (p : Pending). p.part) ps

-- what was found for the first of these
abbrev pub FoundEach : (TopicPart → Option Decision → Type 0) → List (Option Decision) → List Pending → Type 0
FoundEach finds [] ps = Unit {0}
FoundEach finds (a ∷ found) [] = Prim.⊥
FoundEach finds (a ∷ found) (p ∷ ps) = finds p.part a × FoundEach finds found ps

-- learn for the first of these what was found
abbrev pub tried_each : List (Option Decision) → List Pending → TopicState → TopicState
tried_each [] ps x = x
tried_each (a ∷ found) [] x = x
tried_each (a ∷ found) (p ∷ ps) x = tried_each found ps (after_try p.part.id a x)

told_parts : (id : TxnId) (stamp : Stamp) (ps : List Pending) → parts (map (with_stamp id stamp) ps) ≡ parts ps
told_parts id stamp [] = refl
told_parts id stamp (p ∷ ps) = let e = (told_how id stamp p).part in rw (e, told_parts id stamp ps) refl

-- a try to learn leaves the parts, but for the stamps that they have learnt
pub same_parts : (id : TxnId) (o : Option Decision) (x : TopicState) → parts (after_try id o x).pending ≡ parts x.pending
same_parts id None x = refl
same_parts id (Some v) x = go (learn_fault id v x)
  where
    go : (o : Option LearnFault) → let y : TopicState = elim o [ None ↦ after_learn id (decided_stamp v) x | Some fault ↦ x ] in parts y.pending ≡ parts x.pending
    go None = told_parts id (decided_stamp v) x.pending
    go (Some fault) = refl

-- pending lists of the same parts have the same part at each index
pub part_at : (ps qs : List Pending) (i : ℕ) (d : Pending) → parts ps ≡ parts qs → (get_or ps i d).part ≡ (get_or qs i d).part
part_at [] [] i d e = refl
part_at [] (q ∷ qs) i d e = cc
part_at (p ∷ ps) [] i d e = cc
part_at (p ∷ ps) (q ∷ qs) zero d e = cc
part_at (p ∷ ps) (q ∷ qs) (suc i) d e = let k : parts ps ≡ parts qs = cc in part_at ps qs i d k

-- pending lists of the same parts have the same length
pub parts_length : (ps qs : List Pending) → parts ps ≡ parts qs → length ps ≡ length qs
parts_length ps qs e = sym (map_length (λ (p : Pending). p.part) ps) ∙ (ap (λ (xs : List TopicPart). length xs) e ∙ map_length (λ (p : Pending). p.part) qs)

-- one more part tries after those before it
pub tried_push : (found : List (Option Decision)) (a : Option Decision) (ps : List Pending) (i : ℕ) (d : Pending) (x : TopicState) → length found ≡ i → i < length ps → tried_each (found ++ a ∷ []) ps x ≡ after_try (get_or ps i d).part.id a (tried_each found ps x)
tried_push [] a [] i d x e l = absurd (omega arith)
tried_push [] a (p ∷ ps) zero d x e l = refl
tried_push [] a (p ∷ ps) (suc i) d x e l = absurd (omega arith)
tried_push (b ∷ found) a [] i d x e l = absurd (omega arith)
tried_push (b ∷ found) a (p ∷ ps) zero d x e l = absurd (omega arith)
tried_push (b ∷ found) a (p ∷ ps) (suc i) d x e l = tried_push found a ps i d (after_try p.part.id b x) (omega arith) (omega arith)

-- one more answer is found for its part, after those before it
pub found_push : (finds : TopicPart → Option Decision → Type 0) (found : List (Option Decision)) (a : Option Decision) (ps : List Pending) (i : ℕ) (d : Pending) → length found ≡ i → i < length ps → FoundEach finds found ps → finds (get_or ps i d).part a → FoundEach finds (found ++ a ∷ []) ps
found_push finds [] a [] i d e l h k = absurd (omega arith)
found_push finds [] a (p ∷ ps) zero d e l h k = (k, tt)
found_push finds [] a (p ∷ ps) (suc i) d e l h k = absurd (omega arith)
found_push finds (b ∷ found) a [] i d e l h k = absurd (omega arith)
found_push finds (b ∷ found) a (p ∷ ps) zero d e l h k = absurd (omega arith)
found_push finds (b ∷ found) a (p ∷ ps) (suc i) d e l h k = (h.0, found_push finds found a ps i d (omega arith) (omega arith) h.1 k)

-- ---- what was found as a function of the transaction

-- what was found for the part of this transaction
abbrev pub found_of : List Pending → List (Option Decision) → TxnId → Option Decision
found_of [] found id = None
found_of (p ∷ ps) [] id = None
found_of (p ∷ ps) (a ∷ found) id = if same_id p.part.id id then a else found_of ps found id

-- `find` gives for each part what was found for it
abbrev pub HasFound : (TxnId → Option Decision) → List (Option Decision) → List Pending → Type 0
HasFound find [] [] = Unit {0}
HasFound find [] (p ∷ ps) = Prim.⊥
HasFound find (a ∷ found) [] = Prim.⊥
HasFound find (a ∷ found) (p ∷ ps) = (find p.part.id ≡ a) × HasFound find found ps

found_same : (f h : TxnId → Option Decision) (found : List (Option Decision)) (ps : List Pending) → ((q : Pending) → In q ps → h q.part.id ≡ f q.part.id) → HasFound f found ps → HasFound h found ps
found_same f h [] [] e a = tt
found_same f h [] (p ∷ ps) e a = a
found_same f h (b ∷ found) [] e a = a
found_same f h (b ∷ found) (p ∷ ps) e a = (e p (inl refl) ∙ a.0, found_same f h found ps (λ q k. e q (inr k)) a.1)

-- found_of gives for each part what was found for it
pub has_found : (found : List (Option Decision)) (ps : List Pending) → RisesById ps → length found ≡ length ps → HasFound (found_of ps found) found ps
has_found [] [] h l = tt
has_found [] (p ∷ ps) h l = absurd (omega arith)
has_found (a ∷ found) [] h l = absurd (omega arith)
has_found (a ∷ found) (p ∷ ps) h l = (
  ap (λ (t : Bool). cond t a (found_of ps found p.part.id)) (id_itself p.part.id),
  found_same (found_of ps found) (found_of (p ∷ ps) (a ∷ found)) found ps (λ q k. ap (λ (t : Bool). cond t a (found_of ps found q.part.id)) (earlier_differs p.part.id q.part.id (h.0 q k))) (has_found found ps h.1 (omega arith)),
)

are_found : (finds : TopicPart → Option Decision → Type 0) (find : TxnId → Option Decision) (found : List (Option Decision)) (ps : List Pending) → HasFound find found ps → FoundEach finds found ps → AreFound finds find ps
are_found finds find [] [] h k p i = absurd i
are_found finds find [] (q ∷ ps) h k p i = absurd h
are_found finds find (a ∷ found) [] h k p i = absurd h
are_found finds find (a ∷ found) (q ∷ ps) h k p (inl e) = subst (λ (z : Pending). finds z.part (find z.part.id)) e (subst (finds q.part) (sym h.0) k.0)
are_found finds find (a ∷ found) (q ∷ ps) h k p (inr i) = are_found finds find found ps h.1 k.1 p i

each_all : (find : TxnId → Option Decision) (found : List (Option Decision)) (ps : List Pending) (x : TopicState) → HasFound find found ps → tried_each found ps x ≡ after_tries find ps x
each_all find [] [] x h = refl
each_all find [] (p ∷ ps) x h = absurd h
each_all find (a ∷ found) [] x h = absurd h
each_all find (a ∷ found) (p ∷ ps) x h =
    each_all find found ps (after_try p.part.id a x) h.1 ∙ ap (λ (o : Option Decision). after_tries find ps (after_try p.part.id o x)) (sym h.0)

-- where each part in turn tried to learn what was found for it, TriesAll holds
pub all_tried : (finds : TopicPart → Option Decision → Type 0) (found : List (Option Decision)) (g new : GroupState) → RisesById g.topic.pending → length found ≡ length g.topic.pending → FoundEach finds found g.topic.pending → new ≡ record g { topic = tried_each found g.topic.pending g.topic } → TriesAll finds g new
all_tried finds found g new h l k e =
    let has = has_found found g.topic.pending h l in (
      found_of g.topic.pending found,
      are_found finds (found_of g.topic.pending found) found g.topic.pending has k,
      e ∙ ap (λ (x : TopicState). record { topic = x; gauges = g.gauges }) (each_all (found_of g.topic.pending found) found g.topic.pending g.topic has),
    )

-- ---- a turn takes no row from the log

tried_held : (id : TxnId) (o : Option Decision) (x : TopicState) → (after_try id o x).held ≡ x.held
tried_held id None x = refl
tried_held id (Some v) x = go (learn_fault id v x)
  where
    go : (o : Option LearnFault) → let y : TopicState = elim o [ None ↦ after_learn id (decided_stamp v) x | Some fault ↦ x ] in y.held ≡ x.held
    go None = refl
    go (Some fault) = refl

-- tries to learn leave the log
pub tried_all_held : (find : TxnId → Option Decision) (ps : List Pending) (x : TopicState) → (after_tries find ps x).held ≡ x.held
tried_all_held find [] x = refl
tried_all_held find (p ∷ ps) x = tried_all_held find ps (after_try p.part.id (find p.part.id) x) ∙ tried_held p.part.id (find p.part.id) x

release_held : (t : Entry → Bool) (x : TopicState) → length x.held ≤ length (after_release t x).held
release_held t x = go (due_part x)
  where
    go : (o : Option Pending) → length x.held ≤ length (after_release_if t x o).held
    go None = omega arith
    go (Some p) = let m = length_push x.held (row_of p) in omega arith

-- releases take no row from the log
pub each_held : (ts : List (Entry → Bool)) (g : GroupState) → length g.topic.held ≤ length (group_after_releases ts g).topic.held
each_held [] g = omega arith
each_held (t ∷ ts) g =
    let a = release_held t g.topic in
    let b = each_held ts (group_after_release t g) in
    omega arith

-- a group's turn takes no row from the log
pub turn_holds : (may : Shown → Bool → Type 0) (finds : TopicPart → Option Decision → Type 0) (g new : GroupState) → Turns may finds g new → length g.topic.held ≤ length new.topic.held
turn_holds may finds g new t =
    let r = t.releases in
    let a : length (after_tries t.find g.topic.pending g.topic).held ≡ length g.topic.held = ap (λ (z : List LogRow). length z) (tried_all_held t.find g.topic.pending g.topic) in
    let b = each_held r.0 (group_after_tries t.find g) in
    let c : length new.topic.held ≡ length (group_after_releases r.0 (group_after_tries t.find g)).topic.held = ap (λ (z : GroupState). length z.topic.held) r.3 in
    omega arith
