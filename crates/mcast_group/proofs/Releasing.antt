-- A release, given to each subscription.
use Rattle.std.proofs.Common.{◌≡◌, ℕ, zero, suc, ◌+◌, ◌<◌, ◌≤◌, ◌==◌, Bool, true, false, cond, if◌then◌else◌, inl, inr, List, [], ◌∷◌, ◌++◌, map, length, get_or, Option, Some, None, refl, sym, ap, subst, ◌∙◌, arith}
use Rattle.std.specs.List.{remove}
use Rattle.std.specs.Option.{is_some}
use Rattle.std.proofs.lemmas.List.{length-map, length_push, get_or_default}
use Rattle.std.proofs.lemmas.List.Edits.{length-remove}
use Rattle.std.proofs.lemmas.Bool.{eq-eqb, ne_eqb}
use Rattle.mcast_txn.specs.declared.stamp.Stamp.{Stamp}
use Rattle.mcast_txn.specs.Lists.{In}
use Rattle.mcast_txn.specs.Stamp.{stamp_lt}
use Rattle.mcast_txn.specs.Span.{Item}
use Rattle.mcast_txn.specs.Transaction.{TopicPart}
use Rattle.mcast_txn.proofs.Members.{In-map, In-map_cases, In-get_or}
use Rattle.mcast_txn.proofs.Orders.{le_lt}
use Rattle.sub_queue.specs.Shown.{Shown, Gauge, IsAboveLast}
use Rattle.mcast_group.specs.declared.subscription.Subscription.{Subscription}
use Rattle.mcast_group.specs.Sound.{IsSound}
use Rattle.mcast_group.specs.Machine.{TopicState, Entry, Pending, entry_after, due_part, item_of, key, least_part, after_release, after_release_of, row_of}
use Rattle.mcast_group.specs.Group.{GroupState, OutletsAnswer, AnswersEach, ReleasesAll, group_after_releases, MayAnswer, Releases, entries_after, group_after_release}
use Rattle.mcast_group.specs.Sound.{NumbersDiffer}
use Rattle.mcast_group.specs.CellGroup.{open_count}
use Rattle.mcast_group.specs.Inner.Copies.{AreOf, HaveCopies}
use Rattle.mcast_group.specs.Inner.GroupInvariant.{Gave, IsKept, IsReady, MayGive, entry_of, gauge_of}
use Rattle.mcast_group.proofs.Groups.{due_here, release_is, release_none}
use Rattle.mcast_group.proofs.Parts.{due_is, map_length}
use Rattle.mcast_group.proofs.Turning.{Sound-release}
use Rattle.mcast_group.proofs.Giving.{get_or-map}

-- ---- answers as a function of the entry

-- the answer of the entry of this number
abbrev pub answer_of : List Entry → List Bool → Entry → Bool
answer_of [] bs f = false
answer_of (e ∷ es) [] f = false
answer_of (e ∷ es) (b ∷ bs) f = if f.number == e.number then b else answer_of es bs f

-- each entry's answer is that of the list
abbrev pub HasAnswers : (Entry → Bool) → List Bool → List Entry → Type 0
HasAnswers takes [] [] = Unit {0}
HasAnswers takes [] (e ∷ es) = Prim.⊥
HasAnswers takes (b ∷ bs) [] = Prim.⊥
HasAnswers takes (b ∷ bs) (e ∷ es) = (takes e ≡ b) × HasAnswers takes bs es

answers_same : (t u : Entry → Bool) (bs : List Bool) (es : List Entry) → ((f : Entry) → In f es → u f ≡ t f) → HasAnswers t bs es → HasAnswers u bs es
answers_same t u [] [] h a = tt
answers_same t u [] (e ∷ es) h a = a
answers_same t u (b ∷ bs) [] h a = a
answers_same t u (b ∷ bs) (e ∷ es) h a = (h e (inl refl) ∙ a.0, answers_same t u bs es (λ f k. h f (inr k)) a.1)

-- answer_of gives each entry its answer of the list
pub has_answers : (bs : List Bool) (es : List Entry) → NumbersDiffer es → length bs ≡ length es → HasAnswers (answer_of es bs) bs es
has_answers [] [] h l = tt
has_answers [] (e ∷ es) h l = absurd (omega arith)
has_answers (b ∷ bs) [] h l = absurd (omega arith)
has_answers (b ∷ bs) (e ∷ es) h l = (
  ap (λ (t : Bool). cond t b (answer_of es bs e)) (eq-eqb e.number e.number refl),
  answers_same (answer_of es bs) (answer_of (e ∷ es) (b ∷ bs)) bs es (λ f k. ap (λ (t : Bool). cond t b (answer_of es bs f)) (ne_eqb f.number e.number (h.0 f k))) (has_answers bs es h.1 (omega arith)),
)

-- an entry after an item is the same under two tests that agree of it
pub delivered_by : (t u : Entry → Bool) (f : Stamp) (i : Item) (e : Entry) → t e ≡ u e → entry_after t f i e ≡ entry_after u f i e
delivered_by t u f i e k = ap (λ (b : Bool). entry_after (λ _. b) f i e) k

-- the entries after the answers of a list are those after a function that gives them
pub each_is : (takes : Entry → Bool) (f : Stamp) (i : Item) (bs : List Bool) (es : List Entry) → HasAnswers takes bs es → entries_after f i bs es ≡ map (entry_after takes f i) es
each_is takes f i [] [] h = refl
each_is takes f i [] (e ∷ es) h = absurd h
each_is takes f i (b ∷ bs) [] h = absurd h
each_is takes f i (b ∷ bs) (e ∷ es) h =
    let ih = each_is takes f i bs es h.1 in
    rw (delivered_by (λ _. b) takes f i e (sym h.0), ih) refl

-- answers that may be given one by one may be given by a function that gives them
pub may_is : {Q : Type 0} (shown : Q → Shown) (may : Shown → Bool → Type 0) (takes : Entry → Bool) (bs : List Bool) (subs : List (Subscription Q)) → HasAnswers takes bs (map (entry_of shown) subs) → MayGive shown may bs subs → MayAnswer may takes (map (entry_of shown) subs) (map (gauge_of shown) subs)
may_is shown may takes [] [] h a = tt
may_is shown may takes [] (s ∷ subs) h a = absurd h
may_is shown may takes (b ∷ bs) [] h a = absurd h
may_is shown may takes (b ∷ bs) (s ∷ subs) h a =
    (λ n. subst (λ (t : Bool). may (shown s.outlet) t) (sym h.0) (a.0 n), may_is shown may takes bs subs h.1 a.1)

-- ---- copies

-- there are as many lists of copies as parts
pub copies_length : (n : ℕ) (ps : List Pending) (cs : List (List TopicPart)) → HaveCopies n ps cs → length ps ≡ length cs
copies_length n [] [] h = refl
copies_length n [] (c ∷ cs) h = absurd h
copies_length n (p ∷ ps) [] h = absurd h
copies_length n (p ∷ ps) (c ∷ cs) h = let ih = copies_length n ps cs h.1 in omega arith

-- the list of copies at a part's index has n, all of that part
pub copies_at : (n : ℕ) (ps : List Pending) (cs : List (List TopicPart)) (i : ℕ) (p : Pending) (c : List TopicPart) → HaveCopies n ps cs → i < length ps → p ≡ get_or ps i p → c ≡ get_or cs i c → (length c ≡ n) × AreOf p.part c
copies_at n [] cs i p c h l e k = absurd (omega arith)
copies_at n (q ∷ ps) [] i p c h l e k = absurd h
copies_at n (q ∷ ps) (b ∷ cs) zero p c h l e k = rw (e, k) h.0
copies_at n (q ∷ ps) (b ∷ cs) (suc i) p c h l e k = copies_at n ps cs i p c h.1 (omega arith) e k

-- a part and its copies are removed: each part has its copies
pub copies_remove : (n : ℕ) (ps : List Pending) (cs : List (List TopicPart)) (i : ℕ) → HaveCopies n ps cs → HaveCopies n (remove ps i) (remove cs i)
copies_remove n [] [] zero h = h
copies_remove n [] [] (suc i) h = h
copies_remove n [] (c ∷ cs) i h = absurd h
copies_remove n (p ∷ ps) [] i h = absurd h
copies_remove n (p ∷ ps) (c ∷ cs) zero h = h.1
copies_remove n (p ∷ ps) (c ∷ cs) (suc i) h = (h.0, copies_remove n ps cs i h.1)

-- ---- what a group keeps

-- x stands at an index
pub record Placed {X : Type 0} (x : X) (xs : List X) : Type 0 where
  pub index : ℕ
  pub within : index < length xs
  pub is : (d : X) → get_or xs index d ≡ x

-- what is in a list is at an index of it
pub placed_at : {X : Type 0} (x : X) (xs : List X) → In x xs → Placed x xs
placed_at x [] h = absurd h
placed_at x (y ∷ xs) (inl e) = record { index = 0; within = omega arith; is = λ d. e }
placed_at x (y ∷ xs) (inr h) =
    let p = placed_at x xs h in
    let l : p.index < length xs = p.within in
    record { index = suc p.index; within = omega arith; is = p.is }

-- what is at an index of a mapped list is f of what is there in the list
pub map_within : {X Y : Type 0} (f : X → Y) (xs : List X) (i : ℕ) (d : Y) (e : X) → i < length xs → get_or (map f xs) i d ≡ f (get_or xs i e)
map_within f [] i d e l = absurd (omega arith)
map_within f (x ∷ xs) zero d e l = refl
map_within f (x ∷ xs) (suc i) d e l = map_within f xs i d e (omega arith)

-- one that is open after an item was open before it
open_before : (takes : Entry → Bool) (f : Stamp) (i : Item) (e : Entry) → (entry_after takes f i e).to ≡ None → e.to ≡ None
open_before takes f i e h = go e.to refl h
  where
    go : (o : Option Stamp) → e.to ≡ o → (entry_after takes f i e).to ≡ None → e.to ≡ None
    go None k h = k
    go (Some end) k h = let m : (entry_after takes f i e).to ≡ e.to = rw k refl in sym m ∙ h

-- numbers that differ do so after a map that keeps each number
pub differ_same : (g : Entry → Entry) → ((e : Entry) → (g e).number ≡ e.number) → (es : List Entry) → NumbersDiffer es → NumbersDiffer (map g es)
differ_same g k [] h = tt
differ_same g k (e ∷ es) h =
    (λ f m. let w = In-map_cases g f es m in λ q. h.0 w.from w.stands (sym (k w.from) ∙ (ap (λ (z : Entry). z.number) w.is ∙ (q ∙ k e))), differ_same g k es h.1)

-- a stamp above that of each item is above that of the last
above_last : (items : List Item) (stamp : Stamp) → ((i : Item) → In i items → stamp_lt i.stamp stamp ≡ true) → IsAboveLast items stamp
above_last [] stamp h = tt
above_last (x ∷ []) stamp h = h x (inl refl)
above_last (x ∷ y ∷ ys) stamp h = above_last (y ∷ ys) stamp (λ i k. h i (inr k))

module _ {Q : Type 0} (shown : Q → Shown) (spare : Q → ℕ) (x : TopicState) (capacity : ℕ) (copies : List (List TopicPart)) (old : List (Subscription Q)) (h : IsKept spare x capacity copies old) (is : x.subscriptions ≡ map (entry_of shown) old) where
  -- each subscription is ready for what is due
  pub ready : (p : Pending) → due_part x ≡ Some p → (k : ℕ) (d : Subscription Q) → k < length old → IsReady shown spare (key p) (get_or old k d)
  ready p due k d l =
      let s = get_or old k d in
      let stands = In-get_or old k d l in
      let i = (due_is x p due).least.stands in
      record {
        room = λ n. let m : length x.pending ≤ spare s.outlet = h.spares s stands n in let some = some_in p x.pending i in omega arith;
        above = λ n.
            let e : In (entry_of shown s) x.subscriptions = subst (λ (es : List Entry). In (entry_of shown s) es) (sym is) (In-map (entry_of shown) s old stands) in
            above_last (shown s.outlet).accepted (key p) (λ j o. le_lt j.stamp x.frontier (key p) ((h.sound.queues (entry_of shown s) e).past j o) (h.sound.above p i));
      }
    where
      some_in : (q : Pending) (qs : List Pending) → In q qs → 0 < length qs
      some_in q [] m = absurd m
      some_in q (r ∷ qs) m = omega arith

  -- the group after a release
  pub kept_released : (takes : Entry → Bool) (p : Pending) (i : ℕ) (y : TopicState) (new : List (Subscription Q)) (more : List (List TopicPart)) → due_part x ≡ Some p → i < length x.pending → y ≡ after_release_of takes p x → y.pending ≡ remove x.pending i → y.subscriptions ≡ map (entry_of shown) new → length new ≡ length old → ((k : ℕ) (d : Subscription Q) → k < length old → spare (get_or old k d).outlet ≤ spare (get_or new k d).outlet + 1) → HaveCopies (open_count y.subscriptions) y.pending more → IsKept spare y capacity more new
  kept_released takes p i y new more due l e gone are many left copied =
      let fewer : length y.pending + 1 ≡ length x.pending = ap (λ (z : List Pending). length z + 1) gone ∙ length-remove x.pending i l in
      let subs : y.subscriptions ≡ map (entry_after takes x.frontier (item_of p)) x.subscriptions = ap (λ (z : TopicState). z.subscriptions) e in
      record {
        sound = subst IsSound (release_is takes x p due ∙ sym e) (Sound-release takes x h.sound);
        room =
            let r : length x.held + length x.pending ≤ capacity = h.room in
            let held : length y.held ≡ length (x.held ++ row_of p ∷ []) = ap (λ (z : TopicState). length z.held) e in
            let m = length_push x.held (row_of p) in omega arith;
        spares = λ s stands n.
            let w = placed_at s new stands in
            let k = w.index in
            let in_old : k < length old = subst (λ (m : ℕ). k < m) many w.within in
            let d = get_or old k s in
            let here : entry_of shown s ≡ entry_after takes x.frontier (item_of p) (entry_of shown d) =
            sym (map_within (entry_of shown) new k (entry_of shown s) s w.within ∙ ap (entry_of shown) (w.is s))
            ∙ (ap (λ (es : List Entry). get_or es k (entry_of shown s)) (sym are ∙ (subs ∙ ap (map (entry_after takes x.frontier (item_of p))) is))
            ∙ (map_within (entry_after takes x.frontier (item_of p)) (map (entry_of shown) old) k (entry_of shown s) (entry_of shown s) (rw length-map in_old)
            ∙ ap (entry_after takes x.frontier (item_of p)) (get_or-map (entry_of shown) old k s))) in
            let was : d.to ≡ None = open_before takes x.frontier (item_of p) (entry_of shown d) (sym (ap (λ (z : Entry). z.to) here) ∙ n) in
            let before : length x.pending ≤ spare d.outlet = h.spares d (In-get_or old k s in_old) was in
            let after : spare d.outlet ≤ spare s.outlet + 1 = subst (λ (z : Subscription Q). spare d.outlet ≤ spare z.outlet + 1) (w.is s) (left k s in_old) in
            omega arith;
        copied = copied;
      }

-- ---- what is given is a release

-- a function of the entry, which gives the answers
pub record Taken (may : Shown → Bool → Type 0) (f : Stamp) (item : Item) (es new : List Entry) (gauges : List Gauge) : Type 0 where
  pub takes : Entry → Bool
  pub answered : MayAnswer may takes es gauges
  pub is : new ≡ map (entry_after takes f item) es

-- where an item was given to each subscription, the entries are the machine's, with these answers
pub taken : {Q : Type 0} (shown : Q → Shown) (may : Shown → Bool → Type 0) (f : Stamp) (item : Item) (old new : List (Subscription Q)) → NumbersDiffer (map (entry_of shown) old) → Gave shown may f item old new → Taken may f item (map (entry_of shown) old) (map (entry_of shown) new) (map (gauge_of shown) old)
taken shown may f item old new h gave =
    let es = map (entry_of shown) old in
    let has = has_answers gave.answers es h (gave.many ∙ sym (map_length (entry_of shown) old)) in
    record {
      takes = answer_of es gave.answers;
      answered = may_is shown may (answer_of es gave.answers) gave.answers old has gave.answered;
      is = gave.entries ∙ each_is (answer_of es gave.answers) f item gave.answers es has;
    }

-- nothing is due, and nothing changes
pub nothing : (takes : Entry → Bool) (g : GroupState) → due_part g.topic ≡ None → g ≡ group_after_release takes g
nothing takes g e = ap (λ (x : TopicState). record { topic = x; gauges = g.gauges }) (sym (release_none takes g.topic e))

-- ---- what release answers

-- where nothing is due, a release leaves the group
pub none_released : (may : Shown → Bool → Type 0) (g : GroupState) → due_part g.topic ≡ None → Releases may g g
none_released may g e = ((λ _. true), (λ p k. absurd (some_none p (sym k ∙ e))), nothing (λ _. true) g e)
  where
    some_none : (p : Pending) → Some p ≡ None → Prim.⊥
    some_none p k = cc

-- where a part is due, giving its item to each entry is a release
pub some_released : (may : Shown → Bool → Type 0) (x y : TopicState) (gauges after : List Gauge) (p : Pending) (es : List Entry) → due_part x ≡ Some p → (t : Taken may x.frontier (item_of p) x.subscriptions es gauges) → y ≡ after_release_of t.takes p x → after ≡ gauges → Releases may (record { topic = x; gauges = gauges }) (record { topic = y; gauges = after })
some_released may x y gauges after p es due t e k = (
  t.takes,
  (λ q l. t.answered),
  ap (λ (z : TopicState). record { topic = z; gauges = after }) (e ∙ sym (release_is t.takes x p due))
      ∙ ap (λ (z : List Gauge). record { topic = after_release t.takes x; gauges = z }) k,
)

-- the part at the index of least key is due, once it has learnt
pub due_found : (x : TopicState) (index : ℕ) (q p : Pending) → ((d : Pending) → least_part x.pending ≡ Some (get_or x.pending index d)) → index < length x.pending → q ≡ get_or x.pending index q → p ≡ get_or x.pending index p → is_some q.learnt ≡ true → due_part x ≡ Some p
due_found x index q p low l e k learnt =
    let same : q ≡ p = e ∙ (get_or_default x.pending index q p l ∙ sym k) in
    due_here x p (low p ∙ ap Some (sym k)) (subst (λ (z : Pending). is_some z.learnt ≡ true) same learnt)

-- nothing is due where the part of least key has learnt no stamp
pub none_learnt : (x : TopicState) (index : ℕ) (q : Pending) → ((d : Pending) → least_part x.pending ≡ Some (get_or x.pending index d)) → q ≡ get_or x.pending index q → is_some q.learnt ≡ false → due_part x ≡ None
none_learnt x index q low e learnt = rw (low q, ← e, learnt) refl

-- nothing is due where nothing is pending
pub none_pending : (x : TopicState) → x.pending ≡ [] → due_part x ≡ None
none_pending x e = rw e refl

-- ---- one release after another

-- one more release comes after those before it
pub each_push : (ts : List (Entry → Bool)) (t : Entry → Bool) (g : GroupState) → group_after_releases (ts ++ t ∷ []) g ≡ group_after_release t (group_after_releases ts g)
each_push [] t g = refl
each_push (u ∷ ts) t g = each_push ts t (group_after_release u g)

-- one more release's answers may be given, after those before it
pub answers_push : (may : Shown → Bool → Type 0) (ts : List (Entry → Bool)) (t : Entry → Bool) (g : GroupState) → AnswersEach may ts g → ((p : Pending) → due_part (group_after_releases ts g).topic ≡ Some p → OutletsAnswer may t (group_after_releases ts g)) → AnswersEach may (ts ++ t ∷ []) g
answers_push may [] t g h k = (k, tt)
answers_push may (u ∷ ts) t g h k = (h.0, answers_push may ts t (group_after_release u g) h.1 k)

no_part : (p : Pending) → None ≡ Some p → Prim.⊥
no_part p e = cc

-- where nothing is due, answers that nobody asks for change nothing
pub released_all : (may : Shown → Bool → Type 0) (ts : List (Entry → Bool)) (t : Entry → Bool) (k : ℕ) (g mid new : GroupState) → length ts + k ≡ length g.topic.pending → AnswersEach may ts g → mid ≡ group_after_releases ts g → due_part mid.topic ≡ None → new ≡ group_after_release t mid → ReleasesAll may g new
released_all may ts t zero g mid new l h e none r =
    (ts, omega arith, h, r ∙ (sym (nothing t mid none) ∙ e))
released_all may ts t (suc k) g mid new l h e none r =
    let same : group_after_release t mid ≡ mid = sym (nothing t mid none) in
    released_all may (ts ++ t ∷ []) t k g mid new (let m = length_push ts t in omega arith)
    (answers_push may ts t g h (λ p d. absurd (no_part p (sym none ∙ (ap (λ (z : GroupState). due_part z.topic) e ∙ d)))))
    (sym same ∙ (ap (group_after_release t) e ∙ sym (each_push ts t g)))
    none r
