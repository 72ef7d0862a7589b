-- How a topic's step moves the end and the queue of its subscriptions.
use Rattle.delivery.proofs.Words.All.{◌≡◌, ℕ, zero, suc, ◌+◌, ◌-◌, ◌<◌, ◌≤◌, ◌==◌, Bool, true, false, cond, List, [], ◌∷◌, ◌++◌, map, length, Option, Some, None, refl, sym, ap, subst, ◌∙◌, arith, eqb-true, ltb-true, true≢false, lt-ltb, length_push, Stamp, Item, TopicState, Pending, Entry, find_entry, entry_after, due_part, after_release, after_tries, after_releases, after_turn, item_of, none_some, after_release_if, tried_all_subs, World, subscription_at, entry_items, entry_to, queue_has_room, verdict_in}
use Rattle.delivery.proofs.Machine.TopicSteps.{map_same, map_map}

-- from one end and queue to the next: an end stays and its queue with it, the queue keeps its bound, and it is full where it ends
pub record Moves (taken capacity : ℕ) (to : Option Stamp) (xs : List Item) (end : Option Stamp) (ys : List Item) : Type 0 where
  pub stays : (s : Stamp) → to ≡ Some s → end ≡ Some s
  pub kept : (s : Stamp) → to ≡ Some s → ys ≡ xs
  pub grows : length xs ≤ length ys
  pub bound : length xs ≤ taken + capacity → length ys ≤ taken + capacity
  pub full : to ≡ None → (s : Stamp) → end ≡ Some s → taken ≤ length xs → taken + capacity ≤ length ys

-- Moves holds where the end and the queue stay
pub Moves-same : (taken capacity : ℕ) (to : Option Stamp) (xs : List Item) → Moves taken capacity to xs to xs
Moves-same taken capacity to xs = record { stays = λ s e. e; kept = λ s e. refl; grows = omega arith; bound = λ l. l; full = λ n s e l. none_some s (sym n ∙ e) }

full_then : (taken capacity : ℕ) (a b c : Option Stamp) (xs ys zs : List Item) → Moves taken capacity a xs b ys → Moves taken capacity b ys c zs → a ≡ None → (s : Stamp) → c ≡ Some s → taken ≤ length xs → taken + capacity ≤ length zs
full_then taken capacity a None c xs ys zs h k n s e l = k.full refl s e (let m = h.grows in omega arith)
full_then taken capacity a (Some end) c xs ys zs h k n s e l = let m = k.grows in let f = h.full n end refl l in omega arith

-- Moves is transitive
pub Moves-then : (taken capacity : ℕ) (a b c : Option Stamp) (xs ys zs : List Item) → Moves taken capacity a xs b ys → Moves taken capacity b ys c zs → Moves taken capacity a xs c zs
Moves-then taken capacity a b c xs ys zs h k = record {
  stays = λ s e. k.stays s (h.stays s e);
  kept = λ s e. k.kept s (h.stays s e) ∙ h.kept s e;
  grows = let m = h.grows in let n = k.grows in omega arith;
  bound = λ l. k.bound (h.bound l);
  full = full_then taken capacity a b c xs ys zs h k;
}

-- ---- one item

minus_lt : (m n k : ℕ) → m - n < k → m < n + k
minus_lt m n k l = omega arith

minus_le : (m n k : ℕ) → (m - n < k → Prim.⊥) → n ≤ m → n + k ≤ m
minus_le m n k l h = omega arith

abbrev entry_of : ℕ → Stamp → Option Stamp → List Item → Entry
entry_of number from to accepted = record { number = number; from = from; to = to; accepted = accepted }

given_moves : (w : World) (frontier : Stamp) (item : Item) (number : ℕ) (from : Stamp) (accepted : List Item) (b : Bool) → let before = entry_of number from None accepted in queue_has_room w before ≡ b → let later = cond b (record before { accepted = accepted ++ item ∷ [] }) (record before { to = Some frontier }) in Moves (subscription_at w number).taken w.capacity None accepted later.to later.accepted
given_moves w frontier item number from accepted true e =
    let n = (subscription_at w number).taken in let p = length_push accepted item in
    let l = minus_lt (length accepted) n w.capacity (ltb-true (length accepted - n) w.capacity e) in record {
      stays = λ s k. none_some s k;
      kept = λ s k. none_some s k;
      grows = omega arith;
      bound = λ k. omega arith;
      full = λ o s k m. none_some s k;
    }
given_moves w frontier item number from accepted false e =
    let n = (subscription_at w number).taken in record {
      stays = λ s k. none_some s k;
      kept = λ s k. none_some s k;
      grows = omega arith;
      bound = λ k. k;
      full = λ o s k m. minus_le (length accepted) n w.capacity (λ l. true≢false (sym (lt-ltb (length accepted - n) w.capacity l) ∙ e)) m;
    }

delivered_case : (w : World) (frontier : Stamp) (item : Item) (number : ℕ) (from : Stamp) (to : Option Stamp) (accepted : List Item) → let later = entry_after (queue_has_room w) frontier item (entry_of number from to accepted) in Moves (subscription_at w number).taken w.capacity to accepted later.to later.accepted
delivered_case w frontier item number from None accepted = given_moves w frontier item number from accepted (queue_has_room w (entry_of number from None accepted)) refl
delivered_case w frontier item number from (Some end) accepted = Moves-same (subscription_at w number).taken w.capacity (Some end) accepted

number_given : (b : Bool) (e f : Entry) → e.number ≡ f.number → (cond b e f).number ≡ f.number
number_given true e f d = d
number_given false e f d = refl

-- ---- a topic

-- the entries of y are those of x, each moved
pub record Goes (w : World) (x y : TopicState) : Type 0 where
  pub step : Entry → Entry
  pub are : y.subscriptions ≡ map step x.subscriptions
  pub number : (e : Entry) → (step e).number ≡ e.number
  pub moves : (e : Entry) → Moves (subscription_at w e.number).taken w.capacity e.to e.accepted (step e).to (step e).accepted

-- Goes holds where the subscriptions stay
pub Goes-same : (w : World) (x y : TopicState) → y.subscriptions ≡ x.subscriptions → Goes w x y
Goes-same w x y e = record {
  step = λ z. z;
  are = e ∙ map_same x.subscriptions;
  number = λ z. refl;
  moves = λ z. Moves-same (subscription_at w z.number).taken w.capacity z.to z.accepted;
}

Goes-then : (w : World) (x y z : TopicState) → Goes w x y → Goes w y z → Goes w x z
Goes-then w x y z a b = record {
  step = λ e. b.step (a.step e);
  are = b.are ∙ (ap (map b.step) a.are ∙ map_map a.step b.step x.subscriptions);
  number = λ e. b.number (a.step e) ∙ a.number e;
  moves = λ e. let f = a.step e in let g = b.step f in
      Moves-then (subscription_at w e.number).taken w.capacity e.to f.to g.to e.accepted f.accepted g.accepted (a.moves e)
      (subst (λ n. Moves (subscription_at w n).taken w.capacity f.to f.accepted g.to g.accepted) (a.number e) (b.moves f));
}

released_goes : (w : World) (x : TopicState) (o : Option Pending) → Goes w x (after_release_if (queue_has_room w) x o)
released_goes w x None = Goes-same w x x refl
released_goes w x (Some p) = record {
  step = entry_after (queue_has_room w) x.frontier (item_of p);
  are = refl;
  number = λ e. (elim e.to as (λ (to : Option Stamp). (entry_after (queue_has_room w) x.frontier (item_of p) (entry_of e.number e.from to e.accepted)).number ≡ e.number) [
    | None ↦ number_given (queue_has_room w (entry_of e.number e.from None e.accepted)) (entry_of e.number e.from None (e.accepted ++ (item_of p) ∷ [])) (entry_of e.number e.from (Some x.frontier) e.accepted) refl
    | Some end ↦ refl
  ]);
  moves = λ e. delivered_case w x.frontier (item_of p) e.number e.from e.to e.accepted;
}

-- Goes holds of a release
pub release_goes : (w : World) (x : TopicState) → Goes w x (after_release (queue_has_room w) x)
release_goes w x = released_goes w x (due_part x)

times_go : (w : World) (k : ℕ) (x : TopicState) → Goes w x (after_releases (queue_has_room w) k x)
times_go w zero x = Goes-same w x x refl
times_go w (suc k) x =
    Goes-then w x (after_release (queue_has_room w) x) (after_releases (queue_has_room w) k (after_release (queue_has_room w) x)) (release_goes w x) (times_go w k (after_release (queue_has_room w) x))

-- Goes holds of a turn
pub turned_goes : (w : World) (x : TopicState) → Goes w x (after_turn (queue_has_room w) (verdict_in w) x)
turned_goes w x =
    let y = after_tries (verdict_in w) x.pending x in
    Goes-then w x y (after_releases (queue_has_room w) (length y.pending) y) (Goes-same w x y (tried_all_subs (verdict_in w) x.pending x)) (times_go w (length y.pending) y)

-- ---- one entry of it

found_case : (taken capacity : ℕ) (b : Bool) (e f : Entry) (o p : Option Entry) → (b ≡ true → Moves taken capacity e.to e.accepted f.to f.accepted) → Moves taken capacity (entry_to o) (entry_items o) (entry_to p) (entry_items p) → Moves taken capacity (entry_to (cond b (Some e) o)) (entry_items (cond b (Some e) o)) (entry_to (cond b (Some f) p)) (entry_items (cond b (Some f) p))
found_case taken capacity true e f o p h k = h refl
found_case taken capacity false e f o p h k = k

found_moves : (w : World) (n : ℕ) (step : Entry → Entry) → ((e : Entry) → (step e).number ≡ e.number) → ((e : Entry) → Moves (subscription_at w e.number).taken w.capacity e.to e.accepted (step e).to (step e).accepted) → (es : List Entry) → Moves (subscription_at w n).taken w.capacity (entry_to (find_entry n es)) (entry_items (find_entry n es)) (entry_to (find_entry n (map step es))) (entry_items (find_entry n (map step es)))
found_moves w n step number moves [] = Moves-same (subscription_at w n).taken w.capacity None []
found_moves w n step number moves (e ∷ es) =
    let o = find_entry n es in let p = find_entry n (map step es) in
    subst (λ (k : ℕ). Moves (subscription_at w n).taken w.capacity (entry_to (cond (e.number == n) (Some e) o)) (entry_items (cond (e.number == n) (Some e) o)) (entry_to (cond (k == n) (Some (step e)) p)) (entry_items (cond (k == n) (Some (step e)) p))) (sym (number e))
    (found_case (subscription_at w n).taken w.capacity (e.number == n) e (step e) o p
    (λ d. subst (λ k. Moves (subscription_at w k).taken w.capacity e.to e.accepted (step e).to (step e).accepted) (eqb-true e.number n d) (moves e))
    (found_moves w n step number moves es))

-- where Goes holds, the entry of each number moves; one that isn't there has no end and no items
pub entry_moves : (w : World) (x y : TopicState) → Goes w x y → (n : ℕ) → Moves (subscription_at w n).taken w.capacity (entry_to (find_entry n x.subscriptions)) (entry_items (find_entry n x.subscriptions)) (entry_to (find_entry n y.subscriptions)) (entry_items (find_entry n y.subscriptions))
entry_moves w x y g n =
    subst (λ es. Moves (subscription_at w n).taken w.capacity (entry_to (find_entry n x.subscriptions)) (entry_items (find_entry n x.subscriptions)) (entry_to (find_entry n es)) (entry_items (find_entry n es))) (sym g.are)
    (found_moves w n g.step g.number g.moves x.subscriptions)
