-- A kept trace stays that of its topic.
use Rattle.std.proofs.Common.{◌≡◌, ◌≢◌, ℕ, ◌<◌, ◌==◌, ◌&&◌, not, Bool, true, false, cond, inl, inr, ◌⊎◌, List, [], ◌∷◌, ◌++◌, map, Option, Some, None, refl, sym, ap, subst, ◌∙◌, append-nil, append_assoc, arith}
use Rattle.std.specs.List.{AllByRecursion, filter, list_any}
use Rattle.std.proofs.lemmas.Bool.{eq-eqb, eqb-true, ne_eqb, true≢false}
use Rattle.std.proofs.lemmas.Bool.Decides.{nat_tests}
use Rattle.std.proofs.lemmas.List.{map-append}
use Rattle.std.proofs.lemmas.List.Elements.{filter-append}
use Rattle.mcast_txn.specs.Ballot.{Decision}
use Rattle.mcast_txn.specs.Lists.{In, Rises, RisesBy, insert_by_number}
use Rattle.mcast_txn.specs.Span.{Item, LogRow, in_span, row_stamp, row_mark, item_mark}
use Rattle.mcast_txn.specs.Stamp.{stamp_lt}
use Rattle.mcast_txn.specs.declared.id.TxnId.{TxnId}
use Rattle.mcast_txn.specs.declared.stamp.Stamp.{Stamp}
use Rattle.mcast_txn.proofs.Inserting.{In-insert, In-insert_cases, rises_inserted}
use Rattle.mcast_txn.proofs.Members.{In-filter, In-filter_cases, In-map, In-map_cases, In-push_cases, any_from, filter_none, filter_same}
use Rattle.mcast_txn.proofs.Orders.{le_lt, lt_asym, lt_irrefl}
use Rattle.mcast_txn.proofs.Rising.{rises_alike}
use Rattle.mcast_txn.proofs.Sorting.{Rises-push}
use Rattle.mcast_group.specs.declared.cause.Cause.TheVariants.{Asked, Lag}
use Rattle.mcast_group.specs.declared.fault.LearnFault.{LearnFault}
use Rattle.mcast_group.specs.Group.{GroupState, group_after_release, group_after_releases}
use Rattle.mcast_group.specs.Machine.{Entry, Pending, TopicState, after_drain, after_learn, after_release, after_release_of, after_subscribe, after_tries, after_try, after_unsubscribe, decided_stamp, due_part, end_of, entry_after, find_entry, insert_entry, item_of, key, learn_fault, row_of, subscribe_fault}
use Rattle.mcast_group.specs.Sound.{IsSound}
use Rattle.mcast_group.proofs.Allowed.{keeps_sound}
use Rattle.mcast_group.proofs.Parts.{due_is, none_some, some_same, after_release_if}
use Rattle.mcast_group.proofs.Queues.{delivered_from, delivered_number}
use Rattle.mcast_txn.specs.declared.mark.Mark.{Mark}
use Rattle.broker_locks.specs.KeptTrace.{HasEntry, HasSub, IsEndOf, KeepsTrace, KeptEnd, KeptSub, KeptTrace, end_kept, kept_after_drain, kept_after_subscribe, kept_after_unsubscribe, kept_end, marks_between, sub_after_end, whole_log}

-- ---- marks

-- a number of a subscription
abbrev pub sub_number : KeptSub → ℕ
sub_number s = s.number

and_false : (a : Bool) → a && false ≡ false
and_false true = refl
and_false false = refl

and_true : (a : Bool) → a && true ≡ a
and_true true = refl
and_true false = refl

-- a row more that lies in the span
pub marks_more : (from : Stamp) (to : Option Stamp) (log : List LogRow) (r : LogRow) → in_span from to r.stamp ≡ true → marks_between from to (log ++ r ∷ []) ≡ marks_between from to log ++ row_mark r ∷ []
marks_more from to log r e =
    let one : filter (λ (q : LogRow). in_span from to q.stamp) (r ∷ []) ≡ r ∷ [] = rw e refl in
    ap (map row_mark) (filter-append (λ (q : LogRow). in_span from to q.stamp) log (r ∷ []))
    ∙ (map-append row_mark (filter (λ (q : LogRow). in_span from to q.stamp) log) (filter (λ (q : LogRow). in_span from to q.stamp) (r ∷ []))
    ∙ ap (λ (rs : List LogRow). marks_between from to log ++ map row_mark rs) one)

-- a row more that doesn't
pub marks_same : (from : Stamp) (to : Option Stamp) (log : List LogRow) (r : LogRow) → in_span from to r.stamp ≡ false → marks_between from to (log ++ r ∷ []) ≡ marks_between from to log
marks_same from to log r e =
    let none : filter (λ (q : LogRow). in_span from to q.stamp) (r ∷ []) ≡ [] = rw e refl in
    ap (map row_mark) (filter-append (λ (q : LogRow). in_span from to q.stamp) log (r ∷ []))
    ∙ (map-append row_mark (filter (λ (q : LogRow). in_span from to q.stamp) log) (filter (λ (q : LogRow). in_span from to q.stamp) (r ∷ []))
    ∙ (ap (λ (rs : List LogRow). marks_between from to log ++ map row_mark rs) none ∙ append-nil (marks_between from to log)))

-- where no row is above the frontier, a span may end there
pub marks_ended : (from frontier : Stamp) (log : List LogRow) → ((r : LogRow) → In r log → stamp_lt frontier r.stamp ≡ false) → marks_between from None log ≡ marks_between from (Some frontier) log
marks_ended from frontier log past = ap (map row_mark) (filter_same (λ (q : LogRow). in_span from None q.stamp) (λ (q : LogRow). in_span from (Some frontier) q.stamp) log (λ r k. rw (past r k) refl))

-- where no row is above it, nothing lies after it
pub marks_none : (frontier : Stamp) (log : List LogRow) → ((r : LogRow) → In r log → stamp_lt frontier r.stamp ≡ false) → marks_between frontier None log ≡ []
marks_none frontier log past = ap (map row_mark) (filter_none (λ (q : LogRow). in_span frontier None q.stamp) log (λ r k. rw (past r k) refl))

-- ---- a row that is released

-- a row past an end isn't in the span
past_end : (from end frontier : Stamp) (r : LogRow) → stamp_lt frontier end ≡ false → stamp_lt frontier r.stamp ≡ true → in_span from (Some end) r.stamp ≡ false
past_end from end frontier r at up =
    let l : stamp_lt end r.stamp ≡ true = le_lt end frontier r.stamp at up in
    rw l (and_false (stamp_lt from r.stamp))

-- a row, above the frontier, is released with its item
module _ (takes : Entry → Bool) (frontier : Stamp) (item : Item) (r : LogRow) (log : List LogRow) (is : item_mark item ≡ row_mark r)
    (up : stamp_lt frontier r.stamp ≡ true) (past : (q : LogRow) → In q log → stamp_lt frontier q.stamp ≡ false) where
  pushed_of : (number : ℕ) (from : Stamp) (to : Option Stamp) (accepted : List Item)
      → stamp_lt frontier from ≡ false → ((end : Stamp) → to ≡ Some end → stamp_lt frontier end ≡ false)
      → map item_mark accepted ≡ marks_between from to log
      → let d = entry_after takes frontier item (record { number = number; from = from; to = to; accepted = accepted }) in
      map item_mark d.accepted ≡ marks_between d.from d.to (log ++ r ∷ [])
  pushed_of number from (Some end) accepted begins ends e =
      e ∙ sym (marks_same from (Some end) log r (past_end from end frontier r (ends end refl) up))
  pushed_of number from None accepted begins ends e = go (takes (record { number = number; from = from; to = None; accepted = accepted }))
    where
      go : (b : Bool) → let d : Entry = cond b (record { number = number; from = from; to = None; accepted = accepted ++ item ∷ [] }) (record { number = number; from = from; to = Some frontier; accepted = accepted }) in
          map item_mark d.accepted ≡ marks_between d.from d.to (log ++ r ∷ [])
      go true =
          let l : stamp_lt from r.stamp ≡ true = le_lt from frontier r.stamp begins up in
          map-append item_mark accepted (item ∷ [])
          ∙ (ap (λ (ms : List Mark). ms ++ item_mark item ∷ []) e
          ∙ (ap (λ (m : Mark). marks_between from None log ++ m ∷ []) is ∙ sym (marks_more from None log r (rw l refl))))
      go false =
          e ∙ (marks_ended from frontier log past ∙ sym (marks_same from (Some frontier) log r (past_end from frontier frontier r (lt_irrefl frontier) up)))

  -- what each source has pushed is what lies in its span
  pub pushed_after : (e : Entry) → stamp_lt frontier e.from ≡ false → ((end : Stamp) → e.to ≡ Some end → stamp_lt frontier end ≡ false)
      → map item_mark e.accepted ≡ marks_between e.from e.to log
      → let d = entry_after takes frontier item e in map item_mark d.accepted ≡ marks_between d.from d.to (log ++ r ∷ [])
  pushed_after e begins ends h = pushed_of e.number e.from e.to e.accepted begins ends h

-- ---- steps

-- a step that changes neither the log nor the subscriptions
pub trace_alike : (kept : KeptTrace) (x y : TopicState) → y.held ≡ x.held → y.frontier ≡ x.frontier → y.subscriptions ≡ x.subscriptions → KeepsTrace x kept → KeepsTrace y kept
trace_alike kept x y held frontier subs k =
    let log : whole_log x kept ≡ whole_log y kept = ap (λ (rs : List LogRow). kept.drained ++ rs) (sym held) in
    record {
      rises = subst (Rises row_stamp) log k.rises;
      past = λ r at. subst (λ (f : Stamp). stamp_lt f r.stamp ≡ false) (sym frontier) (k.past r (subst (In r) (sym log) at));
      numbers = k.numbers;
      live = λ s at none. subst (HasEntry s) (sym subs) (k.live s at none);
      each = λ e at. k.each e (subst (In e) subs at);
      pushed = λ e at. subst (λ (rs : List LogRow). map item_mark e.accepted ≡ marks_between e.from e.to rs) log (k.pushed e (subst (In e) subs at));
      ended = λ s left at some. subst (λ (f : Stamp). IsEndOf f (whole_log y kept) s.from left) (sym frontier)
          (subst (λ (rs : List LogRow). IsEndOf x.frontier rs s.from left) log (k.ended s left at some));
    }

-- a part is released
pub trace_released_of : (kept : KeptTrace) (takes : Entry → Bool) (p : Pending) (x : TopicState) → IsSound x → stamp_lt x.frontier (key p) ≡ true → KeepsTrace x kept → KeepsTrace (after_release_of takes p x) kept
trace_released_of kept takes p x sound up k =
    let y = after_release_of takes p x in
    let log = whole_log x kept in
    let r = row_of p in
    let more : log ++ r ∷ [] ≡ whole_log y kept = append_assoc kept.drained x.held (r ∷ []) in
    let step = entry_after takes x.frontier (item_of p) in
    record {
      rises = subst (Rises row_stamp) more (Rises-push row_stamp log r k.rises (λ q at. le_lt q.stamp x.frontier (key p) (k.past q at) up));
      past = λ q at. elim (In-push_cases q r log (subst (In q) (sym more) at)) [
        | inl old ↦ lt_asym q.stamp (key p) (le_lt q.stamp x.frontier (key p) (k.past q old) up)
        | inr new ↦ subst (λ (z : LogRow). stamp_lt (key p) z.stamp ≡ false) new (lt_irrefl (key p))
      ];
      numbers = k.numbers;
      live = λ s at none. (
          let h = k.live s at none in
          record { entry = step h.entry; among = In-map step h.entry x.subscriptions h.among; number = delivered_number takes x.frontier (item_of p) h.entry ∙ h.number; from = delivered_from takes x.frontier (item_of p) h.entry ∙ h.from });
      each = λ e at. (
          let m = In-map_cases step e x.subscriptions at in
          let h = k.each m.from m.stands in
          record { sub = h.sub; among = h.among; number = h.number ∙ (sym (delivered_number takes x.frontier (item_of p) m.from) ∙ ap (λ (z : Entry). z.number) m.is); live = h.live });
      pushed = λ e at. (
          let m = In-map_cases step e x.subscriptions at in
          let q = sound.queues m.from m.stands in
          let h = pushed_after takes x.frontier (item_of p) r log refl up k.past m.from q.from_past q.to_past (k.pushed m.from m.stands) in
          subst (λ (rs : List LogRow). map item_mark e.accepted ≡ marks_between e.from e.to rs) more
          (subst (λ (z : Entry). map item_mark z.accepted ≡ marks_between z.from z.to (log ++ r ∷ [])) m.is h));
      ended = λ s left at some. (
          let h = k.ended s left at some in
          record {
            past = lt_asym left.to (key p) (le_lt left.to x.frontier (key p) h.past up);
            marks = h.marks ∙ (sym (marks_same s.from (Some left.to) log r (past_end s.from left.to x.frontier r h.past up)) ∙ ap (marks_between s.from (Some left.to)) more);
          });
    }

-- what is due is released
pub trace_released : (kept : KeptTrace) (takes : Entry → Bool) (x : TopicState) → IsSound x → KeepsTrace x kept → KeepsTrace (after_release takes x) kept
trace_released kept takes x sound k = go (due_part x) refl
  where
    go : (o : Option Pending) → due_part x ≡ o → KeepsTrace (after_release_if takes x o) kept
    go None e = k
    go (Some p) e = trace_released_of kept takes p x sound (sound.above p (due_is x p e).least.stands) k

pub trace_releases : (kept : KeptTrace) (ts : List (Entry → Bool)) (g : GroupState) → IsSound g.topic → KeepsTrace g.topic kept → KeepsTrace (group_after_releases ts g).topic kept
trace_releases kept [] g sound k = k
trace_releases kept (t ∷ ts) g sound k =
    trace_releases kept ts (group_after_release t g) (keeps_sound.releases t g.topic sound) (trace_released kept t g.topic sound k)

trace_try : (kept : KeptTrace) (id : TxnId) (found : Option Decision) (x : TopicState) → KeepsTrace x kept → KeepsTrace (after_try id found x) kept
trace_try kept id None x k = k
trace_try kept id (Some v) x k = go (learn_fault id v x)
  where
    go : (o : Option LearnFault) → KeepsTrace (elim o [ None ↦ after_learn id (decided_stamp v) x | Some fault ↦ x ]) kept
    go (Some fault) = k
    go None = trace_alike kept x (after_learn id (decided_stamp v) x) refl refl refl k

-- each pending part tries to learn
pub trace_tries : (kept : KeptTrace) (find : TxnId → Option Decision) (ps : List Pending) (x : TopicState) → KeepsTrace x kept → KeepsTrace (after_tries find ps x) kept
trace_tries kept find [] x k = k
trace_tries kept find (p ∷ ps) x k = trace_tries kept find ps (after_try p.part.id (find p.part.id) x) (trace_try kept p.part.id (find p.part.id) x k)

-- ---- a drain

-- the rows that were held are drained
pub trace_drained : (kept : KeptTrace) (x : TopicState) → KeepsTrace x kept → KeepsTrace (after_drain x) (kept_after_drain x.held kept)
trace_drained kept x k =
    let log : whole_log x kept ≡ whole_log (after_drain x) (kept_after_drain x.held kept) = sym (append-nil (kept.drained ++ x.held)) in
    record {
      rises = subst (Rises row_stamp) log k.rises;
      past = λ r at. k.past r (subst (In r) (sym log) at);
      numbers = k.numbers;
      live = k.live;
      each = k.each;
      pushed = λ e at. subst (λ (rs : List LogRow). map item_mark e.accepted ≡ marks_between e.from e.to rs) log (k.pushed e at);
      ended = λ s left at some. subst (λ (rs : List LogRow). IsEndOf x.frontier rs s.from left) log (k.ended s left at some);
    }

-- ---- numbers

module _ {X : Type 0} (number : X → ℕ) where
  -- what is above all is above each
  pub above_first : (a : ℕ) (xs : List X) (y : X) → AllByRecursion (λ (z : X). a < number z) xs → In y xs → a < number y
  above_first a [] y all i = absurd i
  above_first a (x ∷ xs) y all (inl e) = subst (λ (z : X). a < number z) e all.0
  above_first a (x ∷ xs) y all (inr i) = above_first a xs y all.1 i

  -- of two with one number, among some that rise, both are one
  pub one_number : (xs : List X) (x y : X) → RisesBy number xs → In x xs → In y xs → number x ≡ number y → x ≡ y
  one_number [] x y h i j e = absurd i
  one_number (z ∷ xs) x y h (inl a) (inl b) e = sym a ∙ b
  one_number (z ∷ xs) x y h (inl a) (inr j) e = let l = above_first (number z) xs y h.0 j in let m = ap number a in absurd (omega arith)
  one_number (z ∷ xs) x y h (inr i) (inl b) e = let l = above_first (number z) xs x h.0 i in let m = ap number b in absurd (omega arith)
  one_number (z ∷ xs) x y h (inr i) (inr j) e = one_number xs x y h.1 i j e

  -- a number that none has
  pub unused : (n : ℕ) (xs : List X) → list_any (λ (z : X). number z == n) xs ≡ false → (x : X) → In x xs → number x ≢ n
  unused n xs e x i same = true≢false (sym (any_from (λ (z : X). number z == n) x xs i (eq-eqb (number x) n same)) ∙ e)

-- ---- a subscription begins

-- one more, of a number that was never used
pub trace_subscribed : (kept : KeptTrace) (number : ℕ) (x : TopicState) → KeepsTrace x kept → list_any (λ s. s.number == number) kept.subs ≡ false
    → subscribe_fault number x ≡ None → KeepsTrace (after_subscribe number x) (kept_after_subscribe number x.frontier kept)
trace_subscribed kept number x k free allowed =
    let new : KeptSub = record { number = number; from = x.frontier; left = None } in
    let entry : Entry = record { number = number; from = x.frontier; to = None; accepted = [] } in
    record {
      rises = k.rises;
      past = k.past;
      numbers = rises_inserted sub_number new kept.subs k.numbers (unused sub_number number kept.subs free);
      live = λ s at none. elim (In-insert_cases _ s new kept.subs at) [
        | inl e ↦ subst (λ (z : KeptSub). HasEntry z (insert_entry entry x.subscriptions)) e (record { entry = entry; among = In-insert _ entry entry x.subscriptions (inl refl); number = refl; from = refl })
        | inr old ↦ (let h = k.live s old none in record { entry = h.entry; among = In-insert _ h.entry entry x.subscriptions (inr h.among); number = h.number; from = h.from })
      ];
      each = λ e at. elim (In-insert_cases _ e entry x.subscriptions at) [
        | inl is ↦ subst (λ (z : Entry). HasSub z (insert_by_number sub_number new kept.subs)) is (record { sub = new; among = In-insert _ new new kept.subs (inl refl); number = refl; live = refl })
        | inr old ↦ (let h = k.each e old in record { sub = h.sub; among = In-insert _ h.sub new kept.subs (inr h.among); number = h.number; live = h.live })
      ];
      pushed = λ e at. elim (In-insert_cases _ e entry x.subscriptions at) [
        | inl is ↦ subst (λ (z : Entry). map item_mark z.accepted ≡ marks_between z.from z.to (whole_log x kept)) is (sym (marks_none x.frontier (whole_log x kept) k.past))
        | inr old ↦ k.pushed e old
      ];
      ended = λ s left at some. elim (In-insert_cases _ s new kept.subs at) [
        | inl e ↦ none_some left (ap (λ (z : KeptSub). z.left) e ∙ some)
        | inr old ↦ k.ended s left old some
      ];
    }

-- ---- a subscription ends

-- what is found among entries is one of them, of the number
pub record IsFound (n : ℕ) (e : Entry) (es : List Entry) : Type 0 where
  pub among : In e es
  pub number : e.number ≡ n

found_case : (n : ℕ) (x : Entry) (es : List Entry) (e : Entry) (b : Bool) → (x.number == n) ≡ b → cond b (Some x) (find_entry n es) ≡ Some e → (find_entry n es ≡ Some e → IsFound n e es) → IsFound n e (x ∷ es)
found_case n x es e true k h ih = let is = some_same x e h in record { among = inl is; number = subst (λ (z : Entry). z.number ≡ n) is (eqb-true x.number n k) }
found_case n x es e false k h ih = let i = ih h in record { among = inr i.among; number = i.number }

pub found_entry : (n : ℕ) (es : List Entry) (e : Entry) → find_entry n es ≡ Some e → IsFound n e es
found_entry n [] e f = none_some e f
found_entry n (x ∷ es) e f = found_case n x es e (x.number == n) refl f (found_entry n es e)

-- what an entry leaves at this frontier lies in its span, as that ends
pub end_is : (frontier : Stamp) (log : List LogRow) (e : Entry) → ((r : LogRow) → In r log → stamp_lt frontier r.stamp ≡ false)
    → ((end : Stamp) → e.to ≡ Some end → stamp_lt frontier end ≡ false) → map item_mark e.accepted ≡ marks_between e.from e.to log
    → IsEndOf frontier log e.from (kept_end (end_of frontier e))
end_is frontier log e past ends h = go e.to ends h
  where
    go : (to : Option Stamp) → ((end : Stamp) → to ≡ Some end → stamp_lt frontier end ≡ false) → map item_mark e.accepted ≡ marks_between e.from to log
        → IsEndOf frontier log e.from (kept_end (elim to [
          | None ↦ record { to = frontier; accepted = e.accepted; cause = Asked }
          | Some end ↦ record { to = end; accepted = e.accepted; cause = Lag }
        ]))
    go None ends h = record { past = lt_irrefl frontier; marks = h ∙ marks_ended e.from frontier log past }
    go (Some end) ends h = record { past = ends end refl; marks = h }

-- a subscription that ends, or another
sub_end_cases : (n : ℕ) (left : Option KeptEnd) (s : KeptSub) (b : Bool) → (s.number == n) ≡ b
    → ((s.number ≡ n) × (sub_after_end n left s ≡ record { number = s.number; from = s.from; left = left })) ⊎ ((s.number ≢ n) × (sub_after_end n left s ≡ s))
sub_end_cases n left s true e = inl (eqb-true s.number n e, rw e refl)
sub_end_cases n left s false e = inr ((λ same. true≢false (sym (eq-eqb s.number n same) ∙ e)), rw e refl)

sub_end : (n : ℕ) (left : Option KeptEnd) (s : KeptSub)
    → ((s.number ≡ n) × (sub_after_end n left s ≡ record { number = s.number; from = s.from; left = left })) ⊎ ((s.number ≢ n) × (sub_after_end n left s ≡ s))
sub_end n left s = sub_end_cases n left s (s.number == n) refl

same_number : (n : ℕ) (left : Option KeptEnd) (s : KeptSub) → (sub_after_end n left s).number ≡ s.number
same_number n left s = elim (sub_end n left s) [
  | inl a ↦ ap (λ (z : KeptSub). z.number) a.1
  | inr b ↦ ap (λ (z : KeptSub). z.number) b.1
]

-- the subscription whose entry this is was not ended, and has its beginning
pub of_entry : (kept : KeptTrace) (x : TopicState) → IsSound x → KeepsTrace x kept → (e : Entry) → In e x.subscriptions → (s : KeptSub) → In s kept.subs → s.number ≡ e.number
    → (s.left ≡ None) × (s.from ≡ e.from)
of_entry kept x sound k e at s among same =
    let h = k.each e at in
    let is : h.sub ≡ s = one_number sub_number kept.subs h.sub s k.numbers h.among among (h.number ∙ sym same) in
    let is_live : s.left ≡ None = sym (ap (λ (z : KeptSub). z.left) is) ∙ h.live in
    let m = k.live s among is_live in
    let entry : m.entry ≡ e = one_number (λ (z : Entry). z.number) x.subscriptions m.entry e sound.numbers m.among at (m.number ∙ same) in
    (is_live, sym m.from ∙ ap (λ (z : Entry). z.from) entry)

-- the subscription of this entry is ended
pub trace_unsubscribed : (kept : KeptTrace) (number : ℕ) (x : TopicState) (e : Entry) → IsSound x → KeepsTrace x kept → find_entry number x.subscriptions ≡ Some e
    → KeepsTrace (after_unsubscribe number x) (kept_after_unsubscribe number x kept)
trace_unsubscribed kept number x e sound k found =
    let at = found_entry number x.subscriptions e found in
    let left : KeptEnd = kept_end (end_of x.frontier e) in
    let is : end_kept x.frontier (find_entry number x.subscriptions) ≡ Some left = ap (end_kept x.frontier) found in
    let q = sound.queues e at.among in
    let end = end_is x.frontier (whole_log x kept) e k.past q.to_past (k.pushed e at.among) in
    let others = λ (z : Entry). not (z.number == number) in
    subst (λ (o : Option KeptEnd). KeepsTrace (after_unsubscribe number x) (record { drained = kept.drained; subs = map (sub_after_end number o) kept.subs })) (sym is) (record {
      rises = k.rises;
      past = k.past;
      numbers = rises_alike (λ (n : ℕ). n) sub_number sub_number kept.subs (map (sub_after_end number (Some left)) kept.subs) (alike number (Some left) kept.subs) k.numbers;
      live = λ s in_new none. (
          let m = In-map_cases (sub_after_end number (Some left)) s kept.subs in_new in
          elim (sub_end number (Some left) m.from) [
            | inl a ↦ none_some left (sym none ∙ (sym (ap (λ (z : KeptSub). z.left) m.is) ∙ ap (λ (z : KeptSub). z.left) a.1))
            | inr b ↦ (
                let same : m.from ≡ s = sym b.1 ∙ m.is in
                let h = k.live m.from m.stands (ap (λ (z : KeptSub). z.left) same ∙ none) in
                record {
                  entry = h.entry;
                  among = In-filter others h.entry x.subscriptions h.among (not_number h.entry.number number (λ d. b.0 (sym h.number ∙ d)));
                  number = h.number ∙ ap (λ (z : KeptSub). z.number) same;
                  from = h.from ∙ ap (λ (z : KeptSub). z.from) same;
                })
          ]);
      each = λ z in_new. (
          let f = In-filter_cases others z x.subscriptions in_new in
          let h = k.each z f.stands in
          elim (sub_end number (Some left) h.sub) [
            | inl a ↦ absurd (is_number z.number number f.passes (sym h.number ∙ a.0))
            | inr b ↦ record {
              sub = sub_after_end number (Some left) h.sub;
              among = In-map (sub_after_end number (Some left)) h.sub kept.subs h.among;
              number = ap (λ (y : KeptSub). y.number) b.1 ∙ h.number;
              live = ap (λ (y : KeptSub). y.left) b.1 ∙ h.live;
            }
          ]);
      pushed = λ z in_new. k.pushed z (In-filter_cases others z x.subscriptions in_new).stands;
      ended = λ s l in_new some. (
          let m = In-map_cases (sub_after_end number (Some left)) s kept.subs in_new in
          elim (sub_end number (Some left) m.from) [
            | inl a ↦ (
                let same : record { number = m.from.number; from = m.from.from; left = Some left } ≡ s = sym a.1 ∙ m.is in
                let begins = (of_entry kept x sound k e at.among m.from m.stands (a.0 ∙ sym at.number)).1 in
                let is_left : left ≡ l = some_same left l (ap (λ (z : KeptSub). z.left) same ∙ some) in
                let from : e.from ≡ s.from = sym begins ∙ ap (λ (z : KeptSub). z.from) same in
                subst (λ (z : KeptEnd). IsEndOf x.frontier (whole_log x kept) s.from z) is_left
                (subst (λ (f : Stamp). IsEndOf x.frontier (whole_log x kept) f left) from end))
            | inr b ↦ (
                let same : m.from ≡ s = sym b.1 ∙ m.is in
                subst (λ (f : Stamp). IsEndOf x.frontier (whole_log x kept) f l) (ap (λ (z : KeptSub). z.from) same)
                (k.ended m.from l m.stands (ap (λ (z : KeptSub). z.left) same ∙ some)))
          ]);
    })
  where
    alike : (n : ℕ) (o : Option KeptEnd) (ss : List KeptSub) → map sub_number ss ≡ map sub_number (map (sub_after_end n o) ss)
    alike n o [] = refl
    alike n o (s ∷ ss) = let a = same_number n o s in let ih = alike n o ss in rw (a, ih) refl

    not_number : (a n : ℕ) → a ≢ n → not (a == n) ≡ true
    not_number a n d = rw (ne_eqb a n d) refl

    is_number : (a n : ℕ) → not (a == n) ≡ true → a ≢ n
    is_number a n t e = let s = eq-eqb a n e in grind (arith, nat_tests)
