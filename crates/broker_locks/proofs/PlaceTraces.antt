-- What is stored of a trace, seen as a kept trace.
use Rattle.std.proofs.Common.{◌≡◌, ℕ, ◌==◌, nat_lt, Bool, true, false, cond, List, [], ◌∷◌, ◌++◌, map, Option, Some, None, IfSome, refl, sym, ap, subst, ◌∙◌, append-nil}
use Rattle.std.specs.List.{list_any}
use Rattle.std.specs.Option.{is_some, option_map}
use Rattle.std.proofs.lemmas.Bool.{eqb-true}
use Rattle.delivery.proofs.Views.Lists.ByNumber.{map_alike}
use Rattle.mcast_txn.specs.Lists.{In, Rises, insert_by_number}
use Rattle.mcast_txn.specs.Span.{LogRow, row_stamp}
use Rattle.mcast_txn.specs.declared.stamp.Stamp.{Stamp}
use Rattle.mcast_txn.proofs.Inserting.{map_insert}
use Rattle.mcast_txn.proofs.Members.{In-map}
use Rattle.mcast_group.specs.Machine.{Entry, TopicState, after_drain, after_subscribe, after_unsubscribe, end_of, find_entry, subscribe_fault}
use Rattle.mcast_group.specs.Sound.{IsSound}
use Rattle.mcast_group.specs.declared.fault.SubFault.TheVariants.{SubInUse}
use Rattle.mcast_txn.specs.declared.mark.Mark.{Mark}
use Rattle.broker_locks.specs.declared.kept_span.KeptSpan.{KeptSpan}
use Rattle.broker_locks.specs.Inner.KeptRows.{RowsKept, kept_sub, span_after_end, span_number, trace_kept}
use Rattle.broker_locks.specs.KeptTrace.{IsEndOf, KeepsTrace, KeptEnd, KeptSub, end_kept, kept_after_drain, kept_after_subscribe, kept_after_unsubscribe, kept_end, marks_between, no_trace, sub_after_end}
use Rattle.broker_locks.proofs.TraceKept.{end_is, found_entry, of_entry, sub_number, trace_alike, trace_drained, trace_subscribed, trace_unsubscribed, unused}

-- where a trace is kept, it is that of the topic
abbrev pub Traced : TopicState → Option RowsKept → Type 0
Traced x k = IfSome (option_map (trace_kept x.held) k) (KeepsTrace x)

-- a step that changes neither the log nor the subscriptions
pub traced_alike : (k : Option RowsKept) (x y : TopicState) → y.held ≡ x.held → y.frontier ≡ x.frontier → y.subscriptions ≡ x.subscriptions → Traced x k → Traced y k
traced_alike None x y held frontier subs t = tt
traced_alike (Some k) x y held frontier subs t =
    subst (λ (rs : List LogRow). KeepsTrace y (trace_kept rs k)) (sym held) (trace_alike (trace_kept x.held k) x y held frontier subs t)

-- an empty topic
pub traced_new : (x : TopicState) → x.held ≡ [] → x.subscriptions ≡ [] → KeepsTrace x no_trace
traced_new x held subs = record {
  rises = subst (Rises row_stamp) (sym held) tt;
  past = λ r at. absurd (subst (In r) held at);
  numbers = tt;
  live = λ s at none. absurd at;
  each = λ e at. absurd (subst (In e) subs at);
  pushed = λ e at. absurd (subst (In e) subs at);
  ended = λ s left at some. absurd at;
}

-- ---- a longer log

-- what was kept of an end stays, where the log has the same rows in its span
sub_same : (log more : List LogRow) (frontier : Stamp) (s : KeptSpan) → ((left : KeptEnd) → (kept_sub log s).left ≡ Some left → IsEndOf frontier more s.from left) → kept_sub log s ≡ kept_sub more s
sub_same log more frontier s h = ap (λ (o : Option KeptEnd). record { number = s.number; from = s.from; left = o }) (go s.to h)
  where
    left_in : List LogRow → Option Stamp → Option KeptEnd
    left_in rs o = option_map (λ to. record { to = to; marks = marks_between s.from (Some to) rs }) o

    go : (o : Option Stamp) → ((left : KeptEnd) → left_in log o ≡ Some left → IsEndOf frontier more s.from left) → left_in log o ≡ left_in more o
    go None k = refl
    go (Some to) k = ap (λ (ms : List Mark). Some (record { to = to; marks = ms })) (k (record { to = to; marks = marks_between s.from (Some to) log }) refl).marks

-- so the kept trace is the same after rows were released
pub kept_same : (k : RowsKept) (held : List LogRow) (y : TopicState) → KeepsTrace y (trace_kept held k) → trace_kept y.held k ≡ trace_kept held k
kept_same k held y t =
    let log = k.drained ++ held in
    sym (ap (λ (ss : List KeptSub). record { drained = k.drained; subs = ss }) (map_alike (kept_sub log) (kept_sub (k.drained ++ y.held)) k.spans
    (λ s at. sub_same log (k.drained ++ y.held) y.frontier s (λ left is. t.ended (kept_sub log s) left (In-map (kept_sub log) s k.spans at) is))))

-- ---- a drain

-- what is stored, after these rows were drained
abbrev pub rows_drained : List LogRow → RowsKept → RowsKept
rows_drained rows k = record { drained = k.drained ++ rows; spans = k.spans }

pub kept_drained : (k : RowsKept) (held : List LogRow) → trace_kept [] (rows_drained held k) ≡ kept_after_drain held (trace_kept held k)
kept_drained k held = ap (λ (rs : List LogRow). record { drained = k.drained ++ held; subs = map (kept_sub rs) k.spans }) (append-nil (k.drained ++ held))

pub traced_drained : (k : RowsKept) (x : TopicState) → KeepsTrace x (trace_kept x.held k) → KeepsTrace (after_drain x) (trace_kept [] (rows_drained x.held k))
traced_drained k x t = subst (KeepsTrace (after_drain x)) (sym (kept_drained k x.held)) (trace_drained (trace_kept x.held k) x t)

-- ---- a subscription begins

-- what is stored, after a subscription of this number began at this frontier
abbrev pub rows_subscribed : ℕ → Stamp → RowsKept → RowsKept
rows_subscribed number from k = record { drained = k.drained; spans = insert_by_number span_number (record { number = number; from = from; to = None }) k.spans }

pub kept_subscribed : (k : RowsKept) (held : List LogRow) (number : ℕ) (from : Stamp) → trace_kept held (rows_subscribed number from k) ≡ kept_after_subscribe number from (trace_kept held k)
kept_subscribed k held number from =
    ap (λ (ss : List KeptSub). record { drained = k.drained; subs = ss })
    (map_insert (λ (s : KeptSpan). nat_lt number s.number) (λ (s : KeptSub). nat_lt number s.number) (kept_sub (k.drained ++ held)) (record { number = number; from = from; to = None }) k.spans (λ s. refl))

-- whether a number was used
pub used_alike : (log : List LogRow) (number : ℕ) (ss : List KeptSpan) → list_any (λ (s : KeptSub). s.number == number) (map (kept_sub log) ss) ≡ list_any (λ (s : KeptSpan). s.number == number) ss
used_alike log number [] = refl
used_alike log number (s ∷ ss) = let ih = used_alike log number ss in rw ih refl

-- a number that was never used is none of the topic's
pub unused_allowed : (k : RowsKept) (x : TopicState) (number : ℕ) → KeepsTrace x (trace_kept x.held k) → list_any (λ (s : KeptSpan). s.number == number) k.spans ≡ false → subscribe_fault number x ≡ None
unused_allowed k x number t free = go (find_entry number x.subscriptions) refl
  where
    go : (o : Option Entry) → find_entry number x.subscriptions ≡ o → cond (is_some o) (Some SubInUse) None ≡ None
    go None e = refl
    go (Some f) e =
        let at = found_entry number x.subscriptions f e in
        let h = t.each f at.among in
        absurd (unused sub_number number (map (kept_sub (k.drained ++ x.held)) k.spans) (used_alike (k.drained ++ x.held) number k.spans ∙ free) h.sub h.among (h.number ∙ at.number))

pub traced_subscribed : (k : RowsKept) (number : ℕ) (x : TopicState) → KeepsTrace x (trace_kept x.held k) → list_any (λ s. s.number == number) k.spans ≡ false → subscribe_fault number x ≡ None
    → KeepsTrace (after_subscribe number x) (trace_kept x.held (rows_subscribed number x.frontier k))
traced_subscribed k number x t free allowed =
    subst (KeepsTrace (after_subscribe number x)) (sym (kept_subscribed k x.held number x.frontier))
    (trace_subscribed (trace_kept x.held k) number x t (used_alike (k.drained ++ x.held) number k.spans ∙ free) allowed)

-- ---- a subscription ends

-- what is stored, after the subscription of this number ended
abbrev pub rows_ended : ℕ → Stamp → RowsKept → RowsKept
rows_ended number to k = record { drained = k.drained; spans = map (span_after_end number to) k.spans }

map_twice : {X Y Z : Type 0} (f : Y → Z) (g : X → Y) (xs : List X) → map f (map g xs) ≡ map (λ x. f (g x)) xs
map_twice f g [] = refl
map_twice f g (x ∷ xs) = ap (λ zs. f (g x) ∷ zs) (map_twice f g xs)

end_alike : (log : List LogRow) (number : ℕ) (to : Stamp) (left : KeptEnd) (s : KeptSpan) (b : Bool) → (s.number == number) ≡ b → (s.number ≡ number → record { to = to; marks = marks_between s.from (Some to) log } ≡ left)
    → kept_sub log (span_after_end number to s) ≡ sub_after_end number (Some left) (kept_sub log s)
end_alike log number to left s true e h = rw e (ap (λ (l : KeptEnd). record { number = s.number; from = s.from; left = Some l }) (h (eqb-true s.number number e)))
end_alike log number to left s false e h = rw e refl

-- the kept trace after the subscription of this entry was ended
pub kept_ended : (k : RowsKept) (number : ℕ) (to : Stamp) (x : TopicState) (e : Entry) → IsSound x → KeepsTrace x (trace_kept x.held k) → find_entry number x.subscriptions ≡ Some e → to ≡ (end_of x.frontier e).to
    → trace_kept x.held (rows_ended number to k) ≡ kept_after_unsubscribe number x (trace_kept x.held k)
kept_ended k number to x e sound t found is =
    let log = k.drained ++ x.held in
    let at = found_entry number x.subscriptions e found in
    let left : KeptEnd = kept_end (end_of x.frontier e) in
    let end = end_is x.frontier log e t.past (sound.queues e at.among).to_past (t.pushed e at.among) in
    let one : end_kept x.frontier (find_entry number x.subscriptions) ≡ Some left = ap (end_kept x.frontier) found in
    let each : (s : KeptSpan) → In s k.spans → kept_sub log (span_after_end number to s) ≡ sub_after_end number (Some left) (kept_sub log s) =
    (λ s among. end_alike log number to left s (s.number == number) refl (λ same. (
    let begins = (of_entry (trace_kept x.held k) x sound t e at.among (kept_sub log s) (In-map (kept_sub log) s k.spans among) (same ∙ sym at.number)).1 in
    ap (λ (f : Stamp). record { to = to; marks = marks_between f (Some to) log }) begins
    ∙ (ap (λ (f : Stamp). record { to = f; marks = marks_between e.from (Some f) log }) is
    ∙ ap (λ (ms : List Mark). record { to = (end_of x.frontier e).to; marks = ms }) (sym end.marks))))) in
    ap (λ (ss : List KeptSub). record { drained = k.drained; subs = ss })
    (map_twice (kept_sub log) (span_after_end number to) k.spans
    ∙ (map_alike (λ s. kept_sub log (span_after_end number to s)) (λ s. sub_after_end number (Some left) (kept_sub log s)) k.spans each
    ∙ (sym (map_twice (sub_after_end number (Some left)) (kept_sub log) k.spans)
    ∙ ap (λ (o : Option KeptEnd). map (sub_after_end number o) (map (kept_sub log) k.spans)) (sym one))))

pub traced_ended : (k : RowsKept) (number : ℕ) (to : Stamp) (x : TopicState) (e : Entry) → IsSound x → KeepsTrace x (trace_kept x.held k) → find_entry number x.subscriptions ≡ Some e → to ≡ (end_of x.frontier e).to
    → KeepsTrace (after_unsubscribe number x) (trace_kept x.held (rows_ended number to k))
traced_ended k number to x e sound t found is =
    subst (KeepsTrace (after_unsubscribe number x)) (sym (kept_ended k number to x e sound t found is))
    (trace_unsubscribed (trace_kept x.held k) number x e sound t found)
