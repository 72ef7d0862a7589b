-- A head's turn that has nothing to do.
use Rattle.std.proofs.Common.{◌≡◌, ◌++◌, ◌+◌, ◌-◌, ℕ, nat_lt, false, List, [], length, Some, None, Result, Ok, Err, IfOk, OnOk, OnErr, IsOk, append-nil, sym, ap, ◌∙◌, arith}
use Rattle.std.proofs.lemmas.Bool.{false≢true, le-ltb}
use Rattle.mcast_txn.specs.Span.{LogRow, last_stamp}
use Rattle.mcast_txn.specs.declared.stamp.Stamp.{Stamp}
use Rattle.mcast_group.specs.CellGroup.{CellGroupState, open_count}
use Rattle.mcast_group.specs.Machine.{TopicState, after_drain, due_part}
use Rattle.mcast_group.specs.Sound.{IsSound}
use Rattle.mcast_group.specs.declared.turned.Turned.{Turned}
use Rattle.broker_locks.specs.Inner.KeptRows.{RowsKept, place_with}
use Rattle.broker_locks.specs.Place.{HasDoneNothing, IsIdle, PlaceState, cells_after_drain, place_after_drain, place_after_turn, rows_since}

-- where no row is held, a drain leaves the topic as it was
drained_none : (x : TopicState) → IsSound x → x.held ≡ [] → after_drain x ≡ x
drained_none x sound held =
    let base : x.frontier ≡ x.base = sound.frontier ∙ ap (last_stamp x.base) held in
    ap (λ (stamp : Stamp). record x { base = stamp; held = [] }) base ∙ ap (λ (rows : List LogRow). record x { held = rows }) (sym held)

cells_same : (g : CellGroupState) → IsSound g.group.topic → g.group.topic.held ≡ [] → cells_after_drain g ≡ g
cells_same g sound held = ap (λ (x : TopicState). record g { group = record g.group { topic = x } }) (drained_none g.group.topic sound held)

-- a drain of a place without a trace
pub idle_given : {E : Type 0} (r : Result (List LogRow) E) (g h : CellGroupState) (t l c : ℕ) → IsSound g.group.topic → g.group.topic.held ≡ [] → IsOk r → IfOk r (λ rows. rows ≡ g.group.topic.held) → OnOk r (h ≡ cells_after_drain g) → (r ≡ Ok []) × (place_with h t l c None ≡ place_with g t l c None)
idle_given (Err e) g h t l c sound held ok is left = absurd (false≢true ok)
idle_given (Ok rows) g h t l c sound held ok is left = (ap Ok (is ∙ held), ap (λ (z : CellGroupState). place_with z t l c None) (left ∙ cells_same g sound held))

-- and of one with a trace
pub idle_kept : {E : Type 0} (r : Result (List LogRow) E) (g h : CellGroupState) (t l c : ℕ) (k j : RowsKept) → IsSound g.group.topic → g.group.topic.held ≡ [] → IsOk r → IfOk r (λ rows. rows ≡ []) → OnOk r (j ≡ record k { drained = k.drained ++ g.group.topic.held }) → OnOk r (h ≡ cells_after_drain g) → (r ≡ Ok []) × (place_with h t l c (Some j) ≡ place_with g t l c (Some k))
idle_kept (Err e) g h t l c k j sound held ok is kept left = absurd (false≢true ok)
idle_kept (Ok rows) g h t l c k j sound held ok is kept left =
    let same : j ≡ k = kept ∙ (ap (λ (more : List LogRow). record k { drained = k.drained ++ more }) held ∙ ap (λ (all : List LogRow). record k { drained = all }) (append-nil k.drained)) in
    (ap Ok is, ap (λ (z : CellGroupState). place_with z t l c (Some j)) (left ∙ cells_same g sound held) ∙ ap (λ (z : RowsKept). place_with g t l c (Some z)) same)

-- a drain keeps the notes
pub notes_kept : {E : Type 0} (r : Result (List LogRow) E) (mid new : PlaceState) → OnOk r (new ≡ place_after_drain mid) → OnErr r (new ≡ mid) → new.cells.notes ≡ mid.cells.notes
notes_kept (Ok rows) mid new ok err = ap (λ (p : PlaceState). p.cells.notes) ok
notes_kept (Err e) mid new ok err = ap (λ (p : PlaceState). p.cells.notes) err

less_none : (n : ℕ) → n - n ≡ 0
less_none n = omega arith

-- a turn that changed nothing released nothing
turned_none : (old : PlaceState) → place_after_turn old.cells old ≡ old
turned_none old =
    let n = less_none (length old.cells.group.topic.held) in
    let e : old.released + rows_since old.cells old.cells ≡ old.released = omega (arith, n) in
    ap (λ (k : ℕ). record old { released = k }) e

-- A turn and a drain that had nothing to do changed nothing.
pub idle_head : {E : Type 0} (old mid new : PlaceState) (turned : CellGroupState) (told : Turned) (drained : Result (List LogRow) E) → (turned.notes ≡ old.cells.notes → due_part old.cells.group.topic ≡ None → turned ≡ old.cells)
    → mid ≡ place_after_turn turned old → told.released ≡ rows_since old.cells turned
    → told.lagged ≡ nat_lt (open_count turned.group.topic.subscriptions) (open_count old.cells.group.topic.subscriptions)
    → (mid.cells.group.topic.held ≡ [] → (drained ≡ Ok []) × (new ≡ mid))
    → turned.notes ≡ old.cells.notes → IsIdle old → HasDoneNothing old new told drained
idle_head old mid new turned told drained idle is released lagged drains notes i =
    let same : turned ≡ old.cells = idle notes i.0 in
    let here : mid ≡ old = is ∙ (ap (λ (z : CellGroupState). place_after_turn z old) same ∙ turned_none old) in
    let d = drains (ap (λ (p : PlaceState). p.cells.group.topic.held) here ∙ i.1) in
    let many = released ∙ (ap (rows_since old.cells) same ∙ less_none (length old.cells.group.topic.held)) in
    let lag = lagged ∙ (ap (λ (z : CellGroupState). nat_lt (open_count z.group.topic.subscriptions) (open_count old.cells.group.topic.subscriptions)) same ∙ not_less (open_count old.cells.group.topic.subscriptions)) in
    (d.1 ∙ here, ap (λ (k : ℕ). record { released = k; lagged = told.lagged }) many ∙ ap (λ (b : _). record { released = 0; lagged = b }) lag, d.0)
  where
    not_less : (n : ℕ) → nat_lt n n ≡ false
    not_less n = le-ltb n n (omega arith)
