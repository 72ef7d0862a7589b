use Rattle.std.proofs.Common.{◌≡◌, ℕ, ◌+◌, ◌*◌, ◌<◌, ◌≤◌, ◌++◌, List, length, take, drop, sym, ap, subst, ◌∙◌, arith}
use Rattle.std.proofs.lemmas.List.{length-take, length-drop}
use Rattle.std.specs.declared.collections.VecDeque.{VecDeque}
use Rattle.mcast_txn.specs.Span.{LogRow}
use Rattle.mcast_group.specs.Inner.Log.{AreSegments, LogState, joined_rows}
use Rattle.mcast_group.proofs.Segments.{Parted, rows_fit, rows_many, rows_none, segments_parted}
use Rattle.mcast_group.proofs.log.Log.drain_segments.Goals as goal

pub overflow_mul-left : goal.overflow_mul-left
overflow_mul-left c =
    let s = c.self.inside in
    let many : length c.args.self.now.items ≡ s.len = ap (λ (z : LogState). length z.items) (sym c.self.view_is) ∙ rows_many 256 s.len s.segments.items c.self.invariant.0 in
    let fit = rows_fit 256 s.len s.segments.items c.self.invariant.0 in
    let least = c.used-used.ensures.least in
    let most = c.self.invariant.1 in
    omega arith

pub overflow_sub-left : goal.overflow_sub-left
overflow_sub-left c =
    let s = c.self.inside in
    let many : length c.args.self.now.items ≡ s.len = ap (λ (z : LogState). length z.items) (sym c.self.view_is) ∙ rows_many 256 s.len s.segments.items c.self.invariant.0 in
    let enough = c.used-used.ensures.enough in
    omega arith

pub split_off-requires : goal.split_off-requires
split_off-requires c =
    let s = c.self-2.inside in
    let many : length c.args.self.now.items ≡ s.len = ap (λ (z : List LogRow). length z) (sym c.in_ok-reserve.ensures.items) ∙ (ap (λ (z : LogState). length z.items) (sym c.self-2.view_is) ∙ rows_many 256 s.len s.segments.items c.self-2.invariant.0) in
    let enough = c.used-used.ensures.enough in
    let l : s.segments.len ≡ length s.segments.items = s.segments.ok.0 in
    let fit = rows_fit 256 s.len s.segments.items c.self-2.invariant.0 in
    let least = c.used-used.ensures.least in
    omega arith

pub invariant_of-drained : goal.invariant_of-drained
invariant_of-drained c =
    let s = c.self-2.inside in
    let many : length c.args.self.now.items ≡ s.len = ap (λ (z : List LogRow). length z) (sym c.in_ok-reserve.ensures.items) ∙ (ap (λ (z : LogState). length z.items) (sym c.self-2.view_is) ∙ rows_many 256 s.len s.segments.items c.self-2.invariant.0) in
    let enough = c.used-used.ensures.enough in
    let parted : Parted 256 s.len c.used-used.result s.segments.items = segments_parted 256 s.len c.used-used.result s.segments.items c.self-2.invariant.0 (omega arith) in
    let kept : c.replace.result.items ≡ take c.used-used.result s.segments.items = ap (λ (z : VecDeque _ _). z.items) c.replace.ensures.value ∙ c.in_ok-rest.ensures.items in
    let fewer = length-take c.used-used.result s.segments.items in
    let most : 256 * length s.segments.items < 18446744073709551616 = c.self-2.invariant.1 in (
      subst (λ (z : List (List LogRow)). AreSegments 256 c.replace-2.result z) (sym kept) (subst (λ (k : ℕ). AreSegments 256 k (take c.used-used.result s.segments.items)) (sym c.replace-2.ensures.value) parted.taken),
      subst (λ (z : List (List LogRow)). 256 * length z < 18446744073709551616) (sym kept) (omega arith),
    )

pub new-requires-2 : goal.new-requires-2
new-requires-2 c =
    let s = c.self-2.inside in
    let many : length c.args.self.now.items ≡ s.len = ap (λ (z : List LogRow). length z) (sym c.in_ok-reserve.ensures.items) ∙ (ap (λ (z : LogState). length z.items) (sym c.self-2.view_is) ∙ rows_many 256 s.len s.segments.items c.self-2.invariant.0) in
    let enough = c.used-used.ensures.enough in
    let parted : Parted 256 s.len c.used-used.result s.segments.items = segments_parted 256 s.len c.used-used.result s.segments.items c.self-2.invariant.0 (omega arith) in
    let kept : c.replace.result.items ≡ take c.used-used.result s.segments.items = ap (λ (z : VecDeque _ _). z.items) c.replace.ensures.value ∙ c.in_ok-rest.ensures.items in
    let fit = rows_fit 256 s.len s.segments.items c.self-2.invariant.0 in
    let most : 256 * length s.segments.items < 18446744073709551616 = c.self-2.invariant.1 in
    let all = rows_many 256 s.len (take c.used-used.result s.segments.items) parted.taken in
    let none : length c.new.result.items ≡ 0 = ap (λ (z : List LogRow). length z) c.new.ensures.items in
    record { fits = subst (λ (z : List (List LogRow)). length c.new.result.items + length (joined_rows z) < 18446744073709551616) (sym kept) (omega arith) }

pub invariant_of-self-2 : goal.invariant_of-self-2
invariant_of-self-2 c =
    let s = c.self-2.inside in
    let many : length c.args.self.now.items ≡ s.len = ap (λ (z : List LogRow). length z) (sym c.in_ok-reserve.ensures.items) ∙ (ap (λ (z : LogState). length z.items) (sym c.self-2.view_is) ∙ rows_many 256 s.len s.segments.items c.self-2.invariant.0) in
    let enough = c.used-used.ensures.enough in
    let parted : Parted 256 s.len c.used-used.result s.segments.items = segments_parted 256 s.len c.used-used.result s.segments.items c.self-2.invariant.0 (omega arith) in
    let left : c.replace.new.dest.items ≡ drop c.used-used.result s.segments.items = ap (λ (z : VecDeque _ _). z.items) c.replace.ensures.after ∙ c.in_ok-rest.ensures.tail in
    let fewer = length-drop c.used-used.result s.segments.items in
    let most : 256 * length s.segments.items < 18446744073709551616 = c.self-2.invariant.1 in (
      subst (λ (z : List (List LogRow)). AreSegments 256 c.replace-2.new.dest z) (sym left) (subst (λ (k : ℕ). AreSegments 256 k (drop c.used-used.result s.segments.items)) (sym c.replace-2.ensures.after) parted.left),
      subst (λ (z : List (List LogRow)). 256 * length z < 18446744073709551616) (sym left) (omega arith),
    )

pub returns-clause-rows : goal.returns-clause-rows
returns-clause-rows c =
    let s = c.self-2.inside in
    let many : length c.args.self.now.items ≡ s.len = ap (λ (z : List LogRow). length z) (sym c.in_ok-reserve.ensures.items) ∙ (ap (λ (z : LogState). length z.items) (sym c.self-2.view_is) ∙ rows_many 256 s.len s.segments.items c.self-2.invariant.0) in
    let enough = c.used-used.ensures.enough in
    let parted : Parted 256 s.len c.used-used.result s.segments.items = segments_parted 256 s.len c.used-used.result s.segments.items c.self-2.invariant.0 (omega arith) in
    let kept : c.replace.result.items ≡ take c.used-used.result s.segments.items = ap (λ (z : VecDeque _ _). z.items) c.replace.ensures.value ∙ c.in_ok-rest.ensures.items in
    c.of_many.ensures ∙ (c.new-2.ensures ∙ (ap (λ (z : List LogRow). z ++ joined_rows c.replace.result.items) c.new.ensures.items ∙ (ap joined_rows kept ∙ (parted.rows ∙ (ap (λ (z : LogState). z.items) c.self-2.view_is ∙ c.in_ok-reserve.ensures.items)))))

pub returns-clause-none : goal.returns-clause-none
returns-clause-none c =
    let s = c.self-2.inside in
    let many : length c.args.self.now.items ≡ s.len = ap (λ (z : List LogRow). length z) (sym c.in_ok-reserve.ensures.items) ∙ (ap (λ (z : LogState). length z.items) (sym c.self-2.view_is) ∙ rows_many 256 s.len s.segments.items c.self-2.invariant.0) in
    let enough = c.used-used.ensures.enough in
    let parted : Parted 256 s.len c.used-used.result s.segments.items = segments_parted 256 s.len c.used-used.result s.segments.items c.self-2.invariant.0 (omega arith) in
    let left : c.replace.new.dest.items ≡ drop c.used-used.result s.segments.items = ap (λ (z : VecDeque _ _). z.items) c.replace.ensures.after ∙ c.in_ok-rest.ensures.tail in
    ap joined_rows left ∙ rows_none 256 (drop c.used-used.result s.segments.items) parted.left

pub returns-clause-room : goal.returns-clause-room
returns-clause-room c =
    let s = c.self-2.inside in
    let many : length c.args.self.now.items ≡ s.len = ap (λ (z : List LogRow). length z) (sym c.in_ok-reserve.ensures.items) ∙ (ap (λ (z : LogState). length z.items) (sym c.self-2.view_is) ∙ rows_many 256 s.len s.segments.items c.self-2.invariant.0) in
    let enough = c.used-used.ensures.enough in
    let left : c.replace.new.dest.items ≡ drop c.used-used.result s.segments.items = ap (λ (z : VecDeque _ _). z.items) c.replace.ensures.after ∙ c.in_ok-rest.ensures.tail in
    let fewer = length-drop c.used-used.result s.segments.items in
    let room : c.reserve.new.self.capacity ≡ 256 * length s.segments.items = ap (λ (z : LogState). z.capacity) (sym c.self-2.view_is) in
    let ok = c.in_ok-reserve.ensures.ok in
    let same = ap (λ (z : List LogRow). length z) c.in_ok-reserve.ensures.items in
    let first : length c.args.self.now.items ≡ c.self.inside.len = ap (λ (z : LogState). length z.items) (sym c.self.view_is) ∙ rows_many 256 c.self.inside.len c.self.inside.segments.items c.self.invariant.0 in
    let sum = c.saturating_add.ensures in
    let most : 256 * length s.segments.items < 18446744073709551616 = c.self-2.invariant.1 in
    subst (λ (z : List (List LogRow)). c.args.more ≤ 256 * length z) (sym left) (omega arith)
