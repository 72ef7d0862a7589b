use Rattle.std.proofs.Common.{◌≡◌, ℕ, ◌+◌, ◌-◌, ◌*◌, ◌<◌, ◌≤◌, List, length, sym, ap, ◌∙◌, arith}
use Rattle.mcast_txn.specs.Span.{LogRow}
use Rattle.mcast_group.specs.Inner.Log.{LogState}
use Rattle.mcast_group.proofs.Segments.{rows_fit, rows_many}
use Rattle.mcast_group.proofs.log.Log.reserve.Goals as goal

pub overflow_sub-len : goal.overflow_sub-len
overflow_sub-len c =
    let s = c.self.inside in
    let l : s.segments.len ≡ length s.segments.items = s.segments.ok.0 in
    let is = c.len.ensures in
    let fit = rows_fit 256 s.len s.segments.items c.self.invariant.0 in
    omega arith

pub loop-self-smaller : goal.loop-self-smaller
loop-self-smaller c =
    let s = c.self.inside in
    let l : s.segments.len ≡ length s.segments.items = s.segments.ok.0 in
    let is : c.len.result ≡ s.segments.len = c.len.ensures in
    let many : length c.loop-self.self.items ≡ s.len = ap (λ (z : LogState). length z.items) (sym c.self.view_is) ∙ rows_many 256 s.len s.segments.items c.self.invariant.0 in
    let room : c.loop-self.self.capacity ≡ 256 * length s.segments.items = ap (λ (z : LogState). z.capacity) (sym c.self.view_is) in
    let fit = rows_fit 256 s.len s.segments.items c.self.invariant.0 in
    let more : c.add_segment.new.self.capacity ≡ c.loop-self.self.capacity + 256 = c.in_ok-add_segment.ensures.ok in
    let same : length c.add_segment.new.self.items ≡ length c.loop-self.self.items = ap (λ (z : List LogRow). length z) c.add_segment.ensures.items in
    let lacks : c.len.result * 256 - s.len < c.args.more = c.loop-self-test.true in
    smaller c.args.more c.loop-self.self.capacity c.add_segment.new.self.capacity (length c.loop-self.self.items) (length c.add_segment.new.self.items) more same (omega arith) (omega arith)
  where
    smaller : (n a b i j : ℕ) → b ≡ a + 256 → j ≡ i → i ≤ a → a - i < n → n - (b - j) < n - (a - i)
    smaller n a b i j e f g l = omega arith

pub returns-clause-ok : goal.returns-clause-ok
returns-clause-ok c =
    let s = c.self.inside in
    let l : s.segments.len ≡ length s.segments.items = s.segments.ok.0 in
    let is : c.len.result ≡ s.segments.len = c.len.ensures in
    let many : length c.loop-self.self.items ≡ s.len = ap (λ (z : LogState). length z.items) (sym c.self.view_is) ∙ rows_many 256 s.len s.segments.items c.self.invariant.0 in
    let fit = rows_fit 256 s.len s.segments.items c.self.invariant.0 in
    let room : c.loop-self.self.capacity ≡ 256 * length s.segments.items = ap (λ (z : LogState). z.capacity) (sym c.self.view_is) in
    let enough : c.args.more ≤ c.len.result * 256 - s.len = c.loop-self-test.false in
    omega arith

pub returns-in_err-add_segment-clause-enough : goal.returns-in_err-add_segment-clause-enough
returns-in_err-add_segment-clause-enough c = λ room.
    let s = c.self.inside in
    let l : s.segments.len ≡ length s.segments.items = s.segments.ok.0 in
    let is : c.len.result ≡ s.segments.len = c.len.ensures in
    let many : length c.loop-self.self.items ≡ s.len = ap (λ (z : LogState). length z.items) (sym c.self.view_is) ∙ rows_many 256 s.len s.segments.items c.self.invariant.0 in
    let has : c.loop-self.self.capacity ≡ 256 * length s.segments.items = ap (λ (z : LogState). z.capacity) (sym c.self.view_is) in
    let lacks : c.len.result * 256 - s.len < c.args.more = c.loop-self-test.true in
    let same = ap (λ (z : List LogRow). length z) c.loop-self.invariant.0 in
    let grown = c.loop-self.invariant.1 in
    absurd (omega arith)
