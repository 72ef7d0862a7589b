use Rattle.std.proofs.Common.{◌≡◌, ◌<◌, ℕ, List, length, sym, ap, subst, ◌∙◌, arith}
use Rattle.mcast_txn.specs.Span.{LogRow}
use Rattle.mcast_group.specs.Inner.Log.{AreSegments, LogState}
use Rattle.mcast_group.proofs.Segments.{rows_many, rows_none}
use Rattle.mcast_group.proofs.log.Log.drain_rows.Goals as goal

pub drain_none-requires : goal.drain_none-requires
drain_none-requires c =
    let s = c.self.inside in
    let none : s.len ≡ 0 = (let e = c.if-self-eq0.true in grind (arith)) in
    sym (ap (λ (z : LogState). z.items) c.self.view_is) ∙ rows_none 256 s.segments.items (subst (λ (k : ℕ). AreSegments 256 k s.segments.items) none c.self.invariant.0)

pub drain_one-requires : goal.drain_one-requires
drain_one-requires c =
    let s = c.self.inside in
    let many : length c.args.self.now.items ≡ s.len = ap (λ (z : LogState). length z.items) (sym c.self.view_is) ∙ rows_many 256 s.len s.segments.items c.self.invariant.0 in
    let one : s.len ≡ 1 = (let e = c.if-self-eq1.true in grind (arith)) in
    many ∙ one

pub drain_first-requires-clause-some : goal.drain_first-requires-clause-some
drain_first-requires-clause-some c =
    let s = c.self.inside in
    let many : length c.args.self.now.items ≡ s.len = ap (λ (z : LogState). length z.items) (sym c.self.view_is) ∙ rows_many 256 s.len s.segments.items c.self.invariant.0 in
    (let e = c.if-self-eq0.false in grind (arith))

pub drain_first-requires-clause-few : goal.drain_first-requires-clause-few
drain_first-requires-clause-few c =
    let s = c.self.inside in
    let many : length c.args.self.now.items ≡ s.len = ap (λ (z : LogState). length z.items) (sym c.self.view_is) ∙ rows_many 256 s.len s.segments.items c.self.invariant.0 in
    let few : s.len < 256 = c.if-self-lt-SEGMENT_ROWS.true in
    omega arith

pub returns-then-self-eq1-clause-idle : goal.returns-then-self-eq1-clause-idle
returns-then-self-eq1-clause-idle c = λ empty room.
    let s = c.self.inside in
    let many : length c.args.self.now.items ≡ s.len = ap (λ (z : LogState). length z.items) (sym c.self.view_is) ∙ rows_many 256 s.len s.segments.items c.self.invariant.0 in
    let some : 0 < length c.args.self.now.items = (let e = c.if-self-eq0.false in grind (arith)) in
    let none = ap (λ (z : List LogRow). length z) empty in
    absurd (omega arith)

pub returns-then-self-lt-SEGMENT_ROWS-clause-idle : goal.returns-then-self-lt-SEGMENT_ROWS-clause-idle
returns-then-self-lt-SEGMENT_ROWS-clause-idle c = λ empty room.
    let s = c.self.inside in
    let many : length c.args.self.now.items ≡ s.len = ap (λ (z : LogState). length z.items) (sym c.self.view_is) ∙ rows_many 256 s.len s.segments.items c.self.invariant.0 in
    let some : 0 < length c.args.self.now.items = (let e = c.if-self-eq0.false in grind (arith)) in
    let none = ap (λ (z : List LogRow). length z) empty in
    absurd (omega arith)

pub returns-clause-idle : goal.returns-clause-idle
returns-clause-idle c = λ empty room.
    let s = c.self.inside in
    let many : length c.args.self.now.items ≡ s.len = ap (λ (z : LogState). length z.items) (sym c.self.view_is) ∙ rows_many 256 s.len s.segments.items c.self.invariant.0 in
    let some : 0 < length c.args.self.now.items = (let e = c.if-self-eq0.false in grind (arith)) in
    let none = ap (λ (z : List LogRow). length z) empty in
    absurd (omega arith)
