use Rattle.std.proofs.Common.{◌≡◌, ℕ, sym, ap, subst, ◌∙◌, arith}
use Rattle.mcast_group.specs.Inner.Log.{AreSegments, LogState}
use Rattle.mcast_group.proofs.Segments.{rows_none}
use Rattle.mcast_group.proofs.log.Log.take_segment.Goals as goal

pub returns-then-self-eq0-clause-none : goal.returns-then-self-eq0-clause-none
returns-then-self-eq0-clause-none c =
    let s = c.self.inside in
    let none : s.len ≡ 0 = (let e = c.if-self-eq0.true in grind (arith)) in
    let empty = rows_none 256 s.segments.items (subst (λ (k : ℕ). AreSegments 256 k s.segments.items) none c.self.invariant.0) in
    let is = sym (ap (λ (z : LogState). z.items) c.self.view_is) ∙ empty in
    (is, is)
