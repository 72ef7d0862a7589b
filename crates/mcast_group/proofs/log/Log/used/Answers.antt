use Rattle.std.proofs.Common.{◌≡◌, length, sym, ap, ◌∙◌, arith}
use Rattle.mcast_group.specs.Inner.Log.{LogState}
use Rattle.mcast_group.proofs.Segments.{rows_many}
use Rattle.mcast_group.proofs.log.Log.used.Goals as goal

pub returns-clause-enough : goal.returns-clause-enough
returns-clause-enough c =
    let s = c.self.inside in
    let many : length c.args.self.now.items ≡ s.len = ap (λ (z : LogState). length z.items) (sym c.self.view_is) ∙ rows_many 256 s.len s.segments.items c.self.invariant.0 in
    let up = c.div_ceil.ensures in
    omega arith

pub returns-clause-least : goal.returns-clause-least
returns-clause-least c =
    let s = c.self.inside in
    let many : length c.args.self.now.items ≡ s.len = ap (λ (z : LogState). length z.items) (sym c.self.view_is) ∙ rows_many 256 s.len s.segments.items c.self.invariant.0 in
    let up = c.div_ceil.ensures in
    omega arith
