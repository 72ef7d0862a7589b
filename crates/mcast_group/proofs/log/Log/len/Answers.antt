use Rattle.std.proofs.Common.{length, sym, ap, ◌∙◌}
use Rattle.mcast_group.specs.Inner.Log.{LogState}
use Rattle.mcast_group.proofs.Segments.{rows_many}
use Rattle.mcast_group.proofs.log.Log.len.Goals as goal

pub returns : goal.returns
returns c =
    let s = c.self.inside in
    sym (rows_many 256 s.len s.segments.items c.self.invariant.0) ∙ ap (λ (z : LogState). length z.items) c.self.view_is
