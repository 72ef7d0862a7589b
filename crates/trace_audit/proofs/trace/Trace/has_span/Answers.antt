use Rattle.std.proofs.Common.{ap, ◌∙◌}
use Rattle.trace_audit.specs.Trace.{TraceData, has_span}
use Rattle.trace_audit.proofs.trace.Trace.has_span.Goals as goal

pub returns : goal.returns
returns c =
    c.contains.ensures
    ∙ (c.self.invariant.1 c.args.sub
    ∙ ap (λ (z : TraceData). has_span c.args.sub z.spans) c.self.view_is)
