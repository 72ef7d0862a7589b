use Rattle.std.proofs.Common.{◌≡◌, ◌++◌, ◌∷◌, [], sym, ap, ◌∙◌}
use Rattle.std.specs.Ordering.{nat_cmp}
use Rattle.std.specs.BTreeSet.{contains}
use Rattle.trace_audit.specs.Trace.{has_span}
use Rattle.trace_audit.proofs.Subs.{with_key}
use Rattle.trace_audit.proofs.trace.Trace.opens.Goals as goal

pub invariant_of-self-in-Ok-insert : goal.invariant_of-self-in-Ok-insert
invariant_of-self-in-Ok-insert c =
    let spans = c.self.inside.spans.items in
    let pushed : c.push.new.self.items ≡ spans ++ c.args.row ∷ [] = c.in-Ok.ensures.items in (
      c.self.invariant.0,
      λ sub. with_key c.args.row spans c.self.inside.subs c.insert.new.self c.in-Ok-insert.ensures.updates c.self.invariant.1 sub ∙ ap (has_span sub) (sym pushed),
    )
