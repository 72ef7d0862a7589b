use Rattle.std.proofs.Common.{not, rules}
use Rattle.std.proofs.lemmas.List.Sorted.{answers_always}
use Rattle.trace_audit.specs.Faults.{are_different}
use Rattle.trace_audit.proofs.Neighbours.{verdicts_tested}
use Rattle.trace_audit.proofs.log_checks.has_two_verdicts.Goals as goal

pub returns : goal.returns
returns c = verdicts_tested c.args.by_id.now _ c.requires (c.is_sorted_by.ensures.cases (λ x y. not (are_different x.now.row y.now.row)) (answers_always _ _ _ (λ f a r g h. search rules)))
