use Rattle.std.proofs.Common.{not, rules}
use Rattle.std.proofs.lemmas.List.Sorted.{answers_always}
use Rattle.trace_audit.specs.Faults.{are_colliding}
use Rattle.trace_audit.proofs.Neighbours.{stamps_tested}
use Rattle.trace_audit.proofs.log_checks.has_same_stamp.Goals as goal

pub returns : goal.returns
returns c = stamps_tested c.args.by_stamp.now _ c.requires (c.is_sorted_by.ensures.cases (λ x y. not (are_colliding x.now.row y.now.row)) (answers_always _ _ _ (λ f a r g h. search rules)))
