use Rattle.std.proofs.Common.{not, rules}
use Rattle.std.proofs.lemmas.List.Sorted.{answers_always}
use Rattle.trace_audit.specs.Faults.{are_falling}
use Rattle.trace_audit.proofs.Neighbours.{order_tested}
use Rattle.trace_audit.proofs.log_checks.is_out_of_order.Goals as goal

pub returns : goal.returns
returns c = order_tested c.args.by_topic.now _ c.requires (c.is_sorted_by.ensures.cases (λ x y. not (are_falling x.now y.now)) (answers_always _ _ _ (λ f a r g h. search rules)))
