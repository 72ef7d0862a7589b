use Rattle.std.proofs.Common.{not, rules}
use Rattle.std.proofs.lemmas.List.Sorted.{answers_always}
use Rattle.trace_audit.specs.Faults.{are_disordered}
use Rattle.trace_audit.proofs.Neighbours.{senders_tested}
use Rattle.trace_audit.proofs.log_checks.has_sender_disorder.Goals as goal

pub returns : goal.returns
returns c = senders_tested c.args.by_id.now _ c.requires.rises c.requires.one_verdict (c.is_sorted_by.ensures.cases (λ x y. not (are_disordered y.now.row x.now.row)) (answers_always _ _ _ (λ f a r g h. search rules)))
