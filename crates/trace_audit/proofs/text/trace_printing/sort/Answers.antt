use Rattle.std.proofs.Common.{rules}
use Rattle.std.proofs.lemmas.List.Sorted.{answers_always}
use Rattle.trace_audit.proofs.Printing.{key_of_ref, is_sort_of}
use Rattle.trace_audit.proofs.text.trace_printing.sort.Goals as goal

pub returns : goal.returns
returns c =
    is_sort_of _ _ (c.in_ok-sort_by_key.ensures.sorted key_of_ref (answers_always _ _ _ (λ f a r g h. search rules)))
    (c.in_ok-sort_by_key.ensures.stable key_of_ref (answers_always _ _ _ (λ f a r g h. search rules)))
