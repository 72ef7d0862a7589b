use Rattle.std.proofs.Common.{◌+◌, get_or, rules, sym, ◌∙◌}
use Rattle.std.proofs.lemmas.List.Sorted.{answers_always}
use Rattle.trace_audit.proofs.OrderLemmas.{one_lt, kept_shown}
use Rattle.trace_audit.proofs.Slices.{queue_row}
use Rattle.trace_audit.proofs.queue_checks.queues_by_sub.Goals as goal

pub returns-clause-rises : goal.returns-clause-rises
returns-clause-rises c = λ k d low high.
    let rows = c.sort_by_key.new.self.items in
    sym (one_lt (get_or rows (k + 1) d).now.sub (get_or rows k d).now.sub) ∙ c.in_ok-sort_by_key.ensures.sorted (λ p. p.now.sub) (answers_always _ _ _ (λ f a r g h. search rules)) k d low high

pub returns-clause-kept : goal.returns-clause-kept
returns-clause-kept c = λ sub.
    kept_shown (λ queued. queued.sub) (queue_row sub) c.args.queues.now c.in_ok-rows.rows.items c.sort_by_key.new.self.items c.in_ok-rows.ensures (c.sort_by_key.ensures.stable (λ p. p.now.sub) (answers_always _ _ _ (λ f a r g h. search rules)))
