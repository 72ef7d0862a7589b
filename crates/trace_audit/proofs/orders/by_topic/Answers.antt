use Rattle.std.proofs.Common.{◌+◌, get_or, rules, sym, ◌∙◌}
use Rattle.std.proofs.lemmas.List.Sorted.{answers_always}
use Rattle.trace_audit.proofs.OrderLemmas.{one_lt, moved_shown, kept_shown, logged_at}
use Rattle.trace_audit.proofs.orders.by_topic.Goals as goal

pub returns-clause-rises : goal.returns-clause-rises
returns-clause-rises c = λ k d low high.
    let rows = c.sort_by_key.new.self.items in
    sym (one_lt (get_or rows (k + 1) d).now.topic.0 (get_or rows k d).now.topic.0) ∙ c.in_ok-sort_by_key.ensures.sorted (λ p. p.now.topic) (answers_always _ _ _ (λ f a r g h. search rules)) k d low high

pub returns-clause-grouping : goal.returns-clause-grouping
returns-clause-grouping c = record {
  moved = moved_shown c.args.logs.now c.in_ok-rows.rows.items c.sort_by_key.new.self.items c.in_ok-rows.ensures c.sort_by_key.ensures.permutation;
  kept = λ t. kept_shown (λ logged. logged.topic.0) (logged_at t) c.args.logs.now c.in_ok-rows.rows.items c.sort_by_key.new.self.items c.in_ok-rows.ensures (c.sort_by_key.ensures.stable (λ p. p.now.topic) (answers_always _ _ _ (λ f a r g h. search rules)));
}
