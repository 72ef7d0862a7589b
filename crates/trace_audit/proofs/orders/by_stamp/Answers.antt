use Rattle.std.proofs.Common.{◌+◌, get_or, rules, sym, ◌∙◌}
use Rattle.std.proofs.lemmas.List.Sorted.{answers_always}
use Rattle.trace_audit.proofs.OrderLemmas.{stamp_rises, moved_shown}
use Rattle.trace_audit.proofs.orders.by_stamp.Goals as goal

pub returns-clause-rises : goal.returns-clause-rises
returns-clause-rises c = λ k d low high.
    let rows = c.sort_unstable_by_key.new.self.items in
    sym (stamp_rises (get_or rows (k + 1) d).now.row.stamp (get_or rows k d).now.row.stamp) ∙ c.sort_unstable_by_key.ensures.sorted (λ p. p.now.row.stamp) (answers_always _ _ _ (λ f a r g h. search rules)) k d low high

pub returns-clause-moved : goal.returns-clause-moved
returns-clause-moved c = moved_shown c.args.logs.now c.in_ok-rows.rows.items c.sort_unstable_by_key.new.self.items c.in_ok-rows.ensures c.sort_unstable_by_key.ensures.permutation
