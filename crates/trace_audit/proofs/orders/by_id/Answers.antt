use Rattle.std.proofs.Common.{◌+◌, get_or, rules, sym, ◌∙◌}
use Rattle.std.proofs.lemmas.List.Sorted.{answers_always}
use Rattle.trace_audit.proofs.OrderLemmas.{id_rises, moved_shown}
use Rattle.trace_audit.proofs.orders.by_id.Goals as goal

pub returns-clause-rises : goal.returns-clause-rises
returns-clause-rises c = λ k d low high.
    let rows = c.sort_unstable_by_key.new.self.items in
    sym (id_rises (get_or rows (k + 1) d).now.row.id (get_or rows k d).now.row.id) ∙ c.sort_unstable_by_key.ensures.sorted (λ p. p.now.row.id) (answers_always _ _ _ (λ f a r g h. search rules)) k d low high

pub returns-clause-moved : goal.returns-clause-moved
returns-clause-moved c = moved_shown c.args.logs.now c.in_ok-rows.rows.items c.sort_unstable_by_key.new.self.items c.in_ok-rows.ensures c.sort_unstable_by_key.ensures.permutation
