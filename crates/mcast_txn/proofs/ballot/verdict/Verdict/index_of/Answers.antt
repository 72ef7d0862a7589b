use Rattle.std.proofs.Common.{rules}
use Rattle.std.proofs.lemmas.List.Sorted.{answers_always}
use Rattle.mcast_txn.proofs.Rising.{searched}
use Rattle.mcast_txn.proofs.RowLemmas.{row_found, no_row_found}
use Rattle.mcast_txn.proofs.ballot.verdict.Verdict.index_of.Goals as goal

pub returns-clause-found : goal.returns-clause-found
returns-clause-found c =
    let facts = c.binary_search_by_key.ensures in
    let finds = searched (λ row. row.topic.0) c.self.inside.rows.items c.args.topic.0 c.binary_search_by_key.result c.self.invariant.rising (rw (← c.deref.ensures) facts.bound) (rw (← c.deref.ensures) (facts.position (λ row. row.topic.0) (answers_always _ _ _ (λ f a r g called. search rules)))) in
    rw (c.ok.ensures.value, ← c.self.view_is) (row_found c.args.topic c.self.inside.rows.items c.binary_search_by_key.result finds)

pub returns-clause-absent : goal.returns-clause-absent
returns-clause-absent c =
    let facts = c.binary_search_by_key.ensures in
    let finds = searched (λ row. row.topic.0) c.self.inside.rows.items c.args.topic.0 c.binary_search_by_key.result c.self.invariant.rising (rw (← c.deref.ensures) facts.bound) (rw (← c.deref.ensures) (facts.position (λ row. row.topic.0) (answers_always _ _ _ (λ f a r g called. search rules)))) in
    rw (c.ok.ensures.value, ← c.self.view_is) (no_row_found c.args.topic c.self.inside.rows.items c.binary_search_by_key.result finds)
