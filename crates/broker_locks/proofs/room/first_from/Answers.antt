use Rattle.std.proofs.Common.{ℕ, Result, IfOk, IfErr, subst, rules}
use Rattle.std.proofs.lemmas.List.Sorted.{answers_always}
use Rattle.mcast_txn.proofs.Rising.{IsAt, IsGap, searched}
use Rattle.broker_locks.specs.Inner.Waited.{waited_number}
use Rattle.broker_locks.proofs.Waiting.{asked_at, asked_gap}
use Rattle.broker_locks.proofs.room.first_from.Goals as goal

pub returns-in-Ok-clause-parts : goal.returns-in-Ok-clause-parts
returns-in-Ok-clause-parts c =
    let facts = c.binary_search_by_key.ensures in
    let finds = searched waited_number c.args.waited.now c.args.start c.binary_search_by_key.result c.requires facts.bound (facts.position waited_number (answers_always _ _ _ (λ f a r g called. search rules))) in
    asked_at c.args.start c.args.waited.now c.in-Ok.index c.requires (subst (λ (r : Result ℕ ℕ). IfOk r (IsAt waited_number c.args.waited.now c.args.start)) c.in-Ok.is finds.found)

pub returns-in-Err-clause-parts : goal.returns-in-Err-clause-parts
returns-in-Err-clause-parts c =
    let facts = c.binary_search_by_key.ensures in
    let finds = searched waited_number c.args.waited.now c.args.start c.binary_search_by_key.result c.requires facts.bound (facts.position waited_number (answers_always _ _ _ (λ f a r g called. search rules))) in
    asked_gap c.args.start c.args.waited.now c.in-Err.index (subst (λ (r : Result ℕ ℕ). IfErr r (IsGap waited_number c.args.waited.now c.args.start)) c.in-Err.is finds.absent)
