use Rattle.std.proofs.Common.{rules}
use Rattle.std.proofs.lemmas.List.Sorted.{answers_always}
use Rattle.mcast_txn.proofs.Rising.{searched}
use Rattle.mcast_txn.proofs.SlotLemmas.{index_found, none_found}
use Rattle.mcast_txn.proofs.parts.slot.index_of.Goals as goal

pub returns-clause-found : goal.returns-clause-found
returns-clause-found g c =
    let facts = c.binary_search_by_key.ensures in
    let finds = searched (λ slot. slot.topic.0) c.args.slots.now c.args.topic.0 _ c.requires facts.bound (facts.position (λ slot. slot.topic.0) (answers_always _ _ _ (λ f a r g called. search rules))) in
    rw c.ok.ensures.value (index_found c.args.topic c.args.slots.now c.binary_search_by_key.result finds)

pub returns-clause-absent : goal.returns-clause-absent
returns-clause-absent g c =
    let facts = c.binary_search_by_key.ensures in
    let finds = searched (λ slot. slot.topic.0) c.args.slots.now c.args.topic.0 _ c.requires facts.bound (facts.position (λ slot. slot.topic.0) (answers_always _ _ _ (λ f a r g called. search rules))) in
    rw c.ok.ensures.value (none_found c.args.topic c.args.slots.now c.binary_search_by_key.result finds)
