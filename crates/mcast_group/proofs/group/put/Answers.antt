use Rattle.std.proofs.Common.{◌≡◌, length, arith}
use Rattle.mcast_txn.specs.Ids.{id_lt}
use Rattle.mcast_group.specs.Machine.{Pending}
use Rattle.mcast_group.proofs.Copying.{copies_insert}
use Rattle.mcast_group.proofs.Places.{past_within}
use Rattle.mcast_group.proofs.group.put.Goals as goal

pub insert-requires-2 : goal.insert-requires-2
insert-requires-2 g c =
    let cs = c.args.copies.now.items in
    let l : c.args.copies.now.len ≡ length cs = c.args.copies.now.ok.0 in
    let within = past_within (λ (q : Pending). id_lt q.part.id c.args.part.part.id) c.args.pending.now c.args.index c.requires.at in
    let same = c.requires.same in
    let n = c.reserve.ensures.len in
    omega arith

pub returns-clause-copies : goal.returns-clause-copies
returns-clause-copies g c = λ n h m a.
    let items = rw c.unwrap.ensures at c.insert-2.ensures.items in
    rw (c.in_ok-insert.ensures.at, items, c.in-Ok.ensures.items)
    (copies_insert n c.args.index c.args.pending.now c.args.copies.now.items c.args.part c.args.made (past_within (λ (q : Pending). id_lt q.part.id c.args.part.part.id) c.args.pending.now c.args.index c.requires.at) h m a)
