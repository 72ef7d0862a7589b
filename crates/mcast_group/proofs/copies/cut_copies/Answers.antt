use Rattle.std.proofs.Common.{List, subst, sym, arith}
use Rattle.mcast_txn.specs.Transaction.{TopicPart}
use Rattle.mcast_group.specs.Inner.Copies.{HaveCopies}
use Rattle.mcast_group.proofs.Copying.{copies_kept}
use Rattle.mcast_group.proofs.copies.cut_copies.Goals as goal

pub returns-then-most-had : goal.returns-then-most-had
returns-then-most-had c = λ ps h.
    subst (λ (cs : List (List TopicPart)). HaveCopies c.args.most ps cs) (sym c.keep_in_each.ensures)
    (copies_kept c.args.had c.args.most ps c.args.copies.now.items (let l = c.requires in omega arith) h)
