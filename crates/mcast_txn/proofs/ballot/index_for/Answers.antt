use Rattle.std.proofs.Common.{◌≡◌, true, false}
use Rattle.mcast_txn.specs.Ids.{same_id}
use Rattle.mcast_txn.specs.Stamp.{zero_stamp}
use Rattle.mcast_txn.proofs.TicketLemmas.{was_true, answer_not_named, answer_twice, answer_ok}
use Rattle.mcast_txn.proofs.ballot.index_for.Goals as goal

pub returns-in_default-clause-fault : goal.returns-in_default-clause-fault
returns-in_default-clause-fault c = answer_not_named c.args.verdict.now.rows c.args.given.now c.requires c.args.verdict.now.id c.args.ticket c.in_default.ensures.absent

pub returns-then-given-index-clause-fault : goal.returns-then-given-index-clause-fault
returns-then-given-index-clause-fault c =
    let same : same_id c.args.ticket.id c.id.result ≡ true = was_true _ c.if-ne.ensures in
    answer_twice c.args.verdict.now.rows c.args.given.now c.requires c.args.verdict.now.id c.in-Some.ensures.rising c.args.ticket c.in-Some.index c.in-Some.ensures.found zero_stamp false (rw c.id.ensures at same) c.if-given-index.true

pub returns-clause-free : goal.returns-clause-free
returns-clause-free c =
    let same : same_id c.args.ticket.id c.id.result ≡ true = was_true _ c.if-ne.ensures in
    answer_ok c.args.verdict.now.rows c.args.given.now c.requires c.args.verdict.now.id c.in-Some.ensures.rising c.args.ticket c.in-Some.index c.in-Some.ensures.found zero_stamp false (rw c.id.ensures at same) c.if-given-index.false
