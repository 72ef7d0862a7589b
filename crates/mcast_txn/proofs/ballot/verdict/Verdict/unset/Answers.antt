use Rattle.std.proofs.Common.{◌≡◌, List, [], ◌∷◌, ◌++◌, length, take, get_or, sym, ap, ◌∙◌, arith}
use Rattle.std.proofs.lemmas.List.{length_push, map_more, take_all}
use Rattle.mcast_txn.specs.declared.stamp.Stamp.{Stamp}
use Rattle.mcast_txn.specs.Inner.TicketSlots.{unset_row}
use Rattle.mcast_txn.specs.Stamp.{greatest, later}
use Rattle.mcast_txn.proofs.Rising.{rises-map}
use Rattle.mcast_txn.proofs.StampLemmas.{greatest_push}
use Rattle.mcast_txn.proofs.ballot.verdict.Verdict.unset.Goals as goal

pub loop-topic-preserved : goal.loop-topic-preserved
loop-topic-preserved c =
    let i = c.loop-topic.topic-index in
    let rows = c.loop-topic.rows.items in
    let row : Stamp = unset_row (get_or c.args.topics.now i (record { 0 = 0 })) in
    let pushed : c.push_reserved.new.self.items ≡ rows ++ row ∷ [] = c.push_reserved.ensures.items in
    let before = c.loop-topic.invariant in
    record {
      unset = pushed ∙ (ap (λ (front : List Stamp). front ++ row ∷ []) before.unset ∙ sym (map_more unset_row c.args.topics.now i (record { 0 = 0 }) c.loop-topic-test.true));
      latest = c.later-stamp.ensures ∙ (ap (λ (s : Stamp). later s row) before.latest ∙ sym (ap greatest pushed ∙ greatest_push rows row));
      few = omega (arith, ap length pushed ∙ length_push rows row, before.few);
      room = omega (arith, c.push_reserved.ensures.capacity, before.room);
    }

pub invariant_of-result : goal.invariant_of-result
invariant_of-result c =
    let all : take c.loop-topic.topic-index c.args.topics.now ≡ c.args.topics.now = take_all c.loop-topic.topic-index c.args.topics.now (omega (arith, c.loop-topic-test.false)) in
    record {
      rising = rw (c.loop-topic.invariant.unset, all) (rises-map (λ (row : Stamp). row.topic.0) unset_row c.args.topics.now c.requires);
      latest = c.loop-topic.invariant.latest;
    }
