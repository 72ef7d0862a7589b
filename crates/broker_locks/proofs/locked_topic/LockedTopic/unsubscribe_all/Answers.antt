use Rattle.std.proofs.Common.{◌≤◌, ◌+◌, ◌∷◌, ◌++◌, ℕ, List, [], length, take, get_or, Result, sym, ap, subst, ◌∙◌}
use Rattle.sub_queue.specs.Ends.{End, shown_of_source}
use Rattle.mcast_group.specs.declared.ended.Ended.{Ended}
use Rattle.mcast_group.specs.declared.fault.NoSub.{NoSub}
use Rattle.broker_locks.specs.Inner.Waited.{waiting_without_each}
use Rattle.broker_locks.specs.Place.{EndsInOrder}
use Rattle.broker_locks.specs.Room.{waiting_without}
use Rattle.broker_locks.proofs.Ends.{ends_more, take_next, without_more}
use Rattle.broker_locks.proofs.locked_topic.LockedTopic.unsubscribe_all.Goals as goal

pub loop-number-preserved : goal.loop-number-preserved
loop-number-preserved g c =
    let numbers = c.args.numbers.now in
    let first = take c.loop-number.number-index numbers in
    let n = get_or numbers c.loop-number.number-index 0 in
    let next = take_next numbers c.loop-number.number-index 0 c.loop-number-test.true in
    let was = c.args.self.now in
    let now = c.unsubscribe.new.self in
    let more = ends_more shown_of_source first c.loop-number.answers.items n c.unsubscribe.result was.place c.loop-number.self.place now.place c.loop-number.invariant.ends c.unsubscribe.ensures.ends in
    record {
      ends = subst (λ (ns : List ℕ). EndsInOrder shown_of_source ns c.push_reserved.new.self.items was.place now.place) (sym next)
          (subst (λ (xs : List (Result (Ended End) NoSub)). EndsInOrder shown_of_source (first ++ n ∷ []) xs was.place now.place) (sym c.push_reserved.ensures.items) more);
      room = c.unsubscribe.ensures.room ∙ (ap (waiting_without n) c.loop-number.invariant.room ∙ (sym (without_more first n was.room) ∙ ap (λ (ns : List ℕ). waiting_without_each ns was.room) (sym next)));
      many = c.push_reserved.ensures.len ∙ ap (λ k. k + 1) c.loop-number.invariant.many;
      space = subst (λ k. length numbers ≤ k) (sym c.push_reserved.ensures.capacity) c.loop-number.invariant.space;
    }
