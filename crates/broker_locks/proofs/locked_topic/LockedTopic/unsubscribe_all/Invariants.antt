use Rattle.std.proofs.Common.{◌≡◌, ◌≤◌, length, take, vec_capacity, vec_len}
use Rattle.sub_queue.specs.Ends.{shown_of_source}
use Rattle.broker_locks.specs.Inner.Waited.{waiting_without_each}
use Rattle.broker_locks.specs.Place.{EndsInOrder}
use Rattle.broker_locks.proofs.locked_topic.LockedTopic.unsubscribe_all.Given as goal

-- those so far were asked to end, in order
abbrev pub invariant-loop-number : goal.invariant-loop-number
invariant-loop-number g l = record {
  ends : EndsInOrder shown_of_source (take l.number-index l.numbers) l.answers.items l.fn.self.place l.self.place;
  room : l.self.room ≡ waiting_without_each (take l.number-index l.numbers) l.fn.self.room;
  many : vec_len l.answers ≡ l.number-index;
  space : length l.numbers ≤ vec_capacity l.answers;
}
