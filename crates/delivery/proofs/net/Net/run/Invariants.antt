use Rattle.delivery.proofs.Words.All.{◌≡◌, ◌≤◌, ◌+◌, ◌++◌, length, into_iter_items, HasTaken, HasReport}
use Rattle.std.specs.Vec.Iter.{into_iter_len}
use Rattle.delivery.proofs.net.Net.run.Given as goal

-- The events so far were taken, and there is room for the others.
abbrev pub invariant-loop-event : goal.invariant-loop-event
invariant-loop-event l = (l.yielded ++ into_iter_items l.event-iterator ≡ l.fn.events)
    × HasTaken l.yielded l.fn.self l.self
    × HasReport l.self
    × (length (into_iter_items l.event-iterator) ≤ l.self.spare)
    × (l.fn.self.spare ≤ l.self.spare + length l.yielded)
    × (into_iter_len l.event-iterator ≡ length (into_iter_items l.event-iterator))
