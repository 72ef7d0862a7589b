use Rattle.std.proofs.Common.{◌≡◌}
use Rattle.std.specs.Slice.Iter.{iter_rest}
use Rattle.mio.specs.Events.{items}
use Rattle.broker_server.specs.Sockets.{after_events}
use Rattle.broker_server.proofs.serving.socket.Socket.note.Given as goal

-- what the events that are left make of it is what all of them make of it
abbrev pub invariant-loop-event : goal.invariant-loop-event
invariant-loop-event l =
    after_events (iter_rest l.event-iterator) l.self ≡ after_events (items l.fn.events) l.fn.self
