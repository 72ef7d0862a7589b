use Rattle.std.proofs.Common.{◌≡◌, ◌+◌, List, length}
use Rattle.std.specs.List.{AllByRecursion}
use Rattle.std.specs.Vec.Iter.{into_iter_len}
use Rattle.trace_audit.specs.Trace.{no_trace_data}
use Rattle.broker_locks.specs.Gathering.{AreOfTopics}
use Rattle.broker_locks.specs.KeptTrace.{AddsAll}
use Rattle.delivery.specs.Topics.{max_topics}
use Rattle.broker_locks.specs.Place.{IsBalanced, PlaceState}
use Rattle.broker_locks.proofs.Gathered.{rows_left}
use Rattle.broker_locks.proofs.broker.Broker.into_trace.Given as goal

-- the trace has what the places so far left
abbrev pub invariant-loop-lock : goal.invariant-loop-lock
invariant-loop-lock g l = record {
  places : List PlaceState;
  many : length places + into_iter_len l.lock-iterator ≡ max_topics;
  number : length places ≡ l.number;
  topics : AreOfTopics 0 places;
  each : AllByRecursion IsBalanced places;
  adds : AddsAll (rows_left places) no_trace_data l.trace;
}
