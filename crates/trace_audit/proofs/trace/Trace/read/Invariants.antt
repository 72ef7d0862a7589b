use Rattle.std.proofs.Common.{◌≡◌, ◌+◌, ◌≤◌, length}
use Rattle.trace_audit.specs.Inner.Reading.{read_from}
use Rattle.trace_audit.specs.Parsing.{lines_of}
use Rattle.trace_audit.specs.Trace.{no_trace_data}
use Rattle.trace_audit.proofs.trace.Trace.read.Given as goal

-- what is left goes on to what all lines give
abbrev pub invariant-loop-rest : goal.invariant-loop-rest
invariant-loop-rest l = record {
  reads : read_from l.number (lines_of l.rest) l.trace ≡ read_from 1 (lines_of l.fn.text) no_trace_data;
  few : l.number + length l.rest ≤ length l.fn.text + 1;
}

abbrev pub decreases-loop-rest : goal.decreases-loop-rest
decreases-loop-rest l = length l.rest
