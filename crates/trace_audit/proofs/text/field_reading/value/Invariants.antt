use Rattle.std.proofs.Common.{◌≡◌, drop}
use Rattle.trace_audit.specs.Inner.Reading.{read_on}
use Rattle.trace_audit.proofs.text.field_reading.value.Given as goal

-- what is left goes on from n to what all make
abbrev pub invariant-loop-digit : goal.invariant-loop-digit
invariant-loop-digit l = read_on l.n (drop l.digit-index l.digits) ≡ read_on 0 l.fn.digits
