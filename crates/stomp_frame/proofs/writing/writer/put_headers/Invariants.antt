use Rattle.std.proofs.Common.{◌≡◌, ◌++◌, take}
use Rattle.stomp_frame.specs.Writing.{header_lines}
use Rattle.stomp_frame.proofs.writing.writer.put_headers.Given as goal

abbrev pub invariant-loop-i : goal.invariant-loop-i
invariant-loop-i l = l.out ≡ l.fn.out ++ header_lines l.escapes (take l.i l.headers)
