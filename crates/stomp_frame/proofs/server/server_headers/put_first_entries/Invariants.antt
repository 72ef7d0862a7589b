use Rattle.std.proofs.Common.{◌≡◌, ◌++◌, drop}
use Rattle.stomp_frame.specs.ServerFrames.{first_entries, withheld}
use Rattle.stomp_frame.proofs.Names.{seen}
use Rattle.stomp_frame.proofs.server.server_headers.put_first_entries.Given as goal

abbrev pub invariant-loop-i : goal.invariant-loop-i
invariant-loop-i l = l.headers ++ first_entries (seen withheld l.headers) (drop l.i l.sent) ≡ l.fn.headers ++ first_entries withheld l.sent
