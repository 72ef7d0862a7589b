use Rattle.std.proofs.Common.{◌≡◌, ◌<◌, ◌^◌, take}
use Rattle.stomp_frame.specs.ContentLength.{number}
use Rattle.stomp_frame.proofs.reading.content_length.number_in.Given as goal

abbrev pub invariant-loop-b : goal.invariant-loop-b
invariant-loop-b l = (l.n ≡ number (take l.b-index l.digits)) × (l.n < 10 ^ l.b-index)
