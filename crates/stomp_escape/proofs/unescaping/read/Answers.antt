use Rattle.std.proofs.Common.{arith}
use Rattle.stomp_escape.specs.Inner.Unescaping.{unescaped}
use Rattle.stomp_escape.proofs.Steps.{ends}
use Rattle.stomp_escape.proofs.unescaping.read.Goals as goal

pub returns : goal.returns
returns c = ends c.loop-at.out c.args.text.now c.loop-at.at (unescaped c.args.text.now) (omega arith) c.loop-at.invariant.reads
