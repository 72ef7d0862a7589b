use Rattle.std.proofs.Common.{arith}
use Rattle.broker_locks.proofs.Hearing.{heard_then}
use Rattle.broker_locks.proofs.Waiting.{all_asked, first_found, nobody_found, spare_more}
use Rattle.broker_locks.proofs.room.least_among.Goals as goal

pub returns-in-None-clause-first : goal.returns-in-None-clause-first
returns-in-None-clause-first g c =
    first_found c.args.due c.args.waited.now c.loop-number.number-index 0 c.loop-number.least c.loop-number.place c.spare_of.new.place c.spare_of.ensures.heard c.loop-number-test.true c.loop-number.invariant.asked c.in-None.ensures.none

pub loop-number-preserved : goal.loop-number-preserved
loop-number-preserved g c =
    let more = spare_more c.args.due c.args.waited.now c.loop-number.number-index 0 c.loop-number.least c.in-Some.more c.loop-number.place c.spare_of.new.place c.spare_of.ensures.heard c.loop-number-test.true c.loop-number.invariant.asked c.in-Some.ensures.some in
    record {
      heard = heard_then c.args.place.now c.loop-number.place c.spare_of.new.place c.loop-number.invariant.heard c.spare_of.ensures.heard;
      at_most = rw c.min-least.ensures (omega (arith, c.loop-number.invariant.at_most));
      asked = rw c.min-least.ensures more;
    }

pub returns-clause-each : goal.returns-clause-each
returns-clause-each g c = all_asked _ c.args.waited.now c.loop-number.number-index c.loop-number.place.cells.group c.loop-number-test.false c.loop-number.invariant.asked

pub returns-clause-none : goal.returns-clause-none
returns-clause-none g c =
    nobody_found c.args.due c.loop-number.least c.args.waited.now c.loop-number.place.cells.group
    (all_asked _ c.args.waited.now c.loop-number.number-index c.loop-number.place.cells.group c.loop-number-test.false c.loop-number.invariant.asked)
