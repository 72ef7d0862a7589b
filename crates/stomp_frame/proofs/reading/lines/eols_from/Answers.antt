use Rattle.std.proofs.Common.{arith, drop, sym}
use Rattle.stomp_frame.specs.Inner.Parser.{after_eols}
use Rattle.stomp_frame.proofs.Eols.{goes_lf, goes_crlf, within_crlf, stops, ends}
use Rattle.stomp_frame.proofs.reading.lines.eols_from.Goals as goal

pub loop-at-preserved-then-text-at-eq10 : goal.loop-at-preserved-then-text-at-eq10
loop-at-preserved-then-text-at-eq10 c =
    let left = after_eols (drop c.args.start c.args.text.now) in
    record { within = omega arith; skipped = goes_lf c.args.text.now left c.loop-at.at c.loop-at-test.true c.if-text-at-eq10.true c.loop-at.invariant.skipped }

pub loop-at-preserved : goal.loop-at-preserved
loop-at-preserved c =
    let left = after_eols (drop c.args.start c.args.text.now) in
    let lt = within_crlf c.args.text.now c.loop-at.at (sym c.if-is_crlf.ensures) in
    record { within = omega arith; skipped = goes_crlf c.args.text.now left c.loop-at.at lt (sym c.if-is_crlf.ensures) c.loop-at.invariant.skipped }

pub returns-else-is_crlf-clause-skipped : goal.returns-else-is_crlf-clause-skipped
returns-else-is_crlf-clause-skipped c = stops c.args.text.now _ c.loop-at.at c.if-text-at-eq10.false (sym c.if-is_crlf.ensures) c.loop-at.invariant.skipped

pub returns-clause-skipped : goal.returns-clause-skipped
returns-clause-skipped c = ends c.args.text.now _ c.loop-at.at c.loop-at-test.false c.loop-at.invariant.skipped
