use Rattle.std.proofs.Common.{◌+◌, [], take, drop, get_or, set, sym, ◌∙◌, arith, length-set}
use Rattle.std.proofs.lemmas.List.{take_more_set}
use Rattle.stomp_escape.specs.Inner.Unescaping.{unescaped_from}
use Rattle.stomp_escape.proofs.Steps.{ends_undefined, ends_cut}
use Rattle.stomp_escape.proofs.Waiting.{read_plain, read_escape}
use Rattle.stomp_escape.proofs.unescaping.read_piece.Goals.{then-text-at-ne92, else-text-at-ne92+else-at-text+in-Some}
use Rattle.stomp_escape.proofs.unescaping.read_piece.Goals as goal

pub returns-then-at-text-clause-fault : goal.returns-then-at-text-clause-fault
returns-then-at-text-clause-fault c = sym (ends_cut (take c.loop-at.n c.loop-at.waiting) c.args.text.now c.loop-at.at (unescaped_from c.args.start (drop c.args.start c.args.text.now)) c.if-at-text.true c.if-text-at-ne92.false c.loop-at.invariant.reads)

pub returns-in_default-clause-fault : goal.returns-in_default-clause-fault
returns-in_default-clause-fault c = sym (ends_undefined (take c.loop-at.n c.loop-at.waiting) c.args.text.now c.loop-at.at (unescaped_from c.args.start (drop c.args.start c.args.text.now)) (omega arith) c.if-text-at-ne92.false (sym c.in_default.ensures) c.loop-at.invariant.reads)

pub loop-at-preserved : goal.loop-at-preserved
loop-at-preserved c =
    let text = c.args.text.now in
    let start = c.args.start in
    let at = c.loop-at.at in
    let waiting = c.loop-at.waiting in
    let n = c.loop-at.n in
    let total = unescaped_from start (drop start text) in
    elim c.if-text-at-ne92.branch [
      | then-text-at-ne92 w ↦
          let b = get_or text at 0 in
          rw (w.waiting-is, w.at-is) (record {
            from = omega arith;
            within = omega arith;
            room = omega (arith, c.loop-at.invariant.room);
            few = omega (arith, c.loop-at.invariant.room, c.loop-at-test.true);
            sized = length-set waiting n b ∙ c.loop-at.invariant.sized;
            reads = read_plain [] (take n waiting) (take (n + 1) (set waiting n b)) text at total (omega arith) w.if-text-at-ne92.true (take_more_set waiting n b (omega (arith, c.loop-at.invariant.sized))) c.loop-at.invariant.reads;
          })
      | else-text-at-ne92+else-at-text+in-Some w ↦
          let o = w.in-Some.octet in
          rw (w.waiting-is, w.at-is) (record {
            from = omega arith;
            within = omega arith;
            room = omega (arith, c.loop-at.invariant.room);
            few = omega (arith, c.loop-at.invariant.room, c.loop-at-test.true);
            sized = length-set waiting n o ∙ c.loop-at.invariant.sized;
            reads = read_escape [] (take n waiting) (take (n + 1) (set waiting n o)) text at o total (omega arith) w.if-text-at-ne92.false (sym w.in-Some.ensures) (take_more_set waiting n o (omega (arith, c.loop-at.invariant.sized))) c.loop-at.invariant.reads;
          })
    ]
