use Rattle.std.proofs.Common.{◌≡◌, ◌++◌, true, false, drop, arith, sym, ◌∙◌}
use Rattle.stomp_frame.specs.Headers.{IsPair}
use Rattle.stomp_frame.specs.ServerFrames.{first_entries, withheld}
use Rattle.stomp_frame.proofs.Bare.{all_at}
use Rattle.stomp_frame.proofs.Names.{has, seen, none_seen, passed_over, put_next}
use Rattle.stomp_frame.proofs.server.server_headers.put_first_entries.Goals as goal
use Rattle.stomp_frame.proofs.server.server_headers.put_first_entries.Goals.{then-not-is_passed_over+in_ok-put, else-not-is_passed_over}

pub loop-i-init : goal.loop-i-init
loop-i-init c = none_seen withheld c.args.headers.now c.args.sent.now c.requires

pub put-requires : goal.put-requires
put-requires c = all_at IsPair c.args.sent.now c.loop-i.i (c.pair.result.0.now, c.pair.result.1.now) c.pair.ensures.value c.pair.ensures.pairs

pub loop-i-preserved : goal.loop-i-preserved
loop-i-preserved c =
    let whole = c.args.headers.now ++ first_entries withheld c.args.sent.now in
    let before : c.loop-i.headers ++ first_entries (seen withheld c.loop-i.headers) (drop c.loop-i.i c.args.sent.now) ≡ whole = c.loop-i.invariant in
    elim c.if-not-is_passed_over.branch [
      | then-not-is_passed_over+in_ok-put w ↦
          let absent : has (seen withheld c.loop-i.headers) c.pair.result.0.now ≡ false = sym c.is_passed_over.ensures ∙ grind arith in
          rw (w.headers-is, w.in_ok-put.ensures) (put_next withheld c.loop-i.headers whole c.args.sent.now c.loop-i.i (c.pair.result.0.now, c.pair.result.1.now) c.pair.ensures.value absent before)
      | else-not-is_passed_over w ↦
          let found : has (seen withheld c.loop-i.headers) c.pair.result.0.now ≡ true = sym c.is_passed_over.ensures ∙ grind arith in
          rw w.headers-is (passed_over withheld c.loop-i.headers whole c.args.sent.now c.loop-i.i (c.pair.result.0.now, c.pair.result.1.now) c.pair.ensures.value found before)
    ]
