use Rattle.std.proofs.Common.{◌≡◌, true, false, arith}
use Rattle.stomp_frame.specs.Writing.{IsBare}
use Rattle.stomp_frame.proofs.Bare.{found_bare, found_faulty, all_more, all_at}
use Rattle.stomp_frame.proofs.writing.writer.are_bare.Goals as goal

pub returns-then-not-is_bare : goal.returns-then-not-is_bare
returns-then-not-is_bare c =
    let no : c.is_bare.result ≡ false = grind arith in (
      λ e. absurd cc,
      λ w. absurd (found_faulty c.pair.result.0.now c.pair.result.1.now c.is_bare.result c.is_bare.ensures no (all_at (λ h. IsBare false h) c.args.headers.now c.loop-i.i (c.pair.result.0.now, c.pair.result.1.now) c.pair.ensures.value w)),
    )

pub loop-i-preserved : goal.loop-i-preserved
loop-i-preserved c =
    let yes : c.is_bare.result ≡ true = grind arith in
    all_more (λ h. IsBare false h) c.args.headers.now c.loop-i.i (c.pair.result.0.now, c.pair.result.1.now) c.pair.ensures.value c.loop-i.invariant (found_bare c.pair.result.0.now c.pair.result.1.now c.is_bare.result c.is_bare.ensures yes)
