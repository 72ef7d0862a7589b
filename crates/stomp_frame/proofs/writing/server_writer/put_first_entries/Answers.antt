use Rattle.std.proofs.Common.{◌≡◌, ◌+◌, ◌<◌, true, false, sym, take, set, length, length-set, subst, ap, ◌∙◌, arith, List, Bool}
use Rattle.stomp_frame.specs.Headers.{Header}
use Rattle.stomp_frame.specs.Inner.NameKinds.{kind, HaveKinds}
use Rattle.stomp_frame.specs.Inner.Withheld.{withheld_by}
use Rattle.stomp_frame.proofs.OfAKind.{kinds_more}
use Rattle.stomp_frame.proofs.Names.{has, seen}
use Rattle.stomp_frame.proofs.Written.{taken}
use Rattle.stomp_frame.proofs.ServerSpellings.{due, due_passed, due_put, goes_on, longer, appended, line_of}
use Rattle.stomp_frame.proofs.writing.server_writer.put_first_entries.Goals as goal
use Rattle.stomp_frame.proofs.writing.server_writer.put_first_entries.Goals.{then-not-is_dropped+in_ok-put_header, else-not-is_dropped}

pub loop-i-preserved : goal.loop-i-preserved
loop-i-preserved c =
    let sent = c.args.sent.now in
    let kept = withheld_by c.args.parts in
    let i = c.loop-i.i in
    let name = c.pair.result.0.now in
    let h : Header = (name, c.pair.result.1.now) in
    let among = c.loop-i.kinds.among in
    let inside : kind name < length among = omega (arith, c.loop-i.invariant.sized) in
    let all_kinds : HaveKinds (set among (kind name) true) (take (i + 1) sent) = subst (HaveKinds (set among (kind name) true)) (sym (taken sent i h c.pair.ensures.value)) (kinds_more among (take i sent) h inside c.loop-i.invariant.kinds) in
    let kinds : HaveKinds c.add.new.self.among (take (i + 1) sent) = subst (λ (a : List Bool). HaveKinds a (take (i + 1) sent)) (sym c.add.ensures) all_kinds in
    let sized : length c.add.new.self.among ≡ 128 = ap length c.add.ensures ∙ length-set among (kind name) true ∙ c.loop-i.invariant.sized in
    elim c.if-not-is_dropped.branch [
      | then-not-is_dropped+in_ok-put_header w ↦
          let absent : has (seen kept (take i sent)) name ≡ false = sym c.is_dropped.ensures ∙ grind arith in
          rw w.out-is record {
            written = goes_on c.args.out.now c.loop-i.out _ (line_of name c.pair.result.1.now) _ w.in_ok-put_header.ensures.ok (due kept sent (i + 1)) (due kept sent i) (due_put kept sent i h c.pair.ensures.value absent) c.loop-i.invariant.written;
            grown = longer _ _ _ c.loop-i.invariant.grown (appended c.loop-i.out _ (line_of name c.pair.result.1.now) w.in_ok-put_header.ensures.ok);
            sized = sized;
            kinds = kinds;
          }
      | else-not-is_dropped w ↦
          let found : has (seen kept (take i sent)) name ≡ true = sym c.is_dropped.ensures ∙ grind arith in
          rw (w.out-is, sym (due_passed kept sent i h c.pair.ensures.value found)) record {
            written = c.loop-i.invariant.written;
            grown = c.loop-i.invariant.grown;
            sized = sized;
            kinds = kinds;
          }
    ]
