use Rattle.std.proofs.Common.{◌≡◌, ◌≤◌, ◌+◌, ◌-◌, List, ℕ, eqb, not, get_or, length, take, ap, ◌∙◌, arith}
use borrow.Rule.Slice.PartMut.{same_len_mid}
use mir.Val.{bool_byte}
use Rattle.stomp_escape.proofs.Waiting.{extra, extra-le, escaped_next}
use Rattle.stomp_escape.proofs.escaping.escape_at.Goals as goal

pub loop-at-preserved : goal.loop-at-preserved
loop-at-preserved c =
    let text = c.args.text.now in
    let line = c.loop-at.line in
    let octets = c.copy_from_slice.new.self in
    let at = c.loop-at.at in
    let end = c.loop-at.end in
    let within : end ≤ length line = omega (arith, c.requires, c.loop-at-test.true, c.loop-at.invariant.room, c.loop-at.invariant.sized) in
    let added : c.from.result ≡ extra (get_or text at 0) = c.from.ensures ∙ ap (λ (o : List ℕ). bool_byte (not (eqb (get_or o 1 0) 0))) c.octets_for-octets.ensures in
    rw added (record {
      room = omega (arith, extra-le (get_or text at 0), c.loop-at.invariant.room);
      sized = same_len_mid end (end + 2 - end) line octets c.copy_from_slice.ensures.len ∙ c.loop-at.invariant.sized;
      so_far = escaped_next line octets (take c.args.start c.args.line.now) text end (end + 2 - end) at c.loop-at-test.true within (c.copy_from_slice.ensures.after ∙ c.octets_for-octets.ensures) c.loop-at.invariant.so_far;
    })
