use Rattle.std.proofs.Common.{ℕ, ◌+◌, ◌*◌, ◌∷◌, [], get_or, ap, ap₂, ◌∙◌}
use Rattle.stomp_escape.proofs.Letters.{table, first_at, second_at}
use Rattle.stomp_escape.proofs.escaping.octets_for.Goals as goal

pub returns : goal.returns
returns c =
    let b = c.args.octet in
    let front = ap (λ (i : ℕ). get_or table (2 * i) 0) c.from-at.ensures ∙ first_at b c.ranges.octet.fits in
    let behind = ap (λ (i : ℕ). get_or table (2 * i + 1) 0) c.from-at.ensures ∙ second_at b c.ranges.octet.fits in
    ap₂ (λ (x y : ℕ). x ∷ y ∷ []) front behind
