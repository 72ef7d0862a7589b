use Rattle.std.proofs.Common.{List, ℕ, take, ap, ◌∙◌}
use Rattle.std.proofs.lemmas.List.{take-take}
use Rattle.stomp_escape.proofs.short_octets.ShortOctets.from_front.Goals as goal

pub returns : goal.returns
returns c = ap (λ (o : List ℕ). take c.args.len o) c.copy_from_slice.ensures.after ∙ take-take c.args.len 24 c.args.text.now c.requires.fits
