use Rattle.std.proofs.Common.{◌≡◌, ◌+◌, ◌-◌, ◌++◌, List, ℕ, length, take, drop, ap, ap₂, ◌∙◌, arith}
use Rattle.std.proofs.lemmas.List.{take-append-le, take-append-drop, take-take, length-drop, length-take-le, length-append, take_rest}
use Rattle.std.proofs.lemmas.Slice.{take-put_mid}
use borrow.Rule.Slice.PartMut.{post_of}
use Rattle.stomp_escape.proofs.short_octets.copy_ends.Goals as goal

pub returns : goal.returns
returns c =
    let octets = c.args.octets.now in
    let n = length octets in
    let size = c.args.size in
    let rest = n - size in
    let front = c.copy_from_slice.new.self in
    let behind = post_of 0 size c.args.to.now in
    let last = c.copy_from_slice-2.new.self in
    let front_is : front ≡ take size octets = c.copy_from_slice.ensures.after in
    let last_is : last ≡ drop rest octets = c.copy_from_slice-2.ensures.after ∙ take_rest octets rest in
    let long : length front ≡ size = ap length front_is ∙ length-take-le size octets c.requires.least in
    let whole : n ≡ rest + length last = omega (arith, ap length last_is, length-drop rest octets, c.requires.least) in
    let start : take rest (front ++ behind) ≡ take rest octets = take-append-le rest front behind (omega (arith, long, c.requires.most)) ∙ ap (take rest) front_is ∙ take-take rest size octets (omega (arith, c.requires.most)) in
    take-put_mid rest (n - rest) (front ++ behind) last n whole (omega (arith, length-append front behind, long, c.requires.most))
    ∙ ap₂ (λ (s t : List ℕ). s ++ t) start last_is ∙ take-append-drop rest octets
