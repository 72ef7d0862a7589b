use Rattle.std.proofs.Common.{◌≡◌, ◌≤◌, List, ℕ, Ok, length, take, refl, sym, ap, subst, ◌∙◌, arith}
use Rattle.std.proofs.lemmas.Bool.{eqb-true}
use Rattle.std.proofs.lemmas.List.{take-take}
use Rattle.stomp_frame.specs.Inner.Parser.{field_of}
use Rattle.stomp_frame.proofs.Cuts.{cut_none}
use Rattle.stomp_frame.proofs.Fields.{field_plain}
use Rattle.stomp_frame.proofs.reading.parse.find_colon.Goals as goal

pub returns-in_err-at-clause-parts : goal.returns-in_err-at-clause-parts
returns-in_err-at-clause-parts c = rw c.from_residual.ensures (sym (cut_none 58 c.args.line.now (c.in_err-at.ensures.none refl)))

pub returns-clause-plain : goal.returns-clause-plain
returns-clause-plain c = λ escapes f.
    let line = c.args.line.now in
    let text = c.args.text.now in
    let at = c.in_ok-at.at in
    let front = c.front_without-front.result in
    let all : at ≤ front = omega (arith, eqb-true front at f) in
    let same : take at line ≡ take at text = ap (take at) c.requires ∙ take-take at (length line) text (omega (arith, c.in_ok-at.ensures.found.0)) in
    subst (λ (t : List ℕ). field_of escapes t ≡ Ok t) (sym same) (field_plain escapes text at front all c.front_without-front.ensures.other)
