use Rattle.std.proofs.Common.{◌≡◌, List, ℕ, Ok, length, sym, subst, arith}
use Rattle.std.proofs.lemmas.Bool.{eqb-true}
use Rattle.stomp_frame.specs.Inner.Parser.{field_of}
use Rattle.stomp_frame.proofs.Fields.{field_plain}
use Rattle.stomp_frame.proofs.reading.parse.parse_value.Goals as goal

pub parse_field-requires-clause-plain : goal.parse_field-requires-clause-plain
parse_field-requires-clause-plain c = λ f.
    let n = length c.args.value.now in
    let plain = c.front_without.result in
    subst (λ (t : List ℕ). field_of c.args.escapes t ≡ Ok t) (sym c.requires) (field_plain c.args.escapes c.args.text.now n plain (omega (arith, eqb-true plain n f)) c.front_without.ensures.other)
