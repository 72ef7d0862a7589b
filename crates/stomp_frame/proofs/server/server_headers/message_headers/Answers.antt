use Rattle.std.proofs.Common.{◌≡◌, ◌∷◌, [], refl, sym, subst, arith, ◌∙◌}
use Rattle.std.specs.Prelude.{codes, decimal}
use Rattle.stomp_frame.specs.Headers.{IsText}
use Rattle.stomp_frame.proofs.Digits.{decimal_text}
use Rattle.stomp_frame.proofs.Messages.{named_pair, first_pair}
use Rattle.stomp_frame.proofs.server.server_headers.message_headers.Goals as goal

pub put-requires : goal.put-requires
put-requires c = named_pair 115 (117 ∷ 98 ∷ 115 ∷ 99 ∷ 114 ∷ 105 ∷ 112 ∷ 116 ∷ 105 ∷ 111 ∷ 110 ∷ []) c.args.subscription.now refl c.requires.subscription

pub put-requires-2 : goal.put-requires-2
put-requires-2 c = named_pair 109 (101 ∷ 115 ∷ 115 ∷ 97 ∷ 103 ∷ 101 ∷ 45 ∷ 105 ∷ 100 ∷ []) c.args.id.now refl c.requires.id

pub put_optional-requires : goal.put_optional-requires
put_optional-requires c = first_pair c.args.sent.now (codes "destination") c.first.result 100 (101 ∷ 115 ∷ 116 ∷ 105 ∷ 110 ∷ 97 ∷ 116 ∷ 105 ∷ 111 ∷ 110 ∷ []) refl c.first.ensures.pairs c.first.ensures.value

pub put-requires-3 : goal.put-requires-3
put-requires-3 c =
    let digits : c.as_bytes.result.now ≡ decimal c.args.length = c.as_bytes.ensures.value ∙ c.format.ensures.text in
    named_pair 99 (111 ∷ 110 ∷ 116 ∷ 101 ∷ 110 ∷ 116 ∷ 45 ∷ 108 ∷ 101 ∷ 110 ∷ 103 ∷ 116 ∷ 104 ∷ []) c.as_bytes.result.now refl (subst IsText (sym digits) (decimal_text c.args.length (omega arith)))
