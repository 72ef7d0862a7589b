use Rattle.std.proofs.Common.{◌∷◌, [], refl}
use Rattle.stomp_frame.proofs.Digits.{ascii_text}
use Rattle.stomp_frame.proofs.Messages.{named_pair, optional_pair}
use Rattle.stomp_frame.proofs.server.server_headers.error_headers.Goals.{then-version, else-version}
use Rattle.stomp_frame.proofs.server.server_headers.error_headers.Goals as goal

pub put-requires : goal.put-requires
put-requires c = named_pair 109 (101 ∷ 115 ∷ 115 ∷ 97 ∷ 103 ∷ 101 ∷ []) c.args.message.now refl c.requires.message

pub put_optional-requires : goal.put_optional-requires
put_optional-requires c = optional_pair c.args.receipt 114 (101 ∷ 99 ∷ 101 ∷ 105 ∷ 112 ∷ 116 ∷ 45 ∷ 105 ∷ 100 ∷ []) refl c.requires.receipt

pub put_optional-requires-2 : goal.put_optional-requires-2
put_optional-requires-2 c = elim c.if-version.branch [
  | then-version w ↦ rw w.supported-is (named_pair 118 (101 ∷ 114 ∷ 115 ∷ 105 ∷ 111 ∷ 110 ∷ []) w.as_slice.result.now refl (rw w.as_slice.ensures (ascii_text (49 ∷ 46 ∷ 50 ∷ []) refl)))
  | else-version w ↦ rw w.supported-is tt
]

pub put-requires-2 : goal.put-requires-2
put-requires-2 c = named_pair 99 (111 ∷ 110 ∷ 116 ∷ 101 ∷ 110 ∷ 116 ∷ 45 ∷ 108 ∷ 101 ∷ 110 ∷ 103 ∷ 116 ∷ 104 ∷ []) (48 ∷ []) refl (ascii_text (48 ∷ []) refl)
