use Rattle.std.proofs.Common.{◌∷◌, [], refl}
use Rattle.stomp_frame.proofs.Digits.{ascii_text}
use Rattle.stomp_frame.proofs.Messages.{named_pair}
use Rattle.stomp_frame.proofs.server.server_headers.connected_headers.Goals as goal

pub put-requires : goal.put-requires
put-requires c = named_pair 118 (101 ∷ 114 ∷ 115 ∷ 105 ∷ 111 ∷ 110 ∷ []) (49 ∷ 46 ∷ 50 ∷ []) refl (ascii_text (49 ∷ 46 ∷ 50 ∷ []) refl)

pub put-requires-2 : goal.put-requires-2
put-requires-2 c = named_pair 104 (101 ∷ 97 ∷ 114 ∷ 116 ∷ 45 ∷ 98 ∷ 101 ∷ 97 ∷ 116 ∷ []) (48 ∷ 44 ∷ 48 ∷ []) refl (ascii_text (48 ∷ 44 ∷ 48 ∷ []) refl)
