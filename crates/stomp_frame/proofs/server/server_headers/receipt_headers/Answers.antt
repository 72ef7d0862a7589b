use Rattle.std.proofs.Common.{◌∷◌, [], refl}
use Rattle.stomp_frame.proofs.Messages.{named_pair}
use Rattle.stomp_frame.proofs.server.server_headers.receipt_headers.Goals as goal

pub put-requires : goal.put-requires
put-requires c = named_pair 114 (101 ∷ 99 ∷ 101 ∷ 105 ∷ 112 ∷ 116 ∷ 45 ∷ 105 ∷ 100 ∷ []) c.args.id.now refl c.requires
