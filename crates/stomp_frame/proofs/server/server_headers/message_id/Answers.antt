use Rattle.std.proofs.Common.{◌≡◌, arith, rules}
use Rattle.stomp_frame.specs.ServerFrames.{message_id}
use Rattle.stomp_frame.proofs.Digits.{message_id_text}
use Rattle.stomp_frame.proofs.server.server_headers.message_id.Goals as goal

pub returns-clause-text : goal.returns-clause-text
returns-clause-text c =
    let value : c.extend-3.new.self ≡ message_id c.args.n c.args.topic c.args.index = search rules in
    rw value (message_id_text c.args.n c.args.topic c.args.index (omega arith) (omega arith) (omega arith))
