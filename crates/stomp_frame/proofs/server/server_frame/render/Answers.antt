use Rattle.std.proofs.Common.{◌≡◌, rules}
use Rattle.stomp_frame.specs.declared.command.Command.TheVariants as commands
use Rattle.stomp_frame.specs.declared.raw_frame.RawFrame.{RawFrame}
use Rattle.stomp_frame.specs.ServerFrames.{message_id, message_frame}
use Rattle.stomp_frame.proofs.Messages.{made_writable}
use Rattle.stomp_frame.proofs.server.server_frame.render.Goals as goal

pub returns-in_ok-from_slice-in-Message-clause-writable : goal.returns-in_ok-from_slice-in-Message-clause-writable
returns-in_ok-from_slice-in-Message-clause-writable c =
    let m = c.in-Message in
    let made : RawFrame = record { command = commands.Message; headers = c.in_ok-message_headers-in-Message.field-0; body = c.in_ok-from_slice-in-Message.field-0 } in
    let same : made ≡ message_frame m.subscription.now (message_id m.n m.topic m.index) m.headers.now m.body.now = search rules in
    made_writable made m.subscription.now (message_id m.n m.topic m.index) m.headers.now m.body.now same c.in_ok-message_headers-in-Message.ensures.pairs
