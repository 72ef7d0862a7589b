use Rattle.std.proofs.Common.{◌<◌, length, arith}
use Rattle.delivery.specs.Core.Output.{messages_for}
use Rattle.broker_server.proofs.EolLemmas.{as_many, longer}
use Rattle.broker_server.proofs.wire.Wire.put_message.Goals as goal

pub invariant_of-self : goal.invariant_of-self
invariant_of-self c =
    let messages = messages_for c.args.parts c.args.id.now c.args.item.now in
    let there : c.args.at < length messages = omega (arith, c.requires, as_many c.args.parts c.args.id.now c.args.item.now) in
    longer c.write_message.result messages c.args.at c.self.inside.octets c.write_message.new.out c.self.inside.written there c.self.invariant c.write_message.ensures.ok c.write_message.ensures.err
