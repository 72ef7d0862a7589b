use Rattle.std.proofs.Common.{ℕ, Bool, List, Option, subst}
use Rattle.std.specs.Option.{option_map}
use Rattle.broker_server.specs.Conversations.{EndsSaying}
use Rattle.broker_server.proofs.conversation.Conversation.fail.Goals as goal

pub returns-clause-fails : goal.returns-clause-fails
returns-clause-fails g c =
    let receipt = option_map (λ id. id.now) c.args.receipt in
    subst (λ (v : Bool). EndsSaying v c.args.fault receipt c.args.self.now c.fail_saying.new.self) c.says_version.ensures c.fail_saying.ensures.fails
