use Rattle.std.proofs.Common.{ℕ, List, Option, subst}
use Rattle.broker_server.specs.Conversations.{EndsByError}
use Rattle.broker_server.proofs.conversation.Conversation.refuse.Goals as goal

pub returns-clause-fails : goal.returns-clause-fails
returns-clause-fails g c =
    subst (λ (receipt : Option (List ℕ)). EndsByError c.args.fault receipt c.args.self.now c.fail.new.self) c.slice_in.ensures c.fail.ensures.fails
