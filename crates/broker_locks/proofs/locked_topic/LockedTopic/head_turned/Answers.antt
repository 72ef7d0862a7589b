use Rattle.std.proofs.Common.{sym, ◌∙◌}
use Rattle.std.proofs.Math.Logic.{∥∥₁_map}
use Rattle.broker_locks.specs.Room.{more_reserved}
use Rattle.broker_locks.proofs.Roomy.{keeps_head}
use Rattle.broker_locks.proofs.Limits.{head_limit, head_tickets}
use Rattle.broker_locks.proofs.locked_topic.LockedTopic.head_turned.Goals as goal

pub invariant_of-self-clause-limit : goal.invariant_of-self-clause-limit
invariant_of-self-clause-limit g c = head_limit c.args.self.now.place c.head_turned.new.self c.head_turned.result.0 c.head_turned.result.1 c.head_turned.ensures.turned ∙ c.args.self.now.limit

pub invariant_of-self-clause-counted : goal.invariant_of-self-clause-counted
invariant_of-self-clause-counted g c = c.args.self.now.counted ∙ sym (head_tickets c.args.self.now.place c.head_turned.new.self c.head_turned.result.0 c.head_turned.result.1 c.head_turned.ensures.turned)

pub invariant_of-self-clause-roomy : goal.invariant_of-self-clause-roomy
invariant_of-self-clause-roomy g c =
    ∥∥₁_map c.args.self.now.roomy (λ k. keeps_head (more_reserved c.args.self.now.spare c.args.self.now.room) c.args.self.now.place c.head_turned.new.self c.head_turned.result.0 c.head_turned.result.1 k c.head_turned.ensures.turned)
