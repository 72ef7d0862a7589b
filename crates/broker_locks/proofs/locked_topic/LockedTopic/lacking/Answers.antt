use Rattle.std.proofs.Common.{sym, ◌∙◌}
use Rattle.std.proofs.Math.Logic.{∥∥₁_map}
use Rattle.broker_locks.specs.Room.{more_reserved}
use Rattle.broker_locks.proofs.Hearing.{keeps_heard}
use Rattle.broker_locks.proofs.RoomKept.{heard_limit, heard_tickets}
use Rattle.broker_locks.proofs.locked_topic.LockedTopic.lacking.Goals as goal

pub invariant_of-self-clause-limit : goal.invariant_of-self-clause-limit
invariant_of-self-clause-limit g c = heard_limit c.args.self.now.place c.lacking.new.place c.lacking.ensures.heard ∙ c.args.self.now.limit

pub invariant_of-self-clause-counted : goal.invariant_of-self-clause-counted
invariant_of-self-clause-counted g c = c.args.self.now.counted ∙ sym (heard_tickets c.args.self.now.place c.lacking.new.place c.lacking.ensures.heard)

pub invariant_of-self-clause-roomy : goal.invariant_of-self-clause-roomy
invariant_of-self-clause-roomy g c =
    ∥∥₁_map c.args.self.now.roomy (λ k. keeps_heard (more_reserved c.args.self.now.spare c.args.self.now.room) c.args.self.now.place c.lacking.new.place c.lacking.ensures.heard k)
