use Rattle.std.proofs.Common.{ap, ◌∙◌}
use Rattle.mcast_group.specs.CellGroup.{open_count}
use Rattle.mcast_group.specs.Group.{GroupState}
use Rattle.mcast_group.proofs.group.Group.open_len.Goals as goal

pub returns : goal.returns
returns g c =
    c.open_len.ensures ∙ ap (λ (z : GroupState). open_count z.topic.subscriptions) c.self.view_is
