use Rattle.std.proofs.Common.{List, ap, map, ◌∙◌}
use Rattle.mcast_group.specs.CellGroup.{open_count}
use Rattle.mcast_group.specs.declared.subscription.Subscription.{Subscription}
use Rattle.mcast_group.specs.Inner.GroupInvariant.{entry_of}
use Rattle.mcast_group.proofs.Opens.{open_mapped}
use Rattle.mcast_group.proofs.subscriptions.Subscriptions.open_len.Goals as goal

pub returns : goal.returns
returns g c =
    c.self.invariant.counted ∙ (open_mapped g.Q.Outlet.shown c.self.inside.subs.items
    ∙ ap (λ (zs : List (Subscription g.row.Q.Denot)). open_count (map (entry_of g.Q.Outlet.shown) zs)) c.self.view_is)
