use Rattle.std.proofs.Common.{get_or, map, Option, Some, sym, ap, ◌∙◌}
use Rattle.mcast_group.specs.declared.subscription.Subscription.{Subscription}
use Rattle.mcast_group.specs.Group.{gauge_at, shown_at, shown_with}
use Rattle.mcast_group.specs.Inner.GroupInvariant.{entry_of, gauge_of}
use Rattle.mcast_group.specs.Machine.{Entry}
use Rattle.mcast_group.proofs.Subscribing.{ends_found, no_entry}
use Rattle.mcast_group.proofs.group.Group.outlet.Goals as goal

pub returns-in_default : goal.returns-in_default
returns-in_default g c =
    let shown = g.Q.Outlet.shown in
    let subs = c.self.inside.subscriptions in
    let at = c.index_of.ensures in
    ap (λ (o : Option Entry). shown_with o (gauge_at c.args.number (map (entry_of shown) subs) (map (gauge_of shown) subs))) (sym (no_entry shown c.args.number subs (sym at ∙ c.in_default.is)))
    ∙ ap (shown_at c.args.number) c.self.view_is

pub returns : goal.returns
returns g c =
    let shown = g.Q.Outlet.shown in
    let subs = c.self.inside.subscriptions in
    let at = c.index_of.ensures in
    let s = c.at.result.now in
    let ends = ends_found shown c.args.number subs c.in-Some.index s (sym at ∙ c.in-Some.is) in
    let z = get_or subs c.in-Some.index s in
    ap (λ (w : Subscription g.row.Q.Denot). Some (shown w.outlet)) c.at.ensures
    ∙ (sym (ap (λ (o : Option Entry). shown_with o (gauge_at c.args.number (map (entry_of shown) subs) (map (gauge_of shown) subs))) ends.1.found
    ∙ ap (shown_with (Some (entry_of shown z))) ends.1.gauged)
    ∙ ap (shown_at c.args.number) c.self.view_is)
