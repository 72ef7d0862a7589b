use Rattle.std.proofs.Common.{Some, sym, ap, ◌∙◌}
use Rattle.std.specs.Option.{option_map}
use Rattle.mcast_group.specs.declared.subscription.Subscription.{Subscription}
use Rattle.mcast_group.specs.declared.state.SubState.{SubState}
use Rattle.mcast_group.specs.Group.{GroupState}
use Rattle.mcast_group.specs.Inner.GroupInvariant.{entry_of}
use Rattle.mcast_group.specs.Machine.{subscription_state, state_of_entry}
use Rattle.mcast_group.proofs.Subscribing.{ends_found, no_entry}
use Rattle.mcast_group.proofs.group.Group.state.Goals as goal

pub returns-in_default : goal.returns-in_default
returns-in_default g c =
    let shown = g.Q.Outlet.shown in
    let subs = c.self.inside.subscriptions in
    let at = c.index_of.ensures in
    ap (option_map state_of_entry) (sym (no_entry shown c.args.number subs (sym at ∙ c.in_default.is)))
    ∙ ap (λ (z : GroupState). subscription_state c.args.number z.topic) c.self.view_is

pub returns : goal.returns
returns g c =
    let shown = g.Q.Outlet.shown in
    let subs = c.self.inside.subscriptions in
    let at = c.index_of.ensures in
    let s = c.at.result.now in
    let ends = ends_found shown c.args.number subs c.in-Some.index s (sym at ∙ c.in-Some.is) in
    ap (λ (z : SubState). Some z) c.state.ensures
    ∙ (ap (λ (z : Subscription g.row.Q.Denot). Some (state_of_entry (entry_of shown z))) c.at.ensures
    ∙ (sym (ap (option_map state_of_entry) ends.1.found)
    ∙ ap (λ (z : GroupState). subscription_state c.args.number z.topic) c.self.view_is))
