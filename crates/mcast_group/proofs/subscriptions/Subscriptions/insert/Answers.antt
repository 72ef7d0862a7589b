use Rattle.std.proofs.Common.{◌≡◌, ◌+◌, length, List, sym, ap, subst, arith}
use Rattle.std.specs.List.{insert}
use Rattle.mcast_txn.specs.Lists.{RisesBy}
use Rattle.mcast_group.specs.declared.subscription.Subscription.{Subscription}
use Rattle.mcast_group.specs.Inner.Subscriptions.{AreCounted, IsIndexFor}
use Rattle.mcast_group.proofs.ByNumber.{number_of, rises_put}
use Rattle.mcast_group.proofs.Endless.{endless_inserted, endless_most, unended}
use Rattle.mcast_group.proofs.subscriptions.Subscriptions.insert.Goals as goal

pub overflow_add-self : goal.overflow_add-self
overflow_add-self g c =
    let counted = c.self.invariant.counted in
    let most = endless_most c.self.inside.subs.items in
    let l : c.self.inside.subs.len ≡ length c.self.inside.subs.items = c.self.inside.subs.ok.0 in
    let n = c.in_default.ensures.len in
    let small = c.insert.new.self.small in
    let within = c.insert.new.self.ok in
    omega arith

pub invariant_of-self-2 : goal.invariant_of-self-2
invariant_of-self-2 g c =
    let subs = c.self.inside.subs.items in
    let i = c.args.index in
    let index = subst (λ (zs : List (Subscription g.row.Q.Denot)). IsIndexFor c.args.sub.number zs i) (sym c.self.view_is) c.requires.at in
    let new = insert subs i c.args.sub in
    let rises : RisesBy number_of new = rises_put subs i c.args.sub index c.self.invariant.rises in
    let more = endless_inserted subs i c.args.sub index.within in
    let one = ap unended c.requires.begins in
    let counted = c.self.invariant.counted in
    let kept : AreCounted new (c.self.inside.open_len + 1) = record { rises = rises; counted = omega arith } in
    subst (λ (zs : List (Subscription g.row.Q.Denot)). AreCounted zs (c.self.inside.open_len + 1)) (sym c.in_default.ensures.items) kept
