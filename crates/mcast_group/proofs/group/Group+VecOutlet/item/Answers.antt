use Rattle.std.proofs.Common.{Bor, sym, ap, slice_get, ◌∙◌}
use Rattle.mcast_group.specs.Counted.{queue_item_at, item_in}
use Rattle.std.specs.Option.{option_map}
use Rattle.mcast_txn.specs.declared.parts.released.Released.{Released}
use Rattle.mcast_group.specs.declared.subscription.Subscription.{Subscription}
use Rattle.sub_queue.specs.declared.vec_outlet.VecOutlet.{VecOutlet}
use Rattle.mcast_group.proofs.Subscribing.{ends_found, no_entry}
use Rattle.sub_queue.specs.VecQueue.{shown_of}
use Rattle.mcast_group.proofs.group.Group+VecOutlet.item.Goals as goal

pub returns-in_err-at : goal.returns-in_err-at
returns-in_err-at c =
    let subs = c.self.inside.subscriptions in
    let at = c.index_of.ensures in
    ap (option_map (λ (item : Bor Released). item.now)) c.from_residual.ensures
    ∙ (ap (item_in c.args.index) (sym (no_entry shown_of c.args.number subs (sym at ∙ c.in_err-at.was)))
    ∙ ap (queue_item_at c.args.number c.args.index) c.self.view_is)

pub returns : goal.returns
returns c =
    let subs = c.self.inside.subscriptions in
    let old = c.at.result.now in
    let at = c.index_of.ensures in
    let ends = ends_found shown_of c.args.number subs c.in_ok-at.at old (sym at ∙ c.in_ok-at.was) in
    c.get.ensures
    ∙ (ap (λ (w : Subscription VecOutlet). slice_get w.outlet.accepted c.args.index) c.at.ensures
    ∙ (ap (item_in c.args.index) (sym ends.1.found)
    ∙ ap (queue_item_at c.args.number c.args.index) c.self.view_is))
