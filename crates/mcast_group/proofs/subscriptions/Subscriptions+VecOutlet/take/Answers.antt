use Rattle.std.proofs.Common.{◌<◌, List, length, ap, subst, sym, ◌∙◌}
use Rattle.sub_queue.specs.declared.vec_outlet.VecOutlet.{VecOutlet}
use Rattle.mcast_group.specs.declared.subscription.Subscription.{Subscription}
use Rattle.mcast_group.proofs.ByNumber.{number_of, rises_set}
use Rattle.mcast_group.proofs.Endless.{endless_set}
use Rattle.mcast_group.proofs.subscriptions.Subscriptions+VecOutlet.take.Goals as goal

pub invariant_of-self : goal.invariant_of-self
invariant_of-self c =
    let subs = c.self.inside.subs.items in
    let old = c.index_mut.result.now in
    let new : Subscription VecOutlet = record old { outlet = c.take.new.self } in
    let within = subst (λ (zs : List (Subscription VecOutlet)). c.args.index < length zs) (sym c.self.view_is) c.requires in
    record {
      rises = rises_set subs c.args.index new old within (ap number_of c.index_mut.ensures.value) c.self.invariant.rises;
      counted = c.self.invariant.counted ∙ sym (endless_set subs c.args.index new old within (ap (λ (z : Subscription VecOutlet). z.to) c.index_mut.ensures.value));
    }
