use Rattle.std.proofs.Common.{◌≡◌, ◌≤◌, ◌<◌, List, length, get_or, set, ap, subst, sym, ◌∙◌}
use Rattle.std.proofs.lemmas.List.{get_or_default}
use Rattle.sub_queue.specs.Shown.{known_taken, shown_told}
use Rattle.mcast_group.specs.declared.subscription.Subscription.{Subscription}
use Rattle.mcast_group.proofs.ByNumber.{number_of, rises_set}
use Rattle.mcast_group.proofs.Endless.{endless_set}
use Rattle.mcast_group.proofs.subscriptions.Subscriptions.room.Goals as goal

pub invariant_of-self : goal.invariant_of-self
invariant_of-self g c =
    let subs = c.self.inside.subs.items in
    let old = c.index_mut.result.now in
    let new : Subscription g.row.Q.Denot = record old { outlet = c.room.new.self } in
    let within = subst (λ (zs : List (Subscription g.row.Q.Denot)). c.args.index < length zs) (sym c.self.view_is) c.requires in
    record {
      rises = rises_set subs c.args.index new old within (ap number_of c.index_mut.ensures.value) c.self.invariant.rises;
      counted = c.self.invariant.counted ∙ sym (endless_set subs c.args.index new old within (ap (λ (z : Subscription g.row.Q.Denot). z.to) c.index_mut.ensures.value));
    }

pub returns : goal.returns
returns g c = λ d.
    let shown = g.Q.Outlet.shown in
    let spare = g.Q.Outlet.spare in
    let subs = c.self.inside.subs.items in
    let i = c.args.index in
    let old = c.index_mut.result.now in
    let new = c.room.new.self in
    let told = c.room.ensures.told in
    let within = subst (λ (zs : List (Subscription g.row.Q.Denot)). i < length zs) (sym c.self.view_is) c.requires in
    let is : old ≡ get_or c.args.self.now i d = c.index_mut.ensures.value ∙ (get_or_default subs i old d within ∙ ap (λ (zs : List (Subscription g.row.Q.Denot)). get_or zs i d) c.self.view_is) in (
      new,
      record {
        taken = told.0;
        least = subst (λ (z : Subscription g.row.Q.Denot). known_taken (shown z.outlet).gauge.taken ≤ told.0) is told.1;
        shows = told.2 ∙ ap (λ (z : Subscription g.row.Q.Denot). shown_told told.0 (shown z.outlet)) is;
        spare_kept = subst (λ (z : Subscription g.row.Q.Denot). spare z.outlet ≤ spare new) is c.room.ensures.spare;
      },
      c.room.ensures.room,
      ap (λ (zs : List (Subscription g.row.Q.Denot)). set zs i (record old { outlet = new })) c.self.view_is
          ∙ ap (λ (z : Subscription g.row.Q.Denot). set c.args.self.now i (record z { outlet = new })) is,
    )
