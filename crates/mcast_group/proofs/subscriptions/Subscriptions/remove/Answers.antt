use Rattle.std.proofs.Common.{◌≡◌, ◌<◌, length, List, Option, OnSome, not, sym, ap, subst, ◌∙◌, arith}
use Rattle.std.specs.List.{remove}
use Rattle.mcast_group.specs.declared.subscription.Subscription.{Subscription}
use Rattle.mcast_group.specs.declared.subscriptions.Subscriptions.TheInside.{Inside}
use Rattle.mcast_group.specs.Inner.Subscriptions.{AreCounted, endless_count}
use Rattle.mcast_group.proofs.ByNumber.{rises_removed}
use Rattle.mcast_group.proofs.Endless.{counted_out, unended_none, unended_some}
use Rattle.mcast_group.proofs.subscriptions.Subscriptions.remove.Goals as goal
use Rattle.mcast_group.proofs.subscriptions.Subscriptions.remove.Goals.{then-is_none, else-is_none}

pub overflow_sub-self : goal.overflow_sub-self
overflow_sub-self g c =
    let counted = counted_out c.self.inside.subs.items c.args.index c.self.inside.open_len c.unwrap-sub.result c.remove.result (subst (λ (zs : List (Subscription g.row.Q.Denot)). c.args.index < length zs) (sym c.self.view_is) c.requires) c.self.invariant.counted c.unwrap-sub.ensures c.remove.ensures.value in
    let one = unended_none c.unwrap-sub.result.to c.if-is_none.ensures in
    omega arith

pub invariant_of-self : goal.invariant_of-self
invariant_of-self g c =
    let subs = c.self.inside.subs.items in
    let i = c.args.index in
    let sub = c.unwrap-sub.result in
    let left : c.remove.new.self.items ≡ remove subs i = subst (λ (r : Option (Subscription g.row.Q.Denot)). OnSome r (c.remove.new.self.items ≡ remove subs i)) c.unwrap-sub.ensures c.remove.ensures.items in
    let counted = counted_out c.self.inside.subs.items c.args.index c.self.inside.open_len c.unwrap-sub.result c.remove.result (subst (λ (zs : List (Subscription g.row.Q.Denot)). c.args.index < length zs) (sym c.self.view_is) c.requires) c.self.invariant.counted c.unwrap-sub.ensures c.remove.ensures.value in
    let none = c.is_none.ensures in
    let items : c.if-is_none.self-inside.subs.items ≡ c.remove.new.self.items = elim c.if-is_none.branch [
      | then-is_none w ↦ ap (λ (s : Inside g.row.Q.Denot g.row.Q-Needs.Denot). s.subs.items) w.self-inside-is
      | else-is_none w ↦ ap (λ (s : Inside g.row.Q.Denot g.row.Q-Needs.Denot). s.subs.items) w.self-inside-is
    ] in
    let many : c.if-is_none.self-inside.open_len ≡ endless_count (remove subs i) = elim c.if-is_none.branch [
      | then-is_none w ↦
          let one = unended_none sub.to (none ∙ ap not w.if-is_none.true) in
          let is = ap (λ (s : Inside g.row.Q.Denot g.row.Q-Needs.Denot). s.open_len) w.self-inside-is in
          omega arith
      | else-is_none w ↦
          let zero = unended_some sub.to (none ∙ ap not w.if-is_none.false) in
          let is = ap (λ (s : Inside g.row.Q.Denot g.row.Q-Needs.Denot). s.open_len) w.self-inside-is in
          omega arith
    ] in
    let kept : AreCounted (remove subs i) c.if-is_none.self-inside.open_len = record { rises = rises_removed subs i c.self.invariant.rises; counted = many } in
    subst (λ (zs : List (Subscription g.row.Q.Denot)). AreCounted zs c.if-is_none.self-inside.open_len) (sym (c.free_empty.ensures ∙ items ∙ left)) kept
