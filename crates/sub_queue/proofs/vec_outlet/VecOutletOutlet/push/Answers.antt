use Rattle.std.proofs.Common.{rules, arith, ◌≡◌, ◌-◌, ◌<◌, length, sym, subst}
use Rattle.sub_queue.specs.Shown.{IsAboveLast}
use Rattle.sub_queue.proofs.RisingItems.{keeps_after_push}
use Rattle.sub_queue.proofs.vec_outlet.VecOutletOutlet.push.Goals as goal

-- src/vec_outlet.rt:101:5
pub invariant_of-self : goal.invariant_of-self
invariant_of-self c =
    let queue = c.self.inside in
    let len : c.len.result ≡ length queue.items.items = search rules in
    let below = c.if-len-self.false in
    let room : length queue.items.items - queue.taken < queue.capacity = omega arith in
    keeps_after_push queue.items.items _ c.args.item queue.capacity queue.taken c.push_reserved.ensures.items room
    (subst (λ q. IsAboveLast q.accepted c.args.item.stamp) (sym c.self.view_is) c.requires.above)
    c.self.invariant
