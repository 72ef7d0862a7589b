use Rattle.std.proofs.Common.{◌≡◌, ◌+◌, ◌-◌, ◌/◌, Some, true, false, sym, ap, ◌∙◌, arith}
use Rattle.std.specs.Option.{option_map}
use Rattle.std.specs.Prelude.{slice_get}
use Rattle.mcast_txn.specs.Span.{LogRow}
use Rattle.mcast_txn.specs.Stamp.{stamp_lt}
use Rattle.broker_locks.proofs.Adding.{above_middle, past_middle}
use Rattle.broker_locks.proofs.log_section.LogSection.count_to.Goals as goal

pub loop-low-preserved-then-is_before : goal.loop-low-preserved-then-is_before
loop-low-preserved-then-is_before g c =
    let inv = c.loop-low.invariant in
    let m = c.loop-low.low + (c.loop-low.high - c.loop-low.low) / 2 in
    let is : slice_get c.args.self.now m ≡ Some c.unwrap-row.result.now = sym c.row.ensures ∙ ap (option_map _) c.unwrap-row.ensures in
    let test : stamp_lt c.args.stamp c.unwrap-row.result.now.stamp ≡ true = ap (λ (r : LogRow). stamp_lt c.args.stamp r.stamp) (sym c.row-in-loop-low.view_is) ∙ (sym c.is_before.ensures ∙ c.if-is_before.true) in
    let order = inv.order in
    let within = inv.within in
    let less = c.loop-low-test.true in
    record { order = omega arith; within = omega arith; past = inv.past; above = above_middle c.args.self.now c.args.stamp m c.unwrap-row.result.now c.requires is test }

pub loop-low-preserved : goal.loop-low-preserved
loop-low-preserved g c =
    let inv = c.loop-low.invariant in
    let m = c.loop-low.low + (c.loop-low.high - c.loop-low.low) / 2 in
    let is : slice_get c.args.self.now m ≡ Some c.unwrap-row.result.now = sym c.row.ensures ∙ ap (option_map _) c.unwrap-row.ensures in
    let test : stamp_lt c.args.stamp c.unwrap-row.result.now.stamp ≡ false = ap (λ (r : LogRow). stamp_lt c.args.stamp r.stamp) (sym c.row-in-loop-low.view_is) ∙ (sym c.is_before.ensures ∙ c.if-is_before.false) in
    let order = inv.order in
    let within = inv.within in
    let less = c.loop-low-test.true in
    record { order = omega arith; within = within; past = past_middle c.args.self.now c.args.stamp m c.unwrap-row.result.now c.requires is test; above = inv.above }
