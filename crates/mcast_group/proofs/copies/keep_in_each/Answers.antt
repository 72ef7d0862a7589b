use Rattle.std.proofs.Common.{◌≡◌, ◌<◌, ◌+◌, suc, List, length, set, take, get_or, ap, subst, ◌∙◌, arith}
use Rattle.mcast_txn.specs.Transaction.{TopicPart}
use Rattle.mcast_group.proofs.Copying.{kept_front, kept_step, kept_length, kept_all}
use Rattle.mcast_group.proofs.copies.keep_in_each.Goals as goal

pub index_mut-requires : goal.index_mut-requires
index_mut-requires c =
    let t = c.loop-i-test.true in
    let e = c.len-i-end.ensures in
    let m = ap (λ (zs : List (List TopicPart)). length zs) c.loop-i.invariant ∙ kept_length c.args.most c.loop-i.i c.args.copies.now.items in
    omega arith

pub loop-i-preserved : goal.loop-i-preserved
loop-i-preserved c =
    let i = c.loop-i.i in
    let t = c.loop-i-test.true in
    let e = c.len-i-end.ensures in
    let within : i < length c.args.copies.now.items = omega arith in
    let is : c.index_mut.result.now ≡ get_or (kept_front c.args.most i c.args.copies.now.items) i c.index_mut.result.now = subst (λ (zs : List (List TopicPart)). c.index_mut.result.now ≡ get_or zs i c.index_mut.result.now) c.loop-i.invariant c.index_mut.ensures.value in
    let next : suc i ≡ i + 1 = omega arith in
    ap (λ (z : List TopicPart). set c.loop-i.copies.items i z) c.keep.ensures
    ∙ (ap (λ (zs : List (List TopicPart)). set zs i (take c.args.most c.index_mut.result.now)) c.loop-i.invariant
    ∙ (kept_step c.args.most i c.args.copies.now.items c.index_mut.result.now within is
    ∙ ap (λ k. kept_front c.args.most k c.args.copies.now.items) next))

pub returns : goal.returns
returns c =
    let t = c.loop-i-test.false in
    let e = c.len-i-end.ensures in
    c.loop-i.invariant ∙ kept_all c.args.most c.loop-i.i c.args.copies.now.items (omega arith)
