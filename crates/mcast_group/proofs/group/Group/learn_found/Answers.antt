use Rattle.std.proofs.Common.{◌≡◌, ◌<◌, ◌++◌, ◌∷◌, [], ℕ, ◌+◌, length, get_or, refl, sym, ap, subst, ◌∙◌, arith}
use Rattle.std.proofs.lemmas.List.{length_push}
use Rattle.mcast_txn.specs.Transaction.{TopicPart}
use Rattle.mcast_group.specs.Sound.{RisesById}
use Rattle.mcast_group.specs.Group.{GroupState, MayBeFound}
use Rattle.mcast_group.specs.Machine.{TopicState, after_try}
use Rattle.mcast_group.proofs.Turns.{some_part}
use Rattle.mcast_group.proofs.Learning.{parts, parts_length, part_at, same_parts, tried_each, tried_push, found_push, all_tried}
use Rattle.mcast_group.proofs.group.Group.learn_found.Goals as goal

pub loop-index-init : goal.loop-index-init
loop-index-init g c = record { found = []; many = refl; same = refl; each = tt; is = refl }

pub try_to_learn-requires : goal.try_to_learn-requires
try_to_learn-requires g c =
    let all = parts_length c.loop-index.self.topic.pending c.args.self.now.topic.pending c.loop-index.invariant.same in
    let l = ap (λ (z : GroupState). length z.topic.pending) c.self.view_is in
    let n = c.len-index-end.ensures in
    omega arith

pub loop-index-preserved : goal.loop-index-preserved
loop-index-preserved g c =
    let inv = c.loop-index.invariant in
    let i = c.loop-index.index in
    let old = c.args.self.now.topic in
    let x = c.loop-index.self.topic in
    let t = c.try_to_learn.ensures some_part in
    let all = parts_length x.pending old.pending inv.same in
    let n = c.len-index-end.ensures in
    let l = ap (λ (z : GroupState). length z.topic.pending) c.self.view_is in
    let within : i < length old.pending = omega arith in
    let here : (get_or x.pending i some_part).part ≡ (get_or old.pending i some_part).part = part_at x.pending old.pending i some_part inv.same in
    record {
      found = inv.found ++ t.0 ∷ [];
      many = length_push inv.found t.0 ∙ ap (λ (k : ℕ). k + 1) inv.many;
      same = ap (λ (z : GroupState). parts z.topic.pending) t.2 ∙ (same_parts (get_or x.pending i some_part).part.id t.0 x ∙ inv.same);
      each = found_push (MayBeFound (g.V.Verdicts.finds c.args.verdicts.now)) inv.found t.0 old.pending i some_part inv.many within inv.each (subst (λ (z : TopicPart). MayBeFound (g.V.Verdicts.finds c.args.verdicts.now) z t.0) here t.1);
      is = t.2
          ∙ (ap (λ (z : GroupState). record { topic = after_try (get_or x.pending i some_part).part.id t.0 z.topic; gauges = z.gauges }) inv.is
          ∙ ap (λ (z : TopicState). record { topic = z; gauges = c.args.self.now.gauges })
          (ap (λ (z : TopicPart). after_try z.id t.0 (tried_each inv.found old.pending old)) here ∙ sym (tried_push inv.found t.0 old.pending i some_part old inv.many within)));
    }

pub returns : goal.returns
returns g c =
    let inv = c.loop-index.invariant in
    let old = c.args.self.now in
    let n = c.len-index-end.ensures in
    let l = ap (λ (z : GroupState). length z.topic.pending) c.self.view_is in
    let e = inv.many in
    all_tried (MayBeFound (g.V.Verdicts.finds c.args.verdicts.now)) inv.found old c.loop-index.self
    (subst (λ (z : GroupState). RisesById z.topic.pending) c.self.view_is c.self.invariant.sound.by_id) (omega arith) inv.each inv.is
