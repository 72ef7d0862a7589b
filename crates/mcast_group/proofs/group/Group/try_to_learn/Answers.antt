use Rattle.std.proofs.Common.{◌≡◌, get_or, Option, Some, None, IfSome, true, ap, sym, subst, ◌∙◌}
use Rattle.std.specs.Option.{is_some, option_map}
use Rattle.mcast_txn.specs.Transaction.{TopicPart}
use Rattle.mcast_group.specs.Group.{CanLearn, GroupState, MayBeFound, Tries}
use Rattle.mcast_group.specs.Machine.{HasOneRowEach, Pending, learn_fault, learn_fault_of, after_learn}
use Rattle.mcast_group.specs.Sound.{RisesById}
use Rattle.mcast_group.specs.declared.verdicts.Found.{Found}
use Rattle.mcast_txn.specs.declared.id.TxnId.{TxnId}
use Rattle.std.proofs.lemmas.List.{get_or_default}
use Rattle.mcast_group.proofs.ByKey.{own_index}
use Rattle.mcast_group.proofs.Learning.{fault_at, is_allowed, tried_fault, tried_learns}
use Rattle.mcast_group.proofs.group.Group.try_to_learn.Goals as goal

pub returns-then-is_some : goal.returns-then-is_some
returns-then-is_some g c = λ d.
    let V = MayBeFound (g.V.Verdicts.finds c.args.verdicts.now) in
    let x = c.args.self.now.topic in
    let p = c.at.result.now in
    let v = c.in-Some.found.verdict.now in
    let rises = subst (λ (z : GroupState). RisesById z.topic.pending) c.self.view_is c.self.invariant.sound.by_id in
    let here : p ≡ get_or x.pending c.args.index p = c.at.ensures ∙ ap (λ (z : GroupState). get_or z.topic.pending c.args.index p) c.self.view_is in
    let own : c.learn_fault_at.result ≡ learn_fault p.part.id v x =
    subst (λ (z : GroupState). c.learn_fault_at.result ≡ learn_fault_of v z.topic.pending (Some (get_or z.topic.pending c.args.index p))) c.self.view_is (c.learn_fault_at.ensures p)
    ∙ fault_at v x c.args.index p rises c.requires here in
    let finds : V p.part (option_map (λ (f : Found). f.verdict.now) c.find.result) = subst (λ (z : TopicPart). V z (option_map (λ (f : Found). f.verdict.now) c.find.result)) c.part-part.ensures
    (c.find.ensures, subst (λ (o : Option Found). IfSome (option_map (λ (f : Found). f.verdict.now) o) HasOneRowEach) (sym c.in-Some.is) c.has_one_row_each.ensures) in
    let is : option_map (λ (f : Found). f.verdict.now) c.find.result ≡ Some v = ap (option_map (λ (f : Found). f.verdict.now)) c.in-Some.is in
    let refused : is_some (learn_fault p.part.id v x) ≡ true = ap is_some (sym own) ∙ (sym c.is_some.ensures ∙ c.if-is_some.true) in
    subst (λ (z : Pending). Tries V z c.args.self.now c.args.self.now) (here ∙ get_or_default x.pending c.args.index p d c.requires)
    (tried_fault V p c.args.self.now _ v finds is refused)

pub store-requires : goal.store-requires
store-requires g c =
    let x = c.args.self.now.topic in
    let p = c.at.result.now in
    let v = c.in-Some.found.verdict.now in
    let rises = subst (λ (z : GroupState). RisesById z.topic.pending) c.self.view_is c.self.invariant.sound.by_id in
    let here : p ≡ get_or x.pending c.args.index p = c.at.ensures ∙ ap (λ (z : GroupState). get_or z.topic.pending c.args.index p) c.self.view_is in
    let own : c.learn_fault_at.result ≡ learn_fault p.part.id v x =
    subst (λ (z : GroupState). c.learn_fault_at.result ≡ learn_fault_of v z.topic.pending (Some (get_or z.topic.pending c.args.index p))) c.self.view_is (c.learn_fault_at.ensures p)
    ∙ fault_at v x c.args.index p rises c.requires here in
    let id : p.part.id ≡ c.id-id.result = sym (c.id-id.ensures ∙ ap (λ (z : TopicPart). z.id) c.part-part.ensures) in
    subst (λ (z : TxnId). CanLearn z c.args.index c.stamp-stamp.result x) id (record {
      verdict = v;
      is = c.stamp-stamp.ensures;
      allowed = sym own ∙ is_allowed c.learn_fault_at.result (sym c.is_some.ensures ∙ c.if-is_some.false);
      at = own_index x.pending c.args.index p rises c.requires here;
    })

pub returns : goal.returns
returns g c = λ d.
    let V = MayBeFound (g.V.Verdicts.finds c.args.verdicts.now) in
    let x = c.args.self.now.topic in
    let p = c.at.result.now in
    let v = c.in-Some.found.verdict.now in
    let rises = subst (λ (z : GroupState). RisesById z.topic.pending) c.self.view_is c.self.invariant.sound.by_id in
    let here : p ≡ get_or x.pending c.args.index p = c.at.ensures ∙ ap (λ (z : GroupState). get_or z.topic.pending c.args.index p) c.self.view_is in
    let own : c.learn_fault_at.result ≡ learn_fault p.part.id v x =
    subst (λ (z : GroupState). c.learn_fault_at.result ≡ learn_fault_of v z.topic.pending (Some (get_or z.topic.pending c.args.index p))) c.self.view_is (c.learn_fault_at.ensures p)
    ∙ fault_at v x c.args.index p rises c.requires here in
    let finds : V p.part (option_map (λ (f : Found). f.verdict.now) c.find.result) = subst (λ (z : TopicPart). V z (option_map (λ (f : Found). f.verdict.now) c.find.result)) c.part-part.ensures
    (c.find.ensures, subst (λ (o : Option Found). IfSome (option_map (λ (f : Found). f.verdict.now) o) HasOneRowEach) (sym c.in-Some.is) c.has_one_row_each.ensures) in
    let is : option_map (λ (f : Found). f.verdict.now) c.find.result ≡ Some v = ap (option_map (λ (f : Found). f.verdict.now)) c.in-Some.is in
    let id : c.id-id.result ≡ p.part.id = c.id-id.ensures ∙ ap (λ (z : TopicPart). z.id) c.part-part.ensures in
    let allowed : learn_fault p.part.id v x ≡ None = sym own ∙ is_allowed c.learn_fault_at.result (sym c.is_some.ensures ∙ c.if-is_some.false) in
    subst (λ (z : Pending). Tries V z c.args.self.now c.store.new.self) (here ∙ get_or_default x.pending c.args.index p d c.requires)
    (tried_learns V p c.args.self.now c.store.new.self _ v c.stamp-stamp.result finds is allowed c.stamp-stamp.ensures
    (c.store.ensures ∙ ap (λ (z : TxnId). record { topic = after_learn z c.stamp-stamp.result x; gauges = c.args.self.now.gauges }) id))
