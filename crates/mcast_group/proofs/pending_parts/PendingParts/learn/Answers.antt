use Rattle.std.proofs.Common.{◌≡◌, ◌<◌, List, length, get_or, set, sym, ap, subst, ◌∙◌}
use Rattle.std.proofs.lemmas.List.{get_or_default}
use Rattle.mcast_txn.specs.Lists.{In}
use Rattle.mcast_txn.proofs.Members.{In-get_or}
use Rattle.mcast_group.specs.declared.keys.Keyed.{Keyed}
use Rattle.mcast_group.specs.Machine.{Pending}
use Rattle.mcast_group.specs.Inner.Keys.{AreKeysOf, keyed_of}
use Rattle.mcast_group.proofs.Parts.{part_with_stamp}
use Rattle.mcast_group.proofs.ByKey.{keys_learnt}
use Rattle.mcast_group.proofs.pending_parts.PendingParts.learn.Goals as goal

pub raise-requires-clause-has : goal.raise-requires-clause-has
raise-requires-clause-has c =
    let now = c.args.self.now in
    let keys = c.self.inside.keys in
    let are : AreKeysOf keys now = subst (AreKeysOf keys) c.self.view_is c.self.invariant in
    let p = c.at.result.now in
    let at : p ≡ get_or now c.args.index p = c.at.ensures in
    let keyed : c.keyed-keyed.result ≡ keyed_of p = c.keyed-keyed.ensures in
    subst (λ (z : Keyed). In z keys) (sym keyed) (are.each p (subst (λ (z : Pending). In z now) (sym at) (In-get_or now c.args.index p c.requires.within)))

pub raise-requires-clause-free : goal.raise-requires-clause-free
raise-requires-clause-free c = λ k stands e.
    let now = c.args.self.now in
    let keys = c.self.inside.keys in
    let are : AreKeysOf keys now = subst (AreKeysOf keys) c.self.view_is c.self.invariant in
    let p = c.at.result.now in
    let at : p ≡ get_or now c.args.index p = c.at.ensures in
    let keyed : c.keyed-keyed.result ≡ keyed_of p = c.keyed-keyed.ensures in
    let h = are.only k stands in
    let same : h.part ≡ p = c.requires.free p h.part h.stands (ap (λ (z : Keyed). z.key) h.is ∙ e) ∙ sym at in
    sym h.is ∙ (ap keyed_of same ∙ sym keyed)

pub invariant_of-self : goal.invariant_of-self
invariant_of-self c =
    let now = c.args.self.now in
    let keys = c.self.inside.keys in
    let are : AreKeysOf keys now = subst (AreKeysOf keys) c.self.view_is c.self.invariant in
    let p = c.at.result.now in
    let at : p ≡ get_or now c.args.index p = c.at.ensures in
    let keyed : c.keyed-keyed.result ≡ keyed_of p = c.keyed-keyed.ensures in
    let new = c.raise.new.self in
    let i = c.args.index in
    let stamp = c.args.stamp in
    let kept = subst (λ (z : Keyed). (k : Keyed) → In k keys → (k ≡ z → Prim.⊥) → In k new) keyed c.raise.ensures.kept in
    let put = subst (λ (z : Keyed). In (record { key = stamp; id = z.id }) new) keyed c.raise.ensures.put in
    let only = subst (λ (z : Keyed). (k : Keyed) → In k new → (k ≡ record { key = stamp; id = z.id } → Prim.⊥) → In k keys) keyed c.raise.ensures.only in
    let gone = subst (λ (z : Keyed). (k : Keyed) → In k new → (k ≡ record { key = stamp; id = z.id } → Prim.⊥) → k ≡ z → Prim.⊥) keyed c.raise.ensures.gone in
    let done = keys_learnt keys new now i p stamp are c.requires.within (sym at) (λ q s e. c.requires.free p q s e ∙ sym at) kept put only gone in
    let ps = c.self.inside.parts.items in
    let within : i < length ps = subst (λ (zs : List Pending). i < length zs) (sym c.self.view_is) c.requires.within in
    let x = c.index_mut.result.now in
    let here : x ≡ p = c.index_mut.ensures.value ∙ (get_or_default ps i x p within ∙ (ap (λ (zs : List Pending). get_or zs i p) c.self.view_is ∙ sym at)) in
    let learnt : c.learn.new.self ≡ part_with_stamp p stamp = c.learn.ensures ∙ ap (λ (z : Pending). part_with_stamp z stamp) here in
    subst (λ (z : Pending). AreKeysOf new (set ps i z)) (sym learnt) (subst (λ (zs : List Pending). AreKeysOf new (set zs i (part_with_stamp p stamp))) (sym c.self.view_is) done)
