use Rattle.std.proofs.Common.{◌≡◌, ◌<◌, [], ◌∷◌, inl, List, length, get_or, Some, refl, sym, ap, subst, ◌∙◌, arith}
use Rattle.std.specs.List.{remove}
use Rattle.mcast_txn.specs.Lists.{In}
use Rattle.mcast_group.specs.declared.keys.Keyed.{Keyed}
use Rattle.mcast_group.specs.Machine.{Pending, least_part}
use Rattle.mcast_group.specs.Inner.Keys.{AreKeysOf, keyed_of}
use Rattle.mcast_group.proofs.ByKey.{keys_removed, least_keyed}
use Rattle.mcast_group.proofs.pending_parts.PendingParts.remove_least.Goals as goal

one_key : (k : Keyed) (ks : List Keyed) → In k ks → 0 < length ks
one_key k [] stands = absurd stands
one_key k (j ∷ ks) stands = omega arith

one_part : (keys : List Keyed) (ps : List Pending) → AreKeysOf keys ps → 0 < length ps → 0 < length keys
one_part keys [] are some = absurd (omega arith)
one_part keys (p ∷ ps) are some = one_key (keyed_of p) keys (are.each p (inl refl))

pub pop_least-requires : goal.pop_least-requires
pop_least-requires c =
    let within = c.requires.within in
    let e = ap (λ (zs : List Pending). length zs) c.self.view_is in
    one_part c.self.inside.keys c.self.inside.parts.items c.self.invariant (omega arith)

pub invariant_of-self : goal.invariant_of-self
invariant_of-self c =
    let keys = c.self.inside.keys in
    let ps = c.self.inside.parts.items in
    let i = c.args.index in
    let p = c.unwrap.result in
    let at : p ≡ get_or ps i p = rw c.unwrap.ensures at c.remove.ensures.value in
    let left : c.remove.new.self.items ≡ remove ps i = rw c.unwrap.ensures at c.remove.ensures.items in
    let within : i < length ps = subst (λ (zs : List Pending). i < length zs) (sym c.self.view_is) c.requires.within in
    let least : least_part ps ≡ Some p = subst (λ (zs : List Pending). least_part zs ≡ Some (get_or zs i p)) (sym c.self.view_is) (c.requires.least p) ∙ ap (λ (z : Pending). Some z) (sym at) in
    let new = c.pop_least.new.self in
    let same : c.pop_least.result ≡ keyed_of p = least_keyed keys ps p c.pop_least.result c.self.invariant c.pop_least.ensures.stands c.pop_least.ensures.least least in
    let kept = subst (λ (z : Keyed). (k : Keyed) → In k keys → (k ≡ z → Prim.⊥) → In k new) same c.pop_least.ensures.kept in
    let gone = subst (λ (z : Keyed). (k : Keyed) → In k new → k ≡ z → Prim.⊥) same c.pop_least.ensures.gone in
    subst (AreKeysOf new) (sym left) (keys_removed keys new ps i p c.self.invariant within (sym at) kept c.pop_least.ensures.only gone)
