use Rattle.std.proofs.Common.{◌≡◌, ◌<◌, ℕ, List, length, get_or, Option, Some, None, OnSome, sym, subst, arith}
use Rattle.mcast_txn.specs.Lists.{In}
use Rattle.mcast_txn.proofs.Members.{In-get_or}
use Rattle.mcast_group.specs.declared.keys.Keyed.{Keyed}
use Rattle.mcast_group.specs.Machine.{Pending}
use Rattle.mcast_group.specs.Inner.Keys.{AreKeysOf, keyed_of}
use Rattle.std.specs.List.{remove}
use Rattle.mcast_group.proofs.ByKey.{keys_removed}
use Rattle.mcast_group.proofs.pending_parts.PendingParts.remove.Goals as goal

gone_at : (ps : List Pending) (i : ℕ) (d : Pending) (r : Option Pending) (new : List Pending) → r ≡ Some (get_or ps i d) → OnSome r (new ≡ remove ps i) → new ≡ remove ps i
gone_at ps i d None new e h = cc
gone_at ps i d (Some p) new e h = h

pub remove-requires : goal.remove-requires
remove-requires c =
    let now = c.args.self.now in
    let keys = c.self.inside.keys in
    let are : AreKeysOf keys now = subst (AreKeysOf keys) c.self.view_is c.self.invariant in
    let p = c.at.result.now in
    let at : p ≡ get_or now c.args.index p = c.at.ensures in
    let keyed : c.keyed-keyed.result ≡ keyed_of p = c.keyed-keyed.ensures in
    subst (λ (z : Keyed). In z keys) (sym keyed) (are.each p (subst (λ (z : Pending). In z now) (sym at) (In-get_or now c.args.index p c.requires)))

pub invariant_of-self : goal.invariant_of-self
invariant_of-self c =
    let now = c.args.self.now in
    let keys = c.self.inside.keys in
    let are : AreKeysOf keys now = subst (AreKeysOf keys) c.self.view_is c.self.invariant in
    let p = c.at.result.now in
    let at : p ≡ get_or now c.args.index p = c.at.ensures in
    let keyed : c.keyed-keyed.result ≡ keyed_of p = c.keyed-keyed.ensures in
    let new = c.remove.new.self in
    let i = c.args.index in
    let kept = subst (λ (z : Keyed). (k : Keyed) → In k keys → (k ≡ z → Prim.⊥) → In k new) keyed c.remove.ensures.kept in
    let gone = subst (λ (z : Keyed). (k : Keyed) → In k new → k ≡ z → Prim.⊥) keyed c.remove.ensures.gone in
    let done = keys_removed keys new now i p are c.requires (sym at) kept c.remove.ensures.only gone in
    let ps = c.self.inside.parts.items in
    let l : c.self.inside.parts.len ≡ length ps = c.self.inside.parts.ok.0 in
    let within : i < length ps = subst (λ (zs : List Pending). i < length zs) (sym c.self.view_is) c.requires in
    let left : c.remove-2.new.self.items ≡ remove ps i = gone_at ps i p c.remove-2.result c.remove-2.new.self.items (c.remove-2.ensures.succeeds p (omega arith)) c.remove-2.ensures.items in
    subst (AreKeysOf new) (sym left) (subst (λ (zs : List Pending). AreKeysOf new (remove zs i)) (sym c.self.view_is) done)
