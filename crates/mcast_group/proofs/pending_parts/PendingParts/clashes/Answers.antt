use Rattle.std.proofs.Common.{◌≡◌, Bool, false, ◌||◌, List, get_or, refl, sym, ap, subst, ◌∙◌}
use Rattle.std.proofs.lemmas.List.{get_or_default}
use Rattle.std.specs.List.{list_any}
use Rattle.mcast_txn.specs.Lists.{In}
use Rattle.mcast_txn.proofs.Members.{In-get_or}
use Rattle.mcast_txn.specs.declared.id.TxnId.{TxnId}
use Rattle.mcast_txn.specs.declared.stamp.Stamp.{Stamp}
use Rattle.mcast_txn.proofs.Orders.{same_stamp_is}
use Rattle.mcast_group.specs.Machine.{Pending, clashes, decided_stamp, has_learnt_other, key}
use Rattle.mcast_group.specs.Inner.Keys.{AreKeysOf}
use Rattle.mcast_group.proofs.ByKey.{any_keys, own_key, part_at_stamp}
use Rattle.mcast_group.proofs.pending_parts.PendingParts.clashes.Goals as goal

or_none : (a b : Bool) → a ≡ false → b ≡ (a || b)
or_none a b e = rw e refl

pub returns-else-has_learnt_other : goal.returns-else-has_learnt_other
returns-else-has_learnt_other c = λ d.
    let p = c.at-part.result.now in
    let there : p ≡ get_or c.args.self.now c.args.index d = c.at-part.ensures ∙ get_or_default c.args.self.now c.args.index p d c.requires in
    let v = c.args.verdict.now in
    let stamp : c.stamp-stamp.result ≡ decided_stamp v = c.stamp-stamp.ensures in
    let again : has_learnt_other (decided_stamp v) p.learnt ≡ false = ap (λ (z : Stamp). has_learnt_other z p.learnt) (sym stamp) ∙ (sym c.has_learnt_other.ensures ∙ c.if-has_learnt_other.false) in
    subst (λ (z : Pending). c.has_other_at.result ≡ clashes v z c.args.self.now) there (c.has_other_at.ensures
    ∙ (any_keys c.id.result c.stamp-stamp.result c.self.inside.keys c.self.inside.parts.items c.self.invariant
    ∙ (ap (λ (zs : List Pending). list_any (part_at_stamp c.id.result c.stamp-stamp.result) zs) c.self.view_is
    ∙ (ap (λ (z : TxnId). list_any (part_at_stamp z c.stamp-stamp.result) c.args.self.now) c.id.ensures
    ∙ (ap (λ (z : Stamp). list_any (part_at_stamp p.part.id z) c.args.self.now) stamp
    ∙ or_none (has_learnt_other (decided_stamp v) p.learnt) (list_any (part_at_stamp p.part.id (decided_stamp v)) c.args.self.now) again)))))

pub returns-then-eq : goal.returns-then-eq
returns-then-eq c = λ d.
    let now = c.args.self.now in
    let p = c.at-part.result.now in
    let v = c.args.verdict.now in
    let there : p ≡ get_or now c.args.index d = c.at-part.ensures ∙ get_or_default now c.args.index p d c.requires in
    let are = subst (AreKeysOf c.self.inside.keys) c.self.view_is c.self.invariant in
    let stands = subst (λ (z : Pending). In z now) (sym there) (In-get_or now c.args.index d c.requires) in
    let own : key p ≡ decided_stamp v = sym c.key.ensures ∙ (same_stamp_is c.key.result c.stamp-stamp.result (sym c.eq.ensures ∙ c.if-eq.true) ∙ c.stamp-stamp.ensures) in
    subst (λ (z : Pending). false ≡ clashes v z now) there (sym (own_key v c.self.inside.keys now p are stands own))
