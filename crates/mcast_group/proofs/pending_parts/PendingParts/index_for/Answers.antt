use Rattle.std.proofs.Common.{◌≡◌, ℕ, ◌-◌, true, List, length, get_or, refl, sym, ap, subst, ◌∙◌, arith}
use Rattle.mcast_txn.specs.Ids.{id_lt}
use Rattle.mcast_group.specs.Machine.{Pending}
use Rattle.mcast_group.specs.Inner.Keys.{IsIndexPast}
use Rattle.mcast_group.proofs.ByKey.{parts_parted}
use Rattle.mcast_group.proofs.Places.{past_last}
use Rattle.mcast_group.proofs.pending_parts.PendingParts.index_for.Goals as goal

pub returns-clause-index : goal.returns-clause-index
returns-clause-index c =
    let ps = c.self.inside.parts.items in
    let l : c.self.inside.parts.len ≡ length ps = c.self.inside.parts.ok.0 in
    let some = c.in-Some.ensures.variant.0 refl in
    let n = c.len.ensures in
    let x = c.in-Some.last.now in
    let at : x ≡ get_or ps (length ps - 1) x = c.in-Some.ensures.lookup ∙ ap (λ (n : ℕ). get_or ps (n - 1) x) l in
    let below : id_lt x.part.id c.args.id ≡ true = sym c.is_before.ensures ∙ c.if-is_before.true in
    let e : length ps ≡ c.len.result = omega arith in
    let done = past_last (λ (p : Pending). id_lt p.part.id c.args.id) ps x (parts_parted c.args.id ps c.self.invariant.by_id) (omega arith) (subst (λ (z : Pending). id_lt z.part.id c.args.id ≡ true) at below) in
    subst (λ (zs : List Pending). IsIndexPast (λ (p : Pending). id_lt p.part.id c.args.id) zs c.len.result) c.self.view_is (subst (λ (i : ℕ). IsIndexPast (λ (p : Pending). id_lt p.part.id c.args.id) ps i) e done)
