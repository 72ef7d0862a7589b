use Rattle.std.proofs.Common.{◌≡◌, ◌≤◌, Bool, true, false, not, List, length, get_or, refl, sym, ap, subst, ◌∙◌, arith}
use Rattle.std.specs.List.{position}
use Rattle.std.proofs.lemmas.Bool.{true≢false, false≢true}
use Rattle.std.proofs.lemmas.List.{get_or_default}
use Rattle.mcast_txn.specs.Ids.{id_lt, same_id}
use Rattle.mcast_txn.specs.declared.id.TxnId.{TxnId}
use Rattle.mcast_group.specs.Machine.{Pending}
use Rattle.mcast_group.specs.Inner.Keys.{IsIndexPast}
use Rattle.mcast_group.proofs.ByKey.{found_at_index, none_at_index}
use Rattle.mcast_group.proofs.pending_parts.PendingParts.search.Goals as goal

is_false : (b : Bool) → not b ≡ true → b ≡ false
is_false true e = absurd (false≢true e)
is_false false e = refl

is_true : (b : Bool) → not b ≡ false → b ≡ true
is_true true e = refl
is_true false e = absurd (true≢false e)

pub returns-in_default-clause-absent : goal.returns-in_default-clause-absent
returns-in_default-clause-absent c =
    let ps = c.self.inside.parts.items in
    let i = c.index_for-index.result in
    let l : c.self.inside.parts.len ≡ length ps = c.self.inside.parts.ok.0 in
    let index = subst (λ (zs : List Pending). IsIndexPast (λ (p : Pending). id_lt p.part.id c.args.id) zs i) (sym c.self.view_is) c.index_for-index.ensures.index in
    let past : length ps ≤ i = (let v = c.in_default.ensures.variant in grind (arith)) in
    sym (ap (λ (zs : List Pending). position (λ (p : Pending). same_id p.part.id c.args.id) zs) c.self.view_is) ∙ none_at_index c.args.id ps i c.self.invariant.by_id index (λ d m. absurd (omega arith))

pub returns-then-ne-clause-absent : goal.returns-then-ne-clause-absent
returns-then-ne-clause-absent c =
    let ps = c.self.inside.parts.items in
    let i = c.index_for-index.result in
    let x = c.in-Some.there.now in
    let index = subst (λ (zs : List Pending). IsIndexPast (λ (p : Pending). id_lt p.part.id c.args.id) zs i) (sym c.self.view_is) c.index_for-index.ensures.index in
    let at : x ≡ get_or ps i x = c.in-Some.ensures.lookup in
    let other : same_id c.id.result c.args.id ≡ false = is_false (same_id c.id.result c.args.id) (sym c.ne.ensures ∙ c.if-ne.true) in
    let differs : same_id x.part.id c.args.id ≡ false = subst (λ (z : TxnId). same_id z c.args.id ≡ false) c.id.ensures other in
    sym (ap (λ (zs : List Pending). position (λ (p : Pending). same_id p.part.id c.args.id) zs) c.self.view_is) ∙ none_at_index c.args.id ps i c.self.invariant.by_id index (λ d m. subst (λ (z : Pending). same_id z.part.id c.args.id ≡ false) (at ∙ get_or_default ps i x d m) differs)

pub returns-clause-found : goal.returns-clause-found
returns-clause-found c =
    let ps = c.self.inside.parts.items in
    let i = c.index_for-index.result in
    let l : c.self.inside.parts.len ≡ length ps = c.self.inside.parts.ok.0 in
    let x = c.in-Some.there.now in
    let index = subst (λ (zs : List Pending). IsIndexPast (λ (p : Pending). id_lt p.part.id c.args.id) zs i) (sym c.self.view_is) c.index_for-index.ensures.index in
    let at : x ≡ get_or ps i x = c.in-Some.ensures.lookup in
    let within = c.in-Some.ensures.variant.0 refl in
    let own : same_id c.id.result c.args.id ≡ true = is_true (same_id c.id.result c.args.id) (sym c.ne.ensures ∙ c.if-ne.false) in
    let same : same_id (get_or ps i x).part.id c.args.id ≡ true = subst (λ (z : Pending). same_id z.part.id c.args.id ≡ true) at (subst (λ (z : TxnId). same_id z c.args.id ≡ true) c.id.ensures own) in
    sym (ap (λ (zs : List Pending). position (λ (p : Pending). same_id p.part.id c.args.id) zs) c.self.view_is) ∙ found_at_index c.args.id ps i x index (omega arith) same
