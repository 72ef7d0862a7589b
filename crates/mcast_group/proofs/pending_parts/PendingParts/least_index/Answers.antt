use Rattle.std.proofs.Common.{◌≡◌, ◌<◌, ◌∙◌, [], List, length, get_or, Option, Some, ℕ, sym, ap, subst}
use Rattle.std.specs.List.{position}
use Rattle.std.specs.Option.{MatchOption}
use Rattle.mcast_txn.specs.Ids.{same_id}
use Rattle.mcast_group.specs.Machine.{Pending, least_part}
use Rattle.mcast_group.proofs.ByKey.{least_found, no_keys}
use Rattle.mcast_group.proofs.pending_parts.PendingParts.least_index.Goals as goal

pub returns-in_err-id : goal.returns-in_err-id
returns-in_err-id c =
    let now = c.args.self.now in
    let none : now ≡ [] = sym c.self.view_is ∙ no_keys c.self.inside.keys c.self.inside.parts.items c.self.invariant c.in_err-id.ensures.none in
    subst (λ (o : Option ℕ). MatchOption o (now ≡ []) (λ i. (i < length now) × ((d : Pending) → least_part now ≡ Some (get_or now i d)))) (sym c.from_residual.ensures) none

pub returns : goal.returns
returns c =
    let ps = c.self.inside.parts.items in
    let id = c.in_ok-id.id in
    subst (λ (zs : List Pending). MatchOption c.index_of.result (zs ≡ []) (λ i. (i < length zs) × ((d : Pending) → least_part zs ≡ Some (get_or zs i d)))) c.self.view_is
    (least_found id c.self.inside.keys ps c.index_of.result c.self.invariant c.in_ok-id.ensures.some (c.index_of.ensures ∙ ap (λ (zs : List Pending). position (λ (p : Pending). same_id p.part.id id) zs) (sym c.self.view_is)))
