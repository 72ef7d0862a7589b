use Rattle.std.proofs.Common.{◌≡◌, ℕ, ◌<◌, List, length, get_or, sym, ap, ◌∙◌}
use Rattle.std.proofs.lemmas.List.{get_or_default}
use Rattle.mcast_txn.specs.Ballot.{Decision}
use Rattle.mcast_group.specs.Machine.{Pending, is_foreign}
use Rattle.mcast_group.proofs.Groups.{fault_foreign, fault_clash, no_fault}
use Rattle.mcast_group.proofs.pending_parts.PendingParts.learn_fault_at.Goals as goal

-- whether the verdict is foreign to the part at an index, whatever would stand past the last
foreign_at : (v : Decision) (ps : List Pending) (i : ℕ) (p d : Pending) → i < length ps → p ≡ get_or ps i p → is_foreign v (get_or ps i d) ≡ is_foreign v p
foreign_at v ps i p d l e = ap (is_foreign v) (sym (e ∙ get_or_default ps i p d l))

pub returns-then-is_foreign : goal.returns-then-is_foreign
returns-then-is_foreign c = λ d.
    let now = c.args.self.now in
    let v = c.args.verdict.now in
    let foreign = foreign_at v now c.args.index c.at-part.result.now d c.requires c.at-part.ensures in
    sym (fault_foreign v now (get_or now c.args.index d) (foreign ∙ (sym c.is_foreign.ensures ∙ c.if-is_foreign.true)))

pub returns-then-clashes : goal.returns-then-clashes
returns-then-clashes c = λ d.
    let now = c.args.self.now in
    let v = c.args.verdict.now in
    let foreign = foreign_at v now c.args.index c.at-part.result.now d c.requires c.at-part.ensures in
    sym (fault_clash v now (get_or now c.args.index d) (foreign ∙ (sym c.is_foreign.ensures ∙ c.if-is_foreign.false)) (sym (c.clashes.ensures d) ∙ c.if-clashes.true))

pub returns : goal.returns
returns c = λ d.
    let now = c.args.self.now in
    let v = c.args.verdict.now in
    let foreign = foreign_at v now c.args.index c.at-part.result.now d c.requires c.at-part.ensures in
    sym (no_fault v now (get_or now c.args.index d) (foreign ∙ (sym c.is_foreign.ensures ∙ c.if-is_foreign.false)) (sym (c.clashes.ensures d) ∙ c.if-clashes.false))
