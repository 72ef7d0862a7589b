use Rattle.std.proofs.Common.{◌≡◌, ℕ, ◌-◌, true, length, get_or, refl, sym, ap, subst, ◌∙◌, arith}
use Rattle.mcast_txn.specs.Ids.{id_lt}
use Rattle.mcast_group.specs.CellGroup.{Waiting}
use Rattle.mcast_group.specs.Inner.Keys.{IsIndexPast}
use Rattle.mcast_group.proofs.Places.{past_last}
use Rattle.mcast_group.proofs.Waits.{waiting_parted}
use Rattle.mcast_group.proofs.waiting.index_for.Goals as goal

pub returns-clause-index : goal.returns-clause-index
returns-clause-index c =
    let ws = c.args.waiting.now.items in
    let l : c.args.waiting.now.len ≡ length ws = c.args.waiting.now.ok.0 in
    let p = λ (w : Waiting). id_lt w.id c.args.id in
    let some = c.in-Some.ensures.variant.0 refl in
    let n = c.len.ensures in
    let x = c.in-Some.last.now in
    let at : x ≡ get_or ws (length ws - 1) x = c.in-Some.ensures.lookup ∙ ap (λ (n : ℕ). get_or ws (n - 1) x) l in
    let below : id_lt x.id c.args.id ≡ true = sym c.is_before.ensures ∙ c.if-is_before.true in
    let e : length ws ≡ c.len.result = omega arith in
    let done = past_last p ws x (waiting_parted c.args.id ws c.requires) (omega arith) (subst (λ (z : Waiting). id_lt z.id c.args.id ≡ true) at below) in
    subst (λ (i : ℕ). IsIndexPast p ws i) e done
