use Rattle.std.proofs.Common.{◌≡◌, ◌≤◌, ◌+◌, ◌-◌, ◌++◌, true, [], ◌∷◌, List, length, sym, ap, subst, ◌∙◌, arith}
use Rattle.std.proofs.lemmas.List.{length_push}
use Rattle.broker_locks.specs.Inner.Done.{RowsDone}
use Rattle.broker_locks.specs.Rows.{PlaceRow, Cancelled, is_uncancelled, uncancelled_after}
use Rattle.broker_locks.proofs.CancelRoom.{uncancelled_cancelled}
use Rattle.broker_locks.proofs.done_rows.DoneRows.cancel.Goals as goal

pub invariant_of-self : goal.invariant_of-self
invariant_of-self c =
    let old = c.self.inside.rows.items in
    let row = Cancelled c.args.topic c.args.id in
    let is : is_uncancelled c.args.topic c.args.id old ≡ true = subst (λ (d : RowsDone). is_uncancelled c.args.topic c.args.id d.rows ≡ true) (sym c.self.view_is) c.requires in
    let e : c.push_reserved.new.self.items ≡ old ++ row ∷ [] = c.push_reserved.ensures.items ∙ ap (λ (r : PlaceRow). old ++ r ∷ []) c.of.ensures in
    let fewer : length (uncancelled_after [] c.push_reserved.new.self.items) + 1 ≤ length (uncancelled_after [] old) =
    subst (λ (l : List PlaceRow). length (uncancelled_after [] l) + 1 ≤ length (uncancelled_after [] old)) (sym e) (uncancelled_cancelled old c.args.topic c.args.id is) in
    let len = ap length e ∙ length_push old row in
    let cap = c.push_reserved.ensures.capacity in
    let inv : length (uncancelled_after [] old) ≤ c.self.inside.rows.capacity - length old = c.self.invariant in
    omega (arith, fewer, len, cap, inv)
