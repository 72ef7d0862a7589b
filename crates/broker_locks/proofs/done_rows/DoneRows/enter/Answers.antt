use Rattle.std.proofs.Common.{◌≡◌, ◌≤◌, ◌+◌, ◌-◌, ◌++◌, [], ◌∷◌, List, length, sym, ap, subst, ◌∙◌, arith}
use Rattle.std.proofs.lemmas.List.{length_push}
use Rattle.mcast_txn.specs.Part.{data_of}
use Rattle.broker_locks.specs.Inner.Done.{RowsDone}
use Rattle.broker_locks.specs.Rows.{Entered, PlaceRow, uncancelled_after}
use Rattle.broker_locks.proofs.CancelRoom.{uncancelled_entered}
use Rattle.broker_locks.proofs.done_rows.DoneRows.enter.Goals as goal

pub invariant_of-self : goal.invariant_of-self
invariant_of-self c =
    let old = c.self.inside.rows.items in
    let row = Entered (data_of c.args.part.value) c.args.floor c.args.n in
    let room : length (uncancelled_after [] old) + 2 ≤ c.self.inside.rows.capacity - length old = subst (λ (d : RowsDone). length (uncancelled_after [] d.rows) + 2 ≤ d.spare) (sym c.self.view_is) c.requires in
    let e : c.push_reserved.new.self.items ≡ old ++ row ∷ [] = c.push_reserved.ensures.items ∙ ap (λ (r : PlaceRow). old ++ r ∷ []) c.of.ensures in
    let more : length (uncancelled_after [] c.push_reserved.new.self.items) ≤ length (uncancelled_after [] old) + 1 =
    subst (λ (l : List PlaceRow). length (uncancelled_after [] l) ≤ length (uncancelled_after [] old) + 1) (sym e) (uncancelled_entered old row) in
    let len = ap length e ∙ length_push old row in
    let cap = c.push_reserved.ensures.capacity in
    omega (arith, room, more, len, cap)
