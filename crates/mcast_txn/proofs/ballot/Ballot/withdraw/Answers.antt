use Rattle.std.proofs.Common.{◌≡◌, length, take, refl, ap, ◌∙◌, rules}
use Rattle.mcast_txn.specs.Ballot.{ticket_rows}
use Rattle.mcast_txn.specs.Inner.TicketSlots.{ticket_slots}
use Rattle.mcast_txn.proofs.WriteLemmas.{rewritten}
use Rattle.mcast_txn.proofs.ballot.Ballot.withdraw.Goals as goal

pub gather-many-requires : goal.gather-many-requires
gather-many-requires c = rw (c.deref-2.ensures, c.as_mut_slice.ensures.value, c.into_rows-rows.ensures, c.into_inner.ensures) c.self.invariant.known

pub returns : goal.returns
returns c =
    let rows = c.into_rows-rows.result.items in
    let moved = c.gather-many.new.rows in
    let long : length moved ≡ length rows = search rules in
    let given = rw (c.deref-2.ensures, c.as_mut_slice.ensures.value, c.into_rows-rows.ensures, c.into_inner.ensures) at c.gather-many.ensures in
    let left : c.truncate.new.self.items ≡ ticket_rows (ticket_slots c.self.inside.verdict.value.rows c.self.inside.given.items) = c.truncate.ensures.items ∙ (ap (take c.gather-many.result) (rewritten rows moved long) ∙ given) in
    rw (left, c.id-id.ensures, c.deref.ensures, ← c.self.view_is) refl
