use Rattle.std.proofs.Common.{◌≡◌, ◌+◌, length, ap, arith, rules}
use Rattle.broker_locks.proofs.CancelRoom.{uncancelled_few}
use Rattle.broker_locks.proofs.done_rows.DoneRows.reserve.Goals as goal

pub returns-clause-room : goal.returns-clause-room
returns-clause-room c =
    let few = uncancelled_few c.reserve.new.self.items in
    let a = c.checked_add.ensures in
    let s = c.in-Some.is in
    let n = c.len.ensures.value in
    let ok = c.in_ok-reserve.ensures.ok in
    let same = ap length c.in_ok-reserve.ensures.items in
    let more : c.in-Some.more ≡ c.len.result + 2 = search rules in
    omega (arith, few, n, ok, same, more)
