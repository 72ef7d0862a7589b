use Rattle.std.proofs.Common.{◌≡◌, ◌+◌, ◌++◌, take, vec_len, vec_capacity}
use Rattle.delivery.proofs.sender_state.keep_tickets.Given as goal

abbrev pub invariant-loop-i : goal.invariant-loop-i
invariant-loop-i l = record {
  items : l.leftovers.items ≡ l.initial.leftovers.items ++ take l.i l.tickets;
  len : vec_len l.leftovers ≡ vec_len l.initial.leftovers + l.i;
  capacity : vec_capacity l.leftovers ≡ vec_capacity l.initial.leftovers;
}
