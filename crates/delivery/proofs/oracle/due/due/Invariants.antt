use Rattle.std.proofs.Common.{◌≡◌, ◌++◌, map, vec_len}
use Rattle.std.specs.List.{filter}
use Rattle.delivery.proofs.Words.All.{Span, due, is_due, item_at}
use Rattle.delivery.proofs.oracle.due.due.Given as goal

-- what is due of the rows that are left, and then what was gathered
abbrev pub invariant-loop-row : goal.invariant-loop-row
invariant-loop-row l =
    let span : Span = record { topic = l.topic; from = l.from; to = l.to } in
    map (item_at l.topic) (filter (is_due span l.frontier) l.sorted.items) ++ l.items.items ≡ due l.fn.rows.items span l.frontier

abbrev pub decreases-loop-row : goal.decreases-loop-row
decreases-loop-row l = vec_len l.sorted
