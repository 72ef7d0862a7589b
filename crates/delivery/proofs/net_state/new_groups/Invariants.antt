use Rattle.std.proofs.Common.{◌≡◌, map, take}
use Rattle.delivery.proofs.Words.All.{new_topics, log_limit, new_group}
use Rattle.delivery.proofs.net_state.new_groups.Given as goal

-- the groups of the first i topics
abbrev pub invariant-loop-i : goal.invariant-loop-i
invariant-loop-i l = l.groups.items ≡ map new_group (new_topics 0 log_limit (take l.i l.clocks))
