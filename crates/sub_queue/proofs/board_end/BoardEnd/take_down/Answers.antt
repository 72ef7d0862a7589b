use Rattle.sub_queue.proofs.BoardStays.{takes_down}
use Rattle.sub_queue.proofs.board_end.BoardEnd.take_down.Goals as goal

pub try_pop_as-requires-clause-rule : goal.try_pop_as-requires-clause-rule
try_pop_as-requires-clause-rule c = takes_down _ _
