use Rattle.std.proofs.Common.{rules}
use Rattle.sub_queue.proofs.BoardStays.{puts_up_first, splits}
use Rattle.sub_queue.proofs.board_end.BoardEnd.two.Goals as goal

pub try_push_as-requires-clause-rule : goal.try_push_as-requires-clause-rule
try_push_as-requires-clause-rule c = puts_up_first _ _ _ _ (search rules)

pub another-theirs-requires-clause-rule : goal.another-theirs-requires-clause-rule
another-theirs-requires-clause-rule c = splits _ _ c.args.note.queue (search rules)
