use Rattle.std.proofs.Common.{◌∙◌}
use Rattle.sub_queue.proofs.BoardStays.{makes_place, puts_up, puts_up_after}
use Rattle.sub_queue.proofs.board_end.BoardEnd.put_up.Goals as goal

pub force_push_as-requires-clause-push : goal.force_push_as-requires-clause-push
force_push_as-requires-clause-push g c = (puts_up _ _ _ _ (c.self.view_is ∙ c.requires), puts_up_after _ _ _ _ (c.self.view_is ∙ c.requires))

pub force_push_as-requires-clause-pop : goal.force_push_as-requires-clause-pop
force_push_as-requires-clause-pop g c = makes_place _ _ _
