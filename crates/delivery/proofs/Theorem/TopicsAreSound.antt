-- Each topic of a run is sound and undrained, and a settled topic's frontier is at least each stamp that names it.
use Rattle.std.proofs.Common.{◌≡◌, false, ◌∙◌, ap, subst}
use Rattle.delivery.proofs.Words.All.{stamp_lt, CommitRow, In, Topic, last_stamp, IsSound, log_row, topic_at, log_at, frontier_at, Run, final_world}
use Rattle.delivery.specs.Theorem.Laws
use Rattle.delivery.proofs.Theorem.AcceptedIsDue.{reached}
use Rattle.delivery.proofs.Theorem.SettledLeavesNoneOut.{settled_in_log}

is_sound : (r : Run) (t : Topic) → IsSound (topic_at (final_world r) t)
is_sound r t = ((reached r).inv.tied t).sound

frontier_is_last : (r : Run) (t : Topic) → (topic_at (final_world r) t).frontier ≡ frontier_at (final_world r) t
frontier_is_last r t = let k = (reached r).inv.tied t in k.sound.frontier ∙ ap (λ b. last_stamp b (topic_at (final_world r) t).held) k.undrained

-- each topic of a run is sound, nothing was drained, and its frontier is its last row's stamp
pub topics_are_sound : Laws.TopicsAreSound
topics_are_sound r t = (is_sound r t, ((reached r).inv.tied t).undrained, frontier_is_last r t)

settled_at_most : (r : Run) (t : Topic) (row : CommitRow) → In (log_row row) (log_at (final_world r) t) → stamp_lt (frontier_at (final_world r) t) row.stamp ≡ false
settled_at_most r t row i = subst (λ f. stamp_lt f row.stamp ≡ false) (frontier_is_last r t) ((is_sound r t).past (log_row row) i)

-- a committed transaction that names a settled topic is in its log, at most at its frontier
pub settled_leaves_none_out : Laws.SettledLeavesNoneOut
settled_leaves_none_out r t row settled i n = let l = settled_in_log r t row settled i n in (l, settled_at_most r t row l)
