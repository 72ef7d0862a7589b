use Rattle.delivery.proofs.Theorem.AcceptedIsDue.{commits_are_kept}
use Rattle.delivery.proofs.law.commits.Goals as goal

pub returns : goal.returns
returns c = commits_are_kept
