use Rattle.delivery.proofs.Theorem.StepLaws.{lags_where_full}
use Rattle.delivery.proofs.Theorem.EndsAreAnswered.{ends_are_told}
use Rattle.delivery.proofs.Theorem.SpansAsAnswered.{queues_are_bounded}
use Rattle.delivery.proofs.law.lags_only_where_full.Goals as goal

pub returns : goal.returns
returns c = record { releases = lags_where_full; bound = queues_are_bounded; ends = ends_are_told }
