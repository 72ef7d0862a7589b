use Rattle.delivery.proofs.Theorem.LogIsOfAnswers.{log_counts_releases, log_is_agreed, log_is_of_outcomes}
use Rattle.delivery.proofs.law.logs.Goals as goal

pub returns : goal.returns
returns c = record { agreed = log_is_agreed; count = log_counts_releases; of_outcomes = log_is_of_outcomes }
