use Rattle.delivery.proofs.Theorem.StepLaws.{others_untouched, ticket_is_own}
use Rattle.delivery.proofs.law.genuine.Goals as goal

pub returns : goal.returns
returns c = record { others = others_untouched; tickets = ticket_is_own }
