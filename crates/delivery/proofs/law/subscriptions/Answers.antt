use Rattle.delivery.proofs.Theorem.NeverRefused.{numbers_are_free, entries_are_there, entries_are_owned}
use Rattle.delivery.proofs.law.subscriptions.Goals as goal

pub returns : goal.returns
returns c = record { begin = numbers_are_free; end = entries_are_there; owned = entries_are_owned }
