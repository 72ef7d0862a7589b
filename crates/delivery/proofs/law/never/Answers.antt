use Rattle.delivery.proofs.Theorem.StepLaws.{odd_never_comes, found_is_learnt}
use Rattle.delivery.proofs.Theorem.NeverRefused.{cancel_finds_its_part, none_is_pending_twice}
use Rattle.delivery.proofs.Theorem.WithdrawnIsUndecided.{withdrawn_is_undecided}
use Rattle.delivery.proofs.Theorem.RefusalsAreReported.{refusals_are_reported}
use Rattle.delivery.proofs.law.never.Goals as goal

pub returns : goal.returns
returns c = record {
  refused = odd_never_comes;
  reported = refusals_are_reported;
  in_turns = found_is_learnt;
  cancels = cancel_finds_its_part;
  proposals = none_is_pending_twice;
  withdrawals = withdrawn_is_undecided;
}
