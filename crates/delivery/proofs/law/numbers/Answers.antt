use Rattle.delivery.proofs.Theorem.SeqsCount.{seqs_count}
use Rattle.delivery.proofs.law.numbers.Goals as goal

pub returns : goal.returns
returns c = seqs_count
