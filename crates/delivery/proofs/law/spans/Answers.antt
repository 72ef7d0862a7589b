use Rattle.delivery.proofs.Theorem.SpansAsAnswered.{ends_stay, spans_begin_as_told, spans_begin_at_frontier, spans_end_as_told}
use Rattle.delivery.proofs.Theorem.ClosedAsAnswered.{spans_end_at_frontier}
use Rattle.delivery.proofs.Theorem.LagsEndBeforeRow.{lags_end_before_row}
use Rattle.delivery.proofs.law.spans.Goals as goal

pub returns : goal.returns
returns c = record {
  begins = spans_begin_as_told;
  ends = spans_end_as_told;
  frontier = spans_begin_at_frontier;
  stays = ends_stay;
  until_frontier = spans_end_at_frontier;
  before_row = lags_end_before_row;
}
