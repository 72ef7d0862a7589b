use Rattle.std.proofs.Common.{refl}
use Rattle.delivery.proofs.law.examples.Goals as goal

pub returns : goal.returns
returns c = record {
  crossing_answers = refl;
  crossing_logs = refl;
  crossing_queue = refl;
  crossing_span = refl;
  crossing_delivered = refl;
  withdrawal_answers = refl;
  withdrawal_logs = refl;
  withdrawal_floors = refl;
  withdrawal_queue = refl;
  withdrawal_span = refl;
  withdrawal_delivered = refl;
  loss_answers = refl;
  loss_logs = refl;
  loss_queues = refl;
  loss_spans = refl;
  loss_delivered = refl;
  loss_left = refl;
  disconnect_answers = refl;
  disconnect_logs = refl;
  disconnect_queue = refl;
  disconnect_span = refl;
  disconnect_delivered = refl;
  disconnect_left = refl;
  lag_answers = refl;
  lag_log = refl;
  lag_queues = refl;
  lag_spans = refl;
  lag_delivered = refl;
  lag_left = refl;
  asked_left = refl;
  lasting_answers = refl;
  lasting_log = refl;
  lasting_floors = refl;
  lasting_queue = refl;
  lasting_delivered = refl;
  resuming_answers = refl;
  resuming_logs = refl;
  resuming_floors = refl;
}
