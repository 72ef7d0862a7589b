-- The subscription of a number in a report.
use Rattle.delivery.proofs.Words.All.{◌≡◌, ℕ, ◌<◌, [], length, get_or, Some, None, slice_get, slice_get-get_or, zero_stamp, QueueReport, Report}

-- what stands for a subscription that isn't reported
abbrev pub no_queue : QueueReport
no_queue = record { span = record { topic = record { 0 = 0 }; from = zero_stamp; to = None }; cause = None; queued = []; handed = [] }

-- the subscription of this number
abbrev pub queue_in : Report → ℕ → QueueReport
queue_in r s = get_or r.subscriptions s no_queue

-- it stands there, where there are as many
pub queue_there : (r : Report) (s : ℕ) → s < length r.subscriptions → slice_get r.subscriptions s ≡ Some (queue_in r s)
queue_there r s l = slice_get-get_or r.subscriptions s no_queue l
