use Rattle.std.proofs.Common.{◌≡◌, ◌*◌, ◌≤◌, sum_by}
use Rattle.std.specs.List.{range_with_len}
use Rattle.broker_server.specs.Purses.{counted_octets}
use Rattle.broker_server.proofs.serving.tenths.Tenths.lately.Given as goal

abbrev pub invariant-loop-back : goal.invariant-loop-back
invariant-loop-back l = record {
  so_far : l.taken ≡ sum_by (counted_octets l.self.tenths l.fn.now l.most) (range_with_len 0 l.back);
  fits : l.taken ≤ 4294967296 * l.back;
}
