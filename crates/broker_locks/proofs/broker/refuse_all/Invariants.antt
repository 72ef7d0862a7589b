use Rattle.std.proofs.Common.{◌≡◌, ◌≤◌, length, vec_capacity, vec_len, IsErr}
use Rattle.std.specs.List.{AllByRecursion}
use Rattle.broker_locks.proofs.broker.refuse_all.Given as goal

-- so many answers so far, each a refusal
abbrev pub invariant-loop-number : goal.invariant-loop-number
invariant-loop-number g l = record {
  many : vec_len l.answers ≡ l._number;
  space : l.fn.count ≤ vec_capacity l.answers;
  each : length l.answers.items ≡ l._number;
  nobody : AllByRecursion (λ answer. IsErr answer) l.answers.items;
}
