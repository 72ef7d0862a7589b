use Rattle.delivery.proofs.Words.All.{◌≡◌, ◌++◌, map, take, enumerate_from, traced_span, traced_queue}
use Rattle.delivery.proofs.Traces.Lists.{made_of}
use Rattle.delivery.proofs.net_state.trace.add_subscriptions.Given as goal

-- the subscriptions so far are there
abbrev pub invariant-loop-sub : goal.invariant-loop-sub
invariant-loop-sub l = l.trace ≡ record l.fn.trace {
  spans = map (λ p. traced_span p.0 p.1) (enumerate_from 0 (take l.sub l.fn.report.subscriptions));
  queues = l.fn.trace.queues ++ made_of traced_queue 0 (take l.sub l.fn.report.subscriptions);
}
