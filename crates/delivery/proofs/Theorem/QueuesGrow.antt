-- What a queue has accepted stays: each event adds to its end alone.
use Rattle.delivery.proofs.Words.All.{accepted_at, answers_of, final_world, More-same}
use Rattle.delivery.specs.Theorem.Spans
use Rattle.delivery.proofs.Words.Steps.{by_refusal, by_found, reached}
use Rattle.delivery.proofs.Theorem.HandedIsPrefix.{Grow, moves_grow}

-- what a queue has accepted stays, and more is added at its end alone
pub queues_grow : Spans.QueuesGrow
queues_grow r e s l =
    let w = final_world r in
    let h = by_refusal (λ v o. Grow w v) w e (λ why q m. More-same (accepted_at w q)) (λ n. by_found (λ v o. Grow w v) w e (moves_grow (answers_of r) w e (reached r))) s l in (h.more, h.is)
