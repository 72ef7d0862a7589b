-- Worked rows, computed from the definitions: each equation holds by computation alone. The five that a contract names are in specs/Examples.antt.
use Rattle.delivery.proofs.Words.All.{refl, ◌≡◌, true, List, [], ◌∷◌, map, Some, None, agreed, Objection, due, accepted_at, span_at, frontier_at, Move, commits_of, Run, answers_of, final_world, Opens, Connects, Commits, Subscribes, Unsubscribes, Proposes, Decides, Learns, Releases, Turns, Takes, Refused, Done, Opened, Begun, Subscribed, Unsubscribed, Decided, Learnt, Turned, Handed}
use Rattle.delivery.specs.Machine.Moves.Answer.{Ticket}
use Rattle.delivery.specs.Theorem.Examples.{topic, stamp, id, send, part, transaction, item, run_of, answers_in_order, log_stamps, to_a_and_b, crossing}

-- ---- transactions that cross: what is due

crossing_due : map (λ i. i.stamp) (due (commits_of (answers_of crossing)) (span_at (final_world crossing) 0) (frontier_at (final_world crossing) (topic 1)))
    ≡ stamp 10 0 ∷ stamp 11 2 ∷ []
crossing_due = refl

-- ---- two senders at two topics: four tickets

-- two connections commit to A and B, and both topics give both a ticket; then these events
abbrev pub four_tickets : List Move → Run
four_tickets then = run_of (0 ∷ 0 ∷ []) (
    Opens ∷ Connects 0 None ∷ Opens ∷ Connects 1 None ∷ Commits 0 to_a_and_b ∷ Commits 1 to_a_and_b
    ∷ Proposes 0 (topic 0) true ∷ Proposes 1 (topic 1) true ∷ Proposes 1 (topic 0) true ∷ Proposes 0 (topic 1) true ∷ then)

abbrev both_decided : Run
both_decided = four_tickets (Decides 0 ∷ Decides 1 ∷ Turns (topic 0) ∷ Turns (topic 1) ∷ [])

four_tickets_rows : (answers_in_order both_decided
    ≡ Opened 0 ∷ Done ∷ Opened 1 ∷ Done ∷ Begun (transaction (id 0 1) to_a_and_b) ∷ Begun (transaction (id 1 1) to_a_and_b)
    ∷ Ticket (id 0 1) (stamp 1 0) ∷ Ticket (id 1 1) (stamp 1 1) ∷ Ticket (id 1 1) (stamp 2 0) ∷ Ticket (id 0 1) (stamp 2 1)
    ∷ Decided (id 0 1) (stamp 2 1) ∷ Decided (id 1 1) (stamp 2 0) ∷ Turned (topic 0) 2 ∷ Turned (topic 1) 2 ∷ [])
    × (log_stamps both_decided 0 ∷ log_stamps both_decided 1 ∷ []
    ≡ (stamp 2 0 ∷ stamp 2 1 ∷ []) ∷ (stamp 2 0 ∷ stamp 2 1 ∷ []) ∷ [])
    × (map (λ r. r.txn.id) (agreed (commits_of (answers_of both_decided))) ≡ id 1 1 ∷ id 0 1 ∷ [])
four_tickets_rows = (refl, refl, refl)

-- the same with one of them decided: nothing is due before the other
abbrev one_decided : Run
one_decided = four_tickets (
    Decides 1 ∷ Turns (topic 0) ∷ Learns (topic 0) (id 1 1) ∷ Releases (topic 0) ∷ Learns (topic 0) (id 0 1) ∷ [])

one_decided_rows : (answers_in_order one_decided
    ≡ Opened 0 ∷ Done ∷ Opened 1 ∷ Done ∷ Begun (transaction (id 0 1) to_a_and_b) ∷ Begun (transaction (id 1 1) to_a_and_b)
    ∷ Ticket (id 0 1) (stamp 1 0) ∷ Ticket (id 1 1) (stamp 1 1) ∷ Ticket (id 1 1) (stamp 2 0) ∷ Ticket (id 0 1) (stamp 2 1)
    ∷ Decided (id 1 1) (stamp 2 0) ∷ Turned (topic 0) 0 ∷ Learnt (id 1 1) (topic 0) ∷ Refused Objection.NothingDue ∷ Refused Objection.NotDecided ∷ [])
    × (log_stamps one_decided 0 ≡ [])
one_decided_rows = (refl, refl)

-- ---- three SENDs to A, B, A

abbrev three_sends : Run
three_sends = run_of (0 ∷ 0 ∷ []) (
    Opens ∷ Connects 0 None ∷ Subscribes 0 (topic 0) ∷ Subscribes 0 (topic 1) ∷ Commits 0 (send 0 1 ∷ send 1 2 ∷ send 0 3 ∷ [])
    ∷ Proposes 0 (topic 0) true ∷ Proposes 0 (topic 0) true ∷ Decides 0 ∷ Proposes 0 (topic 1) true ∷ Decides 0
    ∷ Turns (topic 0) ∷ Turns (topic 1) ∷ Takes 0 ∷ Takes 1 ∷ [])

three_sends_answers : answers_in_order three_sends
    ≡ Opened 0 ∷ Done ∷ Subscribed 0 0 (topic 0) (stamp 0 0) ∷ Subscribed 1 0 (topic 1) (stamp 0 0) ∷ Begun (transaction (id 0 1) (send 0 1 ∷ send 1 2 ∷ send 0 3 ∷ []))
    ∷ Ticket (id 0 1) (stamp 1 0) ∷ Refused Objection.Twice ∷ Refused Objection.Incomplete ∷ Ticket (id 0 1) (stamp 1 1) ∷ Decided (id 0 1) (stamp 1 1)
    ∷ Turned (topic 0) 1 ∷ Turned (topic 1) 1
    ∷ Handed 0 (item (id 0 1) (stamp 1 1) (part 0 1 ∷ part 2 3 ∷ [])) ∷ Handed 1 (item (id 0 1) (stamp 1 1) (part 1 2 ∷ [])) ∷ []
three_sends_answers = refl

-- ---- a span that ends: the second transaction comes after it

-- a subscription is closed after the first of two transactions was released, and before the second is
abbrev pub ends : Run
ends = run_of (0 ∷ []) (
    Opens ∷ Connects 0 None ∷ Opens ∷ Connects 1 None ∷ Commits 0 (send 0 1 ∷ []) ∷ Proposes 0 (topic 0) true ∷ Decides 0 ∷ Subscribes 1 (topic 0) ∷ Turns (topic 0) ∷ Takes 0
    ∷ Commits 0 (send 0 2 ∷ []) ∷ Proposes 0 (topic 0) true ∷ Decides 0 ∷ Unsubscribes 1 0 ∷ Turns (topic 0) ∷ Takes 0 ∷ [])

ends_rows : (answers_in_order ends
    ≡ Opened 0 ∷ Done ∷ Opened 1 ∷ Done ∷ Begun (transaction (id 0 1) (send 0 1 ∷ [])) ∷ Ticket (id 0 1) (stamp 1 0) ∷ Decided (id 0 1) (stamp 1 0)
    ∷ Subscribed 0 1 (topic 0) (stamp 0 0) ∷ Turned (topic 0) 1 ∷ Handed 0 (item (id 0 1) (stamp 1 0) (part 0 1 ∷ []))
    ∷ Begun (transaction (id 0 2) (send 0 2 ∷ [])) ∷ Ticket (id 0 2) (stamp 2 0) ∷ Decided (id 0 2) (stamp 2 0)
    ∷ Unsubscribed 0 (stamp 1 0) ∷ Turned (topic 0) 1 ∷ Refused Objection.Gone ∷ [])
    × (span_at (final_world ends) 0 ≡ record { topic = topic 0; from = stamp 0 0; to = Some (stamp 1 0) })
    × (map (λ i. i.stamp) (accepted_at (final_world ends) 0) ≡ stamp 1 0 ∷ [])
    × (log_stamps ends 0 ≡ stamp 1 0 ∷ stamp 2 0 ∷ [])
ends_rows = (refl, refl, refl, refl)
