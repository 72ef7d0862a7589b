-- Worked rows beside the laws of spans, queues and logs: premises that hold, and what follows, each computed.
use Rattle.delivery.proofs.Words.All.{refl, ◌≡◌, ℕ, true, List, [], ◌∷◌, map, take, Some, None, Topic, agreed, LogRow, Item, EntryEnd, Asked, Lag, log_row, subscription_at, log_at, accepted_at, end_at, frontier_at, Move, world_after, answer_to, commits_of, released_at, Run, answers_of, final_world, is_logged, agreed_rows, EndsBeforeRow, Opens, Connects, Commits, Subscribes, Unsubscribes, Lost, Leaves, Proposes, Decides, Turns, Unsubscribed, Gone, Turned}
use Rattle.std.specs.Prelude.{filter}
use Rattle.delivery.specs.Theorem.Examples.{topic, stamp, id, send, part, run_of, one_send, to_a_and_b}

-- ---- a queue of two items: one row was released, and three more are decided

-- a transaction of one SEND to topic 0 is decided; then these events
abbrev pub decides_one : ℕ → List Move → List Move
decides_one octet then = Commits 0 (send 0 octet ∷ []) ∷ Proposes 0 (topic 0) true ∷ Decides 0 ∷ then

-- a queue of two items: one row was released and three more are decided; then these events
abbrev pub three_due : List Move → Run
three_due then = record {
  capacity = 2;
  log_limit = 65536;
  clocks = 0 ∷ [];
  events = Opens ∷ Connects 0 None ∷ Opens ∷ Connects 1 None ∷ Subscribes 1 (topic 0) ∷ one_send 1 (decides_one 2 (decides_one 3 (decides_one 4 then)));
}

-- the row and the item of the transaction of this seq, which has one SEND
abbrev pub row : ℕ → LogRow
row n = record { id = id 0 n; topics = topic 0 ∷ []; stamp = stamp n 0 }

-- that transaction's item
abbrev pub item : ℕ → Item
item n = record { id = id 0 n; stamp = stamp n 0; sends = part 0 n ∷ [] }

-- UNSUBSCRIBE of the open span: its end is the frontier, and all of the queue is left
asked : (answer_to (final_world (three_due [])) (Unsubscribes 1 0) ≡ Unsubscribed 0 (stamp 1 0)) × (end_at (final_world (three_due [])) 0 ≡ None)
    × (frontier_at (final_world (three_due [])) (topic 0) ≡ stamp 1 0)
asked = (refl, refl, refl)

abbrev asked_left : EntryEnd
asked_left = record { to = stamp 1 0; accepted = item 1 ∷ []; cause = Asked }

asked_closed : ((subscription_at (final_world (three_due [])) 0).closed ≡ None)
    × ((subscription_at (world_after (final_world (three_due [])) (Unsubscribes 1 0)) 0).closed ≡ Some asked_left)
asked_closed = (refl, refl)

-- a turn of three rows: the queue has room for the first, and the span ends before the second
turn_lags : (end_at (final_world (three_due [])) 0 ≡ None) × (answer_to (final_world (three_due [])) (Turns (topic 0)) ≡ Turned (topic 0) 3)
    × (end_at (world_after (final_world (three_due [])) (Turns (topic 0))) 0 ≡ Some (stamp 2 0))
turn_lags = (refl, refl, refl)

turn_logs : (log_at (final_world (three_due [])) (topic 0) ≡ row 1 ∷ [])
    × (log_at (world_after (final_world (three_due [])) (Turns (topic 0))) (topic 0) ≡ row 1 ∷ row 2 ∷ row 3 ∷ row 4 ∷ [])
turn_logs = (refl, refl)

turn_ends_before : EndsBeforeRow (row 1 ∷ []) (row 1 ∷ row 2 ∷ row 3 ∷ row 4 ∷ []) (stamp 2 0)
turn_ends_before = record { rows = row 2 ∷ []; row = row 3; others = row 4 ∷ []; log_is = refl; end_is = refl }

turn_grows : (accepted_at (final_world (three_due [])) 0 ≡ item 1 ∷ [])
    × (accepted_at (world_after (final_world (three_due [])) (Turns (topic 0))) 0 ≡ item 1 ∷ item 2 ∷ [])
turn_grows = (refl, refl)

-- one that has lagged is closed as its connection leaves: at the end that it had, for a lag; and what it left stays
abbrev pub lost_after : List Move → Run
lost_after then = three_due (Turns (topic 0) ∷ Lost 1 ∷ then)

abbrev lagged_left : EntryEnd
lagged_left = record { to = stamp 2 0; accepted = item 1 ∷ item 2 ∷ []; cause = Lag }

lagged : (answer_to (final_world (lost_after [])) (Leaves 1) ≡ Unsubscribed 0 (stamp 2 0)) × (end_at (final_world (lost_after [])) 0 ≡ Some (stamp 2 0))
    × (frontier_at (final_world (lost_after [])) (topic 0) ≡ stamp 4 0)
lagged = (refl, refl, refl)

lagged_closed : ((subscription_at (final_world (lost_after [])) 0).closed ≡ None)
    × ((subscription_at (world_after (final_world (lost_after [])) (Leaves 1)) 0).closed ≡ Some lagged_left)
lagged_closed = (refl, refl)

lagged_stays : (answer_to (final_world (lost_after (Leaves 1 ∷ []))) (Leaves 1) ≡ Gone 1)
    × ((subscription_at (world_after (final_world (lost_after (Leaves 1 ∷ []))) (Leaves 1)) 0).closed ≡ Some lagged_left)
lagged_stays = (refl, refl)

-- ---- logs: of the agreed sequence restricted to the topic, the rows that were released

-- the rows of a run's agreed sequence that name a topic
abbrev agreed_at : Run → Topic → List LogRow
agreed_at r t = agreed_rows t (commits_of (answers_of r))

one_of_four : (released_at (topic 0) (answers_of (three_due [])) ≡ 1) × (agreed_at (three_due []) (topic 0) ≡ row 1 ∷ row 2 ∷ row 3 ∷ row 4 ∷ [])
    × (log_at (final_world (three_due [])) (topic 0) ≡ row 1 ∷ [])
one_of_four = (refl, refl, refl)

four_of_four : (released_at (topic 0) (answers_of (lost_after [])) ≡ 4) × (log_at (final_world (lost_after [])) (topic 0) ≡ row 1 ∷ row 2 ∷ row 3 ∷ row 4 ∷ [])
four_of_four = (refl, refl)

-- a transaction to both topics and one to the second alone, each turned there
abbrev mixed : Run
mixed = run_of (0 ∷ 0 ∷ []) (
    Opens ∷ Connects 0 None ∷ Commits 0 to_a_and_b ∷ Proposes 0 (topic 0) true ∷ Proposes 0 (topic 1) true ∷ Decides 0
    ∷ Commits 0 (send 1 2 ∷ []) ∷ Proposes 0 (topic 1) true ∷ Decides 0 ∷ Turns (topic 0) ∷ Turns (topic 1) ∷ [])

abbrev both_row : LogRow
both_row = record { id = id 0 1; topics = topic 0 ∷ topic 1 ∷ []; stamp = stamp 1 1 }

abbrev second_row : LogRow
second_row = record { id = id 0 2; topics = topic 1 ∷ []; stamp = stamp 2 1 }

mixed_logs : (log_at (final_world mixed) (topic 0) ≡ both_row ∷ []) × (log_at (final_world mixed) (topic 1) ≡ both_row ∷ second_row ∷ [])
mixed_logs = (refl, refl)

mixed_agreed : (map log_row (agreed (commits_of (answers_of mixed))) ≡ both_row ∷ second_row ∷ [])
    × (map log_row (filter (is_logged (topic 0) (stamp 1 1)) (agreed (commits_of (answers_of mixed)))) ≡ both_row ∷ [])
mixed_agreed = (refl, refl)

mixed_counts : (released_at (topic 0) (answers_of mixed) ≡ 1) × (released_at (topic 1) (answers_of mixed) ≡ 2)
    × (take (released_at (topic 1) (answers_of mixed)) (agreed_at mixed (topic 1)) ≡ both_row ∷ second_row ∷ [])
mixed_counts = (refl, refl, refl)
