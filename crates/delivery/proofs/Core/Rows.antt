-- Worked rows, computed: the outcomes, what is reported, and the text out of each connection.
use Rattle.delivery.proofs.Words.All.{refl, ◌≡◌, ℕ, true, false, List, [], ◌∷◌, ◌++◌, map, codes, Some, None, unread_of, Answer, Reading, reader_limits, outcomes, Event, Refusal, ConnectionFault, account_of, Core, names_at, new_core, report_of, Flying, Proposed, Faulted, Fed}
use Rattle.delivery.specs.declared.outcome.Outcome.TheVariants.{Opened, Done, Subscribed, Unsubscribed, Failed, Decided, Withdrawn, Cancelled, Turned, Handed, Leaving, Gone, Refused}
use Rattle.std.specs.Fmt.{digits}
use Rattle.mcast_group.specs.declared.cause.Cause.TheVariants.{Asked, Lag}
use Rattle.mcast_group.specs.declared.fault.ProposeFault.TheVariants as proposals
use Rattle.stomp_frame.specs.declared.command.Command.TheVariants as commands
use Rattle.stomp_frame.specs.declared.case_fault.CaseFault.TheVariants as cases
use Rattle.stomp_session.specs.declared.fault.SessionFault.TheVariants as sessions
use Rattle.delivery.proofs.Core.Agreement.{agreements, all_agree}
use Rattle.delivery.proofs.Core.Acts.{topic_list, Act, frame, part, made, x_to, y_to, machine_account, seen, topic, stamp, id, log_row, act, reads, waits, without, played, shown_outcomes, subscribe, begin, send_in, send, commit, disconnect, asking, opens, propose, turn, A, B}

-- ---- transactions that cross: topics A at 9, B and C at 0

-- three topics, of which A's clock is at 9
abbrev pub three : Core
three = new_core (topic_list ((A, 9) ∷ (B, 0) ∷ (codes "C", 0) ∷ [])) 64

-- x names A and B, and y B and C; a subscription to B takes both, in the order of their stamps
abbrev pub crossing_acts : List Act
crossing_acts = opens 0 (
    reads 0 (subscribe (codes "b") B) ∷ reads 0 (begin (codes "x")) ∷ reads 0 (send_in (codes "x") A (codes "m1"))
    ∷ reads 0 (send_in (codes "x") B (codes "m1")) ∷ reads 0 (asking (codes "r1") (commit (codes "x")))
    ∷ propose 0 0 ∷ propose 0 1 ∷ act (Event.Decide 0)
    ∷ reads 0 (begin (codes "y")) ∷ reads 0 (send_in (codes "y") B (codes "m2")) ∷ reads 0 (send_in (codes "y") (codes "C") (codes "m2"))
    ∷ reads 0 (commit (codes "y")) ∷ propose 0 1 ∷ propose 0 2 ∷ act (Event.Decide 0)
    ∷ turn 1 ∷ act (Event.Take 0) ∷ act (Event.Take 0) ∷ act (Event.Take 0) ∷ turn 0 ∷ turn 2 ∷ [])

-- the core after the transactions that cross
abbrev pub crossing : Core
crossing = played three crossing_acts

crossing_outcomes : shown_outcomes crossing
    ≡ Opened 0 ∷ Done ∷ Subscribed 0 (stamp 0 0) ∷ Done ∷ Done ∷ Done ∷ Flying (id 0 1) ∷ Proposed 10 ∷ Proposed 1 ∷ Decided (stamp 10 0) false
    ∷ Done ∷ Done ∷ Done ∷ Flying (id 0 2) ∷ Proposed 11 ∷ Proposed 11 ∷ Decided (stamp 11 2) false
    ∷ Turned 2 ∷ Handed 1 ∷ Handed 1 ∷ Refused Refusal.NothingDue ∷ Turned 1 ∷ Turned 1 ∷ []
crossing_outcomes = refl

-- what the steps tell, and the same of the machine's own outcomes
abbrev pub crossing_news : List Answer
crossing_news =
    Answer.Turned (topic 2) 1 ∷ Answer.Turned (topic 0) 1
    ∷ Answer.Handed 0 (record { id = id 0 2; stamp = stamp 11 2; sends = part 0 (y_to B) (codes "m2") ∷ [] })
    ∷ Answer.Handed 0 (record { id = id 0 1; stamp = stamp 10 0; sends = part 1 (x_to B) (codes "m1") ∷ [] })
    ∷ Answer.Turned (topic 1) 2 ∷ Answer.Decided (id 0 2) (stamp 11 2)
    ∷ Answer.Ticket (id 0 2) (stamp 11 2) ∷ Answer.Ticket (id 0 2) (stamp 11 1)
    ∷ Answer.Begun (record { id = id 0 2; sends = made 1 (y_to B) (codes "m2") ∷ made 2 (y_to (codes "C")) (codes "m2") ∷ [] })
    ∷ Answer.Decided (id 0 1) (stamp 10 0) ∷ Answer.Ticket (id 0 1) (stamp 1 1) ∷ Answer.Ticket (id 0 1) (stamp 10 0)
    ∷ Answer.Begun (record { id = id 0 1; sends = made 0 (x_to A) (codes "m1") ∷ made 1 (x_to B) (codes "m1") ∷ [] })
    ∷ Answer.Subscribed 0 0 (topic 1) (stamp 0 0) ∷ Answer.Opened 0 ∷ []

crossing_rows : (account_of crossing.names crossing.steps ≡ crossing_news)
    × (machine_account (three, []) crossing_acts ≡ crossing_news)
    × (agreements three crossing_acts ≡ all_agree)
    × ((report_of crossing).commits ≡ log_row 0 1 10 0 (0 ∷ 1 ∷ []) ∷ log_row 0 2 11 2 (1 ∷ 2 ∷ []) ∷ [])
    × ((report_of crossing).logs
    ≡ (log_row 0 1 10 0 (0 ∷ 1 ∷ []) ∷ []) ∷ (log_row 0 1 10 0 (0 ∷ 1 ∷ []) ∷ log_row 0 2 11 2 (1 ∷ 2 ∷ []) ∷ [])
    ∷ (log_row 0 2 11 2 (1 ∷ 2 ∷ []) ∷ []) ∷ [])
    × (map seen (report_of crossing).subscriptions
    ≡ (topic 1, stamp 0 0, None, None, stamp 10 0 ∷ stamp 11 2 ∷ [], stamp 10 0 ∷ stamp 11 2 ∷ []) ∷ [])
crossing_rows = (refl, refl, refl, refl, refl, refl)

crossing_outs : (report_of crossing).outs
    ≡ codes "CONNECTED\nversion:1.2\nheart-beat:0,0\n\n\0RECEIPT\nreceipt-id:r1\n\n\0MESSAGE\nsubscription:b\nmessage-id:10.0.1\ndestination:B\ncontent-length:2\n\nm1\0MESSAGE\nsubscription:b\nmessage-id:11.2.0\ndestination:B\ncontent-length:2\n\nm2\0" ∷ []
unfolding digits
crossing_outs = refl

-- ---- DISCONNECT: the open transaction has no row, nothing more is handed on, and its RECEIPT is written as the connection is gone

-- a core with topic A alone
abbrev pub one : Core
one = new_core (topic_list ((A, 0) ∷ [])) 64

-- a core with topics A and B
abbrev pub both : Core
both = new_core (topic_list ((A, 0) ∷ (B, 0) ∷ [])) 64

-- a SEND of c to A outside a transaction, which is decided and released
abbrev pub sends_one : ℕ → List ℕ → List Act → List Act
sends_one c body then = reads c (send A body) ∷ propose c 0 ∷ act (Event.Decide c) ∷ turn 0 ∷ then

-- a DISCONNECT with a receipt, while a transaction is open and an item is in a queue
abbrev pub ends_acts : List Act
ends_acts = opens 0 (
    reads 0 (subscribe (codes "s") A) ∷ sends_one 0 (codes "m") (
    reads 0 (begin (codes "x")) ∷ reads 0 (send_in (codes "x") A (codes "n")) ∷ reads 0 (asking (codes "bye") disconnect)
    ∷ act (Event.Take 0) ∷ waits 0 ∷ act (Event.Leave 0) ∷ act (Event.Leave 0) ∷ act (Event.Leave 0) ∷ []))

-- the core after the DISCONNECT
abbrev pub ends : Core
ends = played one ends_acts

ends_rows : (shown_outcomes ends
    ≡ Opened 0 ∷ Done ∷ Subscribed 0 (stamp 0 0) ∷ Flying (id 0 1) ∷ Proposed 1 ∷ Decided (stamp 1 0) false ∷ Turned 1
    ∷ Done ∷ Done ∷ Leaving ∷ Refused Refusal.Gone ∷ Refused Refusal.Busy ∷ Unsubscribed 0 (stamp 1 0) ∷ Gone false ∷ Refused Refusal.Gone ∷ [])
    × (agreements one ends_acts ≡ all_agree)
    × ((report_of ends).commits ≡ log_row 0 1 1 0 (0 ∷ []) ∷ [])
    × (map seen (report_of ends).subscriptions ≡ (topic 0, stamp 0 0, Some (stamp 1 0), Some Asked, stamp 1 0 ∷ [], []) ∷ [])
    × ((report_of ends).outs ≡ codes "CONNECTED\nversion:1.2\nheart-beat:0,0\n\n\0RECEIPT\nreceipt-id:bye\n\n\0" ∷ [])
ends_rows = (refl, refl, refl, refl, refl)

-- ---- lag: a queue of two items, and three rows

-- three SENDs are released before the subscription takes any; it takes four times, and the connection leaves
abbrev pub lags_acts : List Act
lags_acts = opens 0 (
    reads 0 (subscribe (codes "s") A) ∷ sends_one 0 (codes "1") (sends_one 0 (codes "2") (sends_one 0 (codes "3") (
    act (Event.Take 0) ∷ act (Event.Take 0) ∷ act (Event.Take 0) ∷ act (Event.Take 0) ∷ waits 0 ∷ act (Event.Leave 0) ∷ act (Event.Leave 0) ∷ []))))

-- a core with topic A, whose queues have room for two items
abbrev pub narrow : Core
narrow = new_core (topic_list ((A, 0) ∷ [])) 2

-- the core after the lag
abbrev pub lags : Core
lags = played narrow lags_acts

lags_rows : (agreements narrow lags_acts ≡ all_agree)
    × (shown_outcomes lags
    ≡ Opened 0 ∷ Done ∷ Subscribed 0 (stamp 0 0)
    ∷ Flying (id 0 1) ∷ Proposed 1 ∷ Decided (stamp 1 0) false ∷ Turned 1
    ∷ Flying (id 0 2) ∷ Proposed 2 ∷ Decided (stamp 2 0) false ∷ Turned 1
    ∷ Flying (id 0 3) ∷ Proposed 3 ∷ Decided (stamp 3 0) false ∷ Turned 1
    ∷ Handed 1 ∷ Handed 1 ∷ Faulted ConnectionFault.Lagged false ∷ Refused Refusal.Gone ∷ Refused Refusal.Busy
    ∷ Unsubscribed 0 (stamp 2 0) ∷ Gone false ∷ [])
    × (map seen (report_of lags).subscriptions
    ≡ (topic 0, stamp 0 0, Some (stamp 2 0), Some Lag, stamp 1 0 ∷ stamp 2 0 ∷ [], stamp 1 0 ∷ stamp 2 0 ∷ []) ∷ [])
    × (map (map (λ row. row.stamp)) (report_of lags).logs ≡ (stamp 1 0 ∷ stamp 2 0 ∷ stamp 3 0 ∷ []) ∷ [])
lags_rows = (refl, refl, refl, refl)

lags_outs : (report_of lags).outs
    ≡ codes "CONNECTED\nversion:1.2\nheart-beat:0,0\n\n\0MESSAGE\nsubscription:s\nmessage-id:1.0.0\ndestination:A\ncontent-length:1\n\n1\0MESSAGE\nsubscription:s\nmessage-id:2.0.0\ndestination:A\ncontent-length:1\n\n2\0ERROR\nmessage:74 Lagged\ncontent-length:0\n\n\0" ∷ []
unfolding digits
lags_outs = refl

-- ---- a first use and three faults, each frame with a receipt

-- a SEND to a topic that it makes, and three refused frames: of an unknown transaction, an ack mode, and an ACK
abbrev pub faults_acts : List Act
faults_acts = opens 0 (opens 1 (opens 2 (opens 3 (
    reads 0 (asking (codes "r") (send (codes "Z") [])) ∷ reads 1 (asking (codes "r") (commit (codes "q")))
    ∷ reads 2 (asking (codes "r") (record (subscribe (codes "s") (codes "Z")) { headers = (codes "ack", codes "client") ∷ (subscribe (codes "s") (codes "Z")).headers }))
    ∷ reads 3 (asking (codes "r") (frame commands.Ack [] []))
    ∷ act (Event.Piece 0 (codes "x")) ∷ act (Event.Leave 0) ∷ act (Event.Next 0)
    ∷ act (Event.Piece 3 (codes "x")) ∷ act (Event.Leave 3) ∷ act (Event.Next 3) ∷ []))))

-- the core after them
abbrev pub faults : Core
faults = played one faults_acts

faults_rows : (agreements one faults_acts ≡ all_agree)
    × (shown_outcomes faults
    ≡ Opened 0 ∷ Done ∷ Opened 1 ∷ Done ∷ Opened 2 ∷ Done ∷ Opened 3 ∷ Done
    ∷ Flying (id 0 1) ∷ Faulted (ConnectionFault.Session sessions.NoSuchTxn) false
    ∷ Faulted (ConnectionFault.Session sessions.AckMode) false ∷ Faulted (ConnectionFault.Frame cases.Unsupported) false
    ∷ Fed ∷ Refused Refusal.NotLeaving ∷ Refused Refusal.Busy
    ∷ Refused Refusal.Busy ∷ Gone false ∷ Refused Refusal.Gone ∷ [])
    × (names_at faults ≡ A ∷ codes "Z" ∷ [])
faults_rows = (refl, refl, refl)

-- the text of the CONNECTED frame
abbrev pub greeting : List ℕ
greeting = codes "CONNECTED\nversion:1.2\nheart-beat:0,0\n\n\0"

faults_outs : (report_of faults).outs
    ≡ greeting
    ∷ (greeting ++ codes "ERROR\nmessage:66 NoSuchTxn\nreceipt-id:r\ncontent-length:0\n\n\0")
    ∷ (greeting ++ codes "ERROR\nmessage:68 AckMode\nreceipt-id:r\ncontent-length:0\n\n\0")
    ∷ (greeting ++ codes "ERROR\nmessage:21 Unsupported\nreceipt-id:r\ncontent-length:0\n\n\0") ∷ []
faults_outs = refl

-- ---- a full clock: A at 2^64 - 2, and B; the transaction that A refuses is withdrawn and cancelled

-- a transaction of c to A and B, whose COMMIT asks for a receipt
abbrev pub to_both : ℕ → List Act → List Act
to_both c then =
    reads c (begin (codes "x")) ∷ reads c (send_in (codes "x") A (codes "a")) ∷ reads c (send_in (codes "x") B (codes "b"))
    ∷ reads c (asking (codes "q") (commit (codes "x"))) ∷ then

-- a core with topics A and B, where A's clock has one number left
abbrev pub full_start : Core
full_start = new_core (topic_list ((A, 18446744073709551614) ∷ (B, 0) ∷ [])) 64

-- a SEND takes the last number of A; a transaction to A and B fails at A, and is cancelled at B
abbrev pub full_acts : List Act
full_acts = opens 0 (opens 1 (opens 2 (sends_one 0 (codes "m") (to_both 1 (
    propose 1 1 ∷ reads 2 (send B (codes "n")) ∷ propose 2 1 ∷ act (Event.Decide 2) ∷ turn 1
    ∷ propose 1 0 ∷ act (Event.Decide 1) ∷ act (Event.Withdraw 1) ∷ turn 1
    ∷ act (Event.Cancel 1 (topic 1)) ∷ act (Event.Cancel 1 (topic 1)) ∷ turn 1 ∷ act (Event.Leave 1) ∷ [])))))

-- the core after the full clock
abbrev pub full : Core
full = played full_start full_acts

full_rows : (shown_outcomes full
    ≡ Opened 0 ∷ Done ∷ Opened 1 ∷ Done ∷ Opened 2 ∷ Done
    ∷ Flying (id 0 1) ∷ Proposed 18446744073709551615 ∷ Decided (stamp 18446744073709551615 0) false ∷ Turned 1
    ∷ Done ∷ Done ∷ Done ∷ Flying (id 1 1) ∷ Proposed 1 ∷ Flying (id 2 1) ∷ Proposed 2 ∷ Decided (stamp 2 1) false ∷ Turned 0
    ∷ Failed proposals.ClockFull ∷ Refused Refusal.Marked ∷ Withdrawn false ∷ Turned 0
    ∷ Cancelled ∷ Refused Refusal.NotNamed ∷ Turned 1 ∷ Gone false ∷ [])
    × (agreements full_start full_acts ≡ all_agree)
    × ((report_of full).outs
    ≡ greeting ∷ (greeting ++ codes "ERROR\nmessage:40 ClockFull\nreceipt-id:q\ncontent-length:0\n\n\0") ∷ greeting ∷ [])
full_rows = (refl, refl, refl)

-- ---- loss: the flight goes on, and its RECEIPT isn't written

-- a connection is lost between its two proposals: its transaction is still decided and released
abbrev pub lost_acts : List Act
lost_acts = opens 0 (to_both 0 (
    propose 0 0 ∷ act (Event.Lost 0) ∷ act (Event.Next 0) ∷ act (Event.Leave 0) ∷ propose 0 1 ∷ act (Event.Decide 0)
    ∷ turn 0 ∷ turn 1 ∷ act (Event.Leave 0) ∷ []))

-- the core after the loss
abbrev pub lost : Core
lost = played both lost_acts

lost_rows : (agreements both lost_acts ≡ all_agree)
    × (shown_outcomes lost
    ≡ Opened 0 ∷ Done ∷ Done ∷ Done ∷ Done ∷ Flying (id 0 1) ∷ Proposed 1 ∷ Leaving ∷ Refused Refusal.Busy ∷ Refused Refusal.Busy
    ∷ Proposed 1 ∷ Decided (stamp 1 1) false ∷ Turned 1 ∷ Turned 1 ∷ Gone false ∷ [])
    × ((report_of lost).outs ≡ greeting ∷ [])
lost_rows = (refl, refl, refl)

-- ---- a Decide whose RECEIPT finds no memory: the row stands, the reply is left out, the connection is leaving

-- a transaction to A and B is decided without memory for its RECEIPT, and released
abbrev pub cuts_acts : List Act
cuts_acts = opens 0 (to_both 0 (
    propose 0 0 ∷ propose 0 1 ∷ without 1 (act (Event.Decide 0)) ∷ waits 0 ∷ turn 0 ∷ turn 1 ∷ act (Event.Leave 0) ∷ []))

-- the core after the Decide without memory
abbrev pub cuts : Core
cuts = played both cuts_acts

cuts_rows : (agreements both cuts_acts ≡ all_agree)
    × (shown_outcomes cuts
    ≡ Opened 0 ∷ Done ∷ Done ∷ Done ∷ Done ∷ Flying (id 0 1) ∷ Proposed 1 ∷ Proposed 1 ∷ Decided (stamp 1 1) true
    ∷ Refused Refusal.Busy ∷ Turned 1 ∷ Turned 1 ∷ Gone false ∷ [])
    × ((report_of cuts).commits ≡ log_row 0 1 1 1 (0 ∷ 1 ∷ []) ∷ [])
    × ((report_of cuts).outs ≡ greeting ∷ [])
cuts_rows = (refl, refl, refl, refl)

-- a Decide without a receipt can't be cut; a Next may be 72, with its reply or without; a Release never is for want of memory
abbrev pub plain : Core
plain = played both (opens 0 (reads 0 (send A []) ∷ propose 0 0 ∷ []))

plain_rows : (outcomes plain (Event.Decide 0) Reading.Nothing ≡ Decided (stamp 1 0) false ∷ [])
    × (outcomes both (Event.Next 0) Reading.Nothing ≡ Refused Refusal.NoConn ∷ [])
    × (outcomes (played both (opens 0 [])) (Event.Next 0) (Reading.Finds (begin (codes "x")) (unread_of reader_limits))
    ≡ Done ∷ Faulted (ConnectionFault.Session sessions.NoMemory) false ∷ Faulted (ConnectionFault.Session sessions.NoMemory) true ∷ [])
    × (outcomes (played both (opens 0 (reads 0 (send A []) ∷ []))) (Event.Propose 0 (topic 0)) Reading.Nothing
    ≡ Proposed 1 ∷ Failed proposals.NoMemory ∷ [])
plain_rows = (refl, refl, refl, refl)
