-- Worked rows of single rules: whom octets are fed to, faults of a stream, learns and releases, the order of a frame's checks,
-- and a lag of another connection than that of the same number.
use Rattle.delivery.proofs.Words.All.{refl, ◌≡◌, false, true, List, [], ◌∷◌, ◌++◌, map, codes, Some, None, Unread, unread_of, shared_marks, Answer, new_sender, Event, Refusal, ConnectionFault, CoreStep, Reading, reader_limits, fed_octets, frames_of, account_of, released_frontier, outcomes, Core, new_core, unread_at, report_of, Fed, Flying, Proposed, Faulted}
use Rattle.delivery.specs.declared.outcome.Outcome.TheVariants.{Opened, Failed, Withdrawn, Done, Subscribed, Unsubscribed, Decided, Learnt, Released, Turned, Handed, Leaving, Gone, Refused}
use Rattle.std.specs.Fmt.{digits}
use Rattle.mcast_group.specs.declared.cause.Cause.TheVariants.{Asked, Lag}
use Rattle.mcast_group.specs.declared.fault.ProposeFault.TheVariants as proposals
use Rattle.stomp_frame.specs.declared.command.Command.TheVariants as commands
use Rattle.stomp_frame.specs.declared.case_fault.CaseFault.TheVariants as cases
use Rattle.stomp_frame.specs.declared.fault.Check.TheVariants as checks
use Rattle.stomp_session.specs.declared.fault.SessionFault.TheVariants as sessions
use Rattle.delivery.proofs.Core.ShownReadings.{shows_reading}
use Rattle.delivery.proofs.Core.QueueOfReport.{queue_in}
use Rattle.delivery.proofs.Core.Agreement.{agreements, all_agree}
use Rattle.delivery.proofs.Core.Acts.{send, Act, topic_list, without, frame, topic, stamp, id, act, reads, fails, waits, played, shown_outcomes, seen, connect, subscribe, begin, send_in, commit, opens, propose, turn, A, B}
use Rattle.delivery.proofs.Core.Rows.{crossing, one, both, narrow, greeting, sends_one, to_both}

-- ---- octets are fed to the connection that is named, in their order, unless the piece is refused

-- pieces of two connections; the last is refused, since its connection is lost
abbrev pub feeds_acts : List Act
feeds_acts = act Event.Open ∷ act Event.Open ∷ act (Event.Piece 0 (codes "a")) ∷ act (Event.Piece 1 (codes "b"))
    ∷ act (Event.Piece 0 (codes "c")) ∷ act (Event.Lost 0) ∷ act (Event.Piece 0 (codes "d")) ∷ []

-- the core after these pieces
abbrev pub feeds : Core
feeds = played one feeds_acts

feeds_rows : (fed_octets 0 feeds.steps ∷ fed_octets 1 feeds.steps ∷ [] ≡ codes "ac" ∷ codes "b" ∷ [])
    × (shown_outcomes feeds ≡ Opened 0 ∷ Opened 1 ∷ Fed ∷ Fed ∷ Fed ∷ Leaving ∷ Refused Refusal.Busy ∷ [])
    × (agreements one feeds_acts ≡ all_agree)
feeds_rows = (refl, refl, refl)

-- what their readers stand for then, also after a frame of another connection was read
feeds_unread : (unread_at 0 feeds.steps).text ∷ (unread_at 1 feeds.steps).text ∷ [] ≡ codes "ac" ∷ codes "b" ∷ []
feeds_unread = refl

-- connection 1 is fed an octet, and connection 0 reads a frame
abbrev pub unread_acts : List Act
unread_acts = act Event.Open ∷ act Event.Open ∷ act (Event.Piece 1 (codes "b")) ∷ reads 0 connect ∷ []

unread_stays : (unread_at 1 (played one unread_acts).steps).text ≡ codes "b"
unread_stays = refl

-- ---- frames are read of the connection that is named

-- both connections read a CONNECT, and connection 1 reads a BEGIN too
abbrev pub reading_acts : List Act
reading_acts = act Event.Open ∷ act Event.Open ∷ reads 1 connect ∷ reads 0 connect ∷ reads 1 (begin (codes "x")) ∷ []

reading_frames : frames_of 0 (played one reading_acts).steps ∷ frames_of 1 (played one reading_acts).steps ∷ []
    ≡ (connect ∷ []) ∷ (connect ∷ begin (codes "x") ∷ []) ∷ []
reading_frames = refl

-- ---- a fault of the stream: its ERROR has no receipt-id

-- connection 0 reads a fault of its stream, and leaves
abbrev pub broken_acts : List Act
broken_acts = opens 0 (fails 0 checks.BadCommand ∷ waits 0 ∷ act (Event.Leave 0) ∷ [])

broken_rows : (shown_outcomes (played one broken_acts)
    ≡ Opened 0 ∷ Done ∷ Faulted (ConnectionFault.Stream checks.BadCommand) false ∷ Refused Refusal.Busy ∷ Gone false ∷ [])
    × ((report_of (played one broken_acts)).outs ≡ (greeting ++ codes "ERROR\nmessage:1 BadCommand\ncontent-length:0\n\n\0") ∷ [])
    × (agreements one broken_acts ≡ all_agree)
broken_rows = (refl, refl, refl)

-- the same where the reader finds no memory
dry_agrees : agreements one (opens 0 (act (Event.Next 0) ∷ [])) ≡ all_agree
dry_agrees = refl

-- ---- the case table comes before the session, and the session before the topic

-- an ACK and a SUBSCRIBE to an unknown topic, each the first frame of its connection
abbrev pub early_ack : List Act
early_ack = act Event.Open ∷ reads 0 (frame commands.Ack [] []) ∷ act Event.Open ∷ reads 1 (subscribe (codes "s") (codes "Z")) ∷ []

early_ack_outcomes : shown_outcomes (played one early_ack)
    ≡ Opened 0 ∷ Faulted (ConnectionFault.Frame cases.Unsupported) false ∷ Opened 1
    ∷ Faulted (ConnectionFault.Session sessions.NotConnected) false ∷ []
early_ack_outcomes = refl

-- ---- two senders at two topics: the one that is decided waits for the other; learns and releases by themselves

-- two transactions to A and B; that of connection 1 is decided first, and waits for the other at A
abbrev pub waiting_acts : List Act
waiting_acts = opens 0 (opens 1 (reads 0 (subscribe (codes "s") A) ∷ to_both 0 (to_both 1 (
    propose 0 0 ∷ propose 1 1 ∷ propose 1 0 ∷ propose 0 1 ∷ act (Event.Decide 1) ∷ turn 0
    ∷ act (Event.Learn (topic 0) (id 1 1)) ∷ act (Event.Release (topic 0)) ∷ act (Event.Learn (topic 0) (id 0 1))
    ∷ act (Event.Decide 0) ∷ act (Event.Learn (topic 0) (id 0 1)) ∷ act (Event.Release (topic 0)) ∷ act (Event.Release (topic 0))
    ∷ act (Event.Release (topic 0)) ∷ turn 1 ∷ act (Event.Take 0) ∷ []))))

-- the core after the two transactions
abbrev pub waiting : Core
waiting = played both waiting_acts

waiting_rows : (shown_outcomes waiting
    ≡ Opened 0 ∷ Done ∷ Opened 1 ∷ Done ∷ Subscribed 0 (stamp 0 0) ∷ Done ∷ Done ∷ Done ∷ Flying (id 0 1) ∷ Done ∷ Done ∷ Done ∷ Flying (id 1 1)
    ∷ Proposed 1 ∷ Proposed 1 ∷ Proposed 2 ∷ Proposed 2 ∷ Decided (stamp 2 0) false ∷ Turned 0
    ∷ Learnt ∷ Refused Refusal.NothingDue ∷ Refused Refusal.NotDecided
    ∷ Decided (stamp 2 1) false ∷ Learnt ∷ Released (id 1 1) ∷ Released (id 0 1)
    ∷ Refused Refusal.NothingDue ∷ Turned 2 ∷ Handed 1 ∷ [])
    × (map (map (λ row. row.stamp)) (report_of waiting).logs ≡ (stamp 2 0 ∷ stamp 2 1 ∷ []) ∷ (stamp 2 0 ∷ stamp 2 1 ∷ []) ∷ [])
    × (agreements both waiting_acts ≡ all_agree)
waiting_rows = (refl, refl, refl)

-- ---- whole parts: two SENDs to one topic are one item and two MESSAGEs, each with its index in the transaction

-- SENDs to A, B and A in a transaction; a second Propose at A and an early Decide are refused
abbrev pub whole_acts : List Act
whole_acts = opens 0 (reads 0 (subscribe (codes "s") A) ∷ reads 0 (begin (codes "x")) ∷ reads 0 (send_in (codes "x") A (codes "1"))
    ∷ reads 0 (send_in (codes "x") B (codes "2")) ∷ reads 0 (send_in (codes "x") A (codes "3")) ∷ reads 0 (commit (codes "x"))
    ∷ propose 0 0 ∷ propose 0 0 ∷ act (Event.Decide 0) ∷ propose 0 1 ∷ act (Event.Decide 0) ∷ turn 0 ∷ act (Event.Take 0) ∷ [])

whole_outcomes : shown_outcomes (played both whole_acts)
    ≡ Opened 0 ∷ Done ∷ Subscribed 0 (stamp 0 0) ∷ Done ∷ Done ∷ Done ∷ Done ∷ Flying (id 0 1)
    ∷ Proposed 1 ∷ Refused Refusal.Twice ∷ Refused Refusal.Incomplete ∷ Proposed 1 ∷ Decided (stamp 1 1) false ∷ Turned 1 ∷ Handed 2 ∷ []
whole_outcomes = refl

whole_outs : (report_of (played both whole_acts)).outs
    ≡ (greeting
    ++ codes "MESSAGE\nsubscription:s\nmessage-id:1.1.0\ndestination:A\ncontent-length:1\n\n1\0MESSAGE\nsubscription:s\nmessage-id:1.1.2\ndestination:A\ncontent-length:1\n\n3\0") ∷ []
unfolding digits
whole_outs = refl

-- ---- connection 1 subscribes late and lags, by its subscription 1; connection 0 sends, and its own subscription is closed

-- the acts of the row before connection 1 subscribes
abbrev pub early_acts : List Act
early_acts = opens 0 (opens 1 (reads 0 (subscribe (codes "s") A) ∷ sends_one 0 (codes "1") []))

-- connection 1 subscribes after the first of four SENDs; its queue takes two, and lags at the last
abbrev pub late_acts : List Act
late_acts = opens 0 (opens 1 (reads 0 (subscribe (codes "s") A) ∷ sends_one 0 (codes "1") (reads 1 (subscribe (codes "t") A)
    ∷ reads 0 (frame commands.Unsubscribe ((codes "id", codes "s") ∷ []) []) ∷ sends_one 0 (codes "2") (sends_one 0 (codes "3") (sends_one 0 (codes "4") (
    act (Event.Take 1) ∷ act (Event.Take 1) ∷ act (Event.Take 1) ∷ act (Event.Leave 1) ∷ waits 0 ∷ []))))))

-- the core after the late subscription
abbrev pub late : Core
late = played narrow late_acts

late_queues : map seen (report_of late).subscriptions
    ≡ (topic 0, stamp 0 0, Some (stamp 1 0), Some Asked, stamp 1 0 ∷ [], [])
    ∷ (topic 0, stamp 1 0, Some (stamp 3 0), Some Lag, stamp 2 0 ∷ stamp 3 0 ∷ [], stamp 2 0 ∷ stamp 3 0 ∷ []) ∷ []
late_queues = refl

late_outs : (report_of late).outs
    ≡ greeting
    ∷ (greeting
    ++ codes "MESSAGE\nsubscription:t\nmessage-id:2.0.0\ndestination:A\ncontent-length:1\n\n2\0MESSAGE\nsubscription:t\nmessage-id:3.0.0\ndestination:A\ncontent-length:1\n\n3\0ERROR\nmessage:74 Lagged\ncontent-length:0\n\n\0")
    ∷ []
unfolding digits
late_outs = refl

late_agrees : agreements narrow late_acts ≡ all_agree
late_agrees = refl

-- its span ends by lag (`WholeRow` has such an end whole), and that of the other was asked to end at the frontier then
late_rows : (map (λ q. q.cause) (report_of late).subscriptions ≡ Some Asked ∷ Some Lag ∷ [])
    × ((stamp 1 0) ≡ released_frontier (topic 0) (account_of (played narrow early_acts).names (played narrow early_acts).steps))
late_rows = (refl, refl)

-- ---- an UNSUBSCRIBE ends the subscription that its id names, whatever number a wrong outcome says

-- connection 0 has subscriptions s and t to A, numbers 0 and 1
abbrev pub two_subscribed : Core
two_subscribed = played one (opens 0 (reads 0 (subscribe (codes "s") A) ∷ reads 0 (subscribe (codes "t") A) ∷ []))

-- an UNSUBSCRIBE of s, with an outcome that names subscription 1
abbrev pub wrong_end : CoreStep
wrong_end = record {
  event = Event.Next 0;
  reading = Reading.Finds (frame commands.Unsubscribe ((codes "id", codes "s") ∷ []) []) (unread_of reader_limits);
  outcome = Unsubscribed 1 (stamp 0 0);
}

wrong_end_account : account_of two_subscribed.names (wrong_end ∷ two_subscribed.steps)
    ≡ Answer.Unsubscribed 0 (stamp 0 0) ∷ Answer.Subscribed 1 0 (topic 0) (stamp 0 0) ∷ Answer.Subscribed 0 0 (topic 0) (stamp 0 0) ∷ Answer.Opened 0 ∷ []
wrong_end_account = refl

-- nothing but a Next shows that it read a frame, and a Next of a refused frame does
shown_alone : shows_reading (record { event = Event.Lost 0; reading = wrong_end.reading; outcome = Leaving }) ≡ false
shown_alone = refl

-- a Next doesn't show that it read a frame where its outcome is a lag's ERROR, which no frame has
shown_lag : shows_reading (record { event = Event.Next 0; reading = wrong_end.reading; outcome = Faulted ConnectionFault.Lagged false }) ≡ false
shown_lag = refl

-- ---- two subscriptions of one connection, to two topics: each MESSAGE has its own subscription's id and its own topic's part

-- a transaction to A and B, with a subscription to each; Takes of both, and of a number that none has
abbrev pub pair_acts : List Act
pair_acts = opens 0 (reads 0 (subscribe (codes "s") A) ∷ reads 0 (subscribe (codes "t") B) ∷ to_both 0 (
    propose 0 0 ∷ propose 0 1 ∷ act (Event.Decide 0) ∷ turn 1 ∷ turn 0 ∷ act (Event.Take 1) ∷ act (Event.Take 0) ∷ act (Event.Take 2) ∷ []))

pair_outs : (report_of (played both pair_acts)).outs
    ≡ (greeting
    ++ codes "RECEIPT\nreceipt-id:q\n\n\0MESSAGE\nsubscription:t\nmessage-id:1.1.1\ndestination:B\ncontent-length:1\n\nb\0MESSAGE\nsubscription:s\nmessage-id:1.1.0\ndestination:A\ncontent-length:1\n\na\0") ∷ []
unfolding digits
pair_outs = refl

pair_agrees : agreements both pair_acts ≡ all_agree
pair_agrees = refl

-- both queues have the transaction, and share it
pair_shares : map (λ m. m.id) (shared_marks (queue_in (report_of (played both pair_acts)) 0).queued (queue_in (report_of (played both pair_acts)) 1).queued)
    ≡ id 0 1 ∷ []
pair_shares = refl

-- ---- two transactions that are refused, for two reasons: each ERROR has its own

-- a core with topics A and B, where A's clock is full
abbrev pub marks_start : Core
marks_start = new_core (topic_list ((A, 18446744073709551615) ∷ (B, 0) ∷ [])) 64

-- a SEND that the full clock of A refuses, and one to B without memory; both are withdrawn
abbrev pub marks_acts : List Act
marks_acts = opens 0 (opens 1 (reads 0 (send A (codes "m")) ∷ reads 1 (send B (codes "n")) ∷ propose 0 0 ∷ without 1 (propose 1 1)
    ∷ act (Event.Withdraw 0) ∷ act (Event.Withdraw 1) ∷ act (Event.Leave 0) ∷ act (Event.Leave 1) ∷ []))

marks_rows : (shown_outcomes (played marks_start marks_acts)
    ≡ Opened 0 ∷ Done ∷ Opened 1 ∷ Done ∷ Flying (id 0 1) ∷ Flying (id 1 1) ∷ Failed proposals.ClockFull ∷ Failed proposals.NoMemory
    ∷ Withdrawn false ∷ Withdrawn false ∷ Gone false ∷ Gone false ∷ [])
    × ((report_of (played marks_start marks_acts)).outs
    ≡ (greeting ++ codes "ERROR\nmessage:40 ClockFull\ncontent-length:0\n\n\0") ∷ (greeting ++ codes "ERROR\nmessage:42 NoMemory\ncontent-length:0\n\n\0") ∷ [])
    × (agreements marks_start marks_acts ≡ all_agree)
marks_rows = (refl, refl, refl)

-- ---- a reader stands for what it left, also where a frame is due or the stream is at fault

-- a reader that has half a command, and no fault
abbrev pub half : Unread
half = record { limits = reader_limits; text = codes "SE"; answered = None }

-- a reader whose stream is at fault for its command
abbrev pub at_fault : Unread
at_fault = record { limits = reader_limits; text = codes "HI"; answered = Some checks.BadCommand }

-- a Next of connection 0 that had this reading, and was refused as without a frame
abbrev pub after_reading : Reading → CoreStep
after_reading reading = record { event = Event.Next 0; reading = reading; outcome = Refused Refusal.NoFrame }

left_rows : ((unread_at 0 (after_reading (Reading.Waits half) ∷ [])).text ≡ codes "SE")
    × ((unread_at 0 (after_reading (Reading.Fails checks.BadCommand at_fault) ∷ [])).answered ≡ Some checks.BadCommand)
left_rows = (refl, refl)

-- ---- a sender that has no sequence number left: its SEND is answered as without memory, whatever memory there is

-- a core with topic A and one connection, which is connected
abbrev pub connected : Core
connected = played one (opens 0 [])

-- the same, where the sender has used its last sequence number
abbrev pub spent : Core
spent = record connected {
  world = record connected.world { senders = record new_sender { seq = 18446744073709551615 } ∷ [] };
}

spent_outcomes : outcomes spent (Event.Next 0) (Reading.Finds (send A (codes "m")) (unread_of reader_limits))
    ≡ Faulted (ConnectionFault.Session sessions.NoMemory) false ∷ Faulted (ConnectionFault.Session sessions.NoMemory) true ∷ []
spent_outcomes = refl

-- ---- a subscription that isn't closed has no end, or ends by lag

crossing_open : ((queue_in (report_of crossing) 0).cause ≡ None) × ((queue_in (report_of crossing) 0).span.to ≡ None)
crossing_open = (refl, refl)

lagging_queues : map seen (report_of (played narrow (opens 0 (reads 0 (subscribe (codes "s") A) ∷ sends_one 0 (codes "1") (sends_one 0 (codes "2") (sends_one 0 (codes "3") [])))))).subscriptions
    ≡ (topic 0, stamp 0 0, Some (stamp 2 0), Some Lag, stamp 1 0 ∷ stamp 2 0 ∷ [], []) ∷ []
lagging_queues = refl
