-- More rows: an empty COMMIT, ids that are used again, faults of the session, a MESSAGE's headers, and each want of memory.
use Rattle.delivery.proofs.Words.All.{refl, ◌≡◌, ℕ, true, false, List, [], ◌∷◌, ◌++◌, map, codes, Some, unread_of, Reading, reader_limits, outcomes, Event, Outcome, Refusal, ConnectionFault, Core, report_of, Fed, Flying, Proposed, Faulted}
use Rattle.delivery.specs.declared.outcome.Outcome.TheVariants.{Opened, Done, Subscribed, Unsubscribed, Failed, Decided, Withdrawn, Cancelled, Turned, Handed, Leaving, Gone, Refused, NoMemory}
use Rattle.std.specs.Fmt.{digits}
use Rattle.mcast_group.specs.declared.cause.Cause.TheVariants.{Asked}
use Rattle.mcast_group.specs.declared.fault.ProposeFault.TheVariants as proposals
use Rattle.stomp_frame.specs.declared.command.Command.TheVariants as commands
use Rattle.stomp_session.specs.declared.fault.SessionFault.TheVariants as sessions
use Rattle.delivery.proofs.Core.Agreement.{agreements, all_agree}
use Rattle.delivery.proofs.Core.Acts.{Act, frame, topic, stamp, id, act, reads, waits, without, played, shown_outcomes, seen, connect, subscribe, begin, send_in, send, commit, disconnect, asking, opens, propose, turn, A, B}
use Rattle.delivery.proofs.Core.Rows.{one, both, greeting, sends_one, to_both}

-- what came of the acts, and the text out of connection 0
abbrev pub shown : Core → List Outcome × List (List ℕ)
shown k = (shown_outcomes k, (report_of k).outs)

-- the text of a RECEIPT with this id
abbrev pub receipt : List ℕ → List ℕ
receipt name = codes "RECEIPT\nreceipt-id:" ++ name ++ codes "\n\n\0"

-- ---- an empty COMMIT: no row, its RECEIPT at once

-- a transaction without SENDs is begun and committed, with a receipt
abbrev pub empty_acts : List Act
empty_acts = opens 0 (reads 0 (begin (codes "x")) ∷ reads 0 (asking (codes "r") (commit (codes "x"))) ∷ waits 0 ∷ [])

empty_rows : (shown (played one empty_acts)
    ≡ (Opened 0 ∷ Done ∷ Done ∷ Done ∷ Refused Refusal.NoFrame ∷ [], (greeting ++ receipt (codes "r")) ∷ []))
    × (agreements one empty_acts ≡ all_agree)
empty_rows = (refl, refl)

-- ---- an id that is used again names the last subscription; another connection's same id is its own

-- an UNSUBSCRIBE of this id by connection 0, with a receipt
abbrev pub unsubscribe : List ℕ → Act
unsubscribe sub = reads 0 (asking (codes "u") (frame commands.Unsubscribe ((codes "id", sub) ∷ []) []))

-- an id that two connections use; one of them ends it, uses it again, and ends one too many
abbrev pub again_acts : List Act
again_acts = opens 0 (opens 1 (
    reads 0 (subscribe (codes "s") A) ∷ reads 0 (subscribe (codes "t") A) ∷ reads 1 (subscribe (codes "s") A) ∷ unsubscribe (codes "s")
    ∷ reads 0 (subscribe (codes "s") B) ∷ unsubscribe (codes "s") ∷ unsubscribe (codes "t") ∷ unsubscribe (codes "s") ∷ []))

again_rows : (shown (played both again_acts)
    ≡ (
      Opened 0 ∷ Done ∷ Opened 1 ∷ Done ∷ Subscribed 0 (stamp 0 0) ∷ Subscribed 1 (stamp 0 0) ∷ Subscribed 2 (stamp 0 0) ∷ Unsubscribed 0 (stamp 0 0)
          ∷ Subscribed 3 (stamp 0 0) ∷ Unsubscribed 3 (stamp 0 0) ∷ Unsubscribed 1 (stamp 0 0) ∷ Faulted (ConnectionFault.Session sessions.NoSuchSub) false ∷ [],
      (greeting ++ receipt (codes "u") ++ receipt (codes "u") ++ receipt (codes "u")
          ++ codes "ERROR\nmessage:64 NoSuchSub\nreceipt-id:u\ncontent-length:0\n\n\0") ∷ greeting ∷ [],
    ))
    × (agreements both again_acts ≡ all_agree)
again_rows = (refl, refl)

-- ---- a span that ends by UNSUBSCRIBE: what is left in its queue isn't handed on

-- a subscription takes its one item, and ends by UNSUBSCRIBE before the second SEND is released
abbrev pub left_acts : List Act
left_acts = opens 0 (opens 1 (
    reads 0 (send A (codes "1")) ∷ propose 0 0 ∷ act (Event.Decide 0) ∷ reads 1 (subscribe (codes "s") A) ∷ turn 0 ∷ act (Event.Take 0)
    ∷ reads 0 (send A (codes "2")) ∷ propose 0 0 ∷ act (Event.Decide 0)
    ∷ reads 1 (frame commands.Unsubscribe ((codes "id", codes "s") ∷ []) []) ∷ turn 0 ∷ act (Event.Take 0) ∷ []))

left_queues : map seen (report_of (played one left_acts)).subscriptions ≡ (topic 0, stamp 0 0, Some (stamp 1 0), Some Asked, stamp 1 0 ∷ [], stamp 1 0 ∷ []) ∷ []
left_queues = refl

left_outs : (report_of (played one left_acts)).outs
    ≡ greeting ∷ (greeting ++ codes "MESSAGE\nsubscription:s\nmessage-id:1.0.0\ndestination:A\ncontent-length:1\n\n1\0") ∷ []
unfolding digits
left_outs = refl

left_agrees : agreements one left_acts ≡ all_agree
left_agrees = refl

-- ---- faults of the session, and checks of events

-- frames that a session refuses: SEND before CONNECT, a second CONNECT, version 1.1; then events refused
abbrev pub early : List Act
early = act Event.Open ∷ reads 0 (asking (codes "r") (send A []))
    ∷ act Event.Open ∷ reads 1 connect ∷ reads 1 (asking (codes "r") connect)
    ∷ act Event.Open ∷ reads 2 (frame commands.Stomp ((codes "accept-version", codes "1.1") ∷ (codes "host", codes "h") ∷ []) [])
    ∷ act (Event.Next 9) ∷ act Event.Open ∷ act (Event.Propose 3 (topic 0)) ∷ act (Event.Leave 3) ∷ []

early_shown : shown (played one early)
    ≡ (
      Opened 0 ∷ Faulted (ConnectionFault.Session sessions.NotConnected) false ∷ Opened 1 ∷ Done ∷ Faulted (ConnectionFault.Session sessions.AlreadyConnected) false
          ∷ Opened 2 ∷ Faulted (ConnectionFault.Session sessions.NoVersion) false ∷ Refused Refusal.NoConn ∷ Opened 3 ∷ Refused Refusal.NoFlight ∷ Refused Refusal.NotLeaving ∷ [],
      codes "ERROR\nmessage:60 NotConnected\nreceipt-id:r\ncontent-length:0\n\n\0"
          ∷ (greeting ++ codes "ERROR\nmessage:61 AlreadyConnected\ncontent-length:0\n\n\0")
          ∷ codes "ERROR\nmessage:62 NoVersion\nversion:1.2\ncontent-length:0\n\n\0" ∷ [] ∷ [],
    )
early_shown = refl

-- the checks in their order: no such connection; gone; leaving, or with a flight; no frame
abbrev pub pieces : ℕ → Core → List Outcome
pieces c k = outcomes k (Event.Piece c []) Reading.Nothing

pieces_checked : pieces 0 one ∷ pieces 0 (played one (opens 0 (act (Event.Lost 0) ∷ []))) ∷ pieces 0 (played one (opens 0 (act (Event.Lost 0) ∷ act (Event.Leave 0) ∷ [])))
    ∷ pieces 0 (played both (opens 0 (to_both 0 []))) ∷ []
    ≡ (Refused Refusal.NoConn ∷ []) ∷ (Refused Refusal.Busy ∷ []) ∷ (Refused Refusal.Gone ∷ []) ∷ (Fed ∷ NoMemory ∷ []) ∷ []
pieces_checked = refl

-- what a Next of connection c that reads no frame may answer
abbrev pub nexts : ℕ → Core → List Outcome
nexts c k = outcomes k (Event.Next c) (Reading.Waits (unread_of reader_limits))

nexts_checked : nexts 0 one ∷ nexts 0 (played one (opens 0 (act (Event.Lost 0) ∷ act (Event.Leave 0) ∷ []))) ∷ nexts 0 (played both (opens 0 (to_both 0 [])))
    ∷ nexts 0 (played one (opens 0 [])) ∷ []
    ≡ (Refused Refusal.NoConn ∷ []) ∷ (Refused Refusal.Gone ∷ []) ∷ (Refused Refusal.Busy ∷ []) ∷ (Refused Refusal.NoFrame ∷ []) ∷ []
nexts_checked = refl

-- ---- a MESSAGE's headers, and a RECEIPT at Decide

-- a SEND with a content type, a receipt and a header twice, delivered to a subscription
abbrev pub headers_acts : List Act
headers_acts = opens 0 (reads 0 (subscribe (codes "s") A)
    ∷ reads 0 (frame commands.Send ((codes "destination", A) ∷ (codes "content-type", codes "text/plain") ∷ (codes "receipt", codes "q") ∷ (codes "x", codes "1") ∷ (codes "x", codes "2") ∷ []) (codes "hi"))
    ∷ propose 0 0 ∷ act (Event.Decide 0) ∷ turn 0 ∷ act (Event.Take 0) ∷ [])

headers_outs : (report_of (played one headers_acts)).outs
    ≡ (greeting ++ receipt (codes "q") ++ codes "MESSAGE\nsubscription:s\nmessage-id:1.0.0\ndestination:A\ncontent-length:2\ncontent-type:text/plain\nx:1\n\nhi\0") ∷ []
unfolding digits
headers_outs = refl

-- ---- a proposal without memory: withdrawn, with its ERROR or without, and cancelled

-- a proposal at B finds no memory: the transaction is withdrawn, and cancelled at A
abbrev pub starved : ℕ → List Act
starved choice = opens 0 (to_both 0 (propose 0 0 ∷ without 1 (propose 0 1) ∷ without choice (act (Event.Withdraw 0))
    ∷ act (Event.Leave 0) ∷ act (Event.Cancel 0 (topic 0)) ∷ turn 0 ∷ act (Event.Leave 0) ∷ []))

starved_rows : (shown (played both (starved 0))
    ≡ (
      Opened 0 ∷ Done ∷ Done ∷ Done ∷ Done ∷ Flying (id 0 1) ∷ Proposed 1 ∷ Failed proposals.NoMemory ∷ Withdrawn false
          ∷ Refused Refusal.Busy ∷ Cancelled ∷ Turned 0 ∷ Gone false ∷ [],
      (greeting ++ codes "ERROR\nmessage:42 NoMemory\nreceipt-id:q\ncontent-length:0\n\n\0") ∷ [],
    ))
    × (shown (played both (starved 1))
    ≡ (
      Opened 0 ∷ Done ∷ Done ∷ Done ∷ Done ∷ Flying (id 0 1) ∷ Proposed 1 ∷ Failed proposals.NoMemory ∷ Withdrawn true
          ∷ Refused Refusal.Busy ∷ Cancelled ∷ Turned 0 ∷ Gone false ∷ [],
      greeting ∷ [],
    ))
    × (agreements both (starved 1) ≡ all_agree)
starved_rows = (refl, refl, refl)

-- ---- a RECEIPT of DISCONNECT that finds no memory; a Take that finds none, and then hands the item

-- a Take without memory and one with it; a DISCONNECT whose RECEIPT finds no memory
abbrev pub byes : List Act
byes = opens 0 (reads 0 (subscribe (codes "s") A) ∷ sends_one 0 (codes "m") (without 1 (act (Event.Take 0)) ∷ act (Event.Take 0)
    ∷ reads 0 (asking (codes "bye") disconnect) ∷ act (Event.Leave 0) ∷ without 1 (act (Event.Leave 0)) ∷ []))

byes_shown : shown (played one byes)
    ≡ (
      Opened 0 ∷ Done ∷ Subscribed 0 (stamp 0 0) ∷ Flying (id 0 1) ∷ Proposed 1 ∷ Decided (stamp 1 0) false ∷ Turned 1
          ∷ NoMemory ∷ Handed 1 ∷ Leaving ∷ Unsubscribed 0 (stamp 1 0) ∷ Gone true ∷ [],
      (greeting ++ codes "MESSAGE\nsubscription:s\nmessage-id:1.0.0\ndestination:A\ncontent-length:1\n\nm\0") ∷ [],
    )
unfolding digits
byes_shown = refl

byes_agrees : agreements one byes ≡ all_agree
byes_agrees = refl

-- ---- a frame that finds no memory: 72, with its ERROR or without, and no effect

-- a COMMIT that finds no memory, with this choice of outcome: no transaction is in flight after it
abbrev pub lacking : ℕ → List Act
lacking choice = opens 0 (reads 0 (begin (codes "x")) ∷ reads 0 (send_in (codes "x") A (codes "m"))
    ∷ without choice (reads 0 (asking (codes "q") (commit (codes "x")))) ∷ act (Event.Propose 0 (topic 0)) ∷ act (Event.Leave 0) ∷ [])

lacking_rows : (shown (played one (lacking 1))
    ≡ (
      Opened 0 ∷ Done ∷ Done ∷ Done ∷ Faulted (ConnectionFault.Session sessions.NoMemory) false ∷ Refused Refusal.NoFlight ∷ Gone false ∷ [],
      (greeting ++ codes "ERROR\nmessage:72 NoMemory\nreceipt-id:q\ncontent-length:0\n\n\0") ∷ [],
    ))
    × ((report_of (played one (lacking 2))).outs ≡ greeting ∷ [])
lacking_rows = (refl, refl)

-- the same where the reader found none for what is unread: of no frame, so without its receipt
abbrev pub dry : Core
dry = played one (opens 0 (act (Event.Piece 0 (codes "SEND")) ∷ act (Event.Next 0) ∷ []))

-- where all is read, it wants none
idle_rows : (outcomes (played one (opens 0 [])) (Event.Next 0) Reading.Nothing ≡ [])
    × (shown dry ≡ (Opened 0 ∷ Done ∷ Fed ∷ Faulted ConnectionFault.ReaderNoMemory false ∷ [], (greeting ++ codes "ERROR\nmessage:72 NoMemory\ncontent-length:0\n\n\0") ∷ []))
idle_rows = (refl, refl)

-- what may be answered, first with memory: to a Leave that has a RECEIPT to write, to one that hasn't, and to a Withdraw of a lost connection
abbrev pub going : List ℕ → Core
going name = played one (opens 0 (reads 0 (asking name disconnect) ∷ []))

quiet_rows : (outcomes (going (codes "bye")) (Event.Leave 0) Reading.Nothing ≡ Gone false ∷ Gone true ∷ [])
    × (outcomes (played one (opens 0 (act (Event.Lost 0) ∷ []))) (Event.Leave 0) Reading.Nothing ≡ Gone false ∷ [])
    × (outcomes (played both (opens 0 (to_both 0 (without 1 (propose 0 0) ∷ act (Event.Lost 0) ∷ [])))) (Event.Withdraw 0) Reading.Nothing ≡ Withdrawn false ∷ [])
quiet_rows = (refl, refl, refl)
