-- Worked rows of topics that are made on first use.
use Rattle.delivery.proofs.Words.All.{false, refl, ◌≡◌, List, [], ◌∷◌, ◌++◌, map, codes, range_with_len, Event, Refusal, ConnectionFault, Core, new_core, names_at, report_of, Flying, Proposed, Faulted}
use Rattle.delivery.specs.declared.outcome.Outcome.TheVariants.{Opened, Done, Subscribed, Decided, Turned, Handed, Refused}
use Rattle.stomp_frame.specs.declared.command.Command.TheVariants as commands
use Rattle.stomp_session.specs.declared.fault.SessionFault.TheVariants as sessions
use Rattle.delivery.proofs.Core.Agreement.{agreements, all_agree}
use Rattle.delivery.proofs.Core.Rows.{greeting, one}
use Rattle.delivery.proofs.Core.Acts.{topic_list, Act, frame, topic, stamp, id, log_row, act, reads, without, played, shown_outcomes, subscribe, begin, send, send_in, commit, opens, propose, turn, A, B}

-- ---- no opening topics

-- a core without topics
abbrev pub nothing : Core
nothing = new_core (topic_list []) 64

-- SUBSCRIBE to A, a SEND to B, and one to `A B`, which is no topic's name
abbrev pub first_acts : List Act
first_acts = opens 0 (
    reads 0 (subscribe (codes "s") A) ∷ reads 0 (send B (codes "m")) ∷ propose 0 0 ∷ propose 0 1 ∷ act (Event.Decide 0)
    ∷ turn 2 ∷ turn 1 ∷ reads 0 (send (codes "A B") []) ∷ [])

-- the core after them
abbrev pub first : Core
first = played nothing first_acts

first_rows : (shown_outcomes first
    ≡ Opened 0 ∷ Done ∷ Subscribed 0 (stamp 0 0) ∷ Flying (id 0 1) ∷ Refused Refusal.NotNamed ∷ Proposed 1 ∷ Decided (stamp 1 1) false
    ∷ Refused Refusal.NotNamed ∷ Turned 1 ∷ Faulted (ConnectionFault.Session sessions.BadDestination) false ∷ [])
    × (agreements nothing first_acts ≡ all_agree)
    × (names_at first ≡ A ∷ B ∷ [])
    × ((report_of first).outs ≡ (greeting ++ codes "ERROR\nmessage:76 BadDestination\ncontent-length:0\n\n\0") ∷ [])
first_rows = (refl, refl, refl, refl)

-- ---- an aborted transaction's topic stays; names differ by case; a frame that is refused makes none

-- SEND to b in a transaction that is aborted; SEND to c without memory; SUBSCRIBEs to d, b and B; a SEND to e in a
-- transaction that isn't open
abbrev pub aborted_acts : List Act
aborted_acts = opens 0 (opens 1 (
    reads 0 (begin (codes "x")) ∷ reads 0 (send_in (codes "x") (codes "b") (codes "m"))
    ∷ reads 0 (frame commands.Abort ((codes "transaction", codes "x") ∷ []) [])
    ∷ without 1 (reads 0 (send (codes "c") []))
    ∷ reads 1 (subscribe (codes "s") (codes "d")) ∷ reads 1 (subscribe (codes "t") (codes "b")) ∷ reads 1 (subscribe (codes "u") (codes "B"))
    ∷ reads 1 (frame commands.Send ((codes "destination", codes "e") ∷ (codes "transaction", codes "q") ∷ []) [])
    ∷ []))

-- the core after them, which began with A
abbrev pub aborted : Core
aborted = played one aborted_acts

aborted_rows : (shown_outcomes aborted
    ≡ Opened 0 ∷ Done ∷ Opened 1 ∷ Done ∷ Done ∷ Done ∷ Done ∷ Faulted (ConnectionFault.Session sessions.NoMemory) false
    ∷ Subscribed 0 (stamp 0 0) ∷ Subscribed 1 (stamp 0 0) ∷ Subscribed 2 (stamp 0 0) ∷ Faulted (ConnectionFault.Session sessions.NoSuchTxn) false ∷ [])
    × (names_at aborted ≡ A ∷ codes "b" ∷ codes "d" ∷ B ∷ [])
    × (map (λ q. q.span.topic) (report_of aborted).subscriptions ≡ topic 2 ∷ topic 1 ∷ topic 3 ∷ [])
    × (agreements one aborted_acts ≡ all_agree)
aborted_rows = (refl, refl, refl, refl)

-- ---- a transaction whose SENDs make topics while another connection makes others

-- SEND to p in a transaction, another's SUBSCRIBE to q, SENDs to r and q in it, another's SEND to w, which is decided
-- first; then the COMMIT
abbrev pub mixed_acts : List Act
mixed_acts = opens 0 (opens 1 (
    reads 0 (begin (codes "x")) ∷ reads 0 (send_in (codes "x") (codes "p") (codes "1"))
    ∷ reads 1 (subscribe (codes "s") (codes "q")) ∷ reads 0 (send_in (codes "x") (codes "r") (codes "2")) ∷ reads 0 (send_in (codes "x") (codes "q") (codes "3"))
    ∷ reads 1 (send (codes "w") []) ∷ propose 1 3 ∷ act (Event.Decide 1)
    ∷ reads 0 (commit (codes "x")) ∷ propose 0 0 ∷ propose 0 1 ∷ propose 0 2 ∷ act (Event.Decide 0) ∷ turn 1 ∷ act (Event.Take 0) ∷ []))

mixed_rows : (shown_outcomes (played nothing mixed_acts)
    ≡ Opened 0 ∷ Done ∷ Opened 1 ∷ Done ∷ Done ∷ Done ∷ Subscribed 0 (stamp 0 0) ∷ Done ∷ Done
    ∷ Flying (id 1 1) ∷ Proposed 1 ∷ Decided (stamp 1 3) false
    ∷ Flying (id 0 1) ∷ Proposed 1 ∷ Proposed 1 ∷ Proposed 1 ∷ Decided (stamp 1 2) false ∷ Turned 1 ∷ Handed 1 ∷ [])
    × (agreements nothing mixed_acts ≡ all_agree)
    × ((report_of (played nothing mixed_acts)).commits ≡ log_row 1 1 1 3 (3 ∷ []) ∷ log_row 0 1 1 2 (0 ∷ 1 ∷ 2 ∷ []) ∷ [])
mixed_rows = (refl, refl, refl)

-- ---- 1,024 topics are there

-- a core of 1,024 topics
abbrev pub many : Core
many = new_core (topic_list (map (λ n. (65 ∷ n ∷ [], 0)) (range_with_len 0 1024))) 64

many_outcomes : shown_outcomes (played many (opens 0 (opens 1 (
    reads 0 (send (65 ∷ 1023 ∷ []) []) ∷ reads 1 (send (codes "new") []) ∷ []))))
    ≡ Opened 0 ∷ Done ∷ Opened 1 ∷ Done ∷ Flying (id 0 1) ∷ Faulted (ConnectionFault.Session sessions.TooManyTopics) false ∷ []
many_outcomes = refl

-- which comes first: 68, 76, 75, 63; 76, 75, 66
first_of_all : shown_outcomes (played many (opens 0 (opens 1 (opens 2 (opens 3 (
    reads 0 (frame commands.Subscribe ((codes "id", codes "s") ∷ (codes "destination", codes "A B") ∷ (codes "ack", codes "client") ∷ []) [])
    ∷ reads 1 (frame commands.Subscribe ((codes "id", codes "s") ∷ (codes "destination", codes "A B") ∷ []) [])
    ∷ reads 2 (frame commands.Send ((codes "destination", codes "new") ∷ (codes "transaction", codes "q") ∷ []) [])
    ∷ reads 3 (frame commands.Send ((codes "destination", []) ∷ (codes "transaction", codes "q") ∷ []) []) ∷ []))))))
    ≡ Opened 0 ∷ Done ∷ Opened 1 ∷ Done ∷ Opened 2 ∷ Done ∷ Opened 3 ∷ Done
    ∷ Faulted (ConnectionFault.Session sessions.AckMode) false ∷ Faulted (ConnectionFault.Session sessions.BadDestination) false
    ∷ Faulted (ConnectionFault.Session sessions.TooManyTopics) false ∷ Faulted (ConnectionFault.Session sessions.BadDestination) false ∷ []
first_of_all = refl
