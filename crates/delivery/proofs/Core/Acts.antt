-- What the worked rows are written with.
use Rattle.delivery.proofs.Words.All.{ℕ, zero, suc, List, [], ◌∷◌, ◌++◌, map, reverse, codes, Option, Topic, TxnId, SentMessage, PartMessage, Stamp, LogRow, Cause, Command, RawFrame, Check, unread_of, Answer, answers_from, Event, Outcome, Refusal, TopicList, QueueReport, CoreStep, Reading, reader_limits, Core, core_after, moves, outcomes}
use Rattle.stomp_frame.specs.declared.command.Command.TheVariants as commands
use Rattle.stomp_frame.specs.Headers.{Header}

-- the topic of number n
abbrev pub topic : ℕ → Topic
topic n = record { 0 = n }

-- the stamp of number n at topic t
abbrev pub stamp : ℕ → ℕ → Stamp
stamp n t = record { n = n; topic = topic t }

-- the transaction of this sender and sequence number
abbrev pub id : ℕ → ℕ → TxnId
id sender seq = record { sender = record { 0 = sender }; seq = seq }

-- a row of a log: the sender and sequence number, the number and topic of the stamp, and the topics
abbrev pub log_row : ℕ → ℕ → ℕ → ℕ → List ℕ → LogRow
log_row sender seq n t topics = record { id = id sender seq; topics = map topic topics; stamp = stamp n t }

-- topics of these names and opening clocks
abbrev pub topic_list : List (List ℕ × ℕ) → TopicList
topic_list topics = record { names = map (λ t. t.0) topics; clocks = map (λ t. t.1) topics }

-- an event, what is read at it, and which of the outcomes is given
pub record Act : Type 0 where
  pub event : Event
  pub reading : Reading
  pub choice : ℕ

-- an event that reads nothing
abbrev pub act : Event → Act
act e = record { event = e; reading = Reading.Nothing; choice = 0 }

-- a Next that reads this frame
abbrev pub reads : ℕ → RawFrame → Act
reads c f = record { event = Event.Next c; reading = Reading.Finds f (unread_of reader_limits); choice = 0 }

-- a Next that reads this fault
abbrev pub fails : ℕ → Check → Act
fails c k = record { event = Event.Next c; reading = Reading.Fails k (unread_of reader_limits); choice = 0 }

-- a Next that reads none
abbrev pub waits : ℕ → Act
waits c = record { event = Event.Next c; reading = Reading.Waits (unread_of reader_limits); choice = 0 }

-- the same act without memory, by its number among the outcomes
abbrev pub without : ℕ → Act → Act
without choice a = record a { choice = choice }

-- one of these outcomes
abbrev pub pick : ℕ → List Outcome → Outcome
pick n [] = Outcome.Refused Refusal.NotMarked
pick zero (o ∷ os) = o
pick (suc n) (o ∷ os) = pick n os

-- a core after these acts, each with the outcome of its choice
abbrev pub played : Core → List Act → Core
played k [] = k
played k (a ∷ acts) = played (core_after k (record { event = a.event; reading = a.reading; outcome = pick a.choice (outcomes k a.event a.reading) })) acts

-- what came of the acts, the oldest first
abbrev pub shown_outcomes : Core → List Outcome
shown_outcomes k = reverse (map (λ step. step.outcome) k.steps)

-- a frame of this command, headers and body
abbrev pub frame : Command → List Header → List ℕ → RawFrame
frame command headers body = record { command = command; headers = headers; body = body }

-- a CONNECT that accepts version 1.2
abbrev pub connect : RawFrame
connect = frame commands.Connect ((codes "accept-version", codes "1.2") ∷ (codes "host", codes "h") ∷ []) []

-- a SUBSCRIBE with this id, to the topic of this name
abbrev pub subscribe : List ℕ → List ℕ → RawFrame
subscribe sub name = frame commands.Subscribe ((codes "id", sub) ∷ (codes "destination", name) ∷ []) []

-- a BEGIN of transaction x
abbrev pub begin : List ℕ → RawFrame
begin x = frame commands.Begin ((codes "transaction", x) ∷ []) []

-- a SEND in transaction x, to the topic of this name
abbrev pub send_in : List ℕ → List ℕ → List ℕ → RawFrame
send_in x name body = frame commands.Send ((codes "destination", name) ∷ (codes "transaction", x) ∷ []) body

-- a SEND outside a transaction, to the topic of this name
abbrev pub send : List ℕ → List ℕ → RawFrame
send name body = frame commands.Send ((codes "destination", name) ∷ []) body

-- a COMMIT of transaction x
abbrev pub commit : List ℕ → RawFrame
commit x = frame commands.Commit ((codes "transaction", x) ∷ []) []

-- a DISCONNECT without headers
abbrev pub disconnect : RawFrame
disconnect = frame commands.Disconnect [] []

-- the same frame, asking for a receipt
abbrev pub asking : List ℕ → RawFrame → RawFrame
asking receipt f = record f { headers = f.headers ++ (codes "receipt", receipt) ∷ [] }

-- a connection c is opened and connected
abbrev pub opens : ℕ → List Act → List Act
opens c then = act Event.Open ∷ reads c connect ∷ then

-- a Propose of connection c at topic t
abbrev pub propose : ℕ → ℕ → Act
propose c t = act (Event.Propose c (topic t))

-- a Turn of topic t
abbrev pub turn : ℕ → Act
turn t = act (Event.Turn (topic t))

-- what the machine answered to its own events, the newest first, but for refusals and what has nothing to tell
abbrev pub heard : List Answer → List Answer
heard [] = []
heard (Answer.Refused why ∷ before) = heard before
heard (Answer.Done ∷ before) = heard before
heard (o ∷ before) = o ∷ heard before

-- the core and what its machine answered
abbrev pub machine_after : Core × List Answer → Act → Core × List Answer
machine_after p a =
    let o = pick a.choice (outcomes p.0 a.event a.reading) in let step : CoreStep = record { event = a.event; reading = a.reading; outcome = o } in
    (core_after p.0 step, answers_from (moves p.0 a.event a.reading o) p.0.world p.1)

-- what the machine answered once these acts are played too, but for refusals and Done
abbrev pub machine_account : Core × List Answer → List Act → List Answer
machine_account p [] = heard p.1
machine_account p (a ∷ acts) = machine_account (machine_after p a) acts

-- a subscription as a row shows it: its span, why that ended, and the stamps of its queued and its delivered items
abbrev pub seen : QueueReport → Topic × Stamp × Option Stamp × Option Cause × List Stamp × List Stamp
seen q = (q.span.topic, q.span.from, q.span.to, q.cause, map (λ i. i.stamp) q.queued, map (λ i. i.stamp) q.handed)

-- the headers of a SEND in a transaction
abbrev pub in_to : List ℕ → List ℕ → List Header
in_to x name = (codes "destination", name) ∷ (codes "transaction", x) ∷ []

-- the headers of a SEND in transaction x, to the topic of this name
abbrev pub x_to : List ℕ → List Header
x_to name = in_to (codes "x") name

-- the headers of a SEND in transaction y, to the topic of this name
abbrev pub y_to : List ℕ → List Header
y_to name = in_to (codes "y") name

-- a SEND as a transaction has it, and as a part has it
abbrev pub made : ℕ → List Header → List ℕ → SentMessage
made t headers body = record { topic = topic t; headers = headers; body = body }

-- a SEND as a part has it: its index in the transaction, its headers and its body
abbrev pub part : ℕ → List Header → List ℕ → PartMessage
part index headers body = record { index = index; headers = headers; body = body }

-- the name of topic A
abbrev pub A : List ℕ
A = codes "A"

-- the name of topic B
abbrev pub B : List ℕ
B = codes "B"
