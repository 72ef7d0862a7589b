-- Lines of those who wait for room: for what the first waits, who stands there, and what a transaction that waits does.
use Rattle.std.specs.Prelude.{ℕ, Bool, true, false, Option, Some, None, List, ◌≡◌, ◌==◌, ◌++◌, ◌+◌, ◌-◌, ◌^◌, nat_lt, length, take, if◌then◌else◌}
use Rattle.std.specs.Option.{is_none}
use Rattle.mcast_txn.specs.declared.id.Topic.{Topic}
use Rattle.broker_server.specs.declared.serving.links.Links.{Links}
use Rattle.broker_server.specs.declared.serving.mark.Mark.{Mark}
use Rattle.broker_server.specs.declared.serving.mark.Mark.TheVariants as mark
use Rattle.broker_server.specs.declared.serving.queue.Queue.{Queue}
use Rattle.broker_server.specs.declared.serving.room_made.RoomMade.{RoomMade}
use Rattle.broker_server.specs.declared.serving.room_made.RoomMade.TheVariants as made
use Rattle.broker_server.specs.declared.serving.room_step.RoomFacts.{RoomFacts}
use Rattle.broker_server.specs.declared.serving.room_step.RoomStep.{RoomStep}
use Rattle.broker_server.specs.declared.serving.room_step.RoomStep.TheVariants as step
use Rattle.broker_server.specs.declared.serving.room_step.Spot.{Spot}
use Rattle.broker_server.specs.declared.serving.room_step.Spot.TheVariants as spot

-- The code of a mark. The last four numbers have none.
abbrev pub code_of : Mark → ℕ
code_of mark.Nobody = 0
code_of mark.Anything = 1
code_of mark.Rung = 2
code_of mark.Due = 3
code_of (mark.Sub n) = if nat_lt (n + 4) (2 ^ 64) then n + 4 else 1

-- the mark of a code
abbrev pub mark_of : ℕ → Mark
mark_of code =
    if code == 0 then mark.Nobody
    else if code == 1 then mark.Anything
    else if code == 2 then mark.Rung
    else if code == 3 then mark.Due
    else mark.Sub (code - 4)

-- Room that was made so may be what the first waits for.
abbrev pub rings : RoomMade → Mark → Bool
rings by mark.Nobody = false
rings by mark.Anything = true
rings by mark.Rung = false
rings (made.At n) mark.Due = false
rings made.Turned mark.Due = true
rings made.Freed mark.Due = true
rings (made.At n) (mark.Sub m) = m == n
rings made.Turned (mark.Sub m) = false
rings made.Freed (mark.Sub m) = true

-- whether this is that desk's number
abbrev pub is_desk : ℕ → Option ℕ → Bool
is_desk desk None = false
is_desk desk (Some other) = other == desk

-- A queue once one more came.
abbrev pub queue_with : ℕ → Queue → Queue
queue_with desk queue = record {
  first = if is_none queue.last then Some desk else queue.first;
  last = Some desk;
}

-- A queue once one left that stood between these.
abbrev pub queue_without : ℕ → Links → Queue → Queue
queue_without desk links queue = record {
  first = if is_desk desk queue.first then links.behind else queue.first;
  last = if is_desk desk queue.last then links.before else queue.last;
}

-- what a transaction does next that waits for room, and hasn't it at all its topics
abbrev pub step_at : Spot → RoomFacts → RoomStep
step_at spot.First facts = step.Look
step_at spot.Behind facts = step.Sleep
step_at spot.ForPlace facts = step.TakePlace
step_at spot.Nowhere facts =
    if facts.is_refused
    then (if nat_lt facts.places facts.room then step.TakePlace else step.Join)
    else step.Ask

-- What a transaction does next that waits for room.
abbrev pub next_step : RoomFacts → RoomStep
next_step facts =
    if nat_lt facts.room facts.topics then step_at facts.spot facts else step.Done

-- Room is reserved at the first of these topics.
abbrev pub IsRoomAt : List Topic → List Topic → Type 0
IsRoomAt topics room = room ≡ take (length room) topics

-- Room is reserved at the first of these topics, too, behind what was.
abbrev pub IsRoomFrom : List Topic → List Topic → List Topic → Type 0
IsRoomFrom old topics room = (n : ℕ) × (room ≡ old ++ take n topics)
