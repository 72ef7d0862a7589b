-- Worked examples of what a connection asks of the broker, and what it takes of its queues.
use Rattle.std.proofs.Common.{◌≡◌, ℕ, ◌<◌, ◌≤◌, ◌^◌, nat_lt, Bool, true, false, List, [], ◌∷◌, ◌++◌, length, map, codes, Option, Some, None, Ok, inl, inr, refl, ap, ◌∙◌, arith}
use Rattle.std.proofs.lemmas.Bool.Decides.{nat_tests}
use Rattle.mcast_txn.specs.Span.{Item}
use Rattle.mcast_txn.specs.declared.stamp.Stamp.{Stamp}
use Rattle.sender_gate.specs.Gate.{FlightState, GateState, gate_after}
use Rattle.stomp_frame.specs.declared.case_fault.CaseFault.{CaseFault}
use Rattle.stomp_frame.specs.declared.case_fault.RequiredHeader.{RequiredHeader}
use Rattle.stomp_frame.specs.declared.command.Command.TheVariants as commands
use Rattle.stomp_frame.specs.declared.raw_frame.RawFrame.{RawFrame}
use Rattle.stomp_frame.specs.ServerFrames.{receipt_frame}
use Rattle.delivery.specs.Core.Output.{messages_for}
use Rattle.delivery.specs.declared.connection_fault.ConnectionFault.TheVariants as connection
use Rattle.broker_server.specs.declared.conversation.conversation_fault.ConversationFault.{ConversationFault}
use Rattle.broker_server.specs.declared.conversation.conversation_fault.ConversationFault.TheVariants as fault
use Rattle.broker_server.specs.declared.conversation.extent.Extent.TheVariants.{All, ButLags, Rest}
use Rattle.broker_server.specs.declared.conversation.drained.Taking.TheVariants.{Emptied, Stopped, Halfway, Failed}
use Rattle.broker_server.specs.BrokerRows.{AsksLag, GivesBack, IsGateAfter, SubName, Takes, Unsubscribes}
use Rattle.broker_server.specs.ConversationFaults.{tells_version}
use Rattle.broker_server.specs.Conversations.{ConversationState, EndsSub, OpenSubState, begun_sub, closing_rows, gate_rows, next_without}
use Rattle.broker_server.specs.Delivering.{Drains, DrainsAll, DrainsOn, DrainsQueues, IsLag, begins_at, flags_left, full_wire, has_room, left_behind, taken_messages, with_messages}
use Rattle.broker_server.specs.Judging.{Grows}
use Rattle.broker_server.specs.Wires.{spelling_with_eol}

-- the subscription of this number at topic 0, whose flag is the bit of its number
abbrev named : ℕ → SubName
named n = record { topic = record { 0 = 0 }; number = n; flag = 2 ^ n }

-- three subscriptions, whose queues hold two items
abbrev a : OpenSubState
a = begun_sub (codes "a") false (named 0) 2

abbrev b : OpenSubState
b = begun_sub (codes "b") false (named 1) 2

abbrev c : OpenSubState
c = begun_sub (codes "c") false (named 2) 2

-- ---- names, subscriptions, gates

-- A and B grow to A, B and C
pub a_third_name : Grows (codes "A" ∷ codes "B" ∷ []) (codes "A" ∷ codes "B" ∷ codes "C" ∷ [])
a_third_name = (codes "C" ∷ [], refl)

-- UNSUBSCRIBE b ends the second of two
pub second_ends : (s : ConversationState) → s.subs ≡ a ∷ b ∷ [] → EndsSub (codes "b") s (Unsubscribes (named 1) ∷ []) (record s { subs = a ∷ []; next = next_without 1 s.next })
second_ends s two = inl (a ∷ [], [], b, two, refl, refl, refl, refl)

-- what a connection with two subscriptions and a gate asks as it leaves
pub leaves : (s : ConversationState) (gate : GateState) → s.subs ≡ a ∷ b ∷ [] → s.gate ≡ Some gate → closing_rows s ≡ Unsubscribes (named 0) ∷ Unsubscribes (named 1) ∷ GivesBack gate ∷ []
leaves s gate two has =
    ap (λ (os : List OpenSubState). map (λ (o : OpenSubState). Unsubscribes o.sub) os ++ gate_rows s.gate) two
    ∙ ap (λ (g : Option GateState). Unsubscribes (named 0) ∷ Unsubscribes (named 1) ∷ gate_rows g) has

-- the gate that a flight leaves, whatever floor it comes to
pub flight_leaves : (flight : FlightState) (floor : Stamp) → IsGateAfter flight (gate_after flight floor)
flight_leaves flight floor = (floor, refl)

-- ---- what is written

-- the RECEIPT of `r`: behind its NULL stands LF
pub a_receipt_with_its_eol : spelling_with_eol (receipt_frame (codes "r")) ≡ codes "RECEIPT\nreceipt-id:r\n\n\0\n"
a_receipt_with_its_eol = refl

-- ---- queues

-- nothing is left of a queue that is found empty, and it can't have lagged
empty_queue : (n : ℕ) (id : List ℕ) → DrainsOn All 2 (Takes (named n) None ∷ []) (begun_sub id false (named n) 2) [] Emptied (begun_sub id false (named n) 2) []
empty_queue n id = inl (refl, (omega arith, refl, inr (refl, omega arith, refl, refl), refl))

-- of three queues, from the second on, the first is the last that is looked at
pub second_first : DrainsQueues All 2 7 1 (Takes (named 1) None ∷ Takes (named 2) None ∷ Takes (named 0) None ∷ []) (a ∷ b ∷ c ∷ []) [] Emptied (a ∷ b ∷ c ∷ []) [] 1
second_first =
    let last : DrainsAll All 2 7 (Takes (named 2) None ∷ []) (c ∷ []) [] Emptied (c ∷ []) [] 0 =
    (Takes (named 2) None ∷ [], [], refl, Emptied, c, [], [], inl (refl, empty_queue 2 (codes "c")), refl, (refl, refl, refl, refl, refl)) in
    let back : DrainsAll All 2 7 (Takes (named 1) None ∷ Takes (named 2) None ∷ []) (b ∷ c ∷ []) [] Emptied (b ∷ c ∷ []) [] 0 =
    (Takes (named 1) None ∷ [], Takes (named 2) None ∷ [], refl, Emptied, b, c ∷ [], [], inl (refl, empty_queue 1 (codes "b")), refl, last) in
    let front : DrainsAll All 2 7 (Takes (named 0) None ∷ []) (a ∷ []) [] Emptied (a ∷ []) [] 0 =
    (Takes (named 0) None ∷ [], [], refl, Emptied, a, [], [], inl (refl, empty_queue 0 (codes "a")), refl, (refl, refl, refl, refl, refl)) in
    (a ∷ [], b ∷ c ∷ [], refl, refl, Takes (named 1) None ∷ Takes (named 2) None ∷ [], Takes (named 0) None ∷ [], refl, Emptied, b ∷ c ∷ [], a ∷ [], [], 0, 0, back, refl, (front, refl))

-- where the flag of the third alone is set, that is asked alone
pub third_alone : DrainsQueues All 2 4 1 (Takes (named 2) None ∷ []) (a ∷ b ∷ c ∷ []) [] Emptied (a ∷ b ∷ c ∷ []) [] 1
third_alone =
    let last : DrainsAll All 2 4 (Takes (named 2) None ∷ []) (c ∷ []) [] Emptied (c ∷ []) [] 0 =
    (Takes (named 2) None ∷ [], [], refl, Emptied, c, [], [], inl (refl, empty_queue 2 (codes "c")), refl, (refl, refl, refl, refl, refl)) in
    let back : DrainsAll All 2 4 (Takes (named 2) None ∷ []) (b ∷ c ∷ []) [] Emptied (b ∷ c ∷ []) [] 0 =
    ([], Takes (named 2) None ∷ [], refl, Emptied, b, c ∷ [], [], inr (refl, refl, refl, refl, refl), refl, last) in
    let front : DrainsAll All 2 4 [] (a ∷ []) [] Emptied (a ∷ []) [] 0 =
    ([], [], refl, Emptied, a, [], [], inr (refl, refl, refl, refl, refl), refl, (refl, refl, refl, refl, refl)) in
    (a ∷ [], b ∷ c ∷ [], refl, refl, Takes (named 2) None ∷ [], [], refl, Emptied, b ∷ c ∷ [], a ∷ [], [], 0, 0, back, refl, (front, refl))

-- its flag is forgotten then; where a transaction waits, it is kept, and where another queue stopped, too
pub flag_is_forgotten : (flags_left All Emptied 4 ≡ 0) × (flags_left ButLags Emptied 4 ≡ 4) × (flags_left All Stopped 4 ≡ 4)
flag_is_forgotten = (refl, refl, refl)

-- where the second of three isn't emptied, since 65,536 octets wait, the third is next
pub third_next : (wire : List ℕ) → full_wire ≤ length wire → DrainsQueues All 2 7 1 [] (a ∷ b ∷ c ∷ []) wire Stopped (a ∷ b ∷ c ∷ []) wire 2
third_next wire full =
    let back : DrainsAll All 2 7 [] (b ∷ c ∷ []) wire Stopped (b ∷ c ∷ []) wire 1 =
    ([], [], refl, Stopped, b, c ∷ [], wire, inl (refl, inl (refl, (inl full, refl, refl, refl))), refl, (refl, refl, refl, refl, refl)) in
    (a ∷ [], b ∷ c ∷ [], refl, refl, [], [], refl, Stopped, b ∷ c ∷ [], a ∷ [], wire, 1, 0, back, refl, (refl, refl, refl, refl, refl))

-- of a, b and c, where c is next, it is still next when a has gone
pub next_moves : next_without 0 2 ≡ 1
next_moves = refl

-- where none of them is next, it begins at the first
pub begins_anew : begins_at 3 3 ≡ 0
begins_anew = refl

-- A queue of two that gave two items is found empty, and has lagged: it is taken until it is empty again, and then 74 is
-- told.
pub lag_is_told : (why : ConversationFault) → IsLag why → Drains All 2 0 (Takes (named 0) None ∷ AsksLag (named 0) true ∷ Takes (named 0) None ∷ []) (record a { until_lag = 0 }) [] (Failed why) (record a { until_lag = 0; lagged = true }) []
lag_is_told why lag =
    (omega arith, refl, refl, refl, refl, (omega arith, refl, inl (refl, (why, lag, refl), refl), refl))

-- where 65,536 octets wait, nothing is taken
pub wire_is_full : (wire : List ℕ) → full_wire ≤ length wire → Drains All 2 0 [] a wire Stopped a wire
wire_is_full wire full = (inl full, refl, refl, refl)

-- ---- an item that doesn't fit

-- an item of three MESSAGEs, of which the second fills the wire: the third is left, and the first two wait
pub third_is_left : (f g h : RawFrame) (wire : List ℕ) → has_room wire ≡ true → has_room (wire ++ spelling_with_eol f) ≡ true → has_room ((wire ++ spelling_with_eol f) ++ spelling_with_eol g) ≡ false
    → (left_behind (f ∷ g ∷ h ∷ []) wire ≡ h ∷ []) × (with_messages (f ∷ g ∷ h ∷ []) wire ≡ (wire ++ spelling_with_eol f) ++ spelling_with_eol g)
third_is_left f g h wire first second full = rw first (rw second (rw full (refl, refl)))

-- once there is room, the third is written, and the queue, which is empty, is asked for the next item
pub third_goes_on : (h : RawFrame) (wire : List ℕ) → has_room wire ≡ true → has_room (wire ++ spelling_with_eol h) ≡ true → DrainsOn All 2 (Takes (named 0) None ∷ []) (record a { left = h ∷ [] }) wire Emptied a (wire ++ spelling_with_eol h)
third_goes_on h wire room more =
    inl (rw room refl, rw room (below more, refl, inr (refl, omega arith, refl, refl), refl))
  where
    below : nat_lt (length (wire ++ spelling_with_eol h)) full_wire ≡ true → length (wire ++ spelling_with_eol h) < full_wire
    below less = grind (arith, nat_tests)

-- the same while an answer is owed: the third is written, and the queue isn't asked, so that the answer comes next
pub third_comes_alone : (h : RawFrame) (wire : List ℕ) → has_room wire ≡ true → DrainsOn Rest 2 [] (record a { left = h ∷ [] }) wire Stopped a (wire ++ spelling_with_eol h)
third_comes_alone h wire room = inl (rw room refl, rw room (refl, refl, refl, refl))

-- where the second of three queues has one MESSAGE left, and no room, nothing is asked, and that queue is next again
pub second_next_again : (h : RawFrame) (wire : List ℕ) → has_room wire ≡ false → DrainsQueues All 2 2 1 [] (a ∷ record b { left = h ∷ [] } ∷ c ∷ []) wire Halfway (a ∷ record b { left = h ∷ [] } ∷ c ∷ []) wire 1
second_next_again h wire full =
    let second = record b { left = h ∷ [] } in
    let off : DrainsOn All 2 [] second wire Halfway second wire = inr (refl, inl (refl, (rw full refl, rw full refl), refl, refl)) in
    let back : DrainsAll All 2 2 [] (second ∷ c ∷ []) wire Halfway (second ∷ c ∷ []) wire 2 =
    ([], [], refl, Halfway, second, c ∷ [], wire, inl (refl, off), refl, (refl, refl, refl, refl, refl)) in
    (a ∷ [], second ∷ c ∷ [], refl, refl, [], [], refl, Halfway, second ∷ c ∷ [], a ∷ [], wire, 2, 0, back, refl, (refl, refl, refl, refl, refl))

-- ---- ERROR 22

-- a CONNECT without a host that offers 1.1 and 1.2 isn't told the version, and one that offers 1.1 is
abbrev connecting : List ℕ → RawFrame
connecting versions = record { command = commands.Connect; headers = (codes "accept-version", versions) ∷ []; body = [] }

abbrev missing_host : ConversationFault
missing_host = fault.Connection (connection.Frame (CaseFault.Missing RequiredHeader.Host))

pub host_is_missing : (tells_version (Some (connecting (codes "1.1,1.2"))) missing_host ≡ false) × (tells_version (Some (connecting (codes "1.1"))) missing_host ≡ true)
host_is_missing = (refl, refl)

-- what is taken of two items: the MESSAGEs of the first, and then those of the second
pub two_items : (parts : Bool) (id : List ℕ) (first second : Item) (n : SubName) → taken_messages parts id (Takes n (Some first) ∷ Takes n (Some second) ∷ Takes n None ∷ []) ≡ messages_for parts id first ++ (messages_for parts id second ++ [])
two_items parts id first second n = refl
