-- Worked examples of transactions that wait for room.
use Rattle.std.proofs.Common.{◌≡◌, ℕ, true, false, List, [], ◌∷◌, ◌++◌, Option, Some, None, Ok, Err, append-nil, inl, inr, refl, sym, ap, arith}
use Rattle.mcast_txn.specs.declared.draft.sent_message.SentMessage.{SentMessage}
use Rattle.mcast_txn.specs.declared.stamp.Stamp.{Stamp}
use Rattle.mcast_txn.specs.Transaction.{topics_of}
use Rattle.sender_gate.specs.Gate.{FlightState, GateState, begin_fault, flight_of, gate_after}
use Rattle.std.specs.List.{flat_map}
use Rattle.stomp_frame.specs.Reader.{NextReturns}
use Rattle.stomp_frame.specs.ServerFrames.{receipt_frame}
use Rattle.stomp_session.specs.declared.action.Action.TheVariants as actions
use Rattle.stomp_session.specs.declared.action.Step.{Step}
use Rattle.broker_server.specs.declared.conversation.conversation_fault.ConversationFault.TheVariants as fault
use Rattle.broker_server.specs.declared.conversation.extent.Extent.TheVariants.{ButLags}
use Rattle.broker_server.specs.declared.conversation.held.Held.{Held}
use Rattle.broker_server.specs.declared.conversation.held.Held.TheVariants.{Waits, Owes}
use Rattle.broker_server.specs.declared.conversation.drained.Taking.TheVariants.{Emptied}
use Rattle.broker_server.specs.BrokerRows.{AsksRoom, Commits, GivesRoomBack, SubName, Takes, TakesFlags, Unsubscribes}
use Rattle.broker_server.specs.Conversations.{Acts, CommitsBy, ConversationState, Done, OpenSubState}
use Rattle.broker_server.specs.Delivering.{Drains, may_read}
use Rattle.broker_server.specs.Hearing.{GoesOn, TakesAll}
use Rattle.broker_server.specs.Wires.{spelling_with_eol}
use Rattle.broker_server.proofs.HearingLemmas.{if_half, if_whole}
use Rattle.broker_server.specs.Waiting.{asked_for_frames, but_room}
use Rattle.broker_server.specs.Waiting.{Heard, WentOn, Delivered, Wrote}

-- a SEND of one message, or a COMMIT of more, without a receipt
abbrev sending : List SentMessage → Step
sending sends = record { action = actions.Commit sends; receipt = None }

-- one that finds no room is held, and nothing else changes
pub send_waits : (s : ConversationState) (sends : List SentMessage) → Acts (sending sends) s (AsksRoom (topics_of sends) false ∷ []) (record s { held = Some (Waits sends None) })
send_waits s sends = inr (sends, refl, refl, refl)

-- nothing is read then
pub nothing_is_read : (s : ConversationState) (what : Held) → s.exit ≡ None → may_read (record s { held = Some what }) ≡ false
nothing_is_read s what open_yet = rw open_yet refl

-- where room is refused again, it waits on
pub waits_on : (s : ConversationState) (sends : List SentMessage) → s.half ≡ false → GoesOn (record s { held = Some (Waits sends None) }) (AsksRoom (topics_of sends) false ∷ []) (record s { held = Some (Waits sends None) })
waits_on s sends whole =
    let waits = record s { held = Some (Waits sends None) } in
    let taken : TakesAll waits [] waits = ([], waits, [], [], refl, (refl, refl), inl (inr refl, refl, refl)) in
    inr (Waits sends None, refl, if_whole s.half _ _ whole (waits, AsksRoom (topics_of sends) false ∷ [], [], refl, inr (sends, refl, refl, refl), taken))

-- while an item is half out, too
pub waits_halfway : (s : ConversationState) (sends : List SentMessage) → s.half ≡ true → GoesOn (record s { held = Some (Waits sends None) }) (AsksRoom (topics_of sends) false ∷ []) (record s { held = Some (Waits sends None) })
waits_halfway s sends half = inr (Waits sends None, refl, if_half s.half _ _ half (inl (refl, refl)))

-- where there is some then, its flight is committed, the gate comes back, and the RECEIPT is owed: what waits to be written is
-- as it was
pub is_owed : (s : ConversationState) (sends : List SentMessage) (receipt : List ℕ) (gate : GateState) (floor : Stamp) → s.gate ≡ Some gate → s.half ≡ true
    → GoesOn (record s { held = Some (Waits sends (Some receipt)) }) (AsksRoom (topics_of sends) true ∷ Commits (flight_of gate sends) (Ok (gate_after (flight_of gate sends) floor)) ∷ []) (record s { held = Some (Owes (Ok tt) (Some receipt)); gate = Some (gate_after (flight_of gate sends) floor) })
is_owed s sends receipt gate floor has half =
    let flight = flight_of gate sends in
    let left = gate_after flight floor in
    inr (
      Waits sends (Some receipt),
      refl,
      if_half s.half _ _ half
          (inr (Ok tt, record s { held = None; gate = Some left }, (Commits flight (Ok left) ∷ [], refl, inl (gate, left, has, inr (inl (refl, refl, (floor, refl))), refl)), refl)),
    )

-- it is owed until the item is out
pub owes_halfway : (s : ConversationState) (what : Done) (receipt : Option (List ℕ)) → s.half ≡ true → GoesOn (record s { held = Some (Owes what receipt) }) [] (record s { held = Some (Owes what receipt) })
owes_halfway s what receipt half = inr (Owes what receipt, refl, if_half s.half _ _ half (refl, refl))

-- and then written; here nothing came behind the COMMIT
pub is_given : (s : ConversationState) (receipt : List ℕ) → s.half ≡ false → s.exit ≡ None → NextReturns s.reader (Ok None) s.reader
    → GoesOn (record s { held = Some (Owes (Ok tt) (Some receipt)) }) [] (record s { held = None; wire = s.wire ++ flat_map spelling_with_eol (receipt_frame receipt ∷ []) })
is_given s receipt whole open_yet reads =
    let now = record s { held = None; wire = s.wire ++ flat_map spelling_with_eol (receipt_frame receipt ∷ []) } in
    let taken : TakesAll now [] now = ([], now, [], [], refl, (refl, refl), inr (inl ((open_yet, refl), s.reader, reads, refl, refl))) in
    inr (Owes (Ok tt) (Some receipt), refl, if_whole s.half _ _ whole (now, [], [], refl, inl (refl, refl), taken))

-- where there is some while none is half out, its flight is committed, and the gate comes back; here nothing came behind it
pub goes_through : (s : ConversationState) (sends : List SentMessage) (gate : GateState) (floor : Stamp) → s.gate ≡ Some gate → s.exit ≡ None → s.half ≡ false → NextReturns s.reader (Ok None) s.reader
    → GoesOn (record s { held = Some (Waits sends None) }) (AsksRoom (topics_of sends) true ∷ Commits (flight_of gate sends) (Ok (gate_after (flight_of gate sends) floor)) ∷ []) (record s { held = None; gate = Some (gate_after (flight_of gate sends) floor) })
goes_through s sends gate floor has open_yet whole reads =
    let flight = flight_of gate sends in
    let left = gate_after flight floor in
    let rows = AsksRoom (topics_of sends) true ∷ Commits flight (Ok left) ∷ [] in
    let now = record s { held = None; gate = Some left } in
    let acts : Acts (sending sends) (record s { held = None }) rows now =
    inl (record {
      first = rows;
      rest = [];
      between = now;
      result = Ok tt;
      performs = (Commits flight (Ok left) ∷ [], refl, inl (gate, left, has, inr (inl (refl, refl, (floor, refl))), refl));
      concludes = inl (refl, ap (λ (w : List ℕ). record now { wire = w }) (sym (append-nil s.wire)));
      all = refl;
    }) in
    let taken : TakesAll now [] now = ([], now, [], [], refl, (refl, refl), inr (inl ((open_yet, refl), s.reader, reads, refl, refl))) in
    inr (Waits sends None, refl, if_whole s.half _ _ whole (now, rows, [], refl, acts, taken))

-- a sender that has used its last number begins no flight, and the room is given back
pub room_comes_back : (gate : GateState) (sends : List SentMessage) → CommitsBy gate sends (GivesRoomBack ∷ []) (Err (fault.Begin (begin_fault gate))) gate
room_comes_back gate sends = inl (refl, refl, refl)

-- A SEND waits, its connection's queue is taken, what waits is written, it is refused again, and then it finds room, and
-- an UNSUBSCRIBE behind it ends its subscription: but for room, the flight and the end are all that was asked, in this order.
pub asked_once : (piece : List ℕ) (sends : List SentMessage) (flight : FlightState) (gate : GateState) (n : SubName)
    → but_room (asked_for_frames (Heard piece (AsksRoom (topics_of sends) false ∷ []) ∷ Delivered (TakesFlags n.flag ∷ Takes n None ∷ []) ∷ Wrote ∷ WentOn (AsksRoom (topics_of sends) false ∷ []) ∷ WentOn (AsksRoom (topics_of sends) true ∷ Commits flight (Ok gate) ∷ Unsubscribes n ∷ []) ∷ []))
    ≡ Commits flight (Ok gate) ∷ Unsubscribes n ∷ []
asked_once piece sends flight gate n = refl

-- so one that ends the subscription first asks otherwise
pub another_order : (flight : FlightState) (gate : GateState) (n : SubName) → but_room (Unsubscribes n ∷ AsksRoom [] true ∷ Commits flight (Ok gate) ∷ []) ≡ but_room (AsksRoom [] true ∷ Commits flight (Ok gate) ∷ Unsubscribes n ∷ []) → ⊥
another_order flight gate n e = cc

-- and so does one that drops the flight
pub dropped : (flight : FlightState) (gate : GateState) (n : SubName) → but_room (AsksRoom [] false ∷ Unsubscribes n ∷ []) ≡ but_room (AsksRoom [] true ∷ Commits flight (Ok gate) ∷ Unsubscribes n ∷ []) → ⊥
dropped flight gate n e = cc

-- A queue that has lagged counts as emptied while a transaction waits, and stays marked.
pub lag_waits : (o : OpenSubState) → o.lagged ≡ true → Drains ButLags 2 0 (Takes o.sub None ∷ []) o [] Emptied o []
lag_waits o lagged = (omega arith, refl, inl (lagged, refl, refl), refl)
