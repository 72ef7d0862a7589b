-- A connection whose transactions wait for room does what one does whose transactions find it at once.
use Rattle.std.proofs.Common.{◌≡◌, ◌≢◌, ◌⊎◌, inl, inr, ℕ, Bool, true, false, List, [], ◌∷◌, ◌++◌, Option, Some, None, Ok, refl, sym, ap, ap₂, subst, ◌∙◌, append_assoc, append-nil}
use Rattle.std.specs.Prelude.{IsSome}
use Rattle.mcast_txn.specs.declared.draft.sent_message.SentMessage.{SentMessage}
use Rattle.stomp_frame.specs.Reader.{Unread, with_piece}
use Rattle.stomp_session.specs.declared.action.Action.TheVariants as actions
use Rattle.broker_server.specs.declared.conversation.conversation_fault.ConversationFault.TheVariants as fault
use Rattle.broker_server.specs.declared.conversation.held.Held.{Held}
use Rattle.broker_server.specs.declared.conversation.held.Held.TheVariants as helds
use Rattle.broker_server.specs.BrokerRows.{BrokerRow}
use Rattle.broker_server.specs.ConversationFaults.{tells_version}
use Rattle.broker_server.specs.Conversations.{Acts, Answers, Concludes, ConversationState, Done, EndsByError, Performs, closing_rows, replies}
use Rattle.broker_server.specs.Delivering.{DeliversRound}
use Rattle.broker_server.specs.Hearing.{Finishes, GoesOn, GoesOnHalfway, Hears, HearsOrKeeps, IfHalf, KeepsPiece, TakesAll, kept_by}
use Rattle.broker_server.specs.Waiting.{GoesThrough, HasDone, HearsEach, HoldsYet, LeavesHolding, Round, StandsBeside, WaitsInOrder, asked_for_frames, but_items, but_room, but_unread, fed, keeping, pieces}
use Rattle.broker_server.specs.Waiting.{Heard, WentOn, Delivered, Wrote}
use Rattle.broker_server.proofs.HeldLemmas.{HearsSome, Waits, commit_of, concludes_free, does_free, each_on, each_waits, ends_free, hears_one, none_some, performs_free, room_alone, room_behind, room_on, some_same, still_all}
use Rattle.broker_server.proofs.KeptLemmas.{Caught, Ended, InStep, caught_up, unread_like}
use Rattle.broker_server.proofs.HearingLemmas.{acts_reader, concludes_reader, performs_reader}
use Rattle.broker_server.proofs.LikeLemmas.{Like, acts_like, concludes_like, hears_like, performs_like}
use Rattle.broker_server.proofs.StreamLemmas.{fed_then}
use Rattle.broker_server.proofs.UnreadLemmas.{acts_reading, concludes_reading, ends_reading, performs_reading, reading}
use Rattle.broker_server.proofs.UntakenLemmas.{delivers_like, ends_leave}

-- ---- so far

-- As `StandsBeside`, where something was kept only if this is so: a connection that had nothing to keep is told apart so.
abbrev pub Stands : Type 0 → List (List ℕ) → ConversationState → List BrokerRow → ConversationState → Type 0
Stands Kept kept other asked one =
    ((kept ≡ []) × (asked ≡ []) × (other.held ≡ None) × InStep Kept one other)
    ⊎ (((kept ≡ []) ⊎ Kept) × HoldsYet kept other asked one)
    ⊎ (Kept × LeavesHolding kept other asked one)

-- Where one stands after these pieces, for which this was asked, beside another that was as it.
abbrev pub Beside : Type 0 → ConversationState → List (List ℕ) → List BrokerRow → ConversationState → Type 0
Beside Kept old came rows one =
    (heard kept : List (List ℕ)) × (came ≡ heard ++ kept) × (asked last : List BrokerRow) × (other : ConversationState)
    × HearsEach heard old asked other × Stands Kept kept other last one × (but_room (asked ++ last) ≡ but_room rows)

beside_as : (Kept : Type 0) (old : ConversationState) (came texts : List (List ℕ)) (rows more : List BrokerRow) (one : ConversationState) → texts ≡ came → but_room rows ≡ but_room more → Beside Kept old came rows one → Beside Kept old texts more one
beside_as Kept old came texts rows more one all same (heard, kept, cut, asked, last, other, each, stands, sum) = (heard, kept, all ∙ cut, asked, last, other, each, stands, sum ∙ same)

stands_like : (Kept : Type 0) (kept : List (List ℕ)) (other : ConversationState) (asked : List BrokerRow) (one new : ConversationState) → Like new one → Stands Kept kept other asked one → Stands Kept kept other asked new
stands_like Kept kept other asked one new e (inl (none, nothing, free, inl like)) = inl (none, nothing, free, inl (e ∙ like))
stands_like Kept kept other asked one new e (inl (none, nothing, free, inr (token, leaves, like))) = inl (none, nothing, free, inr (token, leaves, unread_like new one e ∙ like))
stands_like Kept kept other asked one new e (inr (inl (token, (open_yet, what, now, done, like)))) =
    inr (inl (token, (ap (λ (s : ConversationState). s.exit) e ∙ open_yet, what, now, done, e ∙ like)))
stands_like Kept kept other asked one new e (inr (inr (token, (any, rows, before, last, holds, cut, ends, like)))) =
    inr (inr (token, (any, rows, before, last, holds, cut, ends, unread_like new one e ∙ like)))

beside_like : (Kept : Type 0) (old : ConversationState) (came : List (List ℕ)) (rows : List BrokerRow) (one new : ConversationState) → Like new one → Beside Kept old came rows one → Beside Kept old came rows new
beside_like Kept old came rows one new e (heard, kept, cut, asked, last, other, each, stands, sum) = (heard, kept, cut, asked, last, other, each, stands_like Kept kept other last one new e stands, sum)

-- ---- calls but for room

room_same : (rows more asked : List BrokerRow) → but_room rows ≡ but_room more → but_room (rows ++ asked) ≡ but_room (more ++ asked)
room_same rows more asked same = room_on rows asked ∙ ap (λ (all : List BrokerRow). all ++ but_room asked) same ∙ sym (room_on more asked)

room_nothing : (rows asked : List BrokerRow) → asked ≡ [] → but_room rows ≡ but_room (rows ++ asked)
room_nothing rows asked none = ap but_room (sym (append-nil rows) ∙ ap (λ (all : List BrokerRow). rows ++ all) (sym none))

room_only : (rows asked : List BrokerRow) → but_room asked ≡ [] → but_room rows ≡ but_room (rows ++ asked)
room_only rows asked none = sym (append-nil (but_room rows)) ∙ ap (λ (all : List BrokerRow). but_room rows ++ all) (sym none) ∙ sym (room_on rows asked)

-- ---- a piece comes

-- the pieces that came, and this one
came_on : (came heard kept : List (List ℕ)) (piece : List ℕ) → came ≡ heard ++ kept → came ++ piece ∷ [] ≡ heard ++ (kept ++ piece ∷ [])
came_on came heard kept piece cut = ap (λ (all : List (List ℕ)). all ++ piece ∷ []) cut ∙ append_assoc heard kept (piece ∷ [])

came_all : (came heard kept : List (List ℕ)) (piece : List ℕ) → came ≡ heard ++ kept → kept ≡ [] → came ++ piece ∷ [] ≡ (heard ++ piece ∷ []) ++ []
came_all came heard kept piece cut none = came_on came heard kept piece cut ∙ ap (λ (all : List (List ℕ)). heard ++ (all ++ piece ∷ [])) none ∙ sym (append-nil (heard ++ piece ∷ []))

not_empty : (kept : List (List ℕ)) (piece : List ℕ) → kept ++ piece ∷ [] ≢ []
not_empty [] piece e = cc
not_empty (first ∷ more) piece e = cc

-- what was done, with one more piece behind it
done_more : (kept : List (List ℕ)) (piece : List ℕ) (other : ConversationState) (rows : List BrokerRow) (what : Held) (now : ConversationState) → HasDone kept other rows what now → HasDone (kept ++ piece ∷ []) other rows what now
done_more kept piece other rows what now (inl waits) = inl waits
done_more kept piece other rows what now (inr (inl owes)) = inr (inl owes)
done_more kept piece other rows what now (inr (inr (free, any, is, nothing, same))) = inr (inr (free, not_empty kept piece, is, nothing, same))

-- what is held, with one more piece behind it
holds_more : (kept : List (List ℕ)) (piece : List ℕ) (other : ConversationState) (rows : List BrokerRow) (one new : ConversationState) → HoldsYet kept other rows one → Like new (reading (with_piece one.reader piece) one) → HoldsYet (kept ++ piece ∷ []) other rows new
holds_more kept piece other rows one new (open_yet, what, now, done, like) e =
    let behind = ap (λ (s : ConversationState). reading (with_piece s.reader piece) s) like in
    let there = ap (λ (r : Unread). reading r (but_items (record now { held = Some what }))) (sym (fed_then kept piece now.reader)) in
    (ap (λ (s : ConversationState). s.exit) e ∙ open_yet, what, now, done_more kept piece other rows what now done, e ∙ behind ∙ there)

-- how a piece is heard where nothing is held, and no item is half out; else something is kept
abbrev pub IfKept : Type 0 → ConversationState → Type 0
IfKept Kept one = ((one.held ≡ None) × (one.half ≡ false)) ⊎ Kept

-- a connection in step hears the piece as the other does
heard_stands : (Kept : Type 0) (heard : List (List ℕ)) (piece : List ℕ) (old : ConversationState) (before asked : List BrokerRow) (other now new : ConversationState) → HearsEach heard old before other → other.held ≡ None → Hears piece other asked now → Like new now → (o : Option Held) → now.held ≡ o → HearsEach (heard ++ piece ∷ []) old (before ++ asked) now × Stands Kept [] now [] new
heard_stands Kept heard piece old before asked other now new each free hears like None none =
    (each_on heard (piece ∷ []) old before other asked now each (hears_one piece other asked now free hears), inl (refl, refl, none, inl like))
heard_stands Kept heard piece old before asked other now new each free hears like (Some what) some =
    let w = each_waits (piece ∷ []) other asked now what (hears_one piece other asked now free hears) free some in
    let open_yet = ap (λ (s : ConversationState). s.exit) like ∙ ap (λ (s : ConversationState). s.exit) w.is ∙ w.open_yet in
    let same = ap (λ (h : Option Held). but_items (record now { held = h })) some in
    (each_on heard (piece ∷ []) old before other asked now each (hears_one piece other asked now free hears), inr (inl (inl refl, (open_yet, what, now, inl (some, refl, refl), like ∙ same))))

half_cases : (b : Bool) (A B C : Type 0) → IfHalf b A B → ((b ≡ true) → A → C) → ((b ≡ false) → B → C) → C
half_cases true A B C it half whole = half refl it
half_cases false A B C it half whole = whole refl it

some_exit : (c : ConversationState) → c.exit ≡ None → IsSome c.exit → ⊥
some_exit c none some = let e = subst IsSome none some in cc

-- ---- it comes to one that is as the other

-- both have left
heard_left : (Kept : Type 0) (old : ConversationState) (came heard kept : List (List ℕ)) (rows before last asked : List BrokerRow) (piece : List ℕ) (other one new : ConversationState) → came ≡ heard ++ kept → kept ≡ [] → last ≡ [] → HearsEach heard old before other → other.held ≡ None → but_room (before ++ last) ≡ but_room rows → InStep Kept one other → IsSome other.exit → asked ≡ [] → new ≡ one → Beside Kept old (came ++ piece ∷ []) (rows ++ asked) new
heard_left Kept old came heard kept rows before last asked piece other one new cut none nothing each free sum step leaves quiet is =
    let now = each_on heard (piece ∷ []) old before other [] other each (hears_one piece other [] other free (inl (leaves, refl, refl))) in
    let total = ap but_room (append-nil (before ++ []) ∙ ap (λ (all : List BrokerRow). before ++ all) (sym nothing)) ∙ sum ∙ room_nothing rows asked quiet in
    (heard ++ piece ∷ [], [], came_all came heard kept piece cut none, before ++ [], [], other, now, inl (refl, refl, free, subst (λ (s : ConversationState). InStep Kept s other) (sym is) step), total)

-- the other hears it so
heard_too : (Kept : Type 0) (old : ConversationState) (came heard kept : List (List ℕ)) (rows before last asked : List BrokerRow) (piece : List ℕ) (other now new : ConversationState) → came ≡ heard ++ kept → kept ≡ [] → last ≡ [] → HearsEach heard old before other → other.held ≡ None → but_room (before ++ last) ≡ but_room rows → Hears piece other asked now → Like new now → Beside Kept old (came ++ piece ∷ []) (rows ++ asked) new
heard_too Kept old came heard kept rows before last asked piece other now new cut none nothing each free sum hears like =
    let stands = heard_stands Kept heard piece old before asked other now new each free hears like now.held refl in
    let same = ap but_room (sym (append-nil before) ∙ ap (λ (all : List BrokerRow). before ++ all) (sym nothing)) ∙ sum in
    let total = ap but_room (append-nil (before ++ asked)) ∙ room_same before rows asked same in
    (heard ++ piece ∷ [], [], came_all came heard kept piece cut none, before ++ asked, [], now, stands.0, stands.1, total)

-- an item is half out, and it is kept
heard_later : (Kept : Type 0) (old : ConversationState) (came heard kept : List (List ℕ)) (rows before last asked : List BrokerRow) (piece : List ℕ) (other one new : ConversationState) → Kept → came ≡ heard ++ kept → kept ≡ [] → last ≡ [] → HearsEach heard old before other → other.held ≡ None → but_room (before ++ last) ≡ but_room rows → Like one other → one.exit ≡ None → asked ≡ [] → new ≡ record one { reader = with_piece one.reader piece; held = kept_by one.held } → Beside Kept old (came ++ piece ∷ []) (rows ++ asked) new
heard_later Kept old came heard kept rows before last asked piece other one new token cut none nothing each free sum like open_yet quiet is =
    let held = helds.Owes (Ok tt) None in
    let unheld = ap (λ (s : ConversationState). kept_by s.held) like ∙ ap kept_by free in
    let step = ap (λ (h : Option Held). but_items (record one { reader = with_piece one.reader piece; held = h })) unheld in
    let same = ap (λ (s : ConversationState). record s { reader = with_piece s.reader piece; held = Some held }) like in
    let there = came_on came heard kept piece cut ∙ ap (λ (all : List (List ℕ)). heard ++ (all ++ piece ∷ [])) none in
    let holds : HoldsYet (piece ∷ []) other [] new = (ap (λ (s : ConversationState). s.exit) is ∙ open_yet, held, other, inr (inr (free, not_empty [] piece, refl, refl, refl)), ap but_items is ∙ step ∙ same) in
    (heard, piece ∷ [], there, before, [], other, each, inr (inl (inr token, holds)), ap (λ (all : List BrokerRow). but_room (before ++ all)) (sym nothing) ∙ sum ∙ room_nothing rows asked quiet)

in_step : (Kept : Type 0) (one other : ConversationState) → InStep Kept one other → one.exit ≡ None → Like one other
in_step Kept one other (inl like) open_yet = like
in_step Kept one other (inr (token, leaves, like)) open_yet = absurd (some_exit other (sym (ap (λ (s : ConversationState). s.exit) like) ∙ open_yet) leaves)

leaves_too : (Kept : Type 0) (one other : ConversationState) → InStep Kept one other → IsSome one.exit → IsSome other.exit
leaves_too Kept one other (inl like) leaves = subst (λ (s : ConversationState). IsSome s.exit) like leaves
leaves_too Kept one other (inr (token, left, like)) leaves = left

free_step : (Kept : Type 0) (one other : ConversationState) → InStep Kept one other → other.held ≡ None → one.held ≡ None
free_step Kept one other (inl like) free = ap (λ (s : ConversationState). s.held) like ∙ free
free_step Kept one other (inr (token, left, like)) free = ap (λ (s : ConversationState). s.held) like ∙ free

no_half : (Kept : Type 0) (one : ConversationState) → IfKept Kept one → one.half ≡ true → Kept
no_half Kept one (inl (free, whole)) half = absurd cc
no_half Kept one (inr token) half = token

-- the ways in which a piece comes to one in step
heard_half : (Kept : Type 0) (old : ConversationState) (came heard kept : List (List ℕ)) (rows before last asked : List BrokerRow) (piece : List ℕ) (other one new : ConversationState) → Kept → came ≡ heard ++ kept → kept ≡ [] → last ≡ [] → HearsEach heard old before other → other.held ≡ None → but_room (before ++ last) ≡ but_room rows → InStep Kept one other → KeepsPiece piece one asked new → Beside Kept old (came ++ piece ∷ []) (rows ++ asked) new
heard_half Kept old came heard kept rows before last asked piece other one new token cut none nothing each free sum step (inl (leaves, quiet, is)) =
    heard_left Kept old came heard kept rows before last asked piece other one new cut none nothing each free sum step (leaves_too Kept one other step leaves) quiet is
heard_half Kept old came heard kept rows before last asked piece other one new token cut none nothing each free sum step (inr (inl (open_yet, called, ends))) =
    let same = hears_like piece one asked new other (in_step Kept one other step open_yet) (inr (inl (open_yet, called, ends))) in
    heard_too Kept old came heard kept rows before last asked piece other same.0 new cut none nothing each free sum same.1 same.2
heard_half Kept old came heard kept rows before last asked piece other one new token cut none nothing each free sum step (inr (inr (open_yet, quiet, is))) =
    heard_later Kept old came heard kept rows before last asked piece other one new token cut none nothing each free sum (in_step Kept one other step open_yet) open_yet quiet is

heard_whole : (Kept : Type 0) (old : ConversationState) (came heard kept : List (List ℕ)) (rows before last asked : List BrokerRow) (piece : List ℕ) (other one new : ConversationState) → came ≡ heard ++ kept → kept ≡ [] → last ≡ [] → HearsEach heard old before other → other.held ≡ None → but_room (before ++ last) ≡ but_room rows → InStep Kept one other → Hears piece one asked new → Beside Kept old (came ++ piece ∷ []) (rows ++ asked) new
heard_whole Kept old came heard kept rows before last asked piece other one new cut none nothing each free sum step (inl (leaves, quiet, is)) =
    heard_left Kept old came heard kept rows before last asked piece other one new cut none nothing each free sum step (leaves_too Kept one other step leaves) quiet is
heard_whole Kept old came heard kept rows before last asked piece other one new cut none nothing each free sum step (inr hears) =
    let open_yet = by hears in
    let same = hears_like piece one asked new other (in_step Kept one other step open_yet) (inr hears) in
    heard_too Kept old came heard kept rows before last asked piece other same.0 new cut none nothing each free sum same.1 same.2
  where
    by : ((one.exit ≡ None) × (asked ≡ closing_rows one) × EndsByError fault.NoMemory None one new) ⊎ ((one.exit ≡ None) × TakesAll (record one { reader = with_piece one.reader piece }) asked new) → one.exit ≡ None
    by (inl ends) = ends.0
    by (inr takes) = takes.0

-- ---- it comes to one that holds something

-- a piece that comes then changes nothing but the stream, or the connection leaves
abbrev IsKept : List ℕ → ConversationState → List BrokerRow → ConversationState → Type 0
IsKept piece one asked new =
    ((asked ≡ closing_rows one) × EndsByError fault.NoMemory None one new)
    ⊎ ((asked ≡ []) × (new ≡ reading (with_piece one.reader piece) one))

kept_half : (piece : List ℕ) (one : ConversationState) (asked : List BrokerRow) (new : ConversationState) (what : Held) → one.exit ≡ None → one.held ≡ Some what → KeepsPiece piece one asked new → IsKept piece one asked new
kept_half piece one asked new what open_yet some (inl (leaves, quiet, is)) = absurd (some_exit one open_yet leaves)
kept_half piece one asked new what open_yet some (inr (inl (so, called, ends))) = inl (called, ends)
kept_half piece one asked new what open_yet some (inr (inr (so, quiet, is))) =
    inr (quiet, is ∙ ap (λ (h : Option Held). record one { reader = with_piece one.reader piece; held = h }) (ap kept_by some ∙ sym some))

kept_whole : (piece : List ℕ) (one : ConversationState) (asked : List BrokerRow) (new : ConversationState) (what : Held) → one.exit ≡ None → one.held ≡ Some what → Hears piece one asked new → IsKept piece one asked new
kept_whole piece one asked new what open_yet some (inl (leaves, quiet, is)) = absurd (some_exit one open_yet leaves)
kept_whole piece one asked new what open_yet some (inr (inl (so, called, ends))) = inl (called, ends)
kept_whole piece one asked new what open_yet some (inr (inr (so, takes))) =
    inr (still_all (reading (with_piece one.reader piece) one) asked new what takes some)

heard_kept : (Kept : Type 0) (old : ConversationState) (came heard kept : List (List ℕ)) (rows before last asked : List BrokerRow) (piece : List ℕ) (other one new : ConversationState) → Kept → came ≡ heard ++ kept → HearsEach heard old before other → but_room (before ++ last) ≡ but_room rows → HoldsYet kept other last one → IsKept piece one asked new → Beside Kept old (came ++ piece ∷ []) (rows ++ asked) new
heard_kept Kept old came heard kept rows before last asked piece other one new token cut each sum holds (inl (called, ends)) =
    let all = kept ++ piece ∷ [] in
    let waits = reading (with_piece one.reader piece) one in
    let more : HoldsYet all other last waits = holds_more kept piece other last one waits holds refl in
    let left = reading waits.reader new in
    let leaves : LeavesHolding all other (last ++ asked) new = (not_empty kept piece, last, waits, left, more, ap (λ (all : List BrokerRow). last ++ all) called, ends_reading waits.reader (tells_version None fault.NoMemory) fault.NoMemory None one new ends, refl) in
    (heard, all, came_on came heard kept piece cut, before, last ++ asked, other, each, inr (inr (token, leaves)), ap but_room (sym (append_assoc before last asked)) ∙ room_same (before ++ last) rows asked sum)
heard_kept Kept old came heard kept rows before last asked piece other one new token cut each sum holds (inr (quiet, is)) =
    (heard, kept ++ piece ∷ [], came_on came heard kept piece cut, before, last, other, each, inr (inl (inr token, holds_more kept piece other last one new holds (ap but_items is))), sum ∙ room_nothing rows asked quiet)

what_held : (kept : List (List ℕ)) (other : ConversationState) (last : List BrokerRow) (one : ConversationState) → HoldsYet kept other last one → (what : Held) × (one.held ≡ Some what)
what_held kept other last one (open_yet, what, now, done, like) = (what, ap (λ (s : ConversationState). s.held) like)

held_kept : (Kept : Type 0) (one : ConversationState) (what : Held) → one.held ≡ Some what → IfKept Kept one → Kept
held_kept Kept one what some (inl (free, whole)) = absurd (none_some one.held what free some)
held_kept Kept one what some (inr token) = token

-- ---- it comes to one that left holding something

heard_gone : (Kept : Type 0) (old : ConversationState) (came heard kept : List (List ℕ)) (rows before last asked : List BrokerRow) (piece : List ℕ) (other one new : ConversationState) → Kept → came ≡ heard ++ kept → HearsEach heard old before other → but_room (before ++ last) ≡ but_room rows → LeavesHolding kept other last one → asked ≡ [] → new ≡ one → Beside Kept old (came ++ piece ∷ []) (rows ++ asked) new
heard_gone Kept old came heard kept rows before last asked piece other one new token cut each sum (any, called, held, left, holds, split, ends, like) quiet is =
    let waits = reading (with_piece held.reader piece) held in
    let more : HoldsYet (kept ++ piece ∷ []) other called waits = holds_more kept piece other called held waits holds refl in
    let gone = ends_reading waits.reader (tells_version None fault.NoMemory) fault.NoMemory None held left ends in
    let leaves : LeavesHolding (kept ++ piece ∷ []) other last new = (not_empty kept piece, called, waits, reading waits.reader left, more, split, gone, ap but_unread is ∙ like) in
    (heard, kept ++ piece ∷ [], came_on came heard kept piece cut, before, last, other, each, inr (inr (token, leaves)), sum ∙ room_nothing rows asked quiet)

gone_exit : (kept : List (List ℕ)) (other : ConversationState) (last : List BrokerRow) (one : ConversationState) → LeavesHolding kept other last one → one.exit ≡ None → ⊥
gone_exit kept other last one (any, called, held, left, holds, split, ends, like) open_yet =
    ends_leave (tells_version None fault.NoMemory) fault.NoMemory None held left ends (sym (ap (λ (s : ConversationState). s.exit) like) ∙ open_yet)

gone_held : (kept : List (List ℕ)) (other : ConversationState) (last : List BrokerRow) (one : ConversationState) → LeavesHolding kept other last one → one.held ≡ None
gone_held kept other last one (any, called, held, left, holds, split, ends, like) =
    ap (λ (s : ConversationState). s.held) like ∙ ends_free (tells_version None fault.NoMemory) fault.NoMemory None held left ends

-- it has left, so that this is all that the piece does
gone_half : (piece : List ℕ) (one : ConversationState) (asked : List BrokerRow) (new : ConversationState) → (one.exit ≡ None → ⊥) → KeepsPiece piece one asked new → (asked ≡ []) × (new ≡ one)
gone_half piece one asked new left (inl (leaves, quiet, is)) = (quiet, is)
gone_half piece one asked new left (inr (inl (so, called, ends))) = absurd (left so)
gone_half piece one asked new left (inr (inr (so, quiet, is))) = absurd (left so)

gone_whole : (piece : List ℕ) (one : ConversationState) (asked : List BrokerRow) (new : ConversationState) → (one.exit ≡ None → ⊥) → Hears piece one asked new → (asked ≡ []) × (new ≡ one)
gone_whole piece one asked new left (inl (leaves, quiet, is)) = (quiet, is)
gone_whole piece one asked new left (inr (inl (so, called, ends))) = absurd (left so)
gone_whole piece one asked new left (inr (inr (so, takes))) = absurd (left so)

-- ---- any piece

heard_on : (Kept : Type 0) (old : ConversationState) (came : List (List ℕ)) (rows asked : List BrokerRow) (piece : List ℕ) (one new : ConversationState) → IfKept Kept one → HearsOrKeeps piece one asked new → Beside Kept old came rows one → Beside Kept old (came ++ piece ∷ []) (rows ++ asked) new
heard_on Kept old came rows asked piece one new if_kept hears (heard, kept, cut, before, last, other, each, inl (none, nothing, free, step), sum) =
    half_cases one.half _ _ _ hears
    (λ half keeps. heard_half Kept old came heard kept rows before last asked piece other one new (no_half Kept one if_kept half) cut none nothing each free sum step keeps)
    (λ whole takes. heard_whole Kept old came heard kept rows before last asked piece other one new cut none nothing each free sum step takes)
heard_on Kept old came rows asked piece one new if_kept hears (heard, kept, cut, before, last, other, each, inr (inl (token, holds)), sum) =
    let what = what_held kept other last one holds in
    let so : IsKept piece one asked new = half_cases one.half _ _ _ hears (λ half keeps. kept_half piece one asked new what.0 holds.0 what.1 keeps) (λ whole takes. kept_whole piece one asked new what.0 holds.0 what.1 takes) in
    heard_kept Kept old came heard kept rows before last asked piece other one new (held_kept Kept one what.0 what.1 if_kept) cut each sum holds so
heard_on Kept old came rows asked piece one new if_kept hears (heard, kept, cut, before, last, other, each, inr (inr (token, leaves)), sum) =
    let left = gone_exit kept other last one leaves in
    let so : (asked ≡ []) × (new ≡ one) = half_cases one.half _ _ _ hears (λ half keeps. gone_half piece one asked new left keeps) (λ whole takes. gone_whole piece one asked new left takes) in
    heard_gone Kept old came heard kept rows before last asked piece other one new token cut each sum leaves so.0 so.1

-- ---- what one does, the other does with what isn't kept

kept_there : (kept : List (List ℕ)) (base there : ConversationState) → there.reader ≡ fed kept base.reader → there ≡ keeping kept (reading base.reader there)
kept_there kept base there e = ap (λ (r : Unread). reading r there) e

acts_kept : (sends : List SentMessage) (receipt : Option (List ℕ)) (kept : List (List ℕ)) (one base : ConversationState) (asked : List BrokerRow) (new : ConversationState) → Like one (keeping kept base) → Acts (commit_of sends receipt) one asked new → (acted : ConversationState) × Acts (commit_of sends receipt) base asked acted × Like new (keeping kept acted)
acts_kept sends receipt kept one base asked new like acts =
    let step = commit_of sends receipt in
    let a = acts_like step one asked new (keeping kept base) like acts in
    (reading base.reader a.0, acts_reading base.reader step (keeping kept base) asked a.0 a.1, a.2 ∙ ap but_items (kept_there kept base a.0 (acts_reader step (keeping kept base) asked a.0 a.1)))

performs_kept : (sends : List SentMessage) (kept : List (List ℕ)) (one base : ConversationState) (asked : List BrokerRow) (done : Done) (new : ConversationState) → Like one (keeping kept base) → Performs (actions.Commit sends) one asked done new → (did : ConversationState) × Performs (actions.Commit sends) base asked done did × Like new (keeping kept did)
performs_kept sends kept one base asked done new like performs =
    let action = actions.Commit sends in
    let p = performs_like action one asked done new (keeping kept base) like performs in
    (reading base.reader p.0, performs_reading base.reader action (keeping kept base) asked done p.0 p.1, p.2 ∙ ap but_items (kept_there kept base p.0 (performs_reader action (keeping kept base) asked done p.0 p.1)))

concludes_kept : (done : Done) (receipt : Option (List ℕ)) (kept : List (List ℕ)) (one base : ConversationState) (asked : List BrokerRow) (new : ConversationState) → Like one (keeping kept base) → Concludes done (replies false receipt) receipt one asked new → (told : ConversationState) × Concludes done (replies false receipt) receipt base asked told × Like new (keeping kept told)
concludes_kept done receipt kept one base asked new like concludes =
    let frames = replies false receipt in
    let c = concludes_like done frames receipt one asked new (keeping kept base) like concludes in
    (reading base.reader c.0, concludes_reading base.reader done frames receipt (keeping kept base) asked c.0 c.1, c.2 ∙ ap but_items (kept_there kept base c.0 (concludes_reader done frames receipt (keeping kept base) asked c.0 c.1)))

commit_exit : (sends : List SentMessage) (old : ConversationState) (asked : List BrokerRow) (done : Done) (new : ConversationState) → Performs (actions.Commit sends) old asked done new → new.exit ≡ old.exit
commit_exit sends old asked done new (rest, found, inl (gate, left, has, commits, e)) = ap (λ (s : ConversationState). s.exit) e
commit_exit sends old asked done new (rest, found, inr (none, a, err, e)) = ap (λ (s : ConversationState). s.exit) e

-- as one holds this, it is, but for that, as the state that it is in
unheld_like : (kept : List (List ℕ)) (one base : ConversationState) (what : Held) → Like one (keeping kept (record base { held = Some what })) → base.held ≡ None → Like (record one { held = None }) (keeping kept base)
unheld_like kept one base what like none =
    ap (λ (s : ConversationState). record s { held = None }) like ∙ ap (λ (h : Option Held). but_items (keeping kept (record base { held = h }))) (sym none)

-- ---- it goes on, and takes what follows

none_behind : (done left : List (List ℕ)) → done ++ left ≡ [] → left ≡ []
none_behind [] left e = e
none_behind (piece ∷ done) left e = absurd cc

kept_left : (Kept : Type 0) (kept done left : List (List ℕ)) → (kept ≡ []) ⊎ Kept → kept ≡ done ++ left → (left ≡ []) ⊎ Kept
kept_left Kept kept done left (inl none) cut = inl (none_behind done left (sym cut ∙ none))
kept_left Kept kept done left (inr token) cut = inr token

ended_stands : (Kept : Type 0) (left : List (List ℕ)) (end new : ConversationState) → (left ≡ []) ⊎ Kept → Ended Kept left end new → Stands Kept left end [] new
ended_stands Kept left end new token (inl (all, free, step)) = inl (all, refl, free, step)
ended_stands Kept left end new token (inr (what, some, open_yet, like)) =
    let same = ap (λ (h : Option Held). but_items (keeping left (record end { held = h }))) some in
    inr (inl (token, (ap (λ (s : ConversationState). s.exit) like ∙ open_yet, what, end, inl (some, refl, refl), like ∙ same)))

resumed : (Kept : Type 0) (old : ConversationState) (heard kept : List (List ℕ)) (so_far rest : List BrokerRow) (acted between : ConversationState) → (kept ≡ []) ⊎ Kept → HearsSome heard old so_far acted → Caught Kept kept acted rest between → Beside Kept old (heard ++ kept) (so_far ++ rest) between
resumed Kept old heard kept so_far rest acted between token some (done, left, end, cut, (first, last, now, split, takes, each), ended) =
    let all = each_on heard done old (so_far ++ first) now last end (some first now takes) each in
    let total = ap but_room (append-nil ((so_far ++ first) ++ last) ∙ append_assoc so_far first last ∙ ap (λ (rows : List BrokerRow). so_far ++ rows) (sym split)) in (
      heard ++ done,
      left,
      ap (λ (texts : List (List ℕ)). heard ++ texts) cut ∙ sym (append_assoc heard done left),
      (so_far ++ first) ++ last,
      [],
      end,
      all,
      ended_stands Kept left end between (kept_left Kept kept done left token cut) ended,
      total,
    )

resumes : (Kept : Type 0) (old : ConversationState) (heard kept : List (List ℕ)) (so_far rest : List BrokerRow) (acted mid between : ConversationState) → (kept ≡ []) ⊎ Kept → HearsSome heard old so_far acted → Like mid (keeping kept acted) → mid.held ≡ None → TakesAll mid rest between → Beside Kept old (heard ++ kept) (so_far ++ rest) between
resumes Kept old heard kept so_far rest acted mid between token some like free takes =
    resumed Kept old heard kept so_far rest acted between token some (caught_up Kept kept acted mid rest between token (sym (ap (λ (s : ConversationState). s.held) like) ∙ free) like takes)

-- ---- it goes on with a transaction that waits in the other

-- how it goes on with this
abbrev WentBy : Held → ConversationState → List BrokerRow → ConversationState → Type 0
WentBy what one asked new =
    IfHalf one.half (GoesOnHalfway what (record one { held = None }) asked new)
    ((between : ConversationState) × (first rest : List BrokerRow) × (asked ≡ first ++ rest)
    × Finishes what (record one { held = None }) first between × TakesAll between rest new)

-- calls for room, in the midst of others, don't count
room_skips : (rows room more : List BrokerRow) → but_room room ≡ [] → but_room ((rows ++ room) ++ more) ≡ but_room (rows ++ more)
room_skips rows room more none = ap but_room (append_assoc rows room more) ∙ room_behind rows (room ++ more) more (room_alone room more none)

-- it is committed, of which some was asked before, and answered
went_done : (Kept : Type 0) (old : ConversationState) (heard kept : List (List ℕ)) (rows before last asked first rest : List BrokerRow) (other acted mid between : ConversationState) (w : Waits (HearsSome heard old) before other) → (kept ≡ []) ⊎ Kept → but_room (before ++ last) ≡ but_room rows → asked ≡ first ++ rest → Acts (commit_of w.sends w.receipt) w.ready (last ++ first) acted → Like mid (keeping kept acted) → mid.held ≡ None → TakesAll mid rest between → Beside Kept old (heard ++ kept) (rows ++ asked) between
went_done Kept old heard kept rows before last asked first rest other acted mid between w token sum cut acts like free takes =
    let so_far = w.before ++ (last ++ first) in
    let all = resumes Kept old heard kept so_far rest acted mid between token (w.later (last ++ first) acted acts) like free takes in
    let flat = append_assoc w.before (last ++ first) rest ∙ ap (λ (more : List BrokerRow). w.before ++ more) (append_assoc last first rest) ∙ sym (append_assoc w.before last (first ++ rest)) in
    let base = sym (room_skips w.before w.room last w.unseen) ∙ ap (λ (more : List BrokerRow). but_room (more ++ last)) (sym w.cut) ∙ sum in
    let total = ap but_room flat ∙ room_same (w.before ++ last) rows (first ++ rest) base ∙ ap (λ (more : List BrokerRow). but_room (rows ++ more)) (sym cut) in
    beside_as Kept old (heard ++ kept) (heard ++ kept) (so_far ++ rest) (rows ++ asked) between refl total all

-- it waits on
went_nowhere : (Kept : Type 0) (old : ConversationState) (came : List (List ℕ)) (rows asked : List BrokerRow) (one new : ConversationState) → but_room asked ≡ [] → new ≡ one → Beside Kept old came rows one → Beside Kept old came (rows ++ asked) new
went_nowhere Kept old came rows asked one new unseen is beside =
    beside_as Kept old came came rows (rows ++ asked) new refl (room_only rows asked unseen) (beside_like Kept old came rows one new (ap but_items is) beside)

same_sends : (sends others : List SentMessage) → actions.Commit sends ≡ actions.Commit others → sends ≡ others
same_sends sends others e = cc

-- where it waits, as in the other
went_waits : (Kept : Type 0) (old : ConversationState) (heard kept : List (List ℕ)) (rows before last asked : List BrokerRow) (other one new : ConversationState) (w : Waits (HearsSome heard old) before other) → (kept ≡ []) ⊎ Kept → last ≡ [] → but_room (before ++ last) ≡ but_room rows → HearsEach heard old before other → one.exit ≡ None → one.held ≡ Some (helds.Waits w.sends w.receipt) → Like (record one { held = None }) (keeping kept w.ready) → Beside Kept old (heard ++ kept) rows one → WentBy (helds.Waits w.sends w.receipt) one asked new → Beside Kept old (heard ++ kept) (rows ++ asked) new
went_waits Kept old heard kept rows before last asked other one new w token nothing sum each open_yet held like beside went =
    half_cases one.half _ _ _ went (λ half halfway. by_half halfway) (λ whole done. by_whole done.0 done.1 done.2 done.3 done.4 done.5)
  where
    again : (what : Held) → what ≡ helds.Waits w.sends w.receipt → record one { held = Some what } ≡ one
    again what e = ap (λ (h : Option Held). record one { held = h }) (ap Some e ∙ sym held)

    sum_at : but_room before ≡ but_room rows
    sum_at = ap but_room (sym (append-nil before) ∙ ap (λ (more : List BrokerRow). before ++ more) (sym nothing)) ∙ sum

    by_half : GoesOnHalfway (helds.Waits w.sends w.receipt) (record one { held = None }) asked new → Beside Kept old (heard ++ kept) (rows ++ asked) new
    by_half (inl (called, is)) = went_nowhere Kept old (heard ++ kept) rows asked one new (ap but_room called) (is ∙ ap (λ (h : Option Held). record one { held = h }) (sym held)) beside
    by_half (inr (done, did, performs, is)) =
        let p = performs_kept w.sends kept (record one { held = None }) w.ready asked done did like performs in
        let owes = helds.Owes done w.receipt in
        let unheld : record other { held = None } ≡ w.ready = ap (λ (s : ConversationState). record s { held = None }) w.is ∙ ap (λ (h : Option Held). record w.ready { held = h }) (sym w.free) in
        let there : Performs (actions.Commit w.sends) (record other { held = None }) asked done p.0 = subst (λ (s : ConversationState). Performs (actions.Commit w.sends) s asked done p.0) (sym unheld) p.1 in
        let out = ap (λ (s : ConversationState). s.exit) is ∙ commit_exit w.sends (record one { held = None }) asked done did performs ∙ open_yet in
        let holds : HoldsYet kept other asked new = (out, owes, p.0, inr (inl (w.sends, w.receipt, done, ap (λ (s : ConversationState). s.held) w.is, refl, there)), ap but_items is ∙ ap (λ (s : ConversationState). record s { held = Some owes }) p.2) in
        (heard, kept, refl, before, asked, other, each, inr (inl (token, holds)), room_same before rows asked sum_at)

    by_whole : (mid : ConversationState) (first rest : List BrokerRow) → asked ≡ first ++ rest → Acts (commit_of w.sends w.receipt) (record one { held = None }) first mid → TakesAll mid rest new → Beside Kept old (heard ++ kept) (rows ++ asked) new
    by_whole mid first rest cut (inl does) takes =
        let a = acts_kept w.sends w.receipt kept (record one { held = None }) w.ready first mid like (inl does) in
        let none : mid.held ≡ None = does_free (commit_of w.sends w.receipt) (record one { held = None }) first mid does refl in
        went_done Kept old heard kept rows before [] asked first rest other a.0 mid new w token (ap but_room (append-nil before) ∙ sum_at) cut a.1 a.2 none takes
    by_whole mid first rest cut (inr (sends, sent, called, holds)) takes =
        let still = still_all mid rest new (helds.Waits sends w.receipt) takes (ap (λ (s : ConversationState). s.held) holds) in
        let is = still.1 ∙ holds ∙ again (helds.Waits sends w.receipt) (ap (λ (q : List SentMessage). helds.Waits q w.receipt) (sym (same_sends w.sends sends sent))) in
        let alone = ap but_room (cut ∙ ap₂ (λ (xs ys : List BrokerRow). xs ++ ys) called still.0) in
        went_nowhere Kept old (heard ++ kept) rows asked one new alone is beside

-- where it owes the answer
went_owes : (Kept : Type 0) (old : ConversationState) (heard kept : List (List ℕ)) (rows before last asked : List BrokerRow) (receipt : Option (List ℕ)) (done : Done) (other one now new : ConversationState) (w : Waits (HearsSome heard old) before other) → (kept ≡ []) ⊎ Kept → but_room (before ++ last) ≡ but_room rows → receipt ≡ w.receipt → Performs (actions.Commit w.sends) w.ready last done now → one.held ≡ Some (helds.Owes done receipt) → Like (record one { held = None }) (keeping kept now) → Beside Kept old (heard ++ kept) rows one → WentBy (helds.Owes done receipt) one asked new → Beside Kept old (heard ++ kept) (rows ++ asked) new
went_owes Kept old heard kept rows before last asked receipt done other one now new w token sum same performs held like beside went =
    half_cases one.half _ _ _ went (λ half halfway. by_half halfway) (λ whole told. by_whole told.0 told.1 told.2 told.3 told.4 told.5)
  where
    by_half : GoesOnHalfway (helds.Owes done receipt) (record one { held = None }) asked new → Beside Kept old (heard ++ kept) (rows ++ asked) new
    by_half (nothing, is) = went_nowhere Kept old (heard ++ kept) rows asked one new (ap but_room nothing) (is ∙ ap (λ (h : Option Held). record one { held = h }) (sym held)) beside

    by_whole : (mid : ConversationState) (first rest : List BrokerRow) → asked ≡ first ++ rest → Concludes done (replies false receipt) receipt (record one { held = None }) first mid → TakesAll mid rest new → Beside Kept old (heard ++ kept) (rows ++ asked) new
    by_whole mid first rest cut concludes takes =
        let c = concludes_kept done receipt kept (record one { held = None }) now first mid like concludes in
        let told = subst (λ (r : Option (List ℕ)). Concludes done (replies false r) r now first c.0) same c.1 in
        let none = concludes_free done (replies false receipt) receipt (record one { held = None }) first mid concludes refl in
        let acts : Acts (commit_of w.sends w.receipt) w.ready (last ++ first) c.0 =
        inl (record {
          first = last;
          rest = first;
          between = now;
          result = done;
          performs = performs;
          concludes = told;
          all = refl;
        }) in
        went_done Kept old heard kept rows before last asked first rest other c.0 mid new w token sum cut acts c.2 none takes

-- ---- it goes on with pieces alone

-- nothing is answered
told_nothing : (one : ConversationState) (asked : List BrokerRow) (new : ConversationState) → Answers [] one asked new → (asked ≡ []) × Like new one
told_nothing one asked new (inl (nothing, is)) = (nothing, ap but_items is)
told_nothing one asked new (inr (inl (any, called, open_yet, ends))) = absurd cc
told_nothing one asked new (inr (inr (any, nothing, leaves, is))) = absurd cc

went_pieces : (Kept : Type 0) (old : ConversationState) (heard kept : List (List ℕ)) (rows before asked : List BrokerRow) (other one new : ConversationState) → (kept ≡ []) ⊎ Kept → kept ≢ [] → but_room before ≡ but_room rows → HearsEach heard old before other → other.held ≡ None → other.exit ≡ None → one.held ≡ Some (helds.Owes (Ok tt) None) → Like (record one { held = None }) (keeping kept other) → Beside Kept old (heard ++ kept) rows one → WentBy (helds.Owes (Ok tt) None) one asked new → Beside Kept old (heard ++ kept) (rows ++ asked) new
went_pieces Kept old heard [] rows before asked other one new token any sum each free open_yet held like beside went = absurd (any refl)
went_pieces Kept old heard (piece ∷ kept) rows before asked other one new token any sum each free open_yet held like beside went =
    half_cases one.half _ _ _ went (λ half halfway. by_half halfway) (λ whole told. by_whole told.0 told.1 told.2 told.3 told.4 told.5)
  where
    by_half : GoesOnHalfway (helds.Owes (Ok tt) None) (record one { held = None }) asked new → Beside Kept old (heard ++ piece ∷ kept) (rows ++ asked) new
    by_half (nothing, is) = went_nowhere Kept old (heard ++ piece ∷ kept) rows asked one new (ap but_room nothing) (is ∙ ap (λ (h : Option Held). record one { held = h }) (sym held)) beside

    some : (kept ≡ []) ⊎ Kept
    some = elim token [ inl none ↦ absurd cc | inr is ↦ inr is ]

    by_whole : (mid : ConversationState) (first rest : List BrokerRow) → asked ≡ first ++ rest → Answers [] (record one { held = None }) first mid → TakesAll mid rest new → Beside Kept old (heard ++ piece ∷ kept) (rows ++ asked) new
    by_whole mid first rest cut answers takes =
        let start = record other { reader = with_piece other.reader piece } in
        let told = told_nothing (record one { held = None }) first mid answers in
        let next : HearsSome (heard ++ piece ∷ []) old before start = λ more end all. each_on heard (piece ∷ []) old before other more end each (hears_one piece other more end free (inr (inr (open_yet, all)))) in
        let same = told.1 ∙ like in
        let all = resumes Kept old (heard ++ piece ∷ []) kept before rest start mid new some next same (ap (λ (s : ConversationState). s.held) same ∙ free) takes in
        let total = room_same before rows rest sum ∙ ap (λ (more : List BrokerRow). but_room (rows ++ (more ++ rest))) (sym told.0) ∙ ap (λ (more : List BrokerRow). but_room (rows ++ more)) (sym cut) in
        beside_as Kept old ((heard ++ piece ∷ []) ++ kept) (heard ++ piece ∷ kept) (before ++ rest) (rows ++ asked) new (sym (append_assoc heard (piece ∷ []) kept)) total all

-- ---- it goes on

went_held : (Kept : Type 0) (old : ConversationState) (heard kept : List (List ℕ)) (rows before last asked : List BrokerRow) (other one new : ConversationState) → old.held ≡ None → (kept ≡ []) ⊎ Kept → but_room (before ++ last) ≡ but_room rows → HearsEach heard old before other → (holds : HoldsYet kept other last one) → Beside Kept old (heard ++ kept) rows one → WentBy holds.1 one asked new → Beside Kept old (heard ++ kept) (rows ++ asked) new
went_held Kept old heard kept rows before last asked other one new start token sum each (open_yet, what, now, inl (some, nothing, is), like) beside went =
    let w = each_waits heard old before other what each start some in
    let same : what ≡ helds.Waits w.sends w.receipt = some_same what (helds.Waits w.sends w.receipt) (sym some ∙ ap (λ (s : ConversationState). s.held) w.is) in
    let held = ap (λ (s : ConversationState). s.held) like ∙ ap Some same in
    let there = like ∙ ap (λ (s : ConversationState). but_items (keeping kept (record s { held = Some what }))) (is ∙ w.is) in
    went_waits Kept old heard kept rows before last asked other one new w token nothing sum each open_yet held (unheld_like kept one w.ready what there w.free) beside (subst (λ (q : Held). WentBy q one asked new) same went)
went_held Kept old heard kept rows before last asked other one new start token sum each (open_yet, what, now, inr (inl (sends, receipt, done, some, is, performs)), like) beside went =
    let w = each_waits heard old before other (helds.Waits sends receipt) each start some in
    let same = some_same (helds.Waits sends receipt) (helds.Waits w.sends w.receipt) (sym some ∙ ap (λ (s : ConversationState). s.held) w.is) in
    let unheld : record other { held = None } ≡ w.ready = ap (λ (s : ConversationState). record s { held = None }) w.is ∙ ap (λ (h : Option Held). record w.ready { held = h }) (sym w.free) in
    let sent : sends ≡ w.sends = cc in
    let asked_for : receipt ≡ w.receipt = cc in
    let there = subst (λ (s : ConversationState). Performs (actions.Commit w.sends) s last done now) unheld (subst (λ (q : List SentMessage). Performs (actions.Commit q) (record other { held = None }) last done now) sent performs) in
    let none = performs_free (actions.Commit w.sends) w.ready last done now there w.free in
    let held = ap (λ (s : ConversationState). s.held) like ∙ ap Some is in
    went_owes Kept old heard kept rows before last asked receipt done other one now new w token sum asked_for there held (unheld_like kept one now what like none) beside (subst (λ (q : Held). WentBy q one asked new) is went)
went_held Kept old heard kept rows before last asked other one new start token sum each (open_yet, what, now, inr (inr (free, any, is, nothing, same)), like) beside went =
    let held = ap (λ (s : ConversationState). s.held) like ∙ ap Some is in
    let there = like ∙ ap (λ (s : ConversationState). but_items (keeping kept (record s { held = Some what }))) same in
    let sum_at = ap but_room (sym (append-nil before) ∙ ap (λ (more : List BrokerRow). before ++ more) (sym nothing)) ∙ sum in
    let out = sym (ap (λ (s : ConversationState). s.exit) there) ∙ open_yet in
    went_pieces Kept old heard kept rows before asked other one new token any sum_at each free out held (unheld_like kept one other what there free) beside (subst (λ (q : Held). WentBy q one asked new) is went)

held_alone : (Kept : Type 0) (kept : List (List ℕ)) (other : ConversationState) (asked : List BrokerRow) (one : ConversationState) → Stands Kept kept other asked one → (what : Held) → one.held ≡ Some what → ((kept ≡ []) ⊎ Kept) × HoldsYet kept other asked one
held_alone Kept kept other asked one (inl (none, nothing, free, step)) what some = absurd (none_some one.held what (free_step Kept one other step free) some)
held_alone Kept kept other asked one (inr (inl holds)) what some = holds
held_alone Kept kept other asked one (inr (inr (token, leaves))) what some = absurd (none_some one.held what (gone_held kept other asked one leaves) some)

went_on : (Kept : Type 0) (old : ConversationState) (came : List (List ℕ)) (rows asked : List BrokerRow) (one new : ConversationState) → old.held ≡ None → GoesOn one asked new → Beside Kept old came rows one → Beside Kept old came (rows ++ asked) new
went_on Kept old came rows asked one new start (inl (free, nothing, is)) beside = went_nowhere Kept old came rows asked one new (ap but_room nothing) is beside
went_on Kept old came rows asked one new start (inr (what, some, went)) (heard, kept, cut, before, last, other, each, stands, sum) =
    let h = held_alone Kept kept other last one stands what some in
    let beside : Beside Kept old (heard ++ kept) rows one = (heard, kept, refl, before, last, other, each, stands, sum) in
    let same : what ≡ h.1.1 = some_same what h.1.1 (sym some ∙ ap (λ (s : ConversationState). s.held) h.1.4) in
    let all = went_held Kept old heard kept rows before last asked other one new start h.0 sum each h.1 beside (subst (λ (q : Held). WentBy q one asked new) same went) in
    beside_as Kept old (heard ++ kept) came (rows ++ asked) (rows ++ asked) new cut refl all

-- ---- round after round

-- `GoesThrough`, where something is kept only if this is so
abbrev pub Through : Type 0 → List Round → ConversationState → ConversationState → Type 0
Through Kept [] old new = new ≡ old
Through Kept (Heard piece asked ∷ rounds) old new =
    IfKept Kept old × (between : ConversationState) × HearsOrKeeps piece old asked between × Through Kept rounds between new
Through Kept (WentOn asked ∷ rounds) old new = (between : ConversationState) × GoesOn old asked between × Through Kept rounds between new
Through Kept (Delivered asked ∷ rounds) old new =
    (between : ConversationState) × (any : Bool) × DeliversRound old asked any between × (between.exit ≡ old.exit)
    × Through Kept rounds between new
Through Kept (Wrote ∷ rounds) old new =
    (between : ConversationState) × (between ≡ record old { wire = between.wire }) × Through Kept rounds between new

pub beside : (Kept : Type 0) (rounds : List Round) (old : ConversationState) (came : List (List ℕ)) (rows : List BrokerRow) (one new : ConversationState) → old.held ≡ None → Beside Kept old came rows one → Through Kept rounds one new → Beside Kept old (came ++ pieces rounds) (rows ++ asked_for_frames rounds) new
beside Kept [] old came rows one new free so is =
    beside_as Kept old came (came ++ []) rows (rows ++ []) new (append-nil came) (ap but_room (sym (append-nil rows))) (beside_like Kept old came rows one new (ap but_items is) so)
beside Kept (Heard piece asked ∷ rounds) old came rows one new free so (if_kept, between, hears, goes) =
    let then = beside Kept rounds old (came ++ piece ∷ []) (rows ++ asked) between new free (heard_on Kept old came rows asked piece one between if_kept hears so) goes in
    beside_as Kept old ((came ++ piece ∷ []) ++ pieces rounds) (came ++ piece ∷ pieces rounds) ((rows ++ asked) ++ asked_for_frames rounds) (rows ++ (asked ++ asked_for_frames rounds)) new (sym (append_assoc came (piece ∷ []) (pieces rounds))) (ap but_room (append_assoc rows asked (asked_for_frames rounds))) then
beside Kept (WentOn asked ∷ rounds) old came rows one new free so (between, went, goes) =
    let then = beside Kept rounds old came (rows ++ asked) between new free (went_on Kept old came rows asked one between free went so) goes in
    beside_as Kept old (came ++ pieces rounds) (came ++ pieces rounds) ((rows ++ asked) ++ asked_for_frames rounds) (rows ++ (asked ++ asked_for_frames rounds)) new refl (ap but_room (append_assoc rows asked (asked_for_frames rounds))) then
beside Kept (Delivered asked ∷ rounds) old came rows one new free so (between, any, delivers, stays, goes) =
    beside Kept rounds old came rows between new free (beside_like Kept old came rows one between (delivers_like one asked any between delivers stays) so) goes
beside Kept (Wrote ∷ rounds) old came rows one new free so (between, is, goes) =
    beside Kept rounds old came rows between new free (beside_like Kept old came rows one between (ap but_items is) so) goes

-- from the beginning
pub beside_all : (Kept : Type 0) (rounds : List Round) (old new : ConversationState) → old.held ≡ None → Through Kept rounds old new → Beside Kept old (pieces rounds) (asked_for_frames rounds) new
beside_all Kept rounds old new free goes = beside Kept rounds old [] [] old new free ([], [], refl, [], [], old, (refl, refl), inl (refl, refl, free, inl refl), refl) goes

-- ---- the law

goes_through : (rounds : List Round) (old new : ConversationState) → GoesThrough rounds old new → Through (Unit {0}) rounds old new
goes_through [] old new is = is
goes_through (Heard piece asked ∷ rounds) old new (between, hears, goes) = (inr tt, between, hears, goes_through rounds between new goes)
goes_through (WentOn asked ∷ rounds) old new (between, went, goes) = (between, went, goes_through rounds between new goes)
goes_through (Delivered asked ∷ rounds) old new (between, any, delivers, stays, goes) = (between, any, delivers, stays, goes_through rounds between new goes)
goes_through (Wrote ∷ rounds) old new (between, is, goes) = (between, is, goes_through rounds between new goes)

stands_beside : (kept : List (List ℕ)) (other : ConversationState) (asked : List BrokerRow) (one : ConversationState) → Stands (Unit {0}) kept other asked one → StandsBeside kept other asked one
stands_beside kept other asked one (inl (none, nothing, free, inl like)) = inl (none, nothing, free, inl like)
stands_beside kept other asked one (inl (none, nothing, free, inr (token, leaves, like))) = inl (none, nothing, free, inr (leaves, like))
stands_beside kept other asked one (inr (inl (token, holds))) = inr (inl holds)
stands_beside kept other asked one (inr (inr (token, leaves))) = inr (inr leaves)

pub waits_in_order : WaitsInOrder
waits_in_order rounds old new free goes =
    let b = beside_all (Unit {0}) rounds old new free (goes_through rounds old new goes) in
    (b.0, b.1, b.2, b.3, b.4, b.5, b.6, stands_beside b.1 b.5 b.4 new b.7, b.8)
