-- Worked examples of pieces that are kept, and of connections that keep no order.
use Rattle.std.proofs.Common.{◌≡◌, ◌≢◌, ◌⊎◌, inl, inr, ℕ, true, false, List, [], ◌∷◌, ◌++◌, length, Option, Some, None, Ok, refl, sym, ap, subst, ◌∙◌, append-nil, arith}
use Rattle.std.proofs.lemmas.List.{length-append}
use Rattle.std.specs.Prelude.{IsSome, codes}
use Rattle.mcast_txn.specs.declared.draft.sent_message.SentMessage.{SentMessage}
use Rattle.mcast_txn.specs.Transaction.{topics_of}
use Rattle.sender_gate.specs.Gate.{GateState}
use Rattle.stomp_frame.specs.Reader.{Unread, with_piece}
use Rattle.stomp_session.specs.declared.action.Action.TheVariants as actions
use Rattle.broker_server.specs.declared.conversation.conversation_fault.ConversationFault.TheVariants as fault
use Rattle.broker_server.specs.declared.conversation.exit.Exit.{Exit}
use Rattle.broker_server.specs.declared.conversation.held.Held.{Held}
use Rattle.broker_server.specs.declared.conversation.held.Held.TheVariants.{Waits, Owes}
use Rattle.broker_server.specs.BrokerRows.{AsksRoom, BrokerRow, SubName, Unsubscribes}
use Rattle.broker_server.specs.ConversationFaults.{tells_version}
use Rattle.broker_server.specs.Conversations.{CommitsBy, ConversationState, Done, Performs}
use Rattle.broker_server.specs.Hearing.{Hears, HearsOrKeeps, TakesAll, kept_by}
use Rattle.broker_server.specs.Waiting.{HearsEach, HoldsYet, IsAs, KeepsOrder, LeavesHolding, StandsBeside, but_items, but_room, fed, keeping}
use Rattle.broker_server.proofs.HearingLemmas.{if_half, if_whole}
use Rattle.broker_server.proofs.HeldLemmas.{each_waits, none_some, room_on}
use Rattle.broker_server.proofs.StreamLemmas.{fed_all, fed_one}
use Rattle.broker_server.proofs.UntakenLemmas.{ends_leave}

-- ---- what is kept

-- a SEND waits, and a piece comes behind it: it is in the stream, and nothing is asked
pub kept_behind : (s : ConversationState) (sends : List SentMessage) (piece : List ℕ) → s.exit ≡ None → s.half ≡ false
    → HearsOrKeeps piece (record s { held = Some (Waits sends None) }) [] (keeping (piece ∷ []) (record s { held = Some (Waits sends None) }))
kept_behind s sends piece open_yet whole =
    let there = keeping (piece ∷ []) (record s { held = Some (Waits sends None) }) in
    let taken : TakesAll there [] there = ([], there, [], [], refl, (refl, refl), inl (inr refl, refl, refl)) in
    if_whole s.half _ _ whole (inr (inr (open_yet, taken)))

-- one comes while an item is half out, and nothing waits: it is kept, too
pub kept_halfway : (s : ConversationState) (piece : List ℕ) → s.exit ≡ None → s.half ≡ true → s.held ≡ None
    → HearsOrKeeps piece s [] (keeping (piece ∷ []) (record s { held = Some (Owes (Ok tt) None) }))
kept_halfway s piece open_yet half free =
    let held = ap (λ (h : Option Held). record s { reader = with_piece s.reader piece; held = kept_by h }) (sym free) in
    if_half s.half _ _ half (inr (inr (open_yet, refl, held)))

-- the other is as it was before the piece came
pub holds_yet : (s : ConversationState) (sends : List SentMessage) (piece : List ℕ) → s.exit ≡ None
    → HoldsYet (piece ∷ []) (record s { held = Some (Waits sends None) }) [] (keeping (piece ∷ []) (record s { held = Some (Waits sends None) }))
holds_yet s sends piece open_yet = (open_yet, Waits sends None, record s { held = Some (Waits sends None) }, inl (refl, refl, refl), refl)

-- one frame in two pieces is whole in the stream
pub whole_again : (r : Unread) → r.answered ≡ None → (fed (codes "UNSUBSC" ∷ codes "RIBE" ∷ []) r).text ≡ r.text ++ codes "UNSUBSCRIBE"
whole_again r none = ap (λ (u : Unread). u.text) (fed_all (codes "UNSUBSC" ∷ codes "RIBE" ∷ []) r none)

-- ---- who keeps no order

not_nothing : {X : Type 0} (x : X) (xs : List X) → x ∷ xs ≡ [] → ⊥
not_nothing x xs e = cc

none_left : {X : Type 0} (xs ys : List X) → xs ++ ys ≡ [] → ys ≡ []
none_left [] ys e = e
none_left (x ∷ xs) ys e = absurd (not_nothing x (xs ++ ys) e)

commits_something : (gate : GateState) (sends : List SentMessage) (asked : List BrokerRow) (done : Done) (left : GateState) → CommitsBy gate sends asked done left → but_room asked ≢ []
commits_something gate sends asked done left (inl (called, err, same)) e = let f = sym (ap but_room called) ∙ e in cc
commits_something gate sends asked done left (inr (inl (called, ok, after))) e = let f = sym (ap but_room called) ∙ e in cc
commits_something gate sends asked done left (inr (inr (why, called, err, after))) e = let f = sym (ap but_room called) ∙ e in cc

-- a transaction that is committed asks something
performs_something : (sends : List SentMessage) (old : ConversationState) (asked : List BrokerRow) (done : Done) (new : ConversationState) → Performs (actions.Commit sends) old asked done new → but_room asked ≢ []
performs_something sends old asked done new (rest, found, inl (gate, left, has, commits, is)) e = commits_something gate sends rest done left commits (sym (ap but_room found) ∙ e)
performs_something sends old asked done new (rest, found, inr (none, called, err, is)) e = let f = sym (ap but_room (found ∙ ap (λ (rows : List BrokerRow). AsksRoom (topics_of sends) true ∷ rows) called)) ∙ e in cc

-- one that holds something hasn't left
stays : (kept : List (List ℕ)) (other : ConversationState) (asked : List BrokerRow) (one : ConversationState) → LeavesHolding kept other asked one → one.exit ≡ None → ⊥
stays kept other asked one (any, rows, before, last, holds, cut, ends, like) open_yet =
    ends_leave (tells_version None fault.NoMemory) fault.NoMemory None before last ends (sym (ap (λ (s : ConversationState). s.exit) like) ∙ open_yet)

held_as : (one other : ConversationState) → IsAs one other → one.held ≡ other.held
held_as one other (inl like) = ap (λ (s : ConversationState). s.held) like
held_as one other (inr (leaves, like)) = ap (λ (s : ConversationState). s.held) like

-- ---- once nothing is held

-- One that keeps the order, holds nothing and hasn't left has done each piece as another that heard them one after the other,
-- at whatever times they came.
pub all_heard : (came : List (List ℕ)) (rows : List BrokerRow) (old new : ConversationState) → new.held ≡ None → new.exit ≡ None → KeepsOrder came rows old new → (asked : List BrokerRow) × (other : ConversationState) × HearsEach came old asked other × (but_items new ≡ but_items other) × (but_room asked ≡ but_room rows)
all_heard came rows old new free open_yet (heard, kept, cut, asked, last, other, each, inl (none, nothing, unheld, inl like), sum) =
    let all = cut ∙ ap (λ (texts : List (List ℕ)). heard ++ texts) none ∙ append-nil heard in
    (asked, other, subst (λ (texts : List (List ℕ)). HearsEach texts old asked other) (sym all) each, like, ap but_room (sym (append-nil asked) ∙ ap (λ (more : List BrokerRow). asked ++ more) (sym nothing)) ∙ sum)
all_heard came rows old new free open_yet (heard, kept, cut, asked, last, other, each, inl (none, nothing, unheld, inr (leaves, like)), sum) =
    absurd (let e = subst (λ (o : Option Exit). IsSome o) (sym (ap (λ (s : ConversationState). s.exit) like) ∙ open_yet) leaves in cc)
all_heard came rows old new free open_yet (heard, kept, cut, asked, last, other, each, inr (inl (out, what, now, done, like)), sum) =
    absurd (none_some new.held what free (ap (λ (s : ConversationState). s.held) like))
all_heard came rows old new free open_yet (heard, kept, cut, asked, last, other, each, inr (inr leaves), sum) = absurd (stays kept other last new leaves open_yet)

-- ---- a piece that is kept

-- what stands beside a connection that was so, and has heard nothing
fed_once : (piece : List ℕ) (kept : List (List ℕ)) (old : ConversationState) (last : List BrokerRow) (r : Unread) → kept ≡ piece ∷ [] → old.held ≡ None → HoldsYet kept old last (record old { reader = r; held = Some (Owes (Ok tt) None) }) → r ≡ with_piece old.reader piece
fed_once piece kept old last r all free (open_yet, what, now, inl (some, nothing, is), like) = absurd (none_some old.held what free some)
fed_once piece kept old last r all free (open_yet, what, now, inr (inl (sends, receipt, done, some, is, performs)), like) = absurd (none_some old.held (Waits sends receipt) free some)
fed_once piece kept old last r all free (open_yet, what, now, inr (inr (unheld, any, is, nothing, same)), like) =
    ap (λ (s : ConversationState). s.reader) like ∙ ap (λ (texts : List (List ℕ)). fed texts now.reader) all ∙ ap (λ (s : ConversationState). with_piece s.reader piece) same

-- one that heard the piece holds no piece alone
holds_none : (heard : List (List ℕ)) (old : ConversationState) (asked last : List BrokerRow) (other one : ConversationState) → old.held ≡ None → one.held ≡ Some (Owes (Ok tt) None) → HearsEach heard old asked other → HoldsYet [] other last one → but_room (asked ++ last) ≡ [] → ⊥
holds_none heard old asked last other one free held each (open_yet, what, now, inl (some, nothing, is), like) sum =
    let w = each_waits heard old asked other what each free some in
    let e = sym held ∙ ap (λ (s : ConversationState). s.held) like ∙ sym some ∙ ap (λ (s : ConversationState). s.held) w.is in
    cc
holds_none heard old asked last other one free held each (open_yet, what, now, inr (inl (sends, receipt, done, some, is, performs)), like) sum =
    performs_something sends (record other { held = None }) last done now performs (none_left (but_room asked) (but_room last) (sym (room_on asked last) ∙ sum))
holds_none heard old asked last other one free held each (open_yet, what, now, inr (inr (unheld, any, is, nothing, same)), like) sum = any refl

tail_none : (piece first : List ℕ) (heard kept : List (List ℕ)) → piece ∷ [] ≡ first ∷ (heard ++ kept) → kept ≡ []
tail_none piece first heard kept e = none_left heard kept (let f : heard ++ kept ≡ [] = cc in f)

-- what is held where this piece came, by how much the other has heard
held_once : (piece : List ℕ) (old : ConversationState) (r : Unread) (heard kept : List (List ℕ)) (asked last : List BrokerRow) (other : ConversationState) → old.held ≡ None → piece ∷ [] ≡ heard ++ kept → HearsEach heard old asked other → HoldsYet kept other last (record old { reader = r; held = Some (Owes (Ok tt) None) }) → but_room (asked ++ last) ≡ [] → r ≡ with_piece old.reader piece
held_once piece old r [] kept asked last other free cut (nothing, is) holds sum =
    fed_once piece kept old last r (sym cut) free (subst (λ (s : ConversationState). HoldsYet kept s last (record old { reader = r; held = Some (Owes (Ok tt) None) })) is holds)
held_once piece old r (first ∷ heard) kept asked last other free cut each holds sum =
    let none = tail_none piece first heard kept cut in
    absurd (holds_none (first ∷ heard) old asked last other (record old { reader = r; held = Some (Owes (Ok tt) None) }) free refl each (subst (λ (texts : List (List ℕ)). HoldsYet texts other last (record old { reader = r; held = Some (Owes (Ok tt) None) })) none holds) sum)

-- A piece comes to a connection that holds nothing, while an item is half out, and nothing is asked. Where it keeps the
-- order, and holds but that, its stream is what it was with the piece, once.
pub keeps_once : (piece : List ℕ) (old : ConversationState) (r : Unread) → old.held ≡ None → old.exit ≡ None → KeepsOrder (piece ∷ []) [] old (record old { reader = r; held = Some (Owes (Ok tt) None) }) → r ≡ with_piece old.reader piece
keeps_once piece old r free open_yet (heard, kept, cut, asked, last, other, each, inl (none, nothing, unheld, same), sum) =
    absurd (none_some other.held (Owes (Ok tt) None) unheld (sym (held_as (record old { reader = r; held = Some (Owes (Ok tt) None) }) other same)))
keeps_once piece old r free open_yet (heard, kept, cut, asked, last, other, each, inr (inl holds), sum) = held_once piece old r heard kept asked last other free cut each holds sum
keeps_once piece old r free open_yet (heard, kept, cut, asked, last, other, each, inr (inr leaves), sum) =
    absurd (stays kept other last (record old { reader = r; held = Some (Owes (Ok tt) None) }) leaves open_yet)

longer_text : (text : List ℕ) (octet : ℕ) (more : List ℕ) → text ≡ text ++ octet ∷ more → ⊥
longer_text text octet more e = let n = ap length e ∙ length-append text (octet ∷ more) in omega arith

-- so one that drops it keeps no order
pub dropped_piece : (octet : ℕ) (more : List ℕ) (old : ConversationState) → old.held ≡ None → old.exit ≡ None → old.reader.answered ≡ None → KeepsOrder ((octet ∷ more) ∷ []) [] old (record old { held = Some (Owes (Ok tt) None) }) → ⊥
dropped_piece octet more old free open_yet none keeps =
    let same = keeps_once (octet ∷ more) old old.reader free open_yet keeps ∙ fed_one old.reader (octet ∷ more) none in
    longer_text old.reader.text octet more (ap (λ (u : Unread). u.text) same)

-- nor does one that hears it twice
pub heard_twice : (octet : ℕ) (more : List ℕ) (old : ConversationState) → old.held ≡ None → old.exit ≡ None → old.reader.answered ≡ None
    → KeepsOrder ((octet ∷ more) ∷ []) [] old (keeping ((octet ∷ more) ∷ (octet ∷ more) ∷ []) (record old { held = Some (Owes (Ok tt) None) })) → ⊥
heard_twice octet more old free open_yet none keeps =
    let piece = octet ∷ more in
    let once = with_piece old.reader piece in
    let is = fed_one old.reader piece none in
    let answered = ap (λ (u : Unread). u.answered) is ∙ none in
    let same = keeps_once piece old (fed (piece ∷ piece ∷ []) old.reader) free open_yet keeps in
    longer_text once.text octet more (sym (ap (λ (u : Unread). u.text) same) ∙ ap (λ (u : Unread). u.text) (fed_one once piece answered))

-- one that holds a transaction which waits: the other holds it, too, and asked as much
waits_too : (kept : List (List ℕ)) (other : ConversationState) (last : List BrokerRow) (one : ConversationState) (sends : List SentMessage) (receipt : Option (List ℕ)) → StandsBeside kept other last one → one.exit ≡ None → one.held ≡ Some (Waits sends receipt) → IsSome other.held × (last ≡ []) × (other.exit ≡ None)
waits_too kept other last one sends receipt (inl (none, nothing, unheld, same)) open_yet held = absurd (none_some other.held (Waits sends receipt) unheld (sym (held_as one other same) ∙ held))
waits_too kept other last one sends receipt (inr (inl (out, what, now, inl (some, nothing, is), like))) open_yet held =
    let stays = sym (ap (λ (s : ConversationState). s.exit) is) ∙ sym (ap (λ (s : ConversationState). s.exit) like) ∙ open_yet in
    (subst (λ (o : Option Held). IsSome o) (sym some) refl, nothing, stays)
waits_too kept other last one sends receipt (inr (inl (out, what, now, inr (inl (others, asked, done, some, is, performs)), like))) open_yet held =
    absurd (let e = sym held ∙ ap (λ (s : ConversationState). s.held) like ∙ ap Some is in cc)
waits_too kept other last one sends receipt (inr (inl (out, what, now, inr (inr (unheld, any, is, nothing, same)), like))) open_yet held =
    absurd (let e = sym held ∙ ap (λ (s : ConversationState). s.held) like ∙ ap Some is in cc)
waits_too kept other last one sends receipt (inr (inr leaves)) open_yet held = absurd (stays kept other last one leaves open_yet)

-- one that doesn't leave hadn't left before
stayed : (piece : List ℕ) (old : ConversationState) (asked : List BrokerRow) (new : ConversationState) → Hears piece old asked new → new.exit ≡ None → old.exit ≡ None
stayed piece old asked new (inl (leaves, none, is)) open_yet = sym (ap (λ (s : ConversationState). s.exit) is) ∙ open_yet
stayed piece old asked new (inr (inl (so, called, ends))) open_yet = so
stayed piece old asked new (inr (inr (so, takes))) open_yet = so

stayed_each : (texts : List (List ℕ)) (old : ConversationState) (asked : List BrokerRow) (new : ConversationState) → HearsEach texts old asked new → new.exit ≡ None → old.exit ≡ None
stayed_each [] old asked new (none, is) open_yet = sym (ap (λ (s : ConversationState). s.exit) is) ∙ open_yet
stayed_each (piece ∷ more) old asked new (free, first, rest, cut, between, hears, each) open_yet = stayed piece old first between hears (stayed_each more between rest new each open_yet)

first_row : (row : BrokerRow) (rows more : List BrokerRow) (n : SubName) → Unsubscribes n ∷ [] ≡ (row ∷ rows) ++ more → row ≡ Unsubscribes n
first_row row rows more n e = cc

-- This piece is a SEND to a topic that is known: where it comes, and the connection doesn't leave, it waits, and nothing but
-- room is asked; or something is asked first that ends no subscription, as to commit its flight.
abbrev pub SendsFirst : List ℕ → ConversationState → Type 0
SendsFirst piece old =
    (asked : List BrokerRow) (new : ConversationState) → Hears piece old asked new → new.exit ≡ None
    → ((new.held ≡ None) × (row : BrokerRow) × (rows : List BrokerRow) × (but_room asked ≡ row ∷ rows) × ((n : SubName) → row ≢ Unsubscribes n))
    ⊎ (IsSome new.held × (but_room asked ≡ []))

-- A SEND comes, and waits; then an UNSUBSCRIBE, in a piece of its own. One that asks for that, and holds the transaction
-- yet, keeps no order.
pub taken_before : (send more : List ℕ) (old one : ConversationState) (sends : List SentMessage) (receipt : Option (List ℕ)) (n : SubName) → old.held ≡ None → SendsFirst send old → one.exit ≡ None → one.held ≡ Some (Waits sends receipt) → KeepsOrder (send ∷ more ∷ []) (AsksRoom (topics_of sends) false ∷ Unsubscribes n ∷ []) old one → ⊥
taken_before send more old one sends receipt n free sent open_yet held (heard, kept, cut, asked, last, other, each, stands, sum) =
    let w = waits_too kept other last one sends receipt stands open_yet held in
    by heard cut each w.0 (ap but_room (sym (append-nil asked) ∙ ap (λ (rows : List BrokerRow). asked ++ rows) (sym w.1)) ∙ sum) w.2
  where
    first_is : (first : List BrokerRow) (between : ConversationState) (rest : List BrokerRow) → Hears send old first between → between.exit ≡ None → asked ≡ first ++ rest → but_room asked ≡ Unsubscribes n ∷ [] → IsSome between.held × (but_room first ≡ [])
    first_is first between rest hears out split total = elim (sent first between hears out) [
      | inl (unheld, row, rows, begins, differs) ↦ absurd (differs n (first_row row rows (but_room rest) n (sym total ∙ ap but_room split ∙ room_on first rest ∙ ap (λ (all : List BrokerRow). all ++ but_room rest) begins)))
      | inr waits ↦ waits
    ]

    by : (texts : List (List ℕ)) → send ∷ more ∷ [] ≡ texts ++ kept → HearsEach texts old asked other → IsSome other.held → but_room asked ≡ Unsubscribes n ∷ [] → other.exit ≡ None → ⊥
    by [] all (none, is) waits total out = let e = subst (λ (o : Option Held). IsSome o) (ap (λ (s : ConversationState). s.held) is ∙ free) waits in cc
    by (piece ∷ []) all (unheld, first, rest, split, between, hears, (none, is)) waits total out =
        let same : send ≡ piece = cc in
        let there = subst (λ (text : List ℕ). Hears text old first between) (sym same) hears in
        let f = first_is first between rest there (sym (ap (λ (s : ConversationState). s.exit) is) ∙ out) split total in
        let e = sym total ∙ ap but_room (split ∙ ap (λ (rows : List BrokerRow). first ++ rows) none ∙ append-nil first) ∙ f.1 in
        cc
    by (piece ∷ next ∷ texts) all (unheld, first, rest, split, between, hears, follow) waits total out =
        let same : send ≡ piece = cc in
        let there = subst (λ (text : List ℕ). Hears text old first between) (sym same) hears in
        let f = first_is first between rest there (stayed_each (next ∷ texts) between rest other follow out) split total in
        let e = subst (λ (o : Option Held). IsSome o) follow.0 f.0 in
        cc
