-- A connection that takes at once what was kept in its stream does what one does that heard it piece after piece.
use Rattle.std.proofs.Common.{◌≡◌, ◌≢◌, ◌⊎◌, inl, inr, IfSome, ℕ, Bool, true, List, [], ◌∷◌, ◌++◌, Option, Some, None, Result, Ok, Err, refl, sym, ap, subst, ◌∙◌, append_assoc, append-nil}
use Rattle.std.specs.Prelude.{IsSome, MatchOption}
use Rattle.stomp_frame.specs.declared.fault.Check.{Check}
use Rattle.stomp_frame.specs.declared.fault.FrameFault.{FrameFault}
use Rattle.stomp_frame.specs.declared.raw_frame.RawFrame.{RawFrame}
use Rattle.stomp_frame.specs.Checks.{IsAtFault, IsOpen}
use Rattle.stomp_frame.specs.Faults.{fault_of}
use Rattle.stomp_frame.specs.Grammar.{BeginsWith, Leaves}
use Rattle.stomp_frame.specs.Reader.{NextReturns, ReadsNext, Unread, unread_of}
use Rattle.delivery.specs.Core.Outcomes.{is_any}
use Rattle.delivery.specs.Core.Steps.{reader_limits}
use Rattle.broker_server.specs.declared.conversation.conversation_fault.ConversationFault.{ConversationFault}
use Rattle.broker_server.specs.declared.conversation.exit.Exit.{Exit}
use Rattle.broker_server.specs.declared.conversation.held.Held.{Held}
use Rattle.broker_server.specs.BrokerRows.{BrokerRow}
use Rattle.broker_server.specs.ConversationFaults.{fault_of_reader, tells_version}
use Rattle.broker_server.specs.Conversations.{ConversationState, EndsByError, EndsSaying, closing_rows}
use Rattle.broker_server.specs.Hearing.{Listens, ReadingFails, Rests, TakesAll, TakesFrame, TakesFrames}
use Rattle.broker_server.specs.Waiting.{HearsEach, but_items, but_unread, keeping}
use Rattle.broker_server.proofs.HearingLemmas.{nothing_read, reading_fails, takes_reader}
use Rattle.broker_server.proofs.HeldLemmas.{Calm, TakesSome, all_on, all_waits, deaf, ends_free, frame_calm}
use Rattle.broker_server.proofs.LikeLemmas.{Like, all_like}
use Rattle.broker_server.proofs.StreamLemmas.{IsLonger, Starts, fails_by, fed_all, fed_nothing, fed_one, goes_to_rest, joined, no_eols, returns, returns_fault, returns_frame, returns_none, starts, with_text}
use Rattle.broker_server.proofs.UnreadLemmas.{ends_reading, frame_reading, reading}

-- ---- how far another comes

-- they differ by what was delivered, and by what isn't read
abbrev pub LikeUnread : ConversationState → ConversationState → Type 0
LikeUnread one other = but_unread one ≡ but_unread other

-- One is as another, or both have left, where something was kept.
abbrev pub InStep : Type 0 → ConversationState → ConversationState → Type 0
InStep Kept one other = Like one other ⊎ (Kept × IsSome other.exit × LikeUnread one other)

-- The other finishes what it reads, and hears these pieces.
abbrev pub Catches : List (List ℕ) → ConversationState → List BrokerRow → ConversationState → Type 0
Catches done mid rows end =
    (first rest : List BrokerRow) × (between : ConversationState) × (rows ≡ first ++ rest)
    × TakesAll mid first between × HearsEach done between rest end

-- It comes to the end, and nothing waits; or to a transaction that waits, behind which the other pieces are kept.
abbrev pub Ended : Type 0 → List (List ℕ) → ConversationState → ConversationState → Type 0
Ended Kept left end new =
    ((left ≡ []) × (end.held ≡ None) × InStep Kept new end)
    ⊎ ((what : Held) × (end.held ≡ Some what) × (end.exit ≡ None) × Like new (keeping left end))

abbrev pub Caught : Type 0 → List (List ℕ) → ConversationState → List BrokerRow → ConversationState → Type 0
Caught Kept kept mid rows new =
    (done left : List (List ℕ)) × (end : ConversationState) × (kept ≡ done ++ left) × Catches done mid rows end
    × Ended Kept left end new

pub unread_like : (one other : ConversationState) → Like one other → LikeUnread one other
unread_like one other like = ap (λ (s : ConversationState). record s { reader = unread_of reader_limits }) like

-- ---- steps of the other

-- frames are taken first
caught_on : (Kept : Type 0) (kept : List (List ℕ)) (start : ConversationState) (asked : List BrokerRow) (mid : ConversationState) (rows : List BrokerRow) (new : ConversationState) → TakesSome start asked mid → Caught Kept kept mid rows new → Caught Kept kept start (asked ++ rows) new
caught_on Kept kept start asked mid rows new some (done, left, end, cut, (first, rest, between, split, takes, each), ended) =
    (done, left, end, cut, (asked ++ first, rest, between, ap (λ (all : List BrokerRow). asked ++ all) split ∙ sym (append_assoc asked first rest), all_on start asked mid first between some takes, each), ended)

-- no frame is whole, and a piece comes
caught_piece : (Kept : Type 0) (piece : List ℕ) (kept : List (List ℕ)) (mid : ConversationState) (left : Unread) (rows : List BrokerRow) (new : ConversationState) → Listens mid → left.answered ≡ None → NextReturns mid.reader (Ok None) left → Caught Kept kept (reading (with_text left (left.text ++ piece)) mid) rows new → Caught Kept (piece ∷ kept) mid rows new
caught_piece Kept piece kept mid left rows new listens none reads (done, behind, end, cut, (first, rest, between, split, takes, each), ended) =
    let waits = reading left mid in
    let read = subst (λ (r : Unread). TakesAll (reading r mid) first between) (sym (fed_one left piece none)) takes in (
      piece ∷ done,
      behind,
      end,
      ap (λ (all : List (List ℕ)). piece ∷ all) cut,
      ([], rows, waits, refl, ([], mid, [], [], refl, (refl, refl), inr (inl (listens, left, reads, refl, refl))), (listens.1, first, rest, split, between, inr (inr (listens.0, read)), each)),
      ended,
    )

-- it leaves as it reads, and hears nothing more
caught_leaving : (Kept : Type 0) (kept : List (List ℕ)) (mid : ConversationState) (rows : List BrokerRow) (end new : ConversationState) → Kept → TakesAll mid rows end → IsSome end.exit → end.held ≡ None → LikeUnread new end → Caught Kept kept mid rows new
caught_leaving Kept kept mid rows end new token takes leaves free like =
    (kept, [], end, sym (append-nil kept), (rows, [], end, sym (append-nil rows), takes, deaf kept end leaves free), inl (refl, free, inr (token, leaves, like)))

-- ---- what is read of the whole text, the other reads, once it has heard some pieces

-- with so many pieces left, this reader of the other returns the same
abbrev Returns : List (List ℕ) → Unread → Result (Option RawFrame) FrameFault → Unread → Type 0
Returns left r result next =
    ((f : RawFrame) × (others : List ℕ) × (Ok (Some f) ≡ result) × BeginsWith r.limits r.text f others × (with_text r (others ++ joined left) ≡ next))
    ⊎ ((rest : List ℕ) × (left ≡ []) × (Ok None ≡ result) × Leaves r.limits r.text rest × IsOpen r.limits rest × (with_text r rest ≡ next))
    ⊎ ((rest : List ℕ) × (k : Check) × (Err (fault_of k) ≡ result) × Leaves r.limits r.text rest × IsAtFault r.limits rest k)

abbrev Meets : Type 0 → List (List ℕ) → ConversationState → Result (Option RawFrame) FrameFault → Unread → Type 0
Meets Kept kept mid result next =
    (left : List (List ℕ)) × (r : Unread) × (r.answered ≡ None) × Returns left r result next
    × ((rows : List BrokerRow) (new : ConversationState) → Caught Kept left (reading r mid) rows new → Caught Kept kept mid rows new)

meets_last : (Kept : Type 0) (mid : ConversationState) (text : List ℕ) (result : Result (Option RawFrame) FrameFault) (next : Unread) → IsLonger mid.reader [] text → NextReturns (with_text mid.reader text) result next → Starts mid.reader.limits mid.reader.text → Meets Kept [] mid result next
meets_last Kept mid text result next longer reads (inl (f, others, begins)) =
    let same = returns_frame mid.reader [] text f others result next longer begins reads in
    ([], mid.reader, longer.unanswered, inl (f, others, same.0, begins, same.1), λ rows new caught. caught)
meets_last Kept mid text result next longer reads (inr (inl (rest, leaves, opens))) =
    let same = returns_none mid.reader text rest result next longer leaves opens reads in
    ([], mid.reader, longer.unanswered, inr (inl (rest, refl, same.0, leaves, opens, same.1)), λ rows new caught. caught)
meets_last Kept mid text result next longer reads (inr (inr (rest, k, leaves, faulty))) =
    let same = returns_fault mid.reader [] text rest k result next longer leaves faulty reads in
    ([], mid.reader, longer.unanswered, inr (inr (rest, k, same, leaves, faulty)), λ rows new caught. caught)

-- so it does of these pieces, from any text
abbrev MeetsAll : Type 0 → List (List ℕ) → Type 0
MeetsAll Kept kept =
    (mid : ConversationState) (text : List ℕ) (result : Result (Option RawFrame) FrameFault) (next : Unread)
    → IsLonger mid.reader (joined kept) text → Listens mid → NextReturns (with_text mid.reader text) result next → Meets Kept kept mid result next

meets_more : (Kept : Type 0) (piece : List ℕ) (kept : List (List ℕ)) → MeetsAll Kept kept → (mid : ConversationState) (text : List ℕ) (result : Result (Option RawFrame) FrameFault) (next : Unread) → IsLonger mid.reader (piece ++ joined kept) text → Listens mid → NextReturns (with_text mid.reader text) result next → Starts mid.reader.limits mid.reader.text → Meets Kept (piece ∷ kept) mid result next
meets_more Kept piece kept more mid text result next longer listens reads (inl (f, others, begins)) =
    let same = returns_frame mid.reader (piece ++ joined kept) text f others result next longer begins reads in
    (piece ∷ kept, mid.reader, longer.unanswered, inl (f, others, same.0, begins, same.1), λ rows new caught. caught)
meets_more Kept piece kept more mid text result next longer listens reads (inr (inl (rest, leaves, opens))) =
    let waits = with_text mid.reader rest in
    let none = returns mid.reader (Ok None) waits longer.unanswered (rest, leaves, opens, refl) in
    let then = more (reading (with_text mid.reader (rest ++ piece)) mid) text result next (goes_to_rest mid.reader piece (joined kept) text rest longer leaves) listens reads in
    (then.0, then.1, then.2, then.3, λ rows new caught. caught_piece Kept piece kept mid waits rows new listens longer.unanswered none (then.4 rows new caught))
meets_more Kept piece kept more mid text result next longer listens reads (inr (inr (rest, k, leaves, faulty))) =
    let same = returns_fault mid.reader (piece ++ joined kept) text rest k result next longer leaves faulty reads in
    (piece ∷ kept, mid.reader, longer.unanswered, inr (inr (rest, k, same, leaves, faulty)), λ rows new caught. caught)

meets : (Kept : Type 0) (kept : List (List ℕ)) → MeetsAll Kept kept
meets Kept [] mid text result next longer listens reads = meets_last Kept mid text result next longer reads (starts mid.reader.limits mid.reader.text)
meets Kept (piece ∷ kept) mid text result next longer listens reads = meets_more Kept piece kept (meets Kept kept) mid text result next longer listens reads (starts mid.reader.limits mid.reader.text)

-- ---- where nothing more is taken

-- no frame is whole
met_none : (Kept : Type 0) (left : List (List ℕ)) (r : Unread) (mid : ConversationState) (next : Unread) (new : ConversationState) → r.answered ≡ None → Listens mid → new ≡ reading next mid → Returns left r (Ok None) next → Caught Kept left (reading r mid) [] new
met_none Kept left r mid next new none listens is (inl (f, others, same, begins, e)) = absurd cc
met_none Kept left r mid next new none listens is (inr (inl (rest, all, same, leaves, opens, e))) =
    let end = reading (with_text r rest) mid in
    let takes : TakesAll (reading r mid) [] end = ([], reading r mid, [], [], refl, (refl, refl), inr (inl (listens, with_text r rest, returns r (Ok None) (with_text r rest) none (rest, leaves, opens, refl), refl, refl))) in
    ([], left, end, refl, ([], [], end, refl, takes, (refl, refl)), inl (all, listens.1, inl (ap but_items (is ∙ ap (λ (u : Unread). reading u mid) (sym e)))))
met_none Kept left r mid next new none listens is (inr (inr (rest, k, same, leaves, faulty))) = absurd cc

exit_of : (version : Bool) (why : ConversationFault) (receipt : Option (List ℕ)) (old new : ConversationState) → EndsSaying version why receipt old new → IsSome new.exit
exit_of version why receipt old new (inl e) = subst (λ (o : Option Exit). IsSome o) (sym (ap (λ (s : ConversationState). s.exit) e)) refl
exit_of version why receipt old new (inr e) = subst (λ (o : Option Exit). IsSome o) (sym (ap (λ (s : ConversationState). s.exit) e)) refl

-- its reading fails so, too
fails_too : (Kept : Type 0) (left : List (List ℕ)) (r : Unread) (mid : ConversationState) (next last : Unread) (why : FrameFault) (rows : List BrokerRow) (new : ConversationState) → Kept → Listens mid → ReadingFails why r last → rows ≡ closing_rows mid → EndsByError (fault_of_reader why) None (reading next mid) new → Caught Kept left (reading r mid) rows new
fails_too Kept left r mid next last why rows new token listens fails called ends =
    let version = tells_version None (fault_of_reader why) in
    let end = reading last new in
    let takes : TakesAll (reading r mid) rows end = ([], reading r mid, [], rows, refl, (refl, refl), inr (inr (listens, why, last, fails, called, ends_reading last version (fault_of_reader why) None (reading next mid) new ends))) in
    caught_leaving Kept left (reading r mid) rows end new token takes (exit_of version (fault_of_reader why) None (reading next mid) new ends) (ends_free version (fault_of_reader why) None (reading next mid) new ends) refl

-- what follows is no frame
met_fault : (Kept : Type 0) (left : List (List ℕ)) (r : Unread) (mid : ConversationState) (next : Unread) (why : FrameFault) (rows : List BrokerRow) (new : ConversationState) → Kept → r.answered ≡ None → Listens mid → why ≢ FrameFault.NoMemory → rows ≡ closing_rows mid → EndsByError (fault_of_reader why) None (reading next mid) new → Returns left r (Err why) next → Caught Kept left (reading r mid) rows new
met_fault Kept left r mid next why rows new token none listens other called ends (inl (f, others, same, begins, e)) = absurd cc
met_fault Kept left r mid next why rows new token none listens other called ends (inr (inl (rest, all, same, leaves, opens, e))) = absurd cc
met_fault Kept left r mid next why rows new token none listens other called ends (inr (inr (rest, k, same, leaves, faulty))) =
    let last : Unread = record r { answered = Some k } in
    let is : fault_of k ≡ why = cc in
    let answer = returns r (Err why) last none (rest, k, leaves, faulty, sym is, refl) in
    fails_too Kept left r mid next last why rows new token listens (reading_fails why r last (λ ne. answer) (λ e. absurd (other e))) called ends

-- there is no memory for a frame: the other meets that as soon as something is unread
lacks : (Kept : Type 0) (kept : List (List ℕ)) (mid : ConversationState) (next : Unread) (rows : List BrokerRow) (new : ConversationState) → Kept → mid.reader.answered ≡ None → Listens mid → is_any (mid.reader.text ++ joined kept) ≡ true → rows ≡ closing_rows mid → EndsByError (fault_of_reader FrameFault.NoMemory) None (reading next mid) new → (text : List ℕ) → mid.reader.text ≡ text → Caught Kept kept mid rows new
lacks Kept kept mid next rows new token none listens any called ends (octet ∷ text) is =
    fails_too Kept kept mid.reader mid next mid.reader FrameFault.NoMemory rows new token listens (refl, ap is_any is) called ends
lacks Kept [] mid next rows new token none listens any called ends [] is =
    absurd (let e = sym (ap (λ (t : List ℕ). is_any (t ++ [])) is) ∙ any in cc)
lacks Kept (piece ∷ kept) mid next rows new token none listens any called ends [] is =
    let read = nothing_read mid.session mid.reader mid.reader (Err FrameFault.NoMemory) refl (subst (λ (o : Option Check). IfSome o (λ k. NextReturns mid.reader (Err FrameFault.NoMemory) mid.reader)) (sym none) tt) refl is in
    let start = reading (with_text mid.reader (mid.reader.text ++ piece)) mid in
    caught_piece Kept piece kept mid mid.reader rows new listens none read
    (lacks Kept kept start next rows new token none listens (ap is_any (append_assoc mid.reader.text piece (joined kept)) ∙ any) called ends start.reader.text refl)

-- it leaves, or a transaction waits
met_still : (Kept : Type 0) (kept : List (List ℕ)) (mid : ConversationState) (text : List ℕ) (rows : List BrokerRow) (new : ConversationState) → Kept → mid.reader.answered ≡ None → text ≡ mid.reader.text ++ joined kept → Calm mid → IsSome mid.exit ⊎ IsSome mid.held → rows ≡ [] → new ≡ reading (with_text mid.reader text) mid → Caught Kept kept mid rows new
met_still Kept kept mid text rows new token none cut (inl free) (inl leaves) nothing is =
    caught_leaving Kept kept mid rows mid new token ([], mid, [], rows, refl, (refl, refl), inl (inl leaves, nothing, refl)) leaves free (ap but_unread is)
met_still Kept kept mid text rows new token none cut (inl free) (inr waits) nothing is = absurd (let e = subst (λ (o : Option Held). IsSome o) free waits in cc)
met_still Kept kept mid text rows new token none cut (inr (what, some, open_yet)) either nothing is =
    let waits : IsSome mid.held = subst (λ (o : Option Held). IsSome o) (sym some) refl in
    let same = is ∙ ap (λ (t : List ℕ). reading (with_text mid.reader t) mid) cut ∙ ap (λ (r : Unread). reading r mid) (sym (fed_all kept mid.reader none)) in
    ([], kept, mid, refl, ([], [], mid, nothing, ([], mid, [], [], refl, (refl, refl), inl (inr waits, refl, refl)), (refl, refl)), inr (what, some, open_yet, ap but_items same))

-- at the end of the frames that are taken
met_rests : (Kept : Type 0) (kept : List (List ℕ)) (mid : ConversationState) (rows : List BrokerRow) (new : ConversationState) → Kept → mid.reader.answered ≡ None → Calm mid → Rests (reading (with_text mid.reader (mid.reader.text ++ joined kept)) mid) rows new → Caught Kept kept mid rows new
met_rests Kept kept mid rows new token none calm (inl (still, nothing, is)) =
    met_still Kept kept mid (mid.reader.text ++ joined kept) rows new token none refl calm still nothing is
met_rests Kept kept mid rows new token none calm (inr (inl (listens, next, reads, nothing, is))) =
    let m = meets Kept kept mid (mid.reader.text ++ joined kept) (Ok None) next (no_eols mid.reader (joined kept) none) listens reads in
    m.4 rows new (subst (λ (all : List BrokerRow). Caught Kept m.0 (reading m.1 mid) all new) (sym nothing) (met_none Kept m.0 m.1 mid next new m.2 listens is m.3))
met_rests Kept kept mid rows new token none calm (inr (inr (listens, why, next, fails, called, ends))) =
    by (fails_by why (with_text mid.reader (mid.reader.text ++ joined kept)) next fails)
  where
    by : ((why ≡ FrameFault.NoMemory) × (is_any (mid.reader.text ++ joined kept) ≡ true)) ⊎ ((why ≢ FrameFault.NoMemory) × NextReturns (with_text mid.reader (mid.reader.text ++ joined kept)) (Err why) next) → Caught Kept kept mid rows new
    by (inl (lacking, any)) =
        lacks Kept kept mid next rows new token none listens any called (subst (λ (w : FrameFault). EndsByError (fault_of_reader w) None (reading next mid) new) lacking ends) mid.reader.text refl
    by (inr (other, reads)) =
        let m = meets Kept kept mid (mid.reader.text ++ joined kept) (Err why) next (no_eols mid.reader (joined kept) none) listens reads in
        m.4 rows new (met_fault Kept m.0 m.1 mid next why rows new token m.2 listens other called ends m.3)

-- ---- frame after frame

-- the frames that are taken of the whole text, whatever is kept
abbrev AreCaught : Type 0 → List RawFrame → Type 0
AreCaught Kept frames =
    (kept : List (List ℕ)) (mid : ConversationState) (asked : List BrokerRow) (between : ConversationState) (rows : List BrokerRow) (new : ConversationState)
    → mid.reader.answered ≡ None → Calm mid → TakesFrames frames (reading (with_text mid.reader (mid.reader.text ++ joined kept)) mid) asked between → Rests between rows new
    → Caught Kept kept mid (asked ++ rows) new

-- the other takes the frame, too, and then what follows
met_frame : (Kept : Type 0) (f : RawFrame) (frames : List RawFrame) (left : List (List ℕ)) (r : Unread) (mid : ConversationState) (next : Unread) (first rest : List BrokerRow) (then between : ConversationState) (rows : List BrokerRow) (new : ConversationState) → AreCaught Kept frames → r.answered ≡ None → Listens mid → TakesFrame f (reading next mid) first then → TakesFrames frames then rest between → Rests between rows new → Returns left r (Ok (Some f)) next → Caught Kept left (reading r mid) (first ++ (rest ++ rows)) new
met_frame Kept f frames left r mid next first rest then between rows new later none listens takes follow rests (inl (g, others, same, begins, e)) =
    let behind = with_text r others in
    let at = reading behind then in
    let is : g ≡ f = cc in
    let reads = returns r (Ok (Some f)) behind none (subst (λ (h : RawFrame). ReadsNext r (Ok (Some h)) behind) is (others, begins, refl)) in
    let some : TakesSome (reading r mid) first at = (f ∷ [], (listens, behind, reads, at, first, [], sym (append-nil first), frame_reading behind f (reading next mid) first then takes, (refl, refl))) in
    let there : then ≡ reading (with_text r (others ++ joined left)) at = ap (λ (u : Unread). reading u then) (takes_reader f (reading next mid) first then takes ∙ sym e) in
    let calm : Calm at = frame_calm f (reading next mid) first then takes listens.1 listens.0 in
    caught_on Kept left (reading r mid) first at (rest ++ rows) new some (later left at rest between rows new none calm (subst (λ (s : ConversationState). TakesFrames frames s rest between) there follow) rests)
met_frame Kept f frames left r mid next first rest then between rows new later none listens takes follow rests (inr (inl (rest', all, same, leaves, opens, e))) = absurd cc
met_frame Kept f frames left r mid next first rest then between rows new later none listens takes follow rests (inr (inr (rest', k, same, leaves, faulty))) = absurd cc

caught_frames : (Kept : Type 0) → Kept → (frames : List RawFrame) → AreCaught Kept frames
caught_frames Kept token [] kept mid asked between rows new none calm (nothing, same) rests =
    let is = subst (λ (s : ConversationState). Rests s rows new) same rests in
    subst (λ (all : List BrokerRow). Caught Kept kept mid (all ++ rows) new) (sym nothing) (met_rests Kept kept mid rows new token none calm is)
caught_frames Kept token (f ∷ frames) kept mid asked between rows new none calm (listens, next, reads, then, first, rest, cut, takes, follow) rests =
    let whole = mid.reader.text ++ joined kept in
    let m = meets Kept kept mid whole (Ok (Some f)) next (no_eols mid.reader (joined kept) none) listens reads in
    let one = met_frame Kept f frames m.0 m.1 mid next first rest then between rows new (caught_frames Kept token frames) m.2 listens takes follow rests m.3 in
    let split = ap (λ (all : List BrokerRow). all ++ rows) cut ∙ append_assoc first rest rows in
    subst (λ (all : List BrokerRow). Caught Kept kept mid all new) (sym split) (m.4 (first ++ (rest ++ rows)) new one)

-- ---- all that was kept

again : (r : Unread) (result : Result (Option RawFrame) FrameFault) (left : Unread) {k : Check} → r.answered ≡ Some k → NextReturns r result left → (result ≡ Err (fault_of k)) × (left ≡ r)
again r result left {k} some next = subst (λ (o : Option Check). MatchOption o (ReadsNext r result left) (λ j. (result ≡ Err (fault_of j)) × (left ≡ r))) some next

-- a reader that returned a fault returns it again
answered_again : (Kept : Type 0) (kept : List (List ℕ)) (mid : ConversationState) (rows : List BrokerRow) (new : ConversationState) (k : Check) → Kept → mid.held ≡ None → mid.reader.answered ≡ Some k → TakesAll mid rows new → Caught Kept kept mid rows new
answered_again Kept kept mid rows new k token free some ([], between, first, rest, cut, (none, same), inl (inl leaves, nothing, is)) =
    let now = is ∙ same in
    caught_leaving Kept kept mid rows new new token ([], between, first, rest, cut, (none, same), inl (inl leaves, nothing, is)) (subst (λ (s : ConversationState). IsSome s.exit) (sym is) leaves) (ap (λ (s : ConversationState). s.held) now ∙ free) refl
answered_again Kept kept mid rows new k token free some ([], between, first, rest, cut, (none, same), inl (inr waits, nothing, is)) =
    absurd (let e = subst (λ (o : Option Held). IsSome o) (ap (λ (s : ConversationState). s.held) same ∙ free) waits in cc)
answered_again Kept kept mid rows new k token free some ([], between, first, rest, cut, (none, same), inr (inl (listens, left, reads, nothing, is))) =
    absurd (let e = (again between.reader (Ok None) left (ap (λ (s : ConversationState). s.reader.answered) same ∙ some) reads).0 in cc)
answered_again Kept kept mid rows new k token free some ([], between, first, rest, cut, (none, same), inr (inr (listens, why, left, fails, called, ends))) =
    let version = tells_version None (fault_of_reader why) in
    let old = reading left between in
    caught_leaving Kept kept mid rows new new token ([], between, first, rest, cut, (none, same), inr (inr (listens, why, left, fails, called, ends))) (exit_of version (fault_of_reader why) None old new ends) (ends_free version (fault_of_reader why) None old new ends) refl
answered_again Kept kept mid rows new k token free some (f ∷ frames, between, first, rest, cut, takes, rests) =
    absurd (let e = (again mid.reader (Ok (Some f)) takes.1 some takes.2).0 in cc)

caught_by : (Kept : Type 0) (kept : List (List ℕ)) (mid : ConversationState) (rows : List BrokerRow) (new : ConversationState) → Kept → mid.held ≡ None → TakesAll (keeping kept mid) rows new → (o : Option Check) → mid.reader.answered ≡ o → Caught Kept kept mid rows new
caught_by Kept kept mid rows new token free takes None none =
    let is = subst (λ (r : Unread). TakesAll (reading r mid) rows new) (fed_all kept mid.reader none) takes in
    subst (λ (all : List BrokerRow). Caught Kept kept mid all new) (sym is.4) (caught_frames Kept token is.0 kept mid is.2 is.1 is.3 new none (inl free) is.5 is.6)
caught_by Kept kept mid rows new token free takes (Some k) some =
    answered_again Kept kept mid rows new k token free some (subst (λ (r : Unread). TakesAll (reading r mid) rows new) (fed_nothing kept mid.reader k some) takes)

ended_like : (Kept : Type 0) (left : List (List ℕ)) (end one new : ConversationState) → Like new one → Ended Kept left end one → Ended Kept left end new
ended_like Kept left end one new like (inl (all, free, inl same)) = inl (all, free, inl (like ∙ same))
ended_like Kept left end one new like (inl (all, free, inr (token, leaves, same))) = inl (all, free, inr (token, leaves, unread_like new one like ∙ same))
ended_like Kept left end one new like (inr (what, some, open_yet, same)) = inr (what, some, open_yet, like ∙ same)

-- nothing was kept: the other takes it as it is
caught_whole : (Kept : Type 0) (mid : ConversationState) (rows : List BrokerRow) (new one : ConversationState) → mid.held ≡ None → TakesAll mid rows one → Like new one → (o : Option Held) → one.held ≡ o → Caught Kept [] mid rows new
caught_whole Kept mid rows new one free takes like None none = ([], [], one, refl, (rows, [], one, sym (append-nil rows), takes, (refl, refl)), inl (refl, none, inl like))
caught_whole Kept mid rows new one free takes like (Some what) some =
    let w = all_waits mid rows one what takes free some in
    ([], [], one, refl, (rows, [], one, sym (append-nil rows), takes, (refl, refl)), inr (what, some, ap (λ (s : ConversationState). s.exit) w.is ∙ w.open_yet, like))

-- Where one keeps these pieces, and takes all, the other comes as far.
pub caught_up : (Kept : Type 0) (kept : List (List ℕ)) (mid one : ConversationState) (rows : List BrokerRow) (new : ConversationState) → (kept ≡ []) ⊎ Kept → mid.held ≡ None → Like one (keeping kept mid) → TakesAll one rows new → Caught Kept kept mid rows new
caught_up Kept [] mid one rows new some free like takes =
    let same = all_like one rows new mid like takes in
    caught_whole Kept mid rows new same.0 free same.1 same.2 same.0.held refl
caught_up Kept (piece ∷ kept) mid one rows new (inl none) free like takes = absurd cc
caught_up Kept (piece ∷ kept) mid one rows new (inr token) free like takes =
    let same = all_like one rows new (keeping (piece ∷ kept) mid) like takes in
    let caught = caught_by Kept (piece ∷ kept) mid rows same.0 token free same.1 mid.reader.answered refl in
    (caught.0, caught.1, caught.2, caught.3, caught.4, ended_like Kept caught.1 caught.2 same.0 new same.2 caught.5)
