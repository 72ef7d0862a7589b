-- What is taken of one queue, call by call.
use Rattle.std.proofs.Common.{◌≡◌, ◌⊎◌, inl, inr, ℕ, zero, suc, ◌+◌, ◌-◌, ◌<◌, ◌≤◌, nat_lt, drop, Option, IfSome, Bool, true, false, List, [], ◌∷◌, ◌++◌, length, Result, Ok, Err, OnOk, OnErr, IsTrue, is_err, Some, None, refl, sym, ap, subst, ◌∙◌, append_assoc, append-nil, arith}
use Rattle.std.specs.Prelude.{◌||◌, slice_get, take, if◌then◌else◌}
use Rattle.std.proofs.lemmas.Bool.{false≢true, true≢false}
use Rattle.std.proofs.lemmas.Bool.Decides.{nat_tests}
use Rattle.std.proofs.lemmas.List.{drop_all, drop_more, length-take-le, take-append-drop}
use Rattle.std.proofs.lemmas.Option.{get_or_from_slice_get}
use Rattle.std.proofs.lemmas.List.Folds.{list_any-append}
use Rattle.stomp_frame.specs.declared.raw_frame.RawFrame.{RawFrame}
use Rattle.mcast_txn.specs.Span.{Item}
use Rattle.delivery.specs.Core.Outcomes.{is_any}
use Rattle.broker_server.specs.declared.conversation.conversation_fault.ConversationFault.{ConversationFault}
use Rattle.broker_server.specs.declared.conversation.extent.Extent.{Extent}
use Rattle.broker_server.specs.declared.conversation.extent.Extent.TheVariants.{All, ButLags, Rest}
use Rattle.broker_server.specs.declared.conversation.drained.Taking.{Taking}
use Rattle.broker_server.specs.declared.conversation.drained.Taking.TheVariants.{Emptied, Stopped, Halfway, Failed}
use Rattle.broker_server.specs.BrokerRows.{AsksLag, BrokerRow, SubName, Takes}
use Rattle.broker_server.specs.Conversations.{ConversationState, OpenSubState}
use Rattle.broker_server.specs.Delivering.{BreaksOff, Drains, DrainsAll, DrainsBehind, DrainsFlagged, DrainsOn, DrainsQueues, FailsIn, IfEmptied, Settles, StopsIn, WritesAll, nearer_lag, begins_at, full_wire, has_item, has_room, is_halfway, is_item, is_stopped, left_behind, left_from, messages_of, with_messages}
use Rattle.broker_server.specs.Wires.{spelling_with_eol}

-- what was asked, and then more
pub drains_behind : (extent : Extent) (capacity : ℕ) (asked more rows : List BrokerRow) (o : OpenSubState) (wire : List ℕ) (end : Taking) (new : OpenSubState) (after : List ℕ) → Drains extent capacity 0 (asked ++ (more ++ rows)) o wire end new after → Drains extent capacity 0 ((asked ++ more) ++ rows) o wire end new after
drains_behind extent capacity asked more rows o wire end new after drains =
    subst (λ (all : List BrokerRow). Drains extent capacity 0 all o wire end new after) (sym (append_assoc asked more rows)) drains

-- an item is taken and written as a whole
pub drains_item : (extent : Extent) (capacity calls : ℕ) (o next : OpenSubState) (wire more : List ℕ) (item : Item) (sub : SubName) → length wire < full_wire → sub ≡ o.sub → next ≡ nearer_lag o → WritesAll (messages_of o item) wire more → (rows : List BrokerRow) (end : Taking) (new : OpenSubState) (after : List ℕ) → Drains extent capacity (calls + 1) rows next more end new after → Drains extent capacity calls (Takes sub (Some item) ∷ rows) o wire end new after
drains_item extent capacity calls o next wire more item sub room same next_is (whole, more_is) rows end new after drains =
    (room, same, inl (whole, subst (λ (w : List ℕ). Drains extent capacity (calls + 1) rows (nearer_lag o) w end new after) more_is (subst (λ (q : OpenSubState). Drains extent capacity (calls + 1) rows q more end new after) next_is drains)))

-- an item is taken, and isn't written as a whole
pub drains_half : (extent : Extent) (capacity calls : ℕ) (o next : OpenSubState) (wire : List ℕ) (item : Item) (sub : SubName) → length wire < full_wire → sub ≡ o.sub → next ≡ nearer_lag o → (end : Taking) (new : OpenSubState) (after : List ℕ) → BreaksOff (messages_of o item) next wire end new after → Drains extent capacity calls (Takes sub (Some item) ∷ []) o wire end new after
drains_half extent capacity calls o next wire item sub room same next_is end new after off =
    (room, same, inr (refl, subst (λ (q : OpenSubState). BreaksOff (messages_of o item) q wire end new after) next_is off))

-- ---- the MESSAGEs of an item

-- where there is room, the next is written
pub room_for : (f : RawFrame) (fs : List RawFrame) (wire : List ℕ) → has_room wire ≡ true → (left_behind (f ∷ fs) wire ≡ left_behind fs (wire ++ spelling_with_eol f)) × (with_messages (f ∷ fs) wire ≡ with_messages fs (wire ++ spelling_with_eol f))
room_for f fs wire room = (
  ap (λ (b : Bool). if b then left_behind fs (wire ++ spelling_with_eol f) else f ∷ fs) room,
  ap (λ (b : Bool). if b then with_messages fs (wire ++ spelling_with_eol f) else wire) room,
)

-- where there is none, it is left
pub no_room_for : (f : RawFrame) (fs : List RawFrame) (wire : List ℕ) → has_room wire ≡ false → (left_behind (f ∷ fs) wire ≡ f ∷ fs) × (with_messages (f ∷ fs) wire ≡ wire)
no_room_for f fs wire none = (
  ap (λ (b : Bool). if b then left_behind fs (wire ++ spelling_with_eol f) else f ∷ fs) none,
  ap (λ (b : Bool). if b then with_messages fs (wire ++ spelling_with_eol f) else wire) none,
)

some_none : (f : RawFrame) (fs : List RawFrame) → f ∷ fs ≡ [] → ⊥
some_none f fs e = cc

-- Where these are all written, it goes on with more behind them.
pub writes_more : (out more : List RawFrame) (wire now : List ℕ) → WritesAll out wire now → (left_behind (out ++ more) wire ≡ left_behind more now) × (with_messages (out ++ more) wire ≡ with_messages more now)
writes_more [] more wire now (whole, is) = (ap (left_behind more) (sym is), ap (with_messages more) (sym is))
writes_more (f ∷ fs) more wire now (whole, is) = by (has_room wire) refl (λ w all. writes_more fs more w now all)
  where
    by : (b : Bool) → has_room wire ≡ b → ((w : List ℕ) → WritesAll fs w now → (left_behind (fs ++ more) w ≡ left_behind more now) × (with_messages (fs ++ more) w ≡ with_messages more now)) → (left_behind (f ∷ (fs ++ more)) wire ≡ left_behind more now) × (with_messages (f ∷ (fs ++ more)) wire ≡ with_messages more now)
    by true room on =
        let here = room_for f fs wire room in
        let there = room_for f (fs ++ more) wire room in
        let rest = on (wire ++ spelling_with_eol f) (sym here.0 ∙ whole, is ∙ here.1) in
        (there.0 ∙ rest.0, there.1 ∙ rest.1)
    by false none on = absurd (some_none f fs (sym (no_room_for f fs wire none).0 ∙ whole))

-- Where these are all written, and there is room, one more is.
pub writes_one : (out : List RawFrame) (f : RawFrame) (wire now : List ℕ) → has_room now ≡ true → WritesAll out wire now → WritesAll (out ++ f ∷ []) wire (now ++ spelling_with_eol f)
writes_one out f wire now room all =
    let more = writes_more out (f ∷ []) wire now all in
    let one = room_for f [] now room in
    (more.0 ∙ one.0, sym (more.1 ∙ one.1))

-- Where these are all written, and there is no room, the next of them is left with those behind it.
pub breaks_off : (out : List RawFrame) (f : RawFrame) (fs : List RawFrame) (wire now : List ℕ) → has_room now ≡ false → WritesAll out wire now → (left_behind (out ++ f ∷ fs) wire ≡ f ∷ fs) × (now ≡ with_messages (out ++ f ∷ fs) wire)
breaks_off out f fs wire now none all =
    let more = writes_more out (f ∷ fs) wire now all in
    let stays = no_room_for f fs now none in
    (more.0 ∙ stays.0, sym (more.1 ∙ stays.1))

-- the queue was empty, and the broker says that it has lagged
pub drains_lag : (extent : Extent) (capacity calls : ℕ) (o next : OpenSubState) (wire : List ℕ) (sub lagging : SubName) → length wire < full_wire → sub ≡ o.sub → lagging ≡ o.sub → o.lagged ≡ false → o.until_lag ≡ 0 → next ≡ record o { lagged = true } → (rows : List BrokerRow) (end : Taking) (new : OpenSubState) (after : List ℕ) → Drains extent capacity (calls + 1) rows next wire end new after → Drains extent capacity calls (Takes sub None ∷ AsksLag lagging true ∷ rows) o wire end new after
drains_lag extent capacity calls o next wire sub lagging room same asked unlagged due next_is rows end new after drains =
    (room, same, asked, unlagged, due, subst (λ (q : OpenSubState). Drains extent capacity (calls + 1) rows q wire end new after) next_is drains)

-- those before the one at this index are written
abbrev pub SoFar : List RawFrame → ℕ → ℕ → List ℕ → List ℕ → Type 0
SoFar messages next at wire now =
    (out : List RawFrame) × (drop next messages ≡ out ++ drop at messages) × WritesAll out wire now

pub none_so_far : (messages : List RawFrame) (next : ℕ) (wire : List ℕ) → SoFar messages next next wire wire
none_so_far messages next wire = ([], refl, (refl, refl))

nothing_there : (xs : List RawFrame) (i : ℕ) → i < length xs → slice_get xs i ≡ None → ⊥
nothing_there [] i less e = absurd (omega arith)
nothing_there (x ∷ xs) zero less e = cc
nothing_there (x ∷ xs) (suc i) less e = nothing_there xs i (omega arith) e

-- the one that is there, and those behind it
pub here : (messages : List RawFrame) (at : ℕ) → at < length messages → (f : RawFrame) × (slice_get messages at ≡ Some f) × (drop at messages ≡ f ∷ drop (at + 1) messages)
here messages at there = by (slice_get messages at) refl
  where
    by : (o : Option RawFrame) → slice_get messages at ≡ o → (f : RawFrame) × (slice_get messages at ≡ Some f) × (drop at messages ≡ f ∷ drop (at + 1) messages)
    by (Some f) is = (f, is, drop_more messages at f there ∙ ap (λ (g : RawFrame). g ∷ drop (at + 1) messages) (get_or_from_slice_get messages at f f is))
    by None is = absurd (nothing_there messages at there is)

-- it is written, too
pub one_so_far : (messages : List RawFrame) (next at : ℕ) (wire now new : List ℕ) → at < length messages → has_room now ≡ true → IfSome (slice_get messages at) (λ f. new ≡ now ++ spelling_with_eol f) → SoFar messages next at wire now → SoFar messages next (at + 1) wire new
one_so_far messages next at wire now new there room put (out, cut, all) =
    let h = here messages at there in
    let f = h.0 in
    let is : new ≡ now ++ spelling_with_eol f = subst (λ (o : Option RawFrame). IfSome o (λ g. new ≡ now ++ spelling_with_eol g)) h.1 put in (
      out ++ f ∷ [],
      cut ∙ ap (λ (rest : List RawFrame). out ++ rest) h.2 ∙ sym (append_assoc out (f ∷ []) (drop (at + 1) messages)),
      subst (λ (w : List ℕ). WritesAll (out ++ f ∷ []) wire w) (sym is) (writes_one out f wire now room all),
    )

-- there is no room for it
pub stops_so_far : (messages : List RawFrame) (next at : ℕ) (wire now : List ℕ) → at < length messages → has_room now ≡ false → SoFar messages next at wire now → StopsIn (drop next messages) (drop at messages) wire now
stops_so_far messages next at wire now there none (out, cut, all) =
    let h = here messages at there in
    let off = breaks_off out h.0 (drop (at + 1) messages) wire now none all in
    let whole : drop next messages ≡ out ++ h.0 ∷ drop (at + 1) messages = cut ∙ ap (λ (rest : List RawFrame). out ++ rest) h.2 in
    (ap (λ (ms : List RawFrame). left_behind ms wire) whole ∙ off.0 ∙ sym h.2, off.1 ∙ ap (λ (ms : List RawFrame). with_messages ms wire) (sym whole))

-- none is left
pub all_so_far : (messages : List RawFrame) (next at count : ℕ) (wire now : List ℕ) → length messages ≤ at → length messages ≤ count → SoFar messages next at wire now → StopsIn (drop next messages) (drop count messages) wire now
all_so_far messages next at count wire now past over (out, cut, all) =
    let whole : drop next messages ≡ out = cut ∙ ap (λ (rest : List RawFrame). out ++ rest) (drop_all at messages past) ∙ append-nil out in
    (ap (λ (ms : List RawFrame). left_behind ms wire) whole ∙ all.0 ∙ sym (drop_all count messages over), all.1 ∙ ap (λ (ms : List RawFrame). with_messages ms wire) (sym whole))

-- there is no memory for it
pub fails_so_far : (messages : List RawFrame) (next at : ℕ) (wire now : List ℕ) → at < length messages → SoFar messages next at wire now → FailsIn (drop next messages) wire now
fails_so_far messages next at wire now there (out, cut, all) =
    let h = here messages at there in
    (out, drop at messages, cut, ap is_any h.2, all)

-- some are left
pub some_left_at : (messages : List RawFrame) (at : ℕ) → at < length messages → is_any (drop at messages) ≡ true
some_left_at messages at there = ap is_any (here messages at there).2

-- ---- what a round comes to at one queue

-- where there is room
pub room_of : (n : ℕ) → true ≡ nat_lt n full_wire → n < full_wire
room_of n some = grind (arith, nat_tests)

-- where there is none
pub full_of : (n : ℕ) → false ≡ nat_lt n full_wire → full_wire ≤ n
full_of n none = grind (arith, nat_tests)

pub on_err : {T E : Type 0} (r : Result T E) (A : Type 0) → true ≡ is_err r → OnErr r A → A
on_err (Ok x) A e a = absurd (true≢false e)
on_err (Err x) A e a = a

pub on_ok : {T E : Type 0} (r : Result T E) (A : Type 0) → false ≡ is_err r → OnOk r A → A
on_ok (Ok x) A e a = a
on_ok (Err x) A e a = absurd (false≢true e)

-- no item was taken by these further calls
pub no_item : (asked rows : List BrokerRow) (any : Bool) → has_item rows ≡ false → any ≡ has_item asked → any ≡ has_item (asked ++ rows)
no_item asked rows any none before =
    before ∙ sym (list_any-append is_item asked rows ∙ ap (λ (b : Bool). has_item asked || b) none ∙ by (has_item asked))
  where
    by : (b : Bool) → (b || false) ≡ b
    by true = refl
    by false = refl

-- an item was
pub some_item : (asked rows : List BrokerRow) → has_item rows ≡ true → true ≡ has_item (asked ++ rows)
some_item asked rows one = sym (list_any-append is_item asked rows ∙ ap (λ (b : Bool). has_item asked || b) one ∙ by (has_item asked))
  where
    by : (b : Bool) → (b || true) ≡ true
    by true = refl
    by false = refl

-- what isn't zero
pub some_left : (n : ℕ) → (n ≡ 0 → ⊥) → 0 < n
some_left zero none = absurd (none refl)
some_left (suc n) none = omega arith

-- an item of these, or of those
pub either_item : (asked later : List BrokerRow) (any more : Bool) → any ≡ has_item asked → more ≡ has_item later → (any || more) ≡ has_item (asked ++ later)
either_item asked later any more first second =
    ap (λ (b : Bool). b || more) first ∙ ap (λ (b : Bool). has_item asked || b) second ∙ sym (list_any-append is_item asked later)

-- ---- behind an item

-- where more than its rest is taken
pub takes_behind : (extent : Extent) (capacity : ℕ) (asked : List BrokerRow) (o : OpenSubState) (wire : List ℕ) (end : Taking) (new : OpenSubState) (after : List ℕ) → (extent ≡ Rest → ⊥) → Drains extent capacity 0 asked o wire end new after → DrainsBehind extent capacity asked o wire end new after
takes_behind All capacity asked o wire end new after never drains = drains
takes_behind ButLags capacity asked o wire end new after never drains = drains
takes_behind Rest capacity asked o wire end new after never drains = absurd (never refl)

-- where nothing is
pub stops_behind : (extent : Extent) (capacity : ℕ) (o : OpenSubState) (wire : List ℕ) → extent ≡ Rest → DrainsBehind extent capacity [] o wire Stopped o wire
stops_behind All capacity o wire e = absurd cc
stops_behind ButLags capacity o wire e = absurd cc
stops_behind Rest capacity o wire e = (refl, refl, refl, refl)

-- ---- queue after queue

-- a queue is left behind only where an item of it is half out
pub left_else : (t : Taking) (os : List OpenSubState) → (t ≡ Halfway → ⊥) → left_from t os ≡ length os
left_else Emptied os never = refl
left_else Stopped os never = refl
left_else Halfway os never = absurd (never refl)
left_else (Failed why) os never = refl

-- a queue that isn't emptied stops the others
pub if_stopped : (t : Taking) (A B : Type 0) → (t ≡ Emptied → ⊥) → B → IfEmptied t A B
if_stopped Emptied A B never b = absurd (never refl)
if_stopped Stopped A B never b = b
if_stopped Halfway A B never b = b
if_stopped (Failed why) A B never b = b

-- one that is goes on
pub if_emptied : (t : Taking) (A B : Type 0) → t ≡ Emptied → A → IfEmptied t A B
if_emptied t A B e a = subst (λ (s : Taking). IfEmptied s A B) (sym e) a

-- The calls so far emptied the first queues, and are a beginning: whatever is taken of the rest is taken behind them.
abbrev pub GoesOn : Extent → ℕ → ℕ → List BrokerRow → List OpenSubState → List OpenSubState → List OpenSubState → List ℕ → List ℕ → Type 0
GoesOn extent capacity flags asked queues done rest before wire =
    (rows : List BrokerRow) (end : Taking) (others : List OpenSubState) (after : List ℕ) (left : ℕ)
    → DrainsAll extent capacity flags rows rest wire end others after left
    → DrainsAll extent capacity flags (asked ++ rows) queues before end (done ++ others) after left

-- the next one is emptied, too
pub goes_on : (extent : Extent) (capacity flags : ℕ) (asked more : List BrokerRow) (queues done rest : List OpenSubState) (o new : OpenSubState) (before wire between : List ℕ) (one : Taking) → one ≡ Emptied → DrainsFlagged extent capacity flags more o wire one new between → GoesOn extent capacity flags asked queues done (o ∷ rest) before wire → GoesOn extent capacity flags (asked ++ more) queues (done ++ new ∷ []) rest before between
goes_on extent capacity flags asked more queues done rest o new before wire between one emptied drains so_far rows end others after left follow =
    subst (λ (all : List BrokerRow). DrainsAll extent capacity flags all queues before end ((done ++ new ∷ []) ++ others) after left) (sym (append_assoc asked more rows))
    (subst (λ (all : List OpenSubState). DrainsAll extent capacity flags (asked ++ (more ++ rows)) queues before end all after left) (sym (append_assoc done (new ∷ []) others))
    (so_far (more ++ rows) end (new ∷ others) after left (more, rows, refl, one, new, others, between, drains, refl, if_emptied one _ _ emptied follow)))

-- the next one isn't, and the rest stay
pub goes_no_further : (extent : Extent) (capacity flags : ℕ) (asked more : List BrokerRow) (queues done rest : List OpenSubState) (o new : OpenSubState) (before wire between : List ℕ) (one : Taking) → (one ≡ Emptied → ⊥) → DrainsFlagged extent capacity flags more o wire one new between → GoesOn extent capacity flags asked queues done (o ∷ rest) before wire → DrainsAll extent capacity flags (asked ++ more) queues before one (done ++ new ∷ rest) between (left_from one rest)
goes_no_further extent capacity flags asked more queues done rest o new before wire between one never drains so_far =
    so_far more one (new ∷ rest) between (left_from one rest) (more, [], sym (append-nil more), one, new, rest, between, drains, refl, if_stopped one _ _ never (refl, refl, refl, refl, refl))

-- the back ones are emptied, and then the front ones are taken
pub drains_both : (extent : Extent) (capacity flags next : ℕ) (queues front back : List OpenSubState) → queues ≡ front ++ back → length front ≡ begins_at next (length queues) → (first rest : List BrokerRow) (wire : List ℕ) (one end : Taking) (changed others : List OpenSubState) (between after : List ℕ) (left unseen later : ℕ) → one ≡ Emptied → DrainsAll extent capacity flags first back wire one changed between left → DrainsAll extent capacity flags rest front between end others after unseen → later ≡ length front - unseen → DrainsQueues extent capacity flags next (first ++ rest) queues wire end (others ++ changed) after later
drains_both extent capacity flags next queues front back cut begins first rest wire one end changed others between after left unseen later emptied did follow goes =
    (front, back, cut, begins, first, rest, refl, one, changed, others, between, left, unseen, did, refl, if_emptied one _ _ emptied (follow, goes))

-- the back ones aren't all emptied, and the front ones stay
pub drains_back : (extent : Extent) (capacity flags next : ℕ) (queues front back : List OpenSubState) → queues ≡ front ++ back → length front ≡ begins_at next (length queues) → (asked : List BrokerRow) (wire : List ℕ) (end : Taking) (changed : List OpenSubState) (after : List ℕ) (left later : ℕ) → (end ≡ Emptied → ⊥) → DrainsAll extent capacity flags asked back wire end changed after left → later ≡ length queues - left → DrainsQueues extent capacity flags next asked queues wire end (front ++ changed) after later
drains_back extent capacity flags next queues front back cut begins asked wire end changed after left later never did goes =
    (front, back, cut, begins, asked, [], sym (append-nil asked), end, changed, front, after, left, zero, did, refl, if_stopped end _ _ never (refl, refl, refl, refl, goes))

-- none is flagged
all_unflagged : (extent : Extent) (capacity : ℕ) (os : List OpenSubState) (wire : List ℕ) → DrainsAll extent capacity 0 [] os wire Emptied os wire 0
all_unflagged extent capacity [] wire = (refl, refl, refl, refl, refl)
all_unflagged extent capacity (o ∷ os) wire =
    ([], [], refl, Emptied, o, os, wire, inr (refl, refl, refl, refl, refl), refl, all_unflagged extent capacity os wire)

-- so none is asked
pub drains_none : (extent : Extent) (capacity flags next first : ℕ) (queues : List OpenSubState) (wire : List ℕ) → flags ≡ 0 → first ≡ begins_at next (length queues) → first ≤ length queues → DrainsQueues extent capacity flags next [] queues wire Emptied queues wire first
drains_none extent capacity flags next first queues wire none begins within =
    let size = length-take-le first queues within in
    let front = take first queues in
    let back = drop first queues in
    let whole = take-append-drop first queues in
    let left : first ≡ length front - 0 = omega (arith, size) in
    subst (λ (n : ℕ). DrainsQueues extent capacity n next [] queues wire Emptied queues wire first) (sym none)
    (subst (λ (os : List OpenSubState). DrainsQueues extent capacity 0 next [] queues wire Emptied os wire first) whole
    (drains_both extent capacity 0 next queues front back (sym whole) (size ∙ begins) [] [] wire Emptied Emptied back front wire wire 0 0 first refl (all_unflagged extent capacity back wire) (all_unflagged extent capacity front wire) left))

-- what is said of the queues as they were lent, said of the connection's own
pub drains_whole : (still extent : Extent) (held capacity flags known first next : ℕ) (asked : List BrokerRow) (lent queues : List OpenSubState) (before wire : List ℕ) (end : Taking) (new : List OpenSubState) (after : List ℕ) (later : ℕ) → still ≡ extent → held ≡ capacity → flags ≡ known → first ≡ next → lent ≡ queues → before ≡ wire → DrainsQueues still held flags first asked lent before end new after later → DrainsQueues extent capacity known next asked queues wire end new after later
drains_whole still extent held capacity flags known first next asked lent queues before wire end new after later h c f t q w drains =
    subst (λ (x : Extent). DrainsQueues x capacity known next asked queues wire end new after later) h (subst (λ (n : ℕ). DrainsQueues still n known next asked queues wire end new after later) c (subst (λ (n : ℕ). DrainsQueues still held n next asked queues wire end new after later) f (subst (λ (n : ℕ). DrainsQueues still held flags n asked queues wire end new after later) t (subst (λ (os : List OpenSubState). DrainsQueues still held flags first asked os wire end new after later) q (subst (λ (s : List ℕ). DrainsQueues still held flags first asked lent s end new after later) w drains)))))

-- ---- a round

-- what follows where nothing failed
pub settles_else : (end : Taking) (any : Bool) (old : ConversationState) (result : Bool) (new : ConversationState) → ((why : ConversationFault) → end ≡ Failed why → ⊥) → result ≡ any → new ≡ record old { more = is_stopped end; half = is_halfway end } → Settles end any old [] result new
settles_else Emptied any old result new never came same = (refl, came, same)
settles_else Stopped any old result new never came same = (refl, came, same)
settles_else Halfway any old result new never came same = (refl, came, same)
settles_else (Failed why) any old result new never came same = absurd (never why refl)
