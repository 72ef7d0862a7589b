-- What is written of a queue is the items that were taken of it.
use Rattle.std.proofs.Common.{◌≡◌, ◌⊎◌, inl, inr, ℕ, ◌+◌, Bool, true, false, List, [], ◌∷◌, ◌++◌, Some, None, refl, sym, ap, subst, ◌∙◌, append_assoc, append-nil}
use Rattle.std.specs.List.{flat_map}
use Rattle.std.proofs.lemmas.List.Concat.{flat_map-append}
use Rattle.stomp_frame.specs.declared.raw_frame.RawFrame.{RawFrame}
use Rattle.delivery.specs.Core.Outcomes.{is_any}
use Rattle.broker_server.specs.declared.conversation.conversation_fault.ConversationFault.TheVariants as fault
use Rattle.broker_server.specs.declared.conversation.extent.Extent.{Extent}
use Rattle.broker_server.specs.declared.conversation.extent.Extent.TheVariants.{All, ButLags, Rest}
use Rattle.broker_server.specs.declared.conversation.drained.Taking.{Taking}
use Rattle.broker_server.specs.declared.conversation.drained.Taking.TheVariants.{Halfway, Failed}
use Rattle.broker_server.specs.BrokerRows.{AsksLag, BrokerRow, Takes}
use Rattle.broker_server.specs.Conversations.{OpenSubState}
use Rattle.broker_server.specs.Delivering.{BreaksOff, Drains, DrainsBehind, DrainsOn, ItemsAreWhole, WritesAll, has_room, left_behind, messages_of, nearer_lag, taken_messages, with_messages}
use Rattle.broker_server.specs.Wires.{spelling_with_eol}
use Rattle.broker_server.proofs.DeliveringLemmas.{no_room_for, room_for}

-- what was written of these MESSAGEs
written : (messages : List RawFrame) (wire : List ℕ) → (out : List RawFrame) × (with_messages messages wire ≡ wire ++ flat_map spelling_with_eol out) × (messages ≡ out ++ left_behind messages wire)
written [] wire = ([], sym (append-nil wire), refl)
written (f ∷ fs) wire = by (has_room wire) refl (written fs (wire ++ spelling_with_eol f))
  where
    by : (b : Bool) → has_room wire ≡ b
        → (out : List RawFrame) × (with_messages fs (wire ++ spelling_with_eol f) ≡ (wire ++ spelling_with_eol f) ++ flat_map spelling_with_eol out) × (fs ≡ out ++ left_behind fs (wire ++ spelling_with_eol f))
        → (out : List RawFrame) × (with_messages (f ∷ fs) wire ≡ wire ++ flat_map spelling_with_eol out) × (f ∷ fs ≡ out ++ left_behind (f ∷ fs) wire)
    by true room rest =
        let here = room_for f fs wire room in (
          f ∷ rest.0,
          here.1 ∙ rest.1 ∙ append_assoc wire (spelling_with_eol f) (flat_map spelling_with_eol rest.0),
          ap (λ (all : List RawFrame). f ∷ all) rest.2 ∙ ap (λ (left : List RawFrame). f ∷ (rest.0 ++ left)) (sym here.0),
        )
    by false none rest =
        let here = no_room_for f fs wire none in
        ([], here.1 ∙ sym (append-nil wire), sym here.0)

-- where all are, that is they
all_written : (messages : List RawFrame) (wire after : List ℕ) → WritesAll messages wire after → after ≡ wire ++ flat_map spelling_with_eol messages
all_written messages wire after (whole, is) =
    let w = written messages wire in
    let same : messages ≡ w.0 = w.2 ∙ ap (λ (left : List RawFrame). w.0 ++ left) whole ∙ append-nil w.0 in
    is ∙ w.1 ∙ ap (λ (out : List RawFrame). wire ++ flat_map spelling_with_eol out) (sym same)

-- this is so of what is written, where these MESSAGEs are to be
abbrev IsWhole : List RawFrame → List ℕ → Taking → OpenSubState → List ℕ → Type 0
IsWhole messages wire end new after =
    (out rest : List RawFrame) × (after ≡ wire ++ flat_map spelling_with_eol out) × (messages ≡ out ++ rest)
    × ((end ≡ Failed fault.NoReply) ⊎ (rest ≡ new.left)) × (is_any new.left ≡ true → end ≡ Halfway)

none_any : (xs : List RawFrame) → xs ≡ [] → is_any xs ≡ true → ⊥
none_any xs none some = let e = sym (ap (λ (ys : List RawFrame). is_any ys) none) ∙ some in cc

off_whole : (messages : List RawFrame) (o : OpenSubState) (wire : List ℕ) (end : Taking) (new : OpenSubState) (after : List ℕ) → o.left ≡ [] → BreaksOff messages o wire end new after → IsWhole messages wire end new after
off_whole messages o wire end new after none (inl (some, (left, is), ends, same)) =
    let w = written messages wire in
    (w.0, left_behind messages wire, is ∙ w.1, w.2, inr left, (λ any. ends))
off_whole messages o wire end new after none (inr ((out, rest, cut, some, all), ends, same)) =
    (out, rest, all_written out wire after all, cut, inl ends, (λ any. absurd (none_any new.left (ap (λ (q : OpenSubState). q.left) same ∙ none) any)))

-- behind MESSAGEs that are out
behind : (out messages : List RawFrame) (wire between : List ℕ) (end : Taking) (new : OpenSubState) (after : List ℕ) → between ≡ wire ++ flat_map spelling_with_eol out → IsWhole messages between end new after → IsWhole (out ++ messages) wire end new after
behind out messages wire between end new after is (more, rest, put, cut, stays, any) = (
  out ++ more,
  rest,
  put ∙ ap (λ (w : List ℕ). w ++ flat_map spelling_with_eol more) is
      ∙ append_assoc wire (flat_map spelling_with_eol out) (flat_map spelling_with_eol more)
      ∙ ap (λ (octets : List ℕ). wire ++ octets) (sym (flat_map-append spelling_with_eol out more)),
  ap (λ (all : List RawFrame). out ++ all) cut ∙ sym (append_assoc out more rest),
  stays,
  any,
)

-- nothing is written
nothing : (o new : OpenSubState) (wire : List ℕ) (end : Taking) (after : List ℕ) → new.left ≡ [] → after ≡ wire → IsWhole [] wire end new after
nothing o new wire end after none is = ([], [], is ∙ sym (append-nil wire), refl, inr (sym none), (λ any. absurd (none_any new.left none any)))

drained_whole : (extent : Extent) (capacity calls : ℕ) (asked : List BrokerRow) (o : OpenSubState) (wire : List ℕ) (end : Taking) (new : OpenSubState) (after : List ℕ) → o.left ≡ [] → Drains extent capacity calls asked o wire end new after → IsWhole (taken_messages o.parts o.id asked) wire end new after
drained_whole extent capacity calls [] o wire end new after none (stops, ends, same, is) = nothing o new wire end after (ap (λ (q : OpenSubState). q.left) same ∙ none) is
drained_whole extent capacity calls (Takes sub (Some item) ∷ rows) o wire end new after none (room, named, inl (whole, more)) =
    let messages = messages_of o item in
    let rest = drained_whole extent capacity (calls + 1) rows (nearer_lag o) (with_messages messages wire) end new after none more in
    behind messages (taken_messages o.parts o.id rows) wire (with_messages messages wire) end new after (all_written messages wire (with_messages messages wire) (whole, refl)) rest
drained_whole extent capacity calls (Takes sub (Some item) ∷ rows) o wire end new after none (room, named, inr (last, off)) =
    let messages = messages_of o item in
    let one = off_whole messages (nearer_lag o) wire end new after none off in
    let nothing_more = ap (λ (rs : List BrokerRow). messages ++ taken_messages o.parts o.id rs) last ∙ append-nil messages in
    (one.0, one.1, one.2, nothing_more ∙ one.3, one.4, one.5)
drained_whole extent capacity calls (Takes sub None ∷ []) o wire end new after none (room, named, inl (lagged, tells, same), is) = nothing o new wire end after (ap (λ (q : OpenSubState). q.left) same ∙ none) is
drained_whole extent capacity calls (Takes sub None ∷ []) o wire end new after none (room, named, inr (unlagged, far, ends, same), is) = nothing o new wire end after (ap (λ (q : OpenSubState). q.left) same ∙ none) is
drained_whole extent capacity calls (Takes sub None ∷ AsksLag lagging true ∷ rows) o wire end new after none (room, named, asks, unlagged, due, more) =
    drained_whole extent capacity (calls + 1) rows (record o { lagged = true }) wire end new after none more
drained_whole extent capacity calls (Takes sub None ∷ AsksLag lagging false ∷ []) o wire end new after none (room, named, asks, unlagged, due, ends, same, is) = nothing o new wire end after (ap (λ (q : OpenSubState). q.left) same ∙ none) is
drained_whole extent capacity calls _ o wire end new after none drains = absurd drains

behind_whole : (extent : Extent) (capacity : ℕ) (asked : List BrokerRow) (o : OpenSubState) (wire : List ℕ) (end : Taking) (new : OpenSubState) (after : List ℕ) → o.left ≡ [] → DrainsBehind extent capacity asked o wire end new after → IsWhole (taken_messages o.parts o.id asked) wire end new after
behind_whole All capacity asked o wire end new after none drains = drained_whole All capacity 0 asked o wire end new after none drains
behind_whole ButLags capacity asked o wire end new after none drains = drained_whole ButLags capacity 0 asked o wire end new after none drains
behind_whole Rest capacity asked o wire end new after none (nothing_asked, ends, same, is) =
    subst (λ (rows : List BrokerRow). IsWhole (taken_messages o.parts o.id rows) wire end new after) (sym nothing_asked) (nothing o new wire end after (ap (λ (q : OpenSubState). q.left) same ∙ none) is)

pub items_are_whole : ItemsAreWhole
items_are_whole extent capacity asked o wire end new after (inl (whole, drains)) =
    behind o.left (taken_messages o.parts o.id asked) wire (with_messages o.left wire) end new after (all_written o.left wire (with_messages o.left wire) (whole, refl))
    (behind_whole extent capacity asked (record o { left = [] }) (with_messages o.left wire) end new after refl drains)
items_are_whole extent capacity asked o wire end new after (inr (none, off)) =
    let one = off_whole o.left (record o { left = [] }) wire end new after refl off in
    let nothing_more = ap (λ (rs : List BrokerRow). o.left ++ taken_messages o.parts o.id rs) none ∙ append-nil o.left in
    (one.0, one.1, one.2, nothing_more ∙ one.3, one.4, one.5)
