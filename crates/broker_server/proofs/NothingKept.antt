-- Where each piece comes while nothing is held and no item is half out, nothing is kept, and one is as the other, to
-- what it hasn't read.
use Rattle.std.proofs.Common.{◌≡◌, ◌⊎◌, inl, inr, ℕ, Bool, false, List, [], ◌∷◌, ◌++◌, Option, Some, None, sym, ap, subst, ◌∙◌, append-nil}
use Rattle.mcast_txn.specs.declared.draft.sent_message.SentMessage.{SentMessage}
use Rattle.stomp_session.specs.declared.action.Action.TheVariants as actions
use Rattle.broker_server.specs.declared.conversation.held.Held.{Held}
use Rattle.broker_server.specs.declared.conversation.held.Held.TheVariants.{Waits, Owes}
use Rattle.broker_server.specs.BrokerRows.{BrokerRow}
use Rattle.broker_server.specs.Conversations.{ConversationState, Done, Performs}
use Rattle.broker_server.specs.Delivering.{DeliversRound}
use Rattle.broker_server.specs.Hearing.{GoesOn, Hears}
use Rattle.broker_server.specs.Waiting.{HearsEach, HoldsYet, Round, asked_for_frames, but_items, but_room, keeping, pieces}
use Rattle.broker_server.specs.Waiting.{Heard, WentOn, Delivered, Wrote}
use Rattle.broker_server.proofs.HearingLemmas.{if_whole}
use Rattle.broker_server.proofs.WaitingLemmas.{Stands, Through, beside_all}

-- Nothing was read while something was held or an item was half out.
abbrev pub GoesThroughFree : List Round → ConversationState → ConversationState → Type 0
GoesThroughFree [] old new = new ≡ old
GoesThroughFree (Heard piece asked ∷ rounds) old new =
    (old.held ≡ None) × (old.half ≡ false) × (between : ConversationState) × Hears piece old asked between
    × GoesThroughFree rounds between new
GoesThroughFree (WentOn asked ∷ rounds) old new =
    (between : ConversationState) × GoesOn old asked between × GoesThroughFree rounds between new
GoesThroughFree (Delivered asked ∷ rounds) old new =
    (between : ConversationState) × (any : Bool) × DeliversRound old asked any between
    × (between.exit ≡ old.exit) × GoesThroughFree rounds between new
GoesThroughFree (Wrote ∷ rounds) old new =
    (between : ConversationState) × (between ≡ record old { wire = between.wire })
    × GoesThroughFree rounds between new

-- One is as another, but for what is delivered; or the other owes the answer to a transaction that waits yet in this one.
abbrev pub IsAsOrBefore : ConversationState → List BrokerRow → ConversationState → Type 0
IsAsOrBefore one asked other =
    ((asked ≡ []) × (but_items one ≡ but_items other))
    ⊎ ((sends : List SentMessage) × (receipt : Option (List ℕ)) × (one.held ≡ Some (Waits sends receipt))
    × (done : Done) × (between : ConversationState)
    × Performs (actions.Commit sends) (record one { held = None }) asked done between
    × (but_items (record between { held = Some (Owes done receipt) }) ≡ but_items other))

through : (rounds : List Round) (old new : ConversationState) → GoesThroughFree rounds old new → Through ⊥ rounds old new
through [] old new is = is
through (Heard piece asked ∷ rounds) old new (free, whole, between, hears, goes) =
    (inl (free, whole), between, if_whole old.half _ _ whole hears, through rounds between new goes)
through (WentOn asked ∷ rounds) old new (between, went, goes) = (between, went, through rounds between new goes)
through (Delivered asked ∷ rounds) old new (between, any, delivers, stays, goes) = (between, any, delivers, stays, through rounds between new goes)
through (Wrote ∷ rounds) old new (between, is, goes) = (between, is, through rounds between new goes)

holds_alone : (kept : List (List ℕ)) (other : ConversationState) (asked : List BrokerRow) (one : ConversationState) → kept ≡ [] → HoldsYet kept other asked one → IsAsOrBefore other asked one
holds_alone kept other asked one none (open_yet, what, now, inl (some, nothing, is), like) =
    let at = ap (λ (texts : List (List ℕ)). but_items (keeping texts (record now { held = Some what }))) none in
    let same = ap (λ (s : ConversationState). but_items (record s { held = Some what })) is ∙ ap (λ (h : Option Held). but_items (record other { held = h })) (sym some) in
    inl (nothing, sym (like ∙ at ∙ same))
holds_alone kept other asked one none (open_yet, what, now, inr (inl (sends, receipt, done, some, is, performs)), like) =
    let at = ap (λ (texts : List (List ℕ)). but_items (keeping texts (record now { held = Some what }))) none in
    let same = ap (λ (q : Held). but_items (record now { held = Some q })) is in
    inr (sends, receipt, some, done, now, performs, sym (like ∙ at ∙ same))
holds_alone kept other asked one none (open_yet, what, now, inr (inr (free, any, is, nothing, same)), like) = absurd (any none)

stands_alone : (kept : List (List ℕ)) (other : ConversationState) (asked : List BrokerRow) (one : ConversationState) → Stands ⊥ kept other asked one → (kept ≡ []) × IsAsOrBefore other asked one
stands_alone kept other asked one (inl (none, nothing, free, inl like)) = (none, inl (nothing, sym like))
stands_alone kept other asked one (inl (none, nothing, free, inr (token, leaves, like))) = absurd token
stands_alone kept other asked one (inr (inl (inl none, holds))) = (none, holds_alone kept other asked one none holds)
stands_alone kept other asked one (inr (inl (inr token, holds))) = absurd token
stands_alone kept other asked one (inr (inr (token, leaves))) = absurd token

pub nothing_kept
    : (rounds : List Round) (old new : ConversationState) → old.held ≡ None → GoesThroughFree rounds old new
    → (asked last : List BrokerRow) × (other : ConversationState) × HearsEach (pieces rounds) old asked other
    × IsAsOrBefore other last new × (but_room (asked ++ last) ≡ but_room (asked_for_frames rounds))
nothing_kept rounds old new free goes =
    let b = beside_all ⊥ rounds old new free (through rounds old new goes) in
    let s = stands_alone b.1 b.5 b.4 new b.7 in
    let all = b.2 ∙ ap (λ (texts : List (List ℕ)). b.0 ++ texts) s.0 ∙ append-nil b.0 in
    (b.3, b.4, b.5, subst (λ (texts : List (List ℕ)). HearsEach texts old b.3 b.5) (sym all) b.6, s.1, b.8)
