-- What is delivered to a connection changes nothing else of it.
use Rattle.std.proofs.Common.{◌≡◌, inl, inr, ℕ, ◌+◌, Bool, true, false, List, [], ◌∷◌, ◌++◌, map, Option, Some, None, sym, ap, ap₂, ◌∙◌}
use Rattle.std.proofs.lemmas.List.{map-append}
use Rattle.std.specs.Prelude.{bit_or}
use Rattle.stomp_frame.specs.declared.raw_frame.RawFrame.{RawFrame}
use Rattle.broker_server.specs.declared.conversation.conversation_fault.ConversationFault.{ConversationFault}
use Rattle.broker_server.specs.declared.conversation.extent.Extent.{Extent}
use Rattle.broker_server.specs.declared.conversation.extent.Extent.TheVariants.{All, ButLags, Rest}
use Rattle.broker_server.specs.declared.conversation.drained.Taking.{Taking}
use Rattle.broker_server.specs.declared.conversation.drained.Taking.TheVariants.{Emptied, Stopped, Halfway, Failed}
use Rattle.broker_server.specs.BrokerRows.{AsksLag, BrokerRow, Takes}
use Rattle.broker_server.specs.ConversationFaults.{tells_version}
use Rattle.broker_server.specs.Conversations.{ConversationState, EndsSaying, OpenSubState}
use Rattle.broker_server.specs.Delivering.{BreaksOff, DeliversRound, Drains, DrainsAll, DrainsBehind, DrainsFlagged, DrainsOn, DrainsQueues, IfEmptied, Settles, delivered}
use Rattle.broker_server.specs.Waiting.{but_items, untaken}
use Rattle.broker_server.proofs.LikeLemmas.{Like}

off_kept : (messages : List RawFrame) (o : OpenSubState) (wire : List ℕ) (end : Taking) (new : OpenSubState) (after : List ℕ) → BreaksOff messages o wire end new after → untaken new ≡ untaken o
off_kept messages o wire end new after (inl (some, stops, ends, same)) = ap untaken same
off_kept messages o wire end new after (inr (fails, ends, same)) = ap untaken same

drains_kept : (extent : Extent) (capacity calls : ℕ) (asked : List BrokerRow) (o : OpenSubState) (wire : List ℕ) (end : Taking) (new : OpenSubState) (after : List ℕ) → Drains extent capacity calls asked o wire end new after → untaken new ≡ untaken o
drains_kept extent capacity calls [] o wire end new after (stops, ends, same, left) = ap untaken same
drains_kept extent capacity calls (Takes sub (Some item) ∷ rows) o wire end new after (room, named, inl (whole, more)) = drains_kept extent capacity (calls + 1) rows _ _ end new after more
drains_kept extent capacity calls (Takes sub (Some item) ∷ rows) o wire end new after (room, named, inr (none, off)) = off_kept _ _ wire end new after off
drains_kept extent capacity calls (Takes sub None ∷ []) o wire end new after (room, named, inl (lagged, tells, same), left) = ap untaken same
drains_kept extent capacity calls (Takes sub None ∷ []) o wire end new after (room, named, inr (none, far, ends, same), left) = ap untaken same
drains_kept extent capacity calls (Takes sub None ∷ AsksLag lagging true ∷ rows) o wire end new after (room, named, asks, none, due, more) = drains_kept extent capacity (calls + 1) rows _ _ end new after more
drains_kept extent capacity calls (Takes sub None ∷ AsksLag lagging false ∷ []) o wire end new after (room, named, asks, none, due, ends, same, left) = ap untaken same
drains_kept extent capacity calls _ o wire end new after drains = absurd drains

behind_kept : (extent : Extent) (capacity : ℕ) (asked : List BrokerRow) (o : OpenSubState) (wire : List ℕ) (end : Taking) (new : OpenSubState) (after : List ℕ) → DrainsBehind extent capacity asked o wire end new after → untaken new ≡ untaken o
behind_kept All capacity asked o wire end new after drains = drains_kept All capacity 0 asked o wire end new after drains
behind_kept ButLags capacity asked o wire end new after drains = drains_kept ButLags capacity 0 asked o wire end new after drains
behind_kept Rest capacity asked o wire end new after (none, ends, same, left) = ap untaken same

drains_on_kept : (extent : Extent) (capacity : ℕ) (asked : List BrokerRow) (o : OpenSubState) (wire : List ℕ) (end : Taking) (new : OpenSubState) (after : List ℕ) → DrainsOn extent capacity asked o wire end new after → untaken new ≡ untaken o
drains_on_kept extent capacity asked o wire end new after (inl (whole, drains)) = behind_kept extent capacity asked (record o { left = [] }) _ end new after drains
drains_on_kept extent capacity asked o wire end new after (inr (none, off)) = off_kept o.left _ wire end new after off

flagged_kept : (extent : Extent) (capacity flags : ℕ) (asked : List BrokerRow) (o : OpenSubState) (wire : List ℕ) (end : Taking) (new : OpenSubState) (after : List ℕ) → DrainsFlagged extent capacity flags asked o wire end new after → untaken new ≡ untaken o
flagged_kept extent capacity flags asked o wire end new after (inl (is, drains)) = drains_on_kept extent capacity asked o wire end new after drains
flagged_kept extent capacity flags asked o wire end new after (inr (not_so, none, ends, same, left)) = ap untaken same

emptied_or : (t : Taking) (A B C : Type 0) → IfEmptied t A B → (A → C) → (B → C) → C
emptied_or Emptied A B C it one other = one it
emptied_or Stopped A B C it one other = other it
emptied_or Halfway A B C it one other = other it
emptied_or (Failed why) A B C it one other = other it

all_kept : (extent : Extent) (capacity flags : ℕ) (asked : List BrokerRow) (os : List OpenSubState) (wire : List ℕ) (end : Taking) (new : List OpenSubState) (after : List ℕ) (left : ℕ) → DrainsAll extent capacity flags asked os wire end new after left → map untaken new ≡ map untaken os
all_kept extent capacity flags asked [] wire end new after left (none, ends, same, out, many) = ap (map untaken) same
all_kept extent capacity flags asked (o ∷ os) wire end new after left (first, rest, cut, one, changed, others, between, drains, is, more) =
    let head = flagged_kept extent capacity flags first o wire one changed between drains in
    let tail : map untaken others ≡ map untaken os = emptied_or one _ _ _ more (λ goes. all_kept extent capacity flags rest os between end others after left goes) (λ stops. ap (map untaken) stops.2) in
    ap (map untaken) is ∙ ap₂ (λ (q : OpenSubState) (qs : List OpenSubState). q ∷ qs) head tail

queues_kept : (extent : Extent) (capacity flags next : ℕ) (asked : List BrokerRow) (os : List OpenSubState) (wire : List ℕ) (end : Taking) (new : List OpenSubState) (after : List ℕ) (later : ℕ) → DrainsQueues extent capacity flags next asked os wire end new after later → map untaken new ≡ map untaken os
queues_kept extent capacity flags next asked os wire end new after later (front, back, cut, begins, first, rest, rows, one, changed, others, between, left, unseen, drains, is, more) =
    let backs = all_kept extent capacity flags first back wire one changed between left drains in
    let fronts : map untaken others ≡ map untaken front = emptied_or one _ _ _ more (λ goes. all_kept extent capacity flags rest front between end others after unseen goes.0) (λ stops. ap (map untaken) stops.2) in
    ap (map untaken) is ∙ map-append untaken others changed ∙ ap₂ (λ (xs ys : List OpenSubState). xs ++ ys) fronts backs ∙ sym (map-append untaken front back) ∙ ap (map untaken) (sym cut)

pub ends_leave : (version : Bool) (why : ConversationFault) (receipt : Option (List ℕ)) (old new : ConversationState) → EndsSaying version why receipt old new → new.exit ≡ None → ⊥
ends_leave version why receipt old new (inl e) open_yet = let left = sym (ap (λ (s : ConversationState). s.exit) e) ∙ open_yet in cc
ends_leave version why receipt old new (inr e) open_yet = let left = sym (ap (λ (s : ConversationState). s.exit) e) ∙ open_yet in cc

settles_like : (end : Taking) (any : Bool) (old : ConversationState) (asked : List BrokerRow) (result : Bool) (new : ConversationState) → Settles end any old asked result new → new.exit ≡ None → Like new old
settles_like (Failed why) any old asked result new (called, is, ends) open_yet = absurd (ends_leave (tells_version None why) why None old new ends open_yet)
settles_like Emptied any old asked result new (none, is, same) open_yet = ap but_items same
settles_like Stopped any old asked result new (none, is, same) open_yet = ap but_items same
settles_like Halfway any old asked result new (none, is, same) open_yet = ap but_items same

pub delivers_like : (old : ConversationState) (asked : List BrokerRow) (any : Bool) (new : ConversationState) → DeliversRound old asked any new → new.exit ≡ old.exit → Like new old
delivers_like old asked any new (inl (leaves, none, nothing, same)) stays = ap but_items same
delivers_like old asked any new (inr (open_yet, told, first, rest, cut, end, subs, wire, next, drains, settles)) stays =
    let drained = delivered old end (bit_or old.flags told) subs wire next in
    settles_like end _ drained rest any new settles (stays ∙ open_yet)
    ∙ ap (λ (os : List OpenSubState). record (but_items old) { subs = os }) (queues_kept _ old.capacity _ old.next first old.subs old.wire end subs wire next drains)
