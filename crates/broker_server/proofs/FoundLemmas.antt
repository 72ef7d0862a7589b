-- Where a connection that hears one piece after the other comes to hold nothing, it found room each time.
use Rattle.std.proofs.Common.{◌≡◌, inl, inr, ℕ, Bool, false, List, [], ◌∷◌, ◌++◌, map, Option, Some, None, Ok, Err, refl, sym, ap, ap₂, ◌∙◌}
use Rattle.std.proofs.lemmas.List.Folds.{list_any-append}
use Rattle.std.specs.List.{list_any}
use Rattle.std.specs.Prelude.{MatchOption, ◌||◌}
use Rattle.mcast_txn.specs.declared.draft.sent_message.SentMessage.{SentMessage}
use Rattle.stomp_frame.specs.declared.case_fault.CaseFault.{CaseFault}
use Rattle.stomp_frame.specs.declared.raw_frame.RawFrame.{RawFrame}
use Rattle.stomp_frame.specs.Cases.{case_fault}
use Rattle.stomp_frame.specs.Reader.{with_piece}
use Rattle.stomp_session.specs.declared.action.Action.{Action}
use Rattle.stomp_session.specs.declared.action.Action.TheVariants as actions
use Rattle.stomp_session.specs.declared.action.Step.{Step}
use Rattle.delivery.specs.declared.connection_fault.ConnectionFault.TheVariants as connection
use Rattle.broker_server.specs.declared.conversation.conversation_fault.ConversationFault.TheVariants as fault
use Rattle.broker_server.specs.declared.conversation.held.Held.TheVariants as helds
use Rattle.sender_gate.specs.Gate.{GateState}
use Rattle.broker_server.specs.BrokerRows.{BrokerRow, Unsubscribes}
use Rattle.broker_server.specs.Conversations.{Acts, Answers, CommitsBy, Concludes, ConversationState, Done, OpenSubState, Performs, closing_rows, gate_rows}
use Rattle.broker_server.specs.Hearing.{Hears, JudgesFrame, Looks, RefusesFrame, TakesAll, TakesFrames}
use Rattle.broker_server.specs.Waiting.{FindsRoomAtOnce, finds_none}
use Rattle.broker_server.proofs.HeldLemmas.{none_some}

-- no call found none
abbrev pub Found : List BrokerRow → Type 0
Found asked = list_any finds_none asked ≡ false

found_on : (rows more : List BrokerRow) → Found rows → Found more → Found (rows ++ more)
found_on rows more first second = list_any-append finds_none rows more ∙ ap₂ (λ (a b : Bool). a || b) first second

found_cut : (asked rows more : List BrokerRow) → asked ≡ rows ++ more → Found rows → Found more → Found asked
found_cut asked rows more cut first second = ap (list_any finds_none) cut ∙ found_on rows more first second

gate_found : (gate : Option GateState) → Found (gate_rows gate)
gate_found None = refl
gate_found (Some gate) = refl

ended_found : (os : List OpenSubState) → Found (map (λ (o : OpenSubState). Unsubscribes o.sub) os)
ended_found [] = refl
ended_found (o ∷ os) = ended_found os

closing_found : (c : ConversationState) (asked : List BrokerRow) → asked ≡ closing_rows c → Found asked
closing_found c asked is = found_cut asked (map (λ (o : OpenSubState). Unsubscribes o.sub) c.subs) (gate_rows c.gate) is (ended_found c.subs) (gate_found c.gate)

commits_found : (gate : GateState) (sends : List SentMessage) (asked : List BrokerRow) (done : Done) (left : GateState) → CommitsBy gate sends asked done left → Found asked
commits_found gate sends asked done left (inl (called, err, same)) = ap (list_any finds_none) called
commits_found gate sends asked done left (inr (inl (called, ok, after))) = ap (list_any finds_none) called
commits_found gate sends asked done left (inr (inr (why, called, err, after))) = ap (list_any finds_none) called

performs_found : (action : Action) (old : ConversationState) (asked : List BrokerRow) (done : Done) (new : ConversationState) → Performs action old asked done new → Found asked
performs_found (actions.Connected client) old asked done new (inl (gate, a, r, e)) = ap (list_any finds_none) a
performs_found (actions.Connected client) old asked done new (inr (why, a, r, e)) = ap (list_any finds_none) a
performs_found actions.Nothing old asked done new (a, r, e) = ap (list_any finds_none) a
performs_found (actions.Subscribe id topic) old asked done new (inl (sub, a, r, e)) = ap (list_any finds_none) a
performs_found (actions.Subscribe id topic) old asked done new (inr (inl (why, a, r, e))) = ap (list_any finds_none) a
performs_found (actions.Subscribe id topic) old asked done new (inr (inr (a, r, e))) = ap (list_any finds_none) a
performs_found (actions.Unsubscribe id) old asked done new (r, inl (front, back, o, cut, named, none, a, e)) = ap (list_any finds_none) a
performs_found (actions.Unsubscribe id) old asked done new (r, inr (none, a, e)) = ap (list_any finds_none) a
performs_found (actions.Commit sends) old asked done new (rest, found, inl (gate, left, g, commits, e)) = ap (list_any finds_none) found ∙ commits_found gate sends rest done left commits
performs_found (actions.Commit sends) old asked done new (rest, found, inr (g, a, r, e)) = ap (list_any finds_none) found ∙ ap (list_any finds_none) a
performs_found actions.Disconnect old asked done new (a, r, e) = closing_found old asked a

answers_found : (frames : List RawFrame) (old : ConversationState) (asked : List BrokerRow) (new : ConversationState) → Answers frames old asked new → Found asked
answers_found frames old asked new (inl (a, e)) = ap (list_any finds_none) a
answers_found frames old asked new (inr (inl (any, a, open_yet, ends))) = closing_found old asked a
answers_found frames old asked new (inr (inr (any, a, left, e))) = ap (list_any finds_none) a

concludes_found : (done : Done) (frames : List RawFrame) (receipt : Option (List ℕ)) (old : ConversationState) (asked : List BrokerRow) (new : ConversationState) → Concludes done frames receipt old asked new → Found asked
concludes_found (Ok u) frames receipt old asked new answers = answers_found frames old asked new answers
concludes_found (Err why) frames receipt old asked new (a, ends) = closing_found old asked a

acts_found : (step : Step) (old : ConversationState) (asked : List BrokerRow) (new : ConversationState) → Acts step old asked new → new.held ≡ None → Found asked
acts_found step old asked new (inl does) free =
    found_cut asked does.first does.rest does.all (performs_found step.action old does.first does.result does.between does.performs) (concludes_found does.result _ step.receipt does.between does.rest new does.concludes)
acts_found step old asked new (inr (sends, is, called, held)) free =
    absurd (none_some new.held (helds.Waits sends step.receipt) free (ap (λ (s : ConversationState). s.held) held))

looks_found : (f : RawFrame) (old : ConversationState) (asked : List BrokerRow) (known names : List (List ℕ)) → Looks f old asked known names → Found asked
looks_found f old asked known names (inl (is, a, same)) = ap (list_any finds_none) a
looks_found f old asked known names (inr (is, a, grows)) = ap (list_any finds_none) a

judged_found : (f : RawFrame) (o : Option CaseFault) (old : ConversationState) (asked : List BrokerRow) (new : ConversationState) → MatchOption o (JudgesFrame f old asked new) (λ why. RefusesFrame (fault.Connection (connection.Frame why)) f old asked new) → new.held ≡ None → Found asked
judged_found f None old asked new (first, rest, cut, between, inl (step, accepts, acts)) free =
    found_cut asked first rest cut (looks_found f old first accepts.known between.names accepts.looks) (acts_found step between rest new acts free)
judged_found f None old asked new (first, rest, cut, between, inr (why, denies, (a, ends))) free =
    found_cut asked first rest cut (looks_found f old first denies.known between.names denies.looks) (closing_found between rest a)
judged_found f (Some why) old asked new (a, ends) free = closing_found old asked a

frames_found : (frames : List RawFrame) (old : ConversationState) (asked : List BrokerRow) (new : ConversationState) → TakesFrames frames old asked new → new.held ≡ None → Found asked
frames_found [] old asked new (none, is) free = ap (list_any finds_none) none
frames_found (f ∷ []) old asked new (listens, left, reads, between, first, rest, cut, takes, (none, is)) free =
    found_cut asked first rest cut (judged_found f (case_fault f) (record old { reader = left }) first between takes (sym (ap (λ (s : ConversationState). s.held) is) ∙ free)) (ap (list_any finds_none) none)
frames_found (f ∷ g ∷ frames) old asked new (listens, left, reads, between, first, rest, cut, takes, follow) free =
    found_cut asked first rest cut (judged_found f (case_fault f) (record old { reader = left }) first between takes follow.0.1) (frames_found (g ∷ frames) between rest new follow free)

all_found : (old : ConversationState) (asked : List BrokerRow) (new : ConversationState) → TakesAll old asked new → new.held ≡ None → Found asked
all_found old asked new (frames, between, first, rest, cut, takes, inl (still, none, is)) free =
    found_cut asked first rest cut (frames_found frames old first between takes (sym (ap (λ (s : ConversationState). s.held) is) ∙ free)) (ap (list_any finds_none) none)
all_found old asked new (frames, between, first, rest, cut, takes, inr (inl (listens, left, reads, none, is))) free =
    found_cut asked first rest cut (frames_found frames old first between takes listens.1) (ap (list_any finds_none) none)
all_found old asked new (frames, between, first, rest, cut, takes, inr (inr (listens, why, left, reads, called, ends))) free =
    found_cut asked first rest cut (frames_found frames old first between takes listens.1) (closing_found between rest called)

hears_found : (piece : List ℕ) (old : ConversationState) (asked : List BrokerRow) (new : ConversationState) → Hears piece old asked new → new.held ≡ None → Found asked
hears_found piece old asked new (inl (leaves, none, is)) free = ap (list_any finds_none) none
hears_found piece old asked new (inr (inl (open_yet, called, ends))) free = closing_found old asked called
hears_found piece old asked new (inr (inr (open_yet, takes))) free = all_found (record old { reader = with_piece old.reader piece }) asked new takes free

pub finds_room_at_once : FindsRoomAtOnce
finds_room_at_once [] old new asked (none, is) free = ap (list_any finds_none) none
finds_room_at_once (piece ∷ []) old new asked (unheld, first, rest, cut, between, hears, (none, is)) free =
    found_cut asked first rest cut (hears_found piece old first between hears (sym (ap (λ (s : ConversationState). s.held) is) ∙ free)) (ap (list_any finds_none) none)
finds_room_at_once (piece ∷ next ∷ more) old new asked (unheld, first, rest, cut, between, hears, follow) free =
    found_cut asked first rest cut (hears_found piece old first between hears follow.0) (finds_room_at_once (next ∷ more) between new rest follow free)
