-- What a frame does doesn't depend on what isn't read behind it.
use Rattle.std.proofs.Common.{inl, inr, ℕ, Bool, List, Option, Some, None, Ok, Err, ap}
use Rattle.std.specs.Prelude.{MatchOption}
use Rattle.stomp_frame.specs.declared.case_fault.CaseFault.{CaseFault}
use Rattle.stomp_frame.specs.declared.raw_frame.RawFrame.{RawFrame}
use Rattle.stomp_frame.specs.Cases.{case_fault}
use Rattle.stomp_frame.specs.Reader.{Unread}
use Rattle.stomp_frame.specs.Receipts.{receipt_of}
use Rattle.stomp_session.specs.declared.action.Action.{Action}
use Rattle.stomp_session.specs.declared.action.Action.TheVariants as actions
use Rattle.stomp_session.specs.declared.action.Step.{Step}
use Rattle.delivery.specs.declared.connection_fault.ConnectionFault.TheVariants as connection
use Rattle.broker_server.specs.declared.conversation.conversation_fault.ConversationFault.{ConversationFault}
use Rattle.broker_server.specs.declared.conversation.conversation_fault.ConversationFault.TheVariants as fault
use Rattle.broker_server.specs.BrokerRows.{BrokerRow}
use Rattle.broker_server.specs.ConversationFaults.{tells_version}
use Rattle.broker_server.specs.Conversations.{Acts, Answers, Concludes, ConversationState, Does, Done, EndsSaying, Performs}
use Rattle.broker_server.specs.Hearing.{AcceptsFrame, DeniesFrame, JudgesFrame, RefusesFrame, TakesFrame}

-- a connection with this reader
abbrev pub reading : Unread → ConversationState → ConversationState
reading r c = record c { reader = r }

pub ends_reading : (r : Unread) (version : Bool) (why : ConversationFault) (receipt : Option (List ℕ)) (old new : ConversationState) → EndsSaying version why receipt old new → EndsSaying version why receipt (reading r old) (reading r new)
ends_reading r version why receipt old new (inl e) = inl (ap (reading r) e)
ends_reading r version why receipt old new (inr e) = inr (ap (reading r) e)

pub performs_reading : (r : Unread) (action : Action) (old : ConversationState) (asked : List BrokerRow) (done : Done) (new : ConversationState) → Performs action old asked done new → Performs action (reading r old) asked done (reading r new)
performs_reading r (actions.Connected client) old asked done new (inl (gate, a, ok, e)) = inl (gate, a, ok, ap (reading r) e)
performs_reading r (actions.Connected client) old asked done new (inr (why, a, err, e)) = inr (why, a, err, ap (reading r) e)
performs_reading r actions.Nothing old asked done new (a, ok, e) = (a, ok, ap (reading r) e)
performs_reading r (actions.Subscribe id topic) old asked done new (inl (sub, a, ok, e)) = inl (sub, a, ok, ap (reading r) e)
performs_reading r (actions.Subscribe id topic) old asked done new (inr (inl (why, a, err, e))) = inr (inl (why, a, err, ap (reading r) e))
performs_reading r (actions.Subscribe id topic) old asked done new (inr (inr (a, err, e))) = inr (inr (a, err, ap (reading r) e))
performs_reading r (actions.Unsubscribe id) old asked done new (ok, inl (front, back, o, cut, named, none, a, e)) = (ok, inl (front, back, o, cut, named, none, a, ap (reading r) e))
performs_reading r (actions.Unsubscribe id) old asked done new (ok, inr (none, a, e)) = (ok, inr (none, a, ap (reading r) e))
performs_reading r (actions.Commit sends) old asked done new (rest, found, inl (gate, left, has, commits, e)) = (rest, found, inl (gate, left, has, commits, ap (reading r) e))
performs_reading r (actions.Commit sends) old asked done new (rest, found, inr (none, a, err, e)) = (rest, found, inr (none, a, err, ap (reading r) e))
performs_reading r actions.Disconnect old asked done new (a, ok, e) = (a, ok, ap (reading r) e)

answers_reading : (r : Unread) (frames : List RawFrame) (old : ConversationState) (asked : List BrokerRow) (new : ConversationState) → Answers frames old asked new → Answers frames (reading r old) asked (reading r new)
answers_reading r frames old asked new (inl (a, e)) = inl (a, ap (reading r) e)
answers_reading r frames old asked new (inr (inl (any, a, open_yet, ends))) = inr (inl (any, a, open_yet, ends_reading r (tells_version None fault.NoReply) fault.NoReply None old new ends))
answers_reading r frames old asked new (inr (inr (any, a, leaves, e))) = inr (inr (any, a, leaves, ap (reading r) e))

pub concludes_reading : (r : Unread) (done : Done) (frames : List RawFrame) (receipt : Option (List ℕ)) (old : ConversationState) (asked : List BrokerRow) (new : ConversationState) → Concludes done frames receipt old asked new → Concludes done frames receipt (reading r old) asked (reading r new)
concludes_reading r (Ok u) frames receipt old asked new answers = answers_reading r frames old asked new answers
concludes_reading r (Err why) frames receipt old asked new (a, ends) = (a, ends_reading r (tells_version None why) why receipt old new ends)

does_reading : (r : Unread) (step : Step) (old : ConversationState) (asked : List BrokerRow) (new : ConversationState) → Does step old asked new → Does step (reading r old) asked (reading r new)
does_reading r step old asked new does = record {
  first = does.first;
  rest = does.rest;
  between = reading r does.between;
  result = does.result;
  performs = performs_reading r step.action old does.first does.result does.between does.performs;
  concludes = concludes_reading r does.result _ step.receipt does.between does.rest new does.concludes;
  all = does.all;
}

pub acts_reading : (r : Unread) (step : Step) (old : ConversationState) (asked : List BrokerRow) (new : ConversationState) → Acts step old asked new → Acts step (reading r old) asked (reading r new)
acts_reading r step old asked new (inl does) = inl (does_reading r step old asked new does)
acts_reading r step old asked new (inr (sends, is, called, held)) = inr (sends, is, called, ap (reading r) held)

accepts_reading : (r : Unread) (f : RawFrame) (step : Step) (old : ConversationState) (asked : List BrokerRow) (new : ConversationState) → AcceptsFrame f step old asked new → AcceptsFrame f step (reading r old) asked (reading r new)
accepts_reading r f step old asked new accepts = record {
  known = accepts.known;
  looks = accepts.looks;
  accepted = accepts.accepted;
  same = ap (reading r) accepts.same;
}

denies_reading : (r : Unread) (f : RawFrame) (why : ConversationFault) (old : ConversationState) (asked : List BrokerRow) (new : ConversationState) → DeniesFrame f why old asked new → DeniesFrame f why (reading r old) asked (reading r new)
denies_reading r f why old asked new denies = record {
  known = denies.known;
  looks = denies.looks;
  refused = denies.refused;
  lacks = denies.lacks;
  stay = denies.stay;
  same = ap (reading r) denies.same;
}

refuses_reading : (r : Unread) (why : ConversationFault) (f : RawFrame) (old : ConversationState) (asked : List BrokerRow) (new : ConversationState) → RefusesFrame why f old asked new → RefusesFrame why f (reading r old) asked (reading r new)
refuses_reading r why f old asked new (called, ends) = (called, ends_reading r (tells_version (Some f) why) why (receipt_of f) old new ends)

judged_reading : (r : Unread) (f : RawFrame) (o : Option CaseFault) (old : ConversationState) (asked : List BrokerRow) (new : ConversationState) → MatchOption o (JudgesFrame f old asked new) (λ why. RefusesFrame (fault.Connection (connection.Frame why)) f old asked new) → MatchOption o (JudgesFrame f (reading r old) asked (reading r new)) (λ why. RefusesFrame (fault.Connection (connection.Frame why)) f (reading r old) asked (reading r new))
judged_reading r f None old asked new (first, rest, cut, between, inl (step, accepts, acts)) =
    (first, rest, cut, reading r between, inl (step, accepts_reading r f step old first between accepts, acts_reading r step between rest new acts))
judged_reading r f None old asked new (first, rest, cut, between, inr (why, denies, refuses)) =
    (first, rest, cut, reading r between, inr (why, denies_reading r f why old first between denies, refuses_reading r why f between rest new refuses))
judged_reading r f (Some why) old asked new refuses = refuses_reading r (fault.Connection (connection.Frame why)) f old asked new refuses

pub frame_reading : (r : Unread) (f : RawFrame) (old : ConversationState) (asked : List BrokerRow) (new : ConversationState) → TakesFrame f old asked new → TakesFrame f (reading r old) asked (reading r new)
frame_reading r f old asked new takes = judged_reading r f (case_fault f) old asked new takes
