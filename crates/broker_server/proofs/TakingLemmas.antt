-- Frames, one after the other.
use Rattle.std.proofs.Common.{List, [], ◌∷◌, ◌++◌, sym, ap, subst, ◌∙◌, append_assoc}
use Rattle.stomp_frame.specs.declared.raw_frame.RawFrame.{RawFrame}
use Rattle.broker_server.specs.BrokerRows.{BrokerRow}
use Rattle.broker_server.specs.Conversations.{ConversationState}
use Rattle.broker_server.specs.Hearing.{TakesFrames}

-- these frames, and then those
pub takes_on : (frames more : List RawFrame) (old : ConversationState) (asked : List BrokerRow) (mid : ConversationState) (later : List BrokerRow) (new : ConversationState) → TakesFrames frames old asked mid → TakesFrames more mid later new → TakesFrames (frames ++ more) old (asked ++ later) new
takes_on [] more old asked mid later new (none, e) next =
    subst (λ (rows : List BrokerRow). TakesFrames more old (rows ++ later) new) (sym none) (subst (λ (s : ConversationState). TakesFrames more s later new) e next)
takes_on (f ∷ frames) more old asked mid later new (listens, left, reads, between, first, rest, cut, takes, then) next =
    (listens, left, reads, between, first, rest ++ later, ap (λ (rows : List BrokerRow). rows ++ later) cut ∙ append_assoc first rest later, takes, takes_on frames more between rest mid later new then next)
