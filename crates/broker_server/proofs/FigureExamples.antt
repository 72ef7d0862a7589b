-- Worked examples of how the server's figures count.
use Rattle.std.proofs.Common.{◌≡◌, refl}
use Rattle.mcast_txn.specs.declared.id.Topic.{Topic}
use Rattle.broker_server.specs.declared.conversation.conversation_fault.ConversationFault.TheVariants as fault
use Rattle.broker_server.specs.declared.conversation.exit.Exit.TheVariants as exit
use Rattle.broker_server.specs.declared.serving.endings.Endings.{Endings}
use Rattle.broker_server.specs.declared.serving.why_left.LastWords.{LastWords}
use Rattle.broker_server.specs.declared.serving.why_left.WhyLeft.TheVariants.{By, Untaken}
use Rattle.broker_server.specs.Figures.{endings_with}

-- none yet
abbrev none : Endings
none = record { disconnect = 0; error = 0; closed = 0; lag = 0; write_failed = 0; unconnected = 0; other = 0 }

-- One was told that it lagged, one was lost behind its lag, and one had an ERROR: two lags, and one error.
two_lags : (topic : Topic) (last : LastWords) → endings_with (By (exit.Error fault.NoMemory) last) (endings_with Untaken (endings_with (By (exit.Error (fault.Lagged topic 64)) last) none)) ≡ record none { lag = 2; error = 1 }
two_lags topic last = refl
