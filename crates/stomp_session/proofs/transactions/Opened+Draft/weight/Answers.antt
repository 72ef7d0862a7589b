use Rattle.std.proofs.Common.{sym, ap, ◌∙◌}
use Rattle.mcast_txn.proofs.OctetLemmas.{cap}
use Rattle.stomp_session.proofs.Weights.{of_entries}
use Rattle.stomp_session.proofs.transactions.Opened+Draft.weight.Goals as goal

pub returns : goal.returns
returns c = rw (← c.self.view_is) (c.weight_of.ensures ∙ ap cap (sym (of_entries c.self.inside.values.entries)))
