use Rattle.std.proofs.Common.{◌∙◌, sym}
use Rattle.sender_gate.specs.Inner.Stored.{begun_before}
use Rattle.sender_gate.proofs.KeptLemmas.{found-lookup, index_found}
use Rattle.sender_gate.proofs.senders.Senders.index_of.Goals as goal

pub returns-clause-none : goal.returns-clause-none
returns-clause-none c =
    rw (c.in_ok-client.was, ← c.self.view_is) (c.get_index_of.ensures.found ∙ sym (found-lookup c.in_ok-client.field-0.now c.self.inside.kept.entries))

pub returns-clause-at : goal.returns-clause-at
returns-clause-at c =
    rw (c.in_ok-client.was, ← c.self.view_is)
    (index_found c.in_ok-client.field-0.now (begun_before c.self.inside.next) c.self.inside.kept.entries c.get_index_of.result c.get_index_of.ensures.index c.get_index_of.ensures.unique)
