use Rattle.std.proofs.Common.{sym}
use Rattle.stomp_session.proofs.Entries.{is_open-lookup, entries_of-remove, lookup-entries_of}
use Rattle.stomp_session.proofs.opened.Opened.take.Goals as goal

pub returns-clause-was_open : goal.returns-clause-was_open
returns-clause-was_open g c = rw (c.shift_remove.ensures.value, ← c.self.view_is) (sym (is_open-lookup c.args.id.now c.self.inside.values.entries))

pub returns-clause-value : goal.returns-clause-value
returns-clause-value g c = rw (c.shift_remove.ensures.value, ← c.self.view_is) (sym (lookup-entries_of c.args.id.now c.self.inside.values.entries))

pub returns-clause-after : goal.returns-clause-after
returns-clause-after g c = rw (c.shift_remove.ensures.entries, ← c.self.view_is) (entries_of-remove c.args.id.now c.self.inside.values.entries)
