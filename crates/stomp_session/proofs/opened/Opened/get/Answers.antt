use Rattle.std.proofs.Common.{sym}
use Rattle.stomp_session.proofs.Entries.{lookup-entries_of}
use Rattle.stomp_session.proofs.opened.Opened.get.Goals as goal

pub returns : goal.returns
returns g c = rw (c.get.ensures.value, ← c.self.view_is) (sym (lookup-entries_of c.args.id.now c.self.inside.values.entries))
