use Rattle.std.proofs.Common.{sym}
use Rattle.stomp_session.proofs.Entries.{is_open-lookup}
use Rattle.stomp_session.proofs.opened.Opened.is_open.Goals as goal

pub returns : goal.returns
returns g c = rw (c.contains_key.ensures, ← c.self.view_is) (sym (is_open-lookup c.args.id.now c.self.inside.values.entries))
