use Rattle.std.proofs.Common.{◌≡◌, ◌∙◌, false}
use Rattle.stomp_session.specs.Refusals.{is_open}
use Rattle.stomp_session.specs.Inner.Stored.{entries_of}
use Rattle.stomp_session.proofs.Entries.{entries_of-insert}
use Rattle.stomp_session.proofs.opened.Opened.open.Goals as goal

pub returns : goal.returns
returns g c =
    let new : is_open c.in_ok-id.id.items (entries_of c.self.inside.values.entries) ≡ false = rw (c.in_ok-id.ensures.items, c.self.view_is) c.requires in
    rw c.in_ok-insert.ensures.entries (entries_of-insert c.self.inside.values.entries c.in_ok-id.id c.args.value new ∙ rw (c.in_ok-id.ensures.items, c.self.view_is))
