use Rattle.std.proofs.Common.{[], refl}
use Rattle.delivery.proofs.endpoint.Endpoint.new.Goals as goal

pub returns : goal.returns
returns c = rw (c.new.ensures, (c.new-2.ensures []).holds, c.new-3.ensures.items, c.new-4.ensures) refl
