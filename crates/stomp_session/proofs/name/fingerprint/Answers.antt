use Rattle.std.proofs.Common.{refl}
use Rattle.stomp_session.specs.Inner.Stored.{fingerprint}
use Rattle.stomp_session.proofs.name.fingerprint.Goals as goal

pub returns : goal.returns
unfolding fingerprint
returns c = rw (c.finish.ensures, c.write.ensures, c.default-hasher.ensures) refl
