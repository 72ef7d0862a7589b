use Rattle.std.proofs.Common.{codes, refl, ap, ◌∙◌}
use Rattle.stomp_frame.specs.Headers.{first_of}
use Rattle.stomp_frame.proofs.FirstHeaders.{first_apart}
use Rattle.stomp_session.proofs.judged.take_client.Goals as goal

pub returns-clause-receipt : goal.returns-clause-receipt
returns-clause-receipt c = ap (first_of (codes "receipt")) c.take.ensures.rest ∙ first_apart (codes "receipt") (codes "client-id") c.args.headers.now refl
