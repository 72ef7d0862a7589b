use Rattle.stomp_frame.proofs.Messages.{parts_are_writable}
use Rattle.stomp_frame.proofs.law.parts_are_writable.Goals as goal

pub returns : goal.returns
returns c = parts_are_writable
