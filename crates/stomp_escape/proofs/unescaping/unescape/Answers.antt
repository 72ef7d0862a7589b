use Rattle.std.proofs.Common.{subst}
use Rattle.stomp_escape.specs.Escape.{Gives}
use Rattle.stomp_escape.proofs.Laws.{is_found, is_fault, read_again, fault_again}
use Rattle.stomp_escape.proofs.unescaping.unescape.Goals as goal

pub returns-clause-found : goal.returns-clause-found
returns-clause-found c = is_found c.args.text.now c.read.result c.read.ensures

pub returns-clause-fault : goal.returns-clause-fault
returns-clause-fault c = is_fault c.args.text.now c.read.result c.read.ensures

pub returns-clause-only : goal.returns-clause-only
returns-clause-only c = λ v s. subst (Gives c.read.result) (read_again c.args.text.now v s) c.read.ensures

pub returns-clause-only_fault : goal.returns-clause-only_fault
returns-clause-only_fault c = λ e s. subst (Gives c.read.result) (fault_again c.args.text.now e s) c.read.ensures
