use Rattle.trace_audit.specs.Parsing.{lines_of}
use Rattle.trace_audit.proofs.Rows.{is_found, is_fault, is_only, is_only_fault}
use Rattle.trace_audit.proofs.trace.Trace.parse.Goals as goal

pub returns-clause-found : goal.returns-clause-found
returns-clause-found c = is_found (lines_of c.args.text.now) c.read.result c.read.ensures

pub returns-clause-fault : goal.returns-clause-fault
returns-clause-fault c = is_fault c.args.text.now c.read.result c.read.ensures

pub returns-clause-only : goal.returns-clause-only
returns-clause-only c = is_only (lines_of c.args.text.now) c.read.result c.read.ensures

pub returns-clause-only_fault : goal.returns-clause-only_fault
returns-clause-only_fault c = is_only_fault (lines_of c.args.text.now) c.read.result c.read.ensures
