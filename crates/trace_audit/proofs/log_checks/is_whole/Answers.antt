use Rattle.std.proofs.Common.{sym, ◌∙◌, Bool}
use Rattle.std.specs.List.{list_all}
use Rattle.trace_audit.specs.Faults.{is_whole, log_has_row}
use Rattle.trace_audit.specs.Inner.Orders.{rows_of_refs}
use Rattle.trace_audit.specs.Logs.{TopicRow}
use Rattle.trace_audit.proofs.Indexed.{row_within, everywhere_moved, one_passes, one_fails_all}
use Rattle.trace_audit.proofs.log_checks.is_whole.Goals as goal

pub is_everywhere-requires-clause-within : goal.is_everywhere-requires-clause-within
is_everywhere-requires-clause-within c =
    row_within c.args.logs.now (rows_of_refs c.args.by_topic.now) c.loop-row.row-index c.row-item.result c.requires.moved c.loop-row-test.true c.row-item.is

pub returns-then-not-is_everywhere : goal.returns-then-not-is_everywhere
returns-then-not-is_everywhere c =
    let logs = c.args.logs.now in
    let test : TopicRow → Bool = λ logged. list_all (λ t. log_has_row t logged.row.id logs) logged.row.topics in
    one_fails_all test logs c.loop-row.row-index c.row-item.result (is_whole logs) c.loop-row-test.true c.row-item.is c.loop-row.invariant
    (sym (everywhere_moved c.row-item.result.row logs (rows_of_refs c.args.by_topic.now) c.requires.moved) ∙ (sym c.is_everywhere.ensures ∙ c.if-not-is_everywhere.true))

pub loop-row-preserved : goal.loop-row-preserved
loop-row-preserved c =
    let logs = c.args.logs.now in
    let test : TopicRow → Bool = λ logged. list_all (λ t. log_has_row t logged.row.id logs) logged.row.topics in
    one_passes test logs c.loop-row.row-index c.row-item.result (is_whole logs) c.loop-row-test.true c.row-item.is c.loop-row.invariant
    (sym (everywhere_moved c.row-item.result.row logs (rows_of_refs c.args.by_topic.now) c.requires.moved) ∙ (sym c.is_everywhere.ensures ∙ c.if-not-is_everywhere.false))
