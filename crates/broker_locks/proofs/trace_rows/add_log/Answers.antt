use Rattle.std.proofs.Common.{◌≡◌, [], Some, sym, ap, refl, ◌∙◌}
use Rattle.std.specs.Option.{option_map}
use Rattle.std.specs.Prelude.{slice_get}
use Rattle.trace_audit.specs.declared.fault.AddFault.{AddFault}
use Rattle.broker_locks.specs.KeptTrace.{AddsFirst}
use Rattle.broker_locks.specs.TopicTraces.{log_rows, logged_row}
use Rattle.broker_locks.proofs.Adding.{adds_no_row, adds_none, err_is, map_first, map_more}
use Rattle.broker_locks.proofs.trace_rows.add_log.Goals as goal

pub loop-i-init : goal.loop-i-init
loop-i-init g c = adds_no_row [] c.args.trace.now refl

pub returns-in_err-add_log_row-clause-err : goal.returns-in_err-add_log_row-clause-err
returns-in_err-add_log_row-clause-err g c =
    let log = c.args.log.now in
    let fault = c.in_err-add_log_row.field-0.0 in
    let is : slice_get log c.loop-i.i ≡ Some c.unwrap.result.now = sym c.row.ensures ∙ ap (option_map _) c.unwrap.ensures in
    err_is c.from_residual.result fault (λ (f : AddFault). AddsFirst f (log_rows c.args.topic log) c.args.trace.now c.add_log_row.new.trace) c.from_residual.ensures.1
    (map_first (logged_row c.args.topic) log c.loop-i.i c.unwrap.result.now is c.args.trace.now c.loop-i.trace c.add_log_row.new.trace c.loop-i.invariant fault
    (adds_none fault (logged_row c.args.topic c.unwrap.result.now) _ c.loop-i.trace c.add_log_row.new.trace c.in_err-add_log_row.ensures.err c.in_err-add_log_row.ensures.fault))

pub loop-i-preserved : goal.loop-i-preserved
loop-i-preserved g c =
    let is : slice_get c.args.log.now c.loop-i.i ≡ Some c.unwrap.result.now = sym c.row.ensures ∙ ap (option_map _) c.unwrap.ensures in
    map_more (logged_row c.args.topic) c.args.log.now c.loop-i.i c.unwrap.result.now is c.args.trace.now c.loop-i.trace c.add_log_row.new.trace c.loop-i.invariant c.in_ok-add_log_row.ensures.ok
