use Rattle.std.proofs.Common.{List, ℕ, Some, None, sym, ap, ◌∙◌}
use Rattle.delivery.proofs.Words.All.{is_faulted, no_endpoint}
use Rattle.delivery.proofs.Views.Events.NextFrames.{next_ends_with}
use Rattle.delivery.proofs.net_state.NetState.end_with.Goals as goal

pub returns-in-Some-clause-faulted : goal.returns-in-Some-clause-faulted
returns-in-Some-clause-faulted c = ap is_faulted c.fail.ensures.answer

pub returns-in-None-clause-faulted : goal.returns-in-None-clause-faulted
returns-in-None-clause-faulted c = ap is_faulted c.fail-in-None.ensures.answer

pub returns-in-Some-clause-ended : goal.returns-in-Some-clause-ended
returns-in-Some-clause-ended c k f left action asks may =
    let said = ap (λ (x : List ℕ). Some x) c.as_slice.ensures ∙ sym c.in-Some.is in
    next_ends_with k c.args.connection f left action c.args.fault c.args.receipt.now (Some c.as_slice.result.now) c.args.self.now c.fail.new.self c.fail.result no_endpoint asks may said
    c.fail.ensures.answer (c.fail.ensures.endpoint no_endpoint)

pub returns-in-None-clause-ended : goal.returns-in-None-clause-ended
returns-in-None-clause-ended c k f left action asks may =
    next_ends_with k c.args.connection f left action c.args.fault c.args.receipt.now None c.args.self.now c.fail-in-None.new.self c.fail-in-None.result no_endpoint asks may (sym c.in-None.is)
    c.fail-in-None.ensures.answer (c.fail-in-None.ensures.endpoint no_endpoint)
