use Rattle.delivery.proofs.Words.All.{Option, None, sym, ap, ◌∙◌, option_map, RawFrame, receipt_asked, says_version, is_faulted, no_endpoint}
use Rattle.delivery.proofs.Views.Events.NextFaults.{next_fails}
use Rattle.delivery.proofs.net_state.NetState.refuse.Goals as goal

pub returns-in-Some-clause-faulted : goal.returns-in-Some-clause-faulted
returns-in-Some-clause-faulted c = ap is_faulted c.fail.ensures.answer

pub returns-in-Some-clause-ended : goal.returns-in-Some-clause-ended
returns-in-Some-clause-ended c k reached h =
    let receipt = option_map (λ r. r.now) c.receipt.result in let same = c.receipt.ensures.value ∙ sym (ap receipt_asked c.in-Some.is) in
    let says = c.says_version-version.ensures ∙ sym (ap (λ (o : Option RawFrame). says_version o c.args.fault) c.in-Some.is) in
    next_fails k c.args.connection c.args.fault c.args.frame receipt c.says_version-version.result c.args.self.now c.fail.new.self c.fail.result no_endpoint h same says c.fail.ensures.answer (c.fail.ensures.endpoint no_endpoint)

pub returns-in-None-clause-faulted : goal.returns-in-None-clause-faulted
returns-in-None-clause-faulted c = ap is_faulted c.fail-in-None.ensures.answer

pub returns-in-None-clause-ended : goal.returns-in-None-clause-ended
returns-in-None-clause-ended c k reached h =
    next_fails k c.args.connection c.args.fault c.args.frame None c.says_version.result c.args.self.now c.fail-in-None.new.self c.fail-in-None.result no_endpoint h (sym (ap receipt_asked c.in-None.is))
    (c.says_version.ensures ∙ sym (ap (λ (o : Option RawFrame). says_version o c.args.fault) c.in-None.is))
    c.fail-in-None.ensures.answer (c.fail-in-None.ensures.endpoint no_endpoint)
