use Rattle.std.proofs.Common.{sym, ◌∙◌}
use Rattle.std.specs.Prelude.{codes}
use Rattle.stomp_frame.proofs.Messages.{value_text, may_ask}
use Rattle.stomp_frame.proofs.raw_frame.RawFrame.receipt.Goals as goal

pub returns-in_default : goal.returns-in_default
returns-in_default c =
    let f = c.args.self.now in
    record {
      value = c.first.ensures.value ∙ sym (may_ask f.command f.headers c.in_default.not-Connect c.in_default.not-Stomp);
      text = value_text f.headers (codes "receipt") c.first.result c.first.ensures.pairs c.first.ensures.value;
    }
