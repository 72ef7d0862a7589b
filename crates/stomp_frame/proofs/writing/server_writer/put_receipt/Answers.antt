use Rattle.std.proofs.lemmas.Result.{on_ok_weaker}
use Rattle.stomp_frame.proofs.ServerSpellings.{receipt_put}
use Rattle.stomp_frame.proofs.writing.server_writer.put_receipt.Goals as goal

pub returns-clause-ok : goal.returns-clause-ok
returns-clause-ok c =
    on_ok_weaker c.extend.result (λ e. receipt_put c.args.out.now c.put_value.new.out c.extend.new.self c.args.id.now c.in_ok-put_value.ensures.ok e) c.extend.ensures.ok
