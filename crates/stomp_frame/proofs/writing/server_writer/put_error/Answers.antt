use Rattle.std.specs.Option.{option_map}
use Rattle.std.proofs.lemmas.Result.{on_ok_weaker}
use Rattle.stomp_frame.proofs.ServerSpellings.{error_put}
use Rattle.stomp_frame.proofs.writing.server_writer.put_error.Goals as goal

pub returns-clause-ok : goal.returns-clause-ok
returns-clause-ok c =
    on_ok_weaker c.extend.result (λ e. error_put c.args.out.now c.put_value.new.out c.put_receipt_id.new.out c.put_version.new.out c.extend.new.self c.args.message.now (option_map (λ r. r.now) c.args.receipt) c.args.version
    c.in_ok-put_value.ensures.ok c.in_ok-put_receipt_id.ensures.ok c.in_ok-put_version.ensures.ok e) c.extend.ensures.ok
