use Rattle.std.specs.Prelude.{codes, decimal}
use Rattle.std.proofs.lemmas.Result.{on_ok_weaker}
use Rattle.stomp_frame.specs.Headers.{first_of}
use Rattle.stomp_frame.specs.ServerFrames.{first_entries, withheld, message_id}
use Rattle.stomp_frame.proofs.ServerSpellings.{headers_put}
use Rattle.stomp_frame.proofs.writing.server_writer.put_message_headers.Goals as goal

pub returns-clause-ok : goal.returns-clause-ok
returns-clause-ok c =
    on_ok_weaker c.put_first_entries.result (λ e. headers_put c.args.out.now c.put_value.new.out c.put_message_id.new.out c.put_destination.new.out c.put_content_length.new.out c.put_first_entries.new.out
    c.args.subscription.now (message_id c.args.n c.args.topic c.args.index) (first_of (codes "destination") c.args.sent.now) (decimal c.args.len) (first_entries withheld c.args.sent.now)
    c.in_ok-put_value.ensures.ok c.in_ok-put_message_id.ensures.ok c.in_ok-put_destination.ensures.ok c.in_ok-put_content_length.ensures.ok e) c.put_first_entries.ensures.ok
