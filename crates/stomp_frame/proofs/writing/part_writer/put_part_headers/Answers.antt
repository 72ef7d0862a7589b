use Rattle.std.specs.Prelude.{◌∷◌, codes, decimal, length}
use Rattle.std.proofs.lemmas.Result.{on_ok_weaker}
use Rattle.stomp_frame.specs.Headers.{first_of}
use Rattle.stomp_frame.specs.ServerFrames.{first_entries, withheld, message_id, part_value}
use Rattle.stomp_frame.proofs.ServerSpellings.{part_headers_put}
use Rattle.stomp_frame.proofs.writing.part_writer.put_part_headers.Goals as goal

pub returns-clause-ok : goal.returns-clause-ok
returns-clause-ok c =
    let m = c.args.message.now in
    let sent = m.headers.now in
    on_ok_weaker c.put_first_entries.result (λ e. part_headers_put c.args.out.now c.put_value.new.out c.put_message_id.new.out c.put_destination.new.out c.put_content_length.new.out c.put_part.new.out c.put_first_entries.new.out
    m.subscription.now (message_id m.n m.topic m.index) (first_of (codes "destination") sent) (decimal (length m.body.now)) (part_value m.at m.count) (first_entries (codes "part" ∷ withheld) sent)
    c.in_ok-put_value.ensures.ok c.in_ok-put_message_id.ensures.ok c.in_ok-put_destination.ensures.ok c.in_ok-put_content_length.ensures.ok c.in_ok-put_part.ensures.ok e) c.put_first_entries.ensures.ok
