use Rattle.std.proofs.Common.{◌∙◌, ap, ◌++◌, arith, List, ℕ}
use Rattle.std.specs.Prelude.{codes}
use Rattle.std.proofs.lemmas.Result.{on_ok_weaker}
use Rattle.stomp_frame.proofs.ServerSpellings.{length_put}
use Rattle.stomp_frame.proofs.writing.server_writer.put_content_length.Goals as goal

pub returns-clause-ok : goal.returns-clause-ok
returns-clause-ok c =
    on_ok_weaker c.put_named.result (λ e. length_put c.args.out.now c.put_named.new.out c.args.len (omega arith) (e ∙ ap (λ (t : List ℕ). c.args.out.now ++ (codes "content-length:" ++ t)) c.put_before-start.ensures.put)) c.put_named.ensures.ok
