use Rattle.std.proofs.Common.{◌∙◌, ap, ◌++◌, ◌∷◌, [], arith, List, ℕ}
use Rattle.std.specs.Prelude.{codes, decimal}
use Rattle.std.proofs.lemmas.Result.{on_ok_weaker}
use Rattle.stomp_frame.proofs.ServerSpellings.{id_put}
use Rattle.stomp_frame.proofs.writing.server_writer.put_message_id.Goals as goal

pub returns-clause-ok : goal.returns-clause-ok
returns-clause-ok c =
    let index = c.put_before-start.ensures.put ∙ ap (λ (k : ℕ). decimal k ++ 10 ∷ []) c.from.ensures in
    let topic = c.put_before-start-2.ensures.put ∙ ap (λ (t : List ℕ). decimal c.from-2.result ++ 46 ∷ t) index ∙ ap (λ (k : ℕ). decimal k ++ 46 ∷ (decimal c.args.index ++ 10 ∷ [])) c.from-2.ensures in
    let line = c.put_before-start-3.ensures.put ∙ ap (λ (t : List ℕ). decimal c.args.n ++ 46 ∷ t) topic in
    on_ok_weaker c.put_named.result (λ e. id_put c.args.out.now c.put_named.new.out c.args.n c.args.topic c.args.index (omega arith) (omega arith) (omega arith) (e ∙ ap (λ (t : List ℕ). c.args.out.now ++ (codes "message-id:" ++ t)) line)) c.put_named.ensures.ok
