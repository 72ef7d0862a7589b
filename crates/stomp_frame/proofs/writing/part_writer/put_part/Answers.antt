use Rattle.std.proofs.Common.{◌∙◌, ap, ◌++◌, ◌∷◌, arith, List, ℕ}
use Rattle.std.specs.Prelude.{codes, decimal}
use Rattle.std.proofs.lemmas.Result.{on_ok_weaker}
use Rattle.stomp_frame.proofs.ServerSpellings.{part_put}
use Rattle.stomp_frame.proofs.writing.part_writer.put_part.Goals as goal

pub returns-clause-ok : goal.returns-clause-ok
returns-clause-ok c =
    let line = c.put_before-start-2.ensures.put ∙ ap (λ (t : List ℕ). decimal c.args.at ++ 47 ∷ t) c.put_before-start.ensures.put in
    on_ok_weaker c.put_named.result (λ e. part_put c.args.out.now c.put_named.new.out c.args.at c.args.count (omega arith) (omega arith) (e ∙ ap (λ (t : List ℕ). c.args.out.now ++ (codes "part:" ++ t)) line)) c.put_named.ensures.ok
