-- What holds after each run holds after one event more.
use Rattle.std.proofs.Common.{◌≡◌, List, [], ◌∷◌, subst}
use Rattle.delivery.proofs.Words.All.{World, start, Move, Answer, world_after, answer_to, Run, answers_of, final_world}
use Rattle.delivery.proofs.Core.ByRun.{longer, run_append, answers_append}

pub at_next : (P : List Answer → World → Type 0) → ((r : Run) → P (answers_of r) (final_world r)) → (r : Run) (e : Move)
    → P (answer_to (final_world r) e ∷ answers_of r) (world_after (final_world r) e)
at_next P all r e =
    let s = start r.capacity r.log_limit r.clocks in let q = longer r (e ∷ []) in
    let a : answers_of q ≡ answer_to (final_world r) e ∷ answers_of r = answers_append r.events (e ∷ []) s [] in
    let b : final_world q ≡ world_after (final_world r) e = run_append r.events (e ∷ []) s in
    subst (λ z. P (answer_to (final_world r) e ∷ answers_of r) z) b (subst (λ z. P z (final_world q)) a (all q))
