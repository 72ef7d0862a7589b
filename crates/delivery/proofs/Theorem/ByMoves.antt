-- What each move keeps holds of each run.
use Rattle.std.proofs.Common.{◌≡◌, ℕ, List, [], ◌∷◌, None}
use Rattle.delivery.proofs.Words.All.{Objection, World, start, Move, Answer, move_refusal, Run, answers_of, final_world, Refused}
use Rattle.delivery.proofs.Machine.ByFound.{InEachCase, by_found}
use Rattle.delivery.proofs.Machine.InvariantIsKept.{Reached, by_refusal}
use Rattle.delivery.proofs.Theorem.AcceptedIsDue.{reached}
use Rattle.delivery.proofs.Core.ByRun.{by_run}

module _ (P : List Answer → World → Type 0) (first : (capacity log_limit : ℕ) (clocks : List ℕ) → P [] (start capacity log_limit clocks))
    (refused : (past : List Answer) (w : World) (why : Objection) → P past w → P (Refused why ∷ past) w) where
  -- what holds at the start, is kept where a move is refused, and in each case of each move after a run that isn't, holds after each run
  pub by_runs_moves : ((r : Run) (e : Move) → P (answers_of r) (final_world r) → move_refusal (final_world r) e ≡ None
      → InEachCase (λ v o. P (o ∷ answers_of r) v) (final_world r) e) → (r : Run) → P (answers_of r) (final_world r)
  by_runs_moves each = by_run P first (λ r e h.
      by_refusal (λ v o. P (o ∷ answers_of r) v) (final_world r) e (λ why. refused (answers_of r) (final_world r) why h)
      (λ n. by_found (λ v o. P (o ∷ answers_of r) v) (final_world r) e (each r e h n)))

  -- the same of each move in a world that a run reached
  pub by_moves : ((past : List Answer) (w : World) (e : Move) → Reached past w → P past w → move_refusal w e ≡ None → InEachCase (λ v o. P (o ∷ past) v) w e)
      → (r : Run) → P (answers_of r) (final_world r)
  by_moves each = by_runs_moves (λ r e h n. each (answers_of r) (final_world r) e (reached r) h n)
