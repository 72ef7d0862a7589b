-- What one move makes: the world after it, and its answer.
use Rattle.std.proofs.Common.{◌≡◌, Option, Some, None, ap}
use Rattle.delivery.proofs.Words.All.{Objection, World, Move, Answer, world_after, answer_to, move_refusal, move_effect, move_answer}

-- the world after a move that isn't refused
pub made_world : (w : World) (e : Move) → move_refusal w e ≡ None → world_after w e ≡ move_effect w e
made_world w e free = ap (λ (o : Option Objection). elim o [ None ↦ move_effect w e | Some why ↦ w ]) free

-- its answer
pub made_answer : (w : World) (e : Move) → move_refusal w e ≡ None → answer_to w e ≡ move_answer w e
made_answer w e free = ap (λ (o : Option Objection). elim o [ None ↦ move_answer w e | Some why ↦ Answer.Refused why ]) free

-- the world after one that is refused
pub same_world : (w : World) (e : Move) (why : Objection) → move_refusal w e ≡ Some why → world_after w e ≡ w
same_world w e why refused = ap (λ (o : Option Objection). elim o [ None ↦ move_effect w e | Some p ↦ w ]) refused

-- its answer
pub refused_answer : (w : World) (e : Move) (why : Objection) → move_refusal w e ≡ Some why → answer_to w e ≡ Answer.Refused why
refused_answer w e why refused = ap (λ (o : Option Objection). elim o [ None ↦ move_answer w e | Some p ↦ Answer.Refused p ]) refused
