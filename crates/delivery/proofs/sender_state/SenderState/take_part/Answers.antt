use Rattle.std.proofs.Common.{subst, vec_len, vec_capacity}
use Rattle.delivery.proofs.Words.All.{Sending, KeepsRoom}
use Rattle.delivery.proofs.Views.Senders.RoomLasts.{taken_room}
use Rattle.delivery.proofs.sender_state.SenderState.take_part.Goals as goal
use Rattle.delivery.proofs.sender_state.SenderState.take_part.Goals.{in-Resting, in-Idle, in-Marked, in-Flying+else-not-has_topic+in-Some, in-Flying+else-not-has_topic+in-None}

pub invariant_of-self-2 : goal.invariant_of-self-2
invariant_of-self-2 c = elim c.match-self.branch [
  | in-Marked w ↦ rw w.self-inside-is c.self.invariant
  | in-Idle w ↦ rw w.self-inside-is c.self.invariant
  | in-Resting w ↦ rw w.self-inside-is c.self.invariant
  | in-Flying+else-not-has_topic+in-Some w ↦ rw (w.self-inside-is, w.part.ensures.taken)
      (taken_room c.args.topic w.in-Flying.flying w.in-Flying.field-1 _ _
      (subst (λ (z : Sending). KeepsRoom z (vec_len c.self.inside.leftovers) (vec_capacity c.self.inside.leftovers)) w.in-Flying.is c.self.invariant))
  | in-Flying+else-not-has_topic+in-None w ↦ rw (w.self-inside-is, w.part.ensures.taken)
      (taken_room c.args.topic w.in-Flying.flying w.in-Flying.field-1 _ _
      (subst (λ (z : Sending). KeepsRoom z (vec_len c.self.inside.leftovers) (vec_capacity c.self.inside.leftovers)) w.in-Flying.is c.self.invariant))
]
