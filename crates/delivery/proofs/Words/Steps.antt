-- Lemmas of the machine's steps and of what follows of them.
pub use Rattle.delivery.proofs.Core.ByRun.{answers_append, by_run, longer, run_append}
pub use Rattle.delivery.proofs.Machine.ByFound.{Found, InEachCase, always, by_found, found, none_of}
pub use Rattle.delivery.proofs.Machine.Effects.{made_answer, made_world, refused_answer, same_world}
pub use Rattle.delivery.proofs.Machine.Invariant.{Holds, Owned, row, sender_in, topic_in}
pub use Rattle.delivery.proofs.Machine.InvariantIsKept.{Asks, FewerFlights, Reached, asks_of, by_refusal, checked, finds, in_flight, new_ticket, no_fault, one_fewer, one_kept, one_same, same_flights, step_reached, tickets, verdict_found}
pub use Rattle.delivery.proofs.Machine.ProposeStep.{New, cons_one, cons_two, flight_after, heard, not_given, sender_after, topic_after, within_senders}
pub use Rattle.delivery.proofs.Machine.SenderSteps.{In-append_cases, In-drop, TicketOf, complete_at, leftover_found}
pub use Rattle.delivery.proofs.Machine.Speakers.{cancelling_speaker, claim_free, claim_there, flying_speaker, has_speaker, kept_number, kept_speaker}
pub use Rattle.delivery.proofs.Machine.SubscriptionSteps.{at_added, at_end, at_old, at_push, at_push_two, beyond, finds_entry, found_entry, new_entry, new_subscription, set_length, taken_more, topic_with}
pub use Rattle.delivery.proofs.Machine.TopicSteps.{Entries, Entries-same, Keeps-release, Keeps-turned, at_topic, at_topic_from, flies_uncommitted, key_ticket, map_map, map_same, one_commit}
pub use Rattle.delivery.proofs.Theorem.AcceptedIsDue.{accepted_is_due, at_new, end_by, frontier_is, in_log, items_by, queued, reached, start_reached}
pub use Rattle.delivery.proofs.Theorem.ByMoves.{by_moves, by_runs_moves}
pub use Rattle.delivery.proofs.Theorem.MovesAreAnswered.{answer_as, events_are_answered, is_oldest}
