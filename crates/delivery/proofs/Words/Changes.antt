-- Lemmas of what a step of the network changes.
pub use Rattle.delivery.proofs.Core.AccountOfRun.{Own, account_is, by_answer, core_at, core_is, either_cut, replied, run_of, same_memory, undecided_is, world_is}
pub use Rattle.delivery.proofs.Core.ByReading.{IsFaultOf, IsRefusal, by_next, by_reading, in_option, refusal_some, was_wanted}
pub use Rattle.delivery.proofs.Core.ClaimsStand.{Unobjected, claims_asked, claims_own, connect_of, connect_plain, core_stands, core_steps, unobjected}
pub use Rattle.delivery.proofs.Views.Endpoints.EndpointChanges.{endpoint_again, with_endpoint}
pub use Rattle.delivery.proofs.Views.Endpoints.EndpointsStay.{IsQuiet, if_same, learn_is_quiet, lost_is_quiet, none_named, open_is_quiet, open_without_is_quiet, piece_without_is_quiet, quiet_view, refused_is_quiet, release_is_quiet, take_without_is_quiet, turn_is_quiet}
pub use Rattle.delivery.proofs.Views.Endpoints.StandingOfConnection.{closed_where_shut, differ, grown, grown_once, open_there, same_or, stands_after, stays_shut}
pub use Rattle.delivery.proofs.Views.Events.OneMove.{checked_open, checked_there, endpoint_at, endpoint_is, endpoint_missing, endpoint_read, in_one, in_outcome, left_view, left_with, no_endpoint, open_checked, quiet_makes, refused_makes, same_endpoint, step_makes, with_connection, written_with}
pub use Rattle.delivery.proofs.Views.Lists.ByNumber.{each_number-push, each_number-same, each_number-set, end_is, get_or-each_number, index_is, length-each_number, map_alike}
pub use Rattle.delivery.proofs.Views.Runs.ByRunOfCore.{by_account, by_world, machine_run, speaks_of, stand_of, world_of}
pub use Rattle.delivery.proofs.Views.Senders.HeldSenders.{held_leftovers, held_same, held_undecided, senders_alike, senders_same, spoken_used, unused_rests, used_held}
pub use Rattle.delivery.proofs.Views.Senders.SenderChanges.{IsSpeaking, endpoint_in, endpoint_of, endpoint_of_stage, endpoint_with_sender, endpoints_with_sender, held_of, lists_with, next_undecided, number_at, number_set, sender_is, sender_of, sender_of_endpoint, speaker_is, speaker_of, speaker_there, speaker_with, speaking_used, stage_kept}
