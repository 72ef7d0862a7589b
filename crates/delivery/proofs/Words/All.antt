-- Words of definitions, by what they are of.
-- Words of the kit.
pub use Rattle.std.proofs.Common.{Box, Global, Vec, ap, arith, cond, get_or, inl, inr, is_ok, ltb, max, not, refl, rules, set, subst, sym, vec_capacity, vec_len, ◌&&◌, ◌-◌, ◌∙◌, ◌≢◌, ◌⊎◌}
pub use Rattle.std.proofs.Math.Seq.{take-append_seam}
pub use Rattle.std.proofs.lemmas.Bool.Decides.{nat_tests}
pub use Rattle.std.proofs.lemmas.Bool.{and_from, and_parts, cases_Bool, cases_lt, cases_order, eq-eqb, eqb-true, false≢true, le-ltb, lt-ltb, ltb-false, ltb-true, not-false, not-true, or_from, or_parts, or_right, true≢false}
pub use Rattle.std.proofs.lemmas.List.Elements.{filter-append}
pub use Rattle.std.proofs.lemmas.List.FromFn.{length-enumerate_from}
pub use Rattle.std.proofs.lemmas.List.{append-nil, append_assoc, get_or-map, get_or-set_other, get_or-set_same, get_or_append_left, get_or_default, get_or_past, length-append, length-map, length-set, length_push, map-append, map-set, set-get_or, set-set, take-map, take_more}
pub use Rattle.std.proofs.lemmas.Option.{get_or_from_slice_get, slice_get-get_or, slice_get_past}
pub use Rattle.std.proofs.lemmas.Result.{IfOk-weaker}
pub use Rattle.std.specs.List.{AllByRecursion, enumerate_from, filter, flat_map, fold, last_or, list_all, list_any, position, position_or_len, range_with_len, remove}
pub use Rattle.std.specs.Map.{lookup}
pub use Rattle.std.specs.Option.{is_some, option_and_then, option_map, option_map_or, option_or, option_to_list, unwrap_or}
pub use Rattle.std.specs.Prelude.{Bool, Err, List, MatchOption, None, Ok, OnErr, OnOk, Option, Result, Some, [], codes, false, find, if◌then◌else◌, is_none, length, map, nat_lt, reverse, slice_get, suc, take, true, zero, ℕ, ◌++◌, ◌+◌, ◌<◌, ◌==◌, ◌||◌, ◌∷◌, ◌≡◌, ◌≤◌}
pub use Rattle.std.specs.Str.{bytes_eq}
pub use Rattle.std.specs.Vec.Iter.{into_iter_items}
-- Words of transactions, topics, queues and senders.
pub use Rattle.mcast_group.specs.Counted.{group_after_take, takes_of}
pub use Rattle.mcast_group.specs.Faults.{propose_title}
pub use Rattle.mcast_group.specs.Group.{GroupState, gauge_at, result_of, shown_at, shown_with, shows}
pub use Rattle.mcast_group.specs.Machine.{Entry, EntryEnd, HasOneRowEach, Pending, TopicState, after_cancel, after_learn, after_propose, after_release, after_release_of, after_releases, after_subscribe, after_tries, after_try, after_turn, after_unsubscribe, cancel_fault, cancel_fault_of, decided_stamp, due_part, end_of, entry_after, find_entry, find_pending, insert_entry, is_pending, item_of, key, last_number, learn_fault, new_topic, next_number, propose_fault, row_of, subscribe_fault, with_stamp}
pub use Rattle.mcast_group.specs.Sound.{IsQueueOf, IsSound, NumbersDiffer}
pub use Rattle.mcast_group.specs.declared.cause.Cause.TheVariants.{Asked, Lag}
pub use Rattle.mcast_group.specs.declared.cause.Cause.{Cause}
pub use Rattle.mcast_group.specs.declared.fault.CancelFault.{CancelFault}
pub use Rattle.mcast_group.specs.declared.fault.LearnFault.{LearnFault}
pub use Rattle.mcast_group.specs.declared.fault.NoSub.{NoSub}
pub use Rattle.mcast_group.specs.declared.fault.ProposeFault.{ProposeFault}
pub use Rattle.mcast_group.specs.declared.fault.SubFault.{SubFault}
pub use Rattle.mcast_txn.specs.Agreed.{CommitRow, EachOnce, SenderOrder, Transaction, agreed, committed_id, stamp_of}
pub use Rattle.mcast_txn.specs.Ballot.{Decision, row_at, ticket_rows}
pub use Rattle.mcast_txn.specs.Checks.{first_refusal}
pub use Rattle.mcast_txn.specs.Ids.{same_id}
pub use Rattle.mcast_txn.specs.Lists.{In, Rises, RisesBy, insert_by}
pub use Rattle.mcast_txn.specs.Part.{data_of, part_at}
pub use Rattle.mcast_txn.specs.Slots.{Slots, held_at, slot_at, with_slot}
pub use Rattle.mcast_txn.specs.Span.{Item, LogRow, Span, in_span, item_stamp, last_stamp, row_id, row_mark, row_stamp, up_to}
pub use Rattle.mcast_txn.specs.Stamp.{greatest, stamp_lt, zero_stamp}
pub use Rattle.mcast_txn.specs.TopicSet.{names}
pub use Rattle.mcast_txn.specs.Transaction.{TopicPart, insert_topic, part_of, topics_of}
pub use Rattle.mcast_txn.specs.declared.ballot.ticket.Ticket.{Ticket}
pub use Rattle.mcast_txn.specs.declared.draft.sent_message.SentMessage.{SentMessage}
pub use Rattle.mcast_txn.specs.declared.id.Topic.{Topic}
pub use Rattle.mcast_txn.specs.declared.id.TxnId.{TxnId}
pub use Rattle.mcast_txn.specs.declared.parts.part.Part.{Part}
pub use Rattle.mcast_txn.specs.declared.parts.part_message.PartMessage.{PartMessage}
pub use Rattle.mcast_txn.specs.declared.stamp.Stamp.{Stamp}
pub use Rattle.sender_gate.specs.Gate.{FlightState, GateState}
pub use Rattle.sender_gate.specs.Senders.{KeptSender, SendersState, after_claim, after_give_back, claim_refusal, claimed_gate, find_kept, new_gate}
pub use Rattle.sub_queue.specs.Shown.{Gauge}
pub use Rattle.trace_audit.specs.Explained.{IsCompleteBy, IsExplainedBy}
pub use Rattle.trace_audit.specs.Logs.{TopicRow}
pub use Rattle.trace_audit.specs.Trace.{TraceData, fits, has_span, queue_of, rows_of}
pub use Rattle.trace_audit.specs.declared.row.QueueRow.{QueueRow}
pub use Rattle.trace_audit.specs.declared.row.SpanRow.{SpanRow}
-- Words of frames and sessions.
pub use Rattle.stomp_escape.specs.declared.no_memory.NoMemory.{NoMemory}
pub use Rattle.stomp_frame.specs.Cases.{case_fault, is_connect}
pub use Rattle.stomp_frame.specs.Faults.{fault_of}
pub use Rattle.stomp_frame.specs.Headers.{first_of}
pub use Rattle.stomp_frame.specs.Inner.Parser.{Halt}
pub use Rattle.stomp_frame.specs.Reader.{ReadsNext, Unread, unread_of, with_piece}
pub use Rattle.stomp_frame.specs.Receipts.{receipt_of}
pub use Rattle.stomp_frame.specs.ServerFrames.{connected_frame, error_frame, message_frame, message_id, part_message_frame, receipt_frame}
pub use Rattle.stomp_frame.specs.Writing.{spelling_of}
pub use Rattle.stomp_frame.specs.declared.case_fault.CaseFault.{CaseFault}
pub use Rattle.stomp_frame.specs.declared.command.Command.{Command}
pub use Rattle.stomp_frame.specs.declared.fault.Check.{Check}
pub use Rattle.stomp_frame.specs.declared.limits.Limits.{Limits}
pub use Rattle.stomp_frame.specs.declared.raw_frame.RawFrame.{RawFrame}
pub use Rattle.stomp_session.specs.Answers.{action_by, commit, takes_memory}
pub use Rattle.stomp_session.specs.Frames.{client_of, field, has_destination, id_of, is_begin, is_disconnect, is_send, is_send_in, is_subscribe, is_unsubscribe, names_transaction, send_of, topic_of, transaction_of, wants_parts, with_destination}
pub use Rattle.stomp_session.specs.Inner.Effects.{entries_without}
pub use Rattle.stomp_session.specs.Names.{is_known, max_topics}
pub use Rattle.stomp_session.specs.Open.{Held, IsKnownTo, held_after, is_ended, state_of, subscriptions_left, transactions_left}
pub use Rattle.stomp_session.specs.Refusals.{is_closed, is_new, is_open, open_refusals, sends_in, session_fault}
pub use Rattle.stomp_session.specs.declared.action.Action.{Action}
pub use Rattle.stomp_session.specs.declared.action.Step.{Step}
pub use Rattle.stomp_session.specs.declared.fault.SessionFault.{SessionFault}
-- Words of lemmas of the crates below.
pub use Rattle.mcast_group.proofs.Counting.{tried_all_subs}
pub use Rattle.mcast_group.proofs.Keeping.{Sound-new}
pub use Rattle.mcast_group.proofs.Numbers.{numbers_differ}
pub use Rattle.mcast_group.proofs.Parts.{Waits, Waits-without, after_release_if, finds_part, found_part, map_length, none_some, not_true, others, some_same}
pub use Rattle.mcast_group.proofs.Queues.{More, More-same, delivered_number}
pub use Rattle.mcast_group.proofs.Releasing.{delivered_by}
pub use Rattle.mcast_group.proofs.Turning.{release_keeps, turn_keeps}
pub use Rattle.mcast_txn.proofs.CheckLemmas.{NoneHolds, passes, refusal_after, refusal_first}
pub use Rattle.mcast_txn.proofs.Inserting.{In-insert, In-insert_cases, insert_one}
pub use Rattle.mcast_txn.proofs.Members.{In-append_left, In-append_right, In-filter, In-filter_cases, In-map, In-map_cases, In-push, In-push_cases, In-take, any_found, any_from, at_set, at_set_within, filter_none, filter_same, filter_twice, not_head, push_one}
pub use Rattle.mcast_txn.proofs.Orders.{id_equal, id_itself, id_same, le_lt, le_trans, lt_asym, lt_irrefl, lt_le, same_stamps, same_topics, zero_least}
pub use Rattle.mcast_txn.proofs.Sorting.{In-sorted, In-sorted_cases, Rises-filter, Rises-map, Rises-sorted, same_rising}
pub use Rattle.mcast_txn.proofs.TopicLemmas.{topics_rise}
pub use Rattle.sender_gate.proofs.KeptLemmas.{octets_pass, same_octets}
pub use Rattle.stomp_frame.proofs.Names.{or_third}
pub use Rattle.stomp_frame.proofs.Whole.{answers_none, one_answer}
pub use Rattle.stomp_session.proofs.Asked.{begins_at, committed_subscribes, ends, sent_subscribes}
pub use Rattle.stomp_session.proofs.Later.{known-with_destination, state-later, topic-with_destination, with_destination-grows}
-- Words of the machine and of its claims.
pub use Rattle.delivery.specs.Machine.Moves.Answer.{Begun, Cancelled, Decided, Done, Error, Failed, Gone, Handed, Learnt, Leaving, Opened, Refused, Released, Subscribed, Turned, Unsubscribed, Withdrawn}
pub use Rattle.delivery.specs.Machine.Moves.Move.{AddsTopic, Cancels, Commits, Connects, Decides, Disconnects, Errs, Learns, Leaves, Lost, Opens, Proposes, Releases, Subscribes, Takes, Turns, Unsubscribes, Withdraws}
pub use Rattle.delivery.specs.Machine.Moves.{Answer, Move, answer_to, cancel_answer, cancel_effect, cancel_objection, cancel_objection_of, claimed_senders, close_effect, close_effect_of, commit_answer, commit_effect, connect_effect, decide_effect, drop_leftover, end_now, find_leftover, find_verdict, has_ticket, insert_ticket, is_complete, is_live, is_topic, learn_effect, learn_objection, learn_objection_of, leave_answer, leave_effect, leftover, move_answer, move_effect, move_refusal, move_refusals, needs_connection, needs_idle, needs_open, next_ticket, next_txn, oldest_live, or_out_of_memory, proposal_fault, propose_answer, propose_effect, queue_has_room, release_answer, take_answer, take_effect, topic_objection, undecided_at, undecided_or_none, verdict_in, with_leaving, withdraw_effect, world_after}
pub use Rattle.delivery.specs.Machine.Objections.{Objection, refusal_of}
pub use Rattle.delivery.specs.Machine.Observed.{accepted_at, end_at, entry_items, entry_to, frontier_at, log_at, span_at}
pub use Rattle.delivery.specs.Machine.Runs.{Numbered, answers_from, commits_of, delivered_items, released_at, run, txn_count, txn_of_id}
pub use Rattle.delivery.specs.Machine.World.{Connection, Leftover, SenderState, Standing, Subscription, Undecided, World, connection_at, entry_at, is_gone, is_in_use, is_reading, new_sender, new_topics, no_subscription, nobody, sender_at, speaker, speaker_number, speaks_for, start, subscription_at, topic_at, with_sender, with_standing, with_topic}
pub use Rattle.delivery.specs.Theorem.Answers.{IsAnswer}
pub use Rattle.delivery.specs.Theorem.Due.{due, is_due, item_at, log_row}
pub use Rattle.delivery.specs.Theorem.Laws.{Run, agreed_rows, answers_of, final_world, is_logged, is_odd, move_topic, shared_marks}
pub use Rattle.delivery.specs.Theorem.Settled.{AllResolved, IsResolved, IsSettled, IsSilent, SilentAfterClose, closes}
pub use Rattle.delivery.specs.Theorem.Spans.{EndsBeforeRow, cause_of}
pub use Rattle.delivery.specs.Theorem.Tied.{added_clocks}
-- Words of the core.
pub use Rattle.delivery.specs.Core.Account.{Beginning, account_of, account_of_step, beginning_of, last_of, next_item, no_beginning, no_item, released_frontier, released_log}
pub use Rattle.delivery.specs.Core.Answered.{DeliversAnswers, IsAsAnswered, LagsAsAnswered, last_queued, reported_begun}
pub use Rattle.delivery.specs.Core.Claims.{Claim, begins, begun_count, claim_of, claimed_sender, claims_of, is_kept, is_one_client, is_one_too_many, kept_count, kept_sender, sender_claimed, sender_of, senders_of}
pub use Rattle.delivery.specs.Core.Connections.{live_numbers}
pub use Rattle.delivery.specs.Core.Delivery.{Delivers, Delivery, kept_run}
pub use Rattle.delivery.specs.Core.Outcomes.{IsCoreRun, IsReadAt, MayStep, accepted_outcomes, claim_fault, cut_of, fault_outcomes, frame_fault, frame_no_memory, frame_outcome, is_any, move_outcome, outcome_of, outcomes, outcomes_without, reading_outcomes, reply_outcomes, unless, wants_memory}
pub use Rattle.delivery.specs.Core.Output.{commit_frame, failed_title, has_closed, is_cut, next_replies, receipt_asked, receipts_of, replies_to, says_version, sub_id_text, sub_parts, subscribe_frame, take_replies, text_out}
pub use Rattle.delivery.specs.Core.Reports.{QueueReport, Report, each_number, log_in, out_in, queue_report, report_of}
pub use Rattle.delivery.specs.Core.State.{Core, IsReadBy, core_after, core_for, core_of, frame_move, is_faulted, is_no_memory, is_out_of_memory, log_limit, moves, names_at, new_core, next_moves, session_at, topic_moves, unread_after, unread_at}
pub use Rattle.delivery.specs.Core.Stepped.{DeliversNext, GivesStamp, GivesTicket, IsNewTopic, LagsFull, event_topic}
pub use Rattle.delivery.specs.Core.Steps.{BeginsWithFrames, CoreStep, Reading, accepted_of, begun_by, fed_octets, frame_from, frame_in, frames_of, has_effect, has_id, is_fed, is_next, kept_of, names_after, number_by, reader_limits, reads_frame}
pub use Rattle.delivery.specs.Core.Told.{Told, committed, frontier_of, handed_count, sends_by, told_of}
pub use Rattle.delivery.specs.Faults.{connection_title}
pub use Rattle.delivery.specs.Nets.{HasAnswered, HasReport, HasTaken, IsDelivered, KeptRun}
pub use Rattle.delivery.specs.Topics.{TopicList}
pub use Rattle.delivery.specs.Traces.{AllSettled, IsTraced, trace_of, traced_log, traced_queue, traced_span}
pub use Rattle.delivery.specs.declared.connection_fault.ConnectionFault.{ConnectionFault}
pub use Rattle.delivery.specs.declared.event.Event.{Event}
pub use Rattle.delivery.specs.declared.kept.Kept.{Kept}
pub use Rattle.delivery.specs.declared.open_endpoint.OpenEndpoint.{OpenEndpoint}
pub use Rattle.delivery.specs.declared.outcome.Outcome.TheVariants.{Faulted, Fed, Flying, Proposed}
pub use Rattle.delivery.specs.declared.outcome.Outcome.{Outcome}
pub use Rattle.delivery.specs.declared.refusal.Refusal.{Refusal}
pub use Rattle.delivery.specs.declared.sending.Sending.{Sending}
pub use Rattle.delivery.specs.declared.stage.Stage.{Stage}
-- Words of the views.
pub use Rattle.delivery.specs.Inner.Clients.{AreClaimed, AreClients, MakesBoth, MayResume, given_back, idle_gate, kept_entry, refused_claim, rested_view, resting_gate, with_sender_of}
pub use Rattle.delivery.specs.Inner.Leaving.{end_with, gone_view, has_parting, leave_objection, leaving_objection, oldest_closed, oldest_end, waits}
pub use Rattle.delivery.specs.Inner.NetInvariant.{KeepsBoth, KeepsRun}
pub use Rattle.delivery.specs.Inner.Nexts.{Asks, AsksNamed, AsksUnnamed, EndpointFault, IsRefusedAs, Judgement, MayEnd, MayLack, accepted_stage, claims_none, error_text, failed_endpoint, idle_objection, receipt_text, sending_objection, staged_endpoint}
pub use Rattle.delivery.specs.Inner.Readings.{reading_at, steps_of}
pub use Rattle.delivery.specs.Inner.Rooms.{KeepsRoom, PromisedRows, flying_count, is_flying}
pub use Rattle.delivery.specs.Inner.Senders.{IsProposed, asked_view, cancel_refusal_in, cancelled_view, confirmed_view, decide_refusal, decided_row, decided_sender, decided_view, decision_of, failure_of, floor_in, gate_of, gone_objection, is_group, is_slot, launched_id, launched_view, no_sender, part_in, part_refusal, propose_refusal_in, reads_frames, receipt_in, refused_view, sender_in, speaker_at, taken_sender, taken_view, takes_ticket, there_objection, ticket_in, withdraw_refusal, withdrawn_view}
pub use Rattle.delivery.specs.Inner.Stands.{IsReached, Makes, endpoint_objection, stage_objection, step_of}
pub use Rattle.delivery.specs.Inner.Subscriptions.{closed_if_left, closed_view, closed_with, has_sub_id, left_at, left_in, no_sub, number_in, subscribed_view, without_number}
pub use Rattle.delivery.specs.Inner.Takes.{after_next_item, group_held, has_lagged, next_held, next_of, sub_held, sub_objection, take_objection}
pub use Rattle.delivery.specs.Inner.TopicSteps.{after_learn_at, after_turn_at, group_after_turn, group_turn_count, learn_result, verdict_held}
pub use Rattle.delivery.specs.Inner.Verdicts.{verdict_at}
pub use Rattle.delivery.specs.Inner.View.{EndpointView, LeftView, SenderView, SubView, View, endpoint_view, fed_endpoint, group_in, group_view, held_sender, is_undecided, leaving_endpoint, left_of, left_view, made_group, new_group, no_endpoint, no_group, number_among, parting_receipt, pending_receipt, queue_gauge, rested_sender, sender_view, sending_view, stage_view, sub_view, ticket_of, undecided_view, verdict_list, view_after, view_of, view_with, with_new_endpoint, written_endpoint}
pub use Rattle.delivery.specs.Inner.ViewReports.{report_in, sub_report}
