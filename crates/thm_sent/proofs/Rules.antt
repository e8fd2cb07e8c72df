-- The rules and the books, unfolded: who says `unfolding rules` computes with all of them. Assumes nothing.
use Rattle.cursor.specs.Cursor.{in_range, same_b, moved_of as cursor-movedOf, step_of, turns_of, distance_of, good_b, gap_of, cursor_at}
use Rattle.cdc.specs.Cdc.{high_byte, low_byte, encode_of, num2, num4, cursor_of, flags_of, fields_of, decode_of}
use Rattle.closing.specs.Closing.{close_state_of, state_of, done_sent, closed_sent, abort_sent, marks_heard}
use Rattle.flow.specs.Flow.{room_of, taken_of, first_of as flow-firstOf, stretches_of, window_of, update_due}
use Rattle.element.specs.Element.{part, element_of, splice, intact_b, fresh_element, all_free, ring_from, unread}
use Rattle.conn_record.specs.Connection.{zero_record, opened_record, marks_to, fits_b, remote_ok, numbers_ok, offsets_ok, distances_ok, place_ok}
use Rattle.conn_record.specs.Connection.{places_ok, coherent_b, refusal_of, reached_b, passed_by}
use Rattle.conn_answer.specs.Outcome.{message_of, pending_of, told_in, used_in, told_of as outcome-toldOf, outcome_of, urgent_outcome, refused_of}
use Rattle.conn_answer.specs.Outcome.{closed_if}
use Rattle.conn_send.specs.Produced.{send_forbids, n_of, produced_out, produced_of, tells_of, urged_out, urged_of, waits_b}
use Rattle.conn_send.specs.Transmit.{rtoken_of, placing_of, sent_of as transmit-sentOf, urgent_of, send_of, urgent_send_of}
use Rattle.conn_gather.specs.Pieces.{bytes_of, piece_of, pieces_from}
use Rattle.conn_gather.specs.Statement.{writes_at}
use Rattle.conn_receive.specs.Receive.{place_forbids, may_place, place_of, read_forbids, unread_of, consumed_in, cleared_in, consumed_of, update_of}
use Rattle.conn_receive.specs.Receive.{take_of, read_of as receive-readOf}
use Rattle.conn_hear.specs.Heard.{producer_b, consumer_b, urges_b, urgent_in, heard_in, heard_out, heard_record, answers_b, next_b}
use Rattle.conn_hear.specs.Hear.{aborted_of, accepted_of, ruled_of, validated_of, followed_of, hear_of}
use Rattle.conn_finish.specs.Finish.{shutdown_forbids, shutdown_of, close_forbids, reset_of, closing_of, close_of, abort_of}
use Rattle.group_table.specs.Table.{sizes_b, slot_b, record_at, open_b, active_b, gauge_at, holds_b, lowest, find_from, with_record, with_link, link_set}
use Rattle.link_failover.specs.Failover.{target_of, plan_of, gone_b, moves_b, tells_b, moved_of as failover-movedOf, failover_of}
use Rattle.link_failover.specs.Failover.{told_of as failover-toldOf, moved_all, messages_of, count_of, buffer_left}
use Rattle.link_exchange.specs.Exchange.{empty_queue, ends_b}
use Rattle.link_calls.specs.Calls.{touched, settled_of, change_touch, changed_of}
use Rattle.group_rules.specs.Rules.{turn_of, request_turn, hear_turn, refuses, put_turn, on_does, hear_at, hear_does, open_refusal, open_does, free_refusal}
use Rattle.group_rules.specs.Rules.{free_does, link_refusal, fails_over, link_does}
use Rattle.thm_sent.specs.Books.{calls_at, said_at, aim_of, placed_writes, owed_from, moves_over, lands_in, after_message, less_message, number_at}
use Rattle.thm_sent.specs.Books.{origins_from, called, reached}
use Rattle.thm_sent.specs.OnlySent.{match_b, opens_b, waited, mine_after, theirs_after, after, course}
use Rattle.thm_sent.specs.Plain.{plain_sent, plain_read, plain_heard_out, plain_heard_in, plain_heard, plain_hears, plain_told, plain_after}
use Rattle.thm_sent.specs.Plain.{plain_course}

unfoldable pub rules : Unit {0}
unfolding in_range same_b cursor-movedOf step_of turns_of distance_of good_b gap_of cursor_at high_byte low_byte encode_of num2 num4 cursor_of flags_of
    fields_of decode_of close_state_of state_of done_sent closed_sent abort_sent marks_heard room_of taken_of flow-firstOf stretches_of window_of
    update_due part element_of splice intact_b fresh_element all_free ring_from unread zero_record opened_record marks_to fits_b remote_ok numbers_ok
    offsets_ok distances_ok place_ok places_ok coherent_b refusal_of reached_b passed_by message_of pending_of told_in used_in outcome-toldOf outcome_of
    urgent_outcome refused_of closed_if send_forbids n_of produced_out produced_of tells_of urged_out urged_of waits_b rtoken_of placing_of
    transmit-sentOf urgent_of send_of urgent_send_of bytes_of piece_of pieces_from writes_at place_forbids may_place place_of read_forbids unread_of
    consumed_in cleared_in consumed_of update_of take_of receive-readOf producer_b consumer_b urges_b urgent_in heard_in heard_out heard_record answers_b
    next_b aborted_of accepted_of ruled_of validated_of followed_of hear_of shutdown_forbids shutdown_of close_forbids reset_of closing_of close_of
    abort_of sizes_b slot_b record_at open_b active_b gauge_at holds_b lowest find_from with_record with_link link_set target_of plan_of gone_b moves_b
    tells_b failover-movedOf failover_of failover-toldOf moved_all messages_of count_of buffer_left empty_queue ends_b touched settled_of change_touch
    changed_of turn_of request_turn hear_turn refuses put_turn on_does hear_at hear_does open_refusal open_does free_refusal free_does link_refusal
    fails_over link_does calls_at said_at aim_of placed_writes owed_from moves_over lands_in after_message less_message number_at origins_from called
    reached match_b opens_b waited mine_after theirs_after after course plain_sent plain_read plain_heard_out plain_heard_in plain_heard plain_hears
    plain_told plain_after plain_course
rules = tt
