-- Every row of specs/Vectors comes out as it says, by computation. Assumes nothing.
use mathlib.Core.Path.{refl}
use lib.Ieee.{add, sub, mul, lt, of_int, of_bits}
use Rattle.gauge.specs.Gauge.{smoothed, late_at, sampled_of, health_of}
use Rattle.cursor.specs.Cursor.{in_range, same_b, moved_of, step_of, turns_of, distance_of, good_b, gap_of}
use Rattle.cdc.specs.Cdc.{high_byte, low_byte, encode_of, num2, num4, cursor_of, flags_of, fields_of, decode_of}
use Rattle.link_exchange.specs.Exchange.{sort_of, adding_b, empty_queue, runs_over, ends_b}
use Rattle.closing.specs.Closing.{close_state_of, state_of, done_sent, closed_sent, abort_sent, marks_heard}
use Rattle.flow.specs.Flow.{room_of, taken_of, first_of, stretches_of, window_of, update_due}
use Rattle.element.specs.Element.{part, element_of, splice, intact_b, fresh_element, all_free, ring_from, unread}
use Rattle.conn_record.specs.Connection.{zero_record, fits_b, remote_ok, numbers_ok, offsets_ok, distances_ok, place_ok, places_ok, coherent_b, reached_b, passed_by, refusal_of, marks_to}
use Rattle.conn_answer.specs.Outcome.{message_of, pending_of, told_in, used_in, told_of, outcome_of, urgent_outcome, refused_of, closed_if}
use Rattle.conn_send.specs.Transmit.{rtoken_of, placing_of, sent_of, urgent_of, send_of, urgent_send_of}
use Rattle.conn_send.specs.Produced.{send_forbids, n_of, produced_out, produced_of, tells_of, urged_out, urged_of, waits_b}
use Rattle.conn_gather.specs.Pieces.{bytes_of, piece_of, pieces_from}
use Rattle.conn_receive.specs.Receive.{place_forbids, may_place, place_of, read_forbids, unread_of, consumed_in, cleared_in, consumed_of, update_of, torn_of, take_of, read_of}
use Rattle.conn_hear.specs.Hear.{ruled_of, aborted_of, accepted_of, followed_of, validated_of, hear_of}
use Rattle.conn_hear.specs.Heard.{next_b, producer_b, consumer_b, urges_b, urgent_in, heard_in, heard_out, heard_record, answers_b}
use Rattle.conn_finish.specs.Finish.{reset_of, closing_of, shutdown_forbids, shutdown_of, close_forbids, close_of, abort_of}
use Rattle.group_table.specs.Table.{sizes_b, slot_b, record_at, open_b, active_b, holds_b, lowest, find_from, with_record, with_link, gauge_at, with_gauge, link_set}
use Rattle.link_calls.specs.Calls.{touched, settled_of, change_touch, changed_of}
use Rattle.conn_record.specs.Connection.{opened_record}
use Rattle.link_failover.specs.Failover as Failover
use Rattle.link_failover.specs.Failover.{plan_of, target_of, gone_b, moves_b, tells_b, moved_all, messages_of, count_of, buffer_left}
use Rattle.group_rules.specs.Rules.{turn_of, request_turn, hear_turn, refuses, put_turn, on_does, hear_at, hear_does, open_refusal, open_does, free_refusal, free_does, link_does, sample_refusal, sample_does, link_refusal, fails_over}
use Rattle.rows_calls.specs.Vectors.{played, found, vectors, VectorsRight}

pub vectors_right : VectorsRight
unfolding in_range same_b moved_of step_of turns_of distance_of good_b gap_of
    high_byte low_byte encode_of num2 num4 cursor_of flags_of fields_of decode_of
    close_state_of state_of done_sent closed_sent abort_sent marks_heard
    room_of taken_of first_of stretches_of window_of update_due
    part element_of splice intact_b fresh_element all_free ring_from unread
    zero_record fits_b remote_ok numbers_ok offsets_ok distances_ok place_ok places_ok coherent_b reached_b passed_by refusal_of
    message_of pending_of told_in used_in told_of outcome_of urgent_outcome refused_of closed_if marks_to
    send_forbids n_of rtoken_of placing_of produced_out produced_of tells_of sent_of urged_out urged_of urgent_of waits_b send_of urgent_send_of
    bytes_of piece_of pieces_from
    place_forbids may_place place_of read_forbids unread_of consumed_in cleared_in consumed_of update_of torn_of take_of read_of
    aborted_of producer_b consumer_b urges_b urgent_in heard_in heard_out heard_record answers_b accepted_of followed_of validated_of ruled_of next_b hear_of
    shutdown_forbids shutdown_of close_forbids close_of reset_of closing_of abort_of
    sizes_b slot_b record_at open_b active_b holds_b lowest find_from with_record with_link gauge_at with_gauge link_set
    sort_of adding_b empty_queue runs_over ends_b touched settled_of change_touch changed_of
    turn_of request_turn hear_turn refuses put_turn on_does hear_at hear_does opened_record open_refusal open_does free_refusal free_does link_refusal fails_over link_does plan_of target_of gone_b moves_b tells_b Failover.moved_of Failover.told_of moved_all messages_of count_of buffer_left
    sample_refusal sample_does
    smoothed late_at sampled_of health_of add sub mul lt of_int of_bits
    played found vectors
vectors_right = refl
