-- Every row of specs/Failover comes out as it says, by computation. Assumes nothing.
use mathlib.Core.Path.{refl}
use Rattle.cursor.specs.Cursor.{in_range, same_b, moved_of, step_of, turns_of, distance_of, good_b, gap_of}
use Rattle.cdc.specs.Cdc.{high_byte, low_byte, encode_of, num2, num4, cursor_of, flags_of, fields_of, decode_of}
use Rattle.layout.specs.Layout.{bits_of, number_of, spread, gather, lay_out, written_of, number_at}
use Rattle.link_message.specs.Llc.{class_of}
use Rattle.link_message.specs.Layouts as Layouts
use Rattle.link_message.specs.Layouts.{kind_of, named_b, table_of, value_at, values_in, reduced, filled, reduced_of, third_first, laid_rows, rows_of}
use Rattle.link_message.specs.Layouts.{nums}
use Rattle.link_exchange.specs.Exchange.{flag_at, byte_at, said_of, sort_of, adding_b, stages, due_b, empty_queue, runs_over, ends_b}
use Rattle.link_exchange.specs.Fates.{acts_b, outside_b, may_send, sent_exchange, sent_touch}
use Rattle.closing.specs.Closing.{close_state_of, state_of, done_sent, closed_sent, abort_sent, marks_heard}
use Rattle.flow.specs.Flow.{room_of, taken_of, first_of, stretches_of, window_of, update_due}
use Rattle.element.specs.Element.{part, element_of, splice, intact_b, fresh_element}
use Rattle.conn_record.specs.Connection.{zero_record, fits_b, remote_ok, numbers_ok, offsets_ok, distances_ok, place_ok, places_ok, coherent_b}
use Rattle.conn_record.specs.Connection.{reached_b, passed_by, refusal_of, marks_to, opened_record}
use Rattle.conn_answer.specs.Outcome.{message_of, told_in, used_in, told_of, outcome_of, urgent_outcome, refused_of, closed_if}
use Rattle.conn_send.specs.Transmit.{rtoken_of, placing_of, sent_of, send_of}
use Rattle.conn_send.specs.Produced.{send_forbids, n_of, produced_out, produced_of, tells_of, waits_b}
use Rattle.conn_hear.specs.Hear.{ruled_of, aborted_of, accepted_of, followed_of, validated_of, hear_of}
use Rattle.conn_hear.specs.Heard.{next_b, producer_b, consumer_b, urges_b, urgent_in, heard_in, heard_out, heard_record, answers_b}
use Rattle.conn_finish.specs.Finish.{shutdown_forbids, shutdown_of, abort_of}
use Rattle.group_table.specs.Table.{sizes_b, slot_b, record_at, open_b, active_b, holds_b, lowest, find_from, with_record, with_link, gauge_at, with_gauge}
use Rattle.group_table.specs.Table.{link_set}
use Rattle.link_calls.specs.Calls as Links
use Rattle.link_calls.specs.Calls.{no_fields, none_up, touched, settled_of, unchanged, change_touch, changed_of, down_b, no_reply, send_refusal}
use Rattle.link_calls.specs.Calls.{sent_work}
use Rattle.link_failover.specs.Failover as Failover
use Rattle.link_failover.specs.Failover.{plan_of, target_of, gone_b, moves_b, tells_b, failover_of, moved_all, messages_of, count_of, buffer_left}
use Rattle.group_rules.specs.Rules.{turn_of, request_turn, hear_turn, refuses, put_turn, on_does, hear_at, hear_does, open_refusal, open_does, link_does}
use Rattle.group_rules.specs.Rules.{link_send_does, link_refusal, fails_over}
use Rattle.rows_calls.specs.Vectors.{played, found}
use Rattle.rows_calls.specs.Failover.{failovers, FailoversRight}

pub failovers_right : FailoversRight
unfolding in_range same_b moved_of step_of turns_of distance_of good_b gap_of
    high_byte low_byte encode_of num2 num4 cursor_of flags_of fields_of decode_of
    bits_of number_of spread gather lay_out written_of number_at
    class_of kind_of named_b table_of value_at values_in reduced filled reduced_of third_first laid_rows rows_of nums Layouts.encode_of
    flag_at byte_at said_of sort_of adding_b stages due_b empty_queue runs_over ends_b acts_b outside_b may_send sent_exchange sent_touch
    close_state_of state_of done_sent closed_sent abort_sent marks_heard
    room_of taken_of first_of stretches_of window_of update_due part element_of splice intact_b fresh_element
    zero_record fits_b remote_ok numbers_ok offsets_ok distances_ok place_ok places_ok coherent_b reached_b passed_by refusal_of marks_to opened_record
    message_of told_in used_in told_of outcome_of urgent_outcome refused_of closed_if
    rtoken_of placing_of sent_of send_of send_forbids n_of produced_out produced_of tells_of waits_b
    ruled_of aborted_of accepted_of followed_of validated_of hear_of
    next_b producer_b consumer_b urges_b urgent_in heard_in heard_out heard_record answers_b
    shutdown_forbids shutdown_of abort_of
    sizes_b slot_b record_at open_b active_b holds_b lowest find_from with_record with_link gauge_at with_gauge link_set
    no_fields none_up touched settled_of unchanged change_touch changed_of down_b no_reply send_refusal sent_work Links.sent_of
    plan_of target_of gone_b moves_b tells_b Failover.moved_of failover_of Failover.told_of moved_all messages_of count_of buffer_left
    turn_of request_turn hear_turn refuses put_turn on_does hear_at hear_does open_refusal open_does link_does link_send_does link_refusal fails_over
    played found failovers
failovers_right = refl
