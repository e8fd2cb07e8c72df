-- Every row comes out as it says, by computation. Assumes nothing.
use mathlib.Core.Path.{refl}
use lib.Ieee.{add, sub, mul, lt, of_int, of_bits}
use Rattle.gauge.specs.Gauge.{smoothed, late_at, sampled_of, health_of}
use Rattle.layout.specs.Layout.{bits_of, number_of, spread, gather, lay_out, written_of, number_at}
use Rattle.link_message.specs.Llc.{class_of}
use Rattle.link_message.specs.Layouts.{kind_of, named_b, table_of, value_at, values_in, reduced, filled, read_of, reduced_of, third_first, laid_rows}
use Rattle.link_message.specs.Layouts.{rows_of, nums, encode_of}
use Rattle.link_exchange.specs.Exchange.{flag_at, byte_at, said_of, sort_of, adding_b, stages, due_b, next_stage, went_on, due_touch, empty_queue, full_b}
use Rattle.link_exchange.specs.Exchange.{queued, oldest, without_oldest, runs_over, ends_b}
use Rattle.link_exchange.specs.Fates.{arriving_of, fates, fate_at, fate_named, bad_mtu, fate_of, acts_b, outside_b, taken_exchange, taken_touch, may_send}
use Rattle.link_exchange.specs.Fates.{sent_exchange, sent_touch}
use Rattle.conn_record.specs.Connection.{zero_record, coherent_b}
use Rattle.group_table.specs.Table.{sizes_b, active_b, gauge_at, with_link, with_gauge, link_set}
use Rattle.link_failover.specs.Failover.{target_of, plan_of, gone_b, moves_b, tells_b, moved_of, told_of, moved_all, messages_of, count_of, buffer_left}
use Rattle.link_calls.specs.Calls.{no_fields, fields_in, touched, up_taken, none_up, taken_up, settled_of, unchanged, change_touch, changed_of}
use Rattle.link_calls.specs.Calls.{down_b, optional_b, message_b, message_refusal, replies, replies_b, named, reply_values, message_work, no_reply, heard_work}
use Rattle.link_calls.specs.Calls.{nothing_heard, heard_of, send_refusal, sent_work, sent_of}
use Rattle.group_rules.specs.Rules.{refuses, link_refusal, fails_over, link_does, link_message_does, link_send_does, sample_refusal, sample_does}
use Rattle.rows_links.specs.Example.{played, example, expected, turns, in_turn, tests, tested}
use Rattle.rows_links.specs.Fates as Fates
use Rattle.rows_links.specs.Stages as Stages
use Rattle.rows_links.specs.Sends as Sends
use Rattle.rows_links.specs.Refused as Refused
use Rattle.rows_links.specs.Waiting as Waiting
use Rattle.rows_links.specs.Downs as Downs
use Rattle.rows_links.specs.Samples as Samples
use Rattle.rows_links.specs.All.{HeardRight, RestRight}

pub heard_right : HeardRight
unfolding bits_of number_of spread gather lay_out written_of number_at class_of
    kind_of named_b table_of value_at values_in reduced filled read_of reduced_of third_first laid_rows rows_of nums encode_of
    flag_at byte_at said_of sort_of adding_b stages due_b next_stage went_on due_touch empty_queue full_b queued oldest without_oldest runs_over ends_b
    arriving_of fates fate_at fate_named bad_mtu fate_of acts_b outside_b taken_exchange taken_touch may_send sent_exchange sent_touch
    zero_record coherent_b sizes_b active_b with_link with_gauge link_set
    target_of plan_of gone_b moves_b tells_b moved_of told_of moved_all messages_of count_of buffer_left
    no_fields fields_in touched up_taken none_up taken_up settled_of unchanged change_touch changed_of down_b optional_b message_b message_refusal
    replies replies_b named reply_values message_work no_reply heard_work nothing_heard heard_of send_refusal sent_work sent_of
    refuses link_refusal fails_over link_does link_message_does link_send_does
    played example expected turns in_turn tests tested Fates.rows Stages.rows
heard_right = record { example = refl; turns = refl; test = refl; fates = refl; stages = refl }

pub rest_right : RestRight
unfolding bits_of number_of spread gather lay_out written_of number_at class_of
    kind_of named_b table_of value_at values_in reduced filled read_of reduced_of third_first laid_rows rows_of nums encode_of
    flag_at byte_at said_of sort_of adding_b stages due_b next_stage went_on due_touch empty_queue full_b queued oldest without_oldest runs_over ends_b
    arriving_of fates fate_at fate_named bad_mtu fate_of acts_b outside_b taken_exchange taken_touch may_send sent_exchange sent_touch
    zero_record coherent_b sizes_b active_b with_link with_gauge link_set
    target_of plan_of gone_b moves_b tells_b moved_of told_of moved_all messages_of count_of buffer_left
    no_fields fields_in touched up_taken none_up taken_up settled_of unchanged change_touch changed_of down_b optional_b message_b message_refusal
    replies replies_b named reply_values message_work no_reply heard_work nothing_heard heard_of send_refusal sent_work sent_of
    refuses link_refusal fails_over link_does link_message_does link_send_does
    Sends.rows Refused.rows Waiting.rows Downs.rows
rest_right = record { sends = refl; refused = refl; waiting = refl; downs = refl }

pub samples_right : Samples.RowsRight
unfolding smoothed late_at sampled_of health_of add sub mul lt of_int of_bits active_b gauge_at with_gauge refuses sample_refusal sample_does
    zero_record Samples.rows
samples_right = refl
