-- Every line of specs/Vectors comes out as it says, by computation. Assumes nothing.
use mathlib.Core.Path.{refl}
use Rattle.layout.specs.Layout.{bits_of, number_of, spread, gather, lay_out, written_of, number_at}
use Rattle.link_message.specs.Llc.{class_of}
use Rattle.link_message.specs.Layouts.{kind_of, named_b, table_of, value_at, values_in, reduced, filled, read_of, reduced_of, third_first, laid_rows, rows_of, nums, encode_of}
use Rattle.link_exchange.specs.Exchange.{flag_at, byte_at, said_of, sort_of, adding_b, stages, due_b, next_stage, went_on, due_touch, empty_queue, full_b, queued, oldest, without_oldest, runs_over, ends_b}
use Rattle.link_exchange.specs.Fates.{arriving_of, fates, fate_at, fate_named, bad_mtu, fate_of, acts_b, outside_b, taken_exchange, taken_touch, may_send, sent_exchange, sent_touch}
use Rattle.group_table.specs.Table.{active_b, with_link, link_set}
use Rattle.link_calls.specs.Calls.{no_fields, fields_in, touched, up_taken, none_up, taken_up, settled_of, unchanged, down_b, optional_b, message_b, message_refusal, replies, replies_b, named, reply_values, message_work, no_reply, heard_work, nothing_heard, heard_of, send_refusal, sent_work, sent_of}
use Rattle.rows_links.specs.Vectors.{played, server, example, expected, ExampleRight, client, edges, EdgesRight, TestLinkRight}

pub example_right : ExampleRight
unfolding bits_of number_of spread gather lay_out written_of number_at class_of
    kind_of named_b table_of value_at values_in reduced filled read_of reduced_of third_first laid_rows rows_of nums encode_of
    flag_at byte_at said_of sort_of adding_b stages due_b next_stage went_on due_touch empty_queue full_b queued oldest without_oldest
    active_b with_link link_set touched runs_over ends_b
    arriving_of fates fate_at fate_named bad_mtu fate_of acts_b outside_b taken_exchange taken_touch may_send sent_exchange sent_touch
    no_fields fields_in up_taken none_up taken_up settled_of unchanged down_b optional_b message_b message_refusal replies
    replies_b named reply_values message_work no_reply heard_work nothing_heard heard_of send_refusal sent_work sent_of
    played server example expected
example_right = refl

pub edges_right : EdgesRight
unfolding bits_of number_of spread gather lay_out written_of number_at class_of
    kind_of named_b table_of value_at values_in reduced filled read_of reduced_of third_first laid_rows rows_of nums encode_of
    flag_at byte_at said_of sort_of adding_b stages due_b next_stage went_on due_touch empty_queue full_b queued oldest without_oldest
    active_b with_link link_set touched runs_over ends_b
    arriving_of fates fate_at fate_named bad_mtu fate_of acts_b outside_b taken_exchange taken_touch may_send sent_exchange sent_touch
    no_fields fields_in up_taken none_up taken_up settled_of unchanged down_b optional_b message_b message_refusal replies
    replies_b named reply_values message_work no_reply heard_work nothing_heard heard_of send_refusal sent_work sent_of
    client edges
edges_right = refl

pub test_link_right : TestLinkRight
unfolding bits_of number_of spread gather lay_out written_of number_at class_of
    kind_of named_b table_of value_at values_in reduced filled read_of reduced_of third_first laid_rows rows_of nums encode_of
    flag_at byte_at said_of sort_of adding_b stages due_b next_stage went_on due_touch empty_queue full_b queued oldest without_oldest
    active_b with_link link_set touched runs_over ends_b
    arriving_of fates fate_at fate_named bad_mtu fate_of acts_b outside_b taken_exchange taken_touch may_send sent_exchange sent_touch
    no_fields fields_in up_taken none_up taken_up settled_of unchanged down_b optional_b message_b message_refusal replies
    replies_b named reply_values message_work no_reply heard_work nothing_heard heard_of send_refusal sent_work sent_of
    client
test_link_right = refl
