-- Every row comes out as it says, by computation. Assumes nothing.
use mathlib.Core.Path.{refl}
use Rattle.cursor.specs.Cursor.{in_range, turns_of, distance_of, good_b, gap_of}
use Rattle.cdc.specs.Cdc.{decode_of}
use Rattle.element.specs.Element.{part, element_of, splice}
use Rattle.conn_record.specs.Connection.{zero_record, fits_b, remote_ok, numbers_ok, offsets_ok, distances_ok, place_ok, places_ok, coherent_b, refusal_of}
use Rattle.conn_answer.specs.Outcome.{outcome_of, refused_of}
use Rattle.conn_receive.specs.Receive.{place_forbids, may_place, place_of}
use Rattle.group_table.specs.Table.{sizes_b, slot_b, record_at, open_b, active_b, with_record}
use Rattle.group_rules.specs.Rules.{turn_of, request_turn, refuses, put_turn, on_does, hear_does, free_refusal, free_does}
use Rattle.rows_sizes.specs.Sizes.{rows, RowsRight}

pub sizes_right : RowsRight
unfolding in_range turns_of distance_of good_b gap_of decode_of part element_of splice
    zero_record fits_b remote_ok numbers_ok offsets_ok distances_ok place_ok places_ok coherent_b refusal_of outcome_of refused_of
    place_forbids may_place place_of sizes_b slot_b record_at open_b active_b with_record
    turn_of request_turn refuses put_turn on_does hear_does free_refusal free_does
    rows
sizes_right = refl
