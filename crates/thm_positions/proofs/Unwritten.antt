-- The list of calls in which a peer announces what it never wrote, computed by the rules. Assumes nothing.
use mathlib.Core.Path.{◌≡◌, refl}
use mathlib.Core.Bool.{false, and-false}
use mathlib.Core.List.{[], ◌∷◌}
use Prim.Native.Nat.{ℕ, zero, suc}
use Rattle.thm_order.specs.Statement.{answers}
use Rattle.cursor.specs.Cursor.{cursor_at, in_range, turns_of, good_b, gap_of, same_b, step_of, moved_of, distance_of}
use Rattle.thm_positions.specs.Positions.{after_call, journal_from, PeerAnnouncedUnwritten}
use Rattle.gauge.specs.Gauge.{cleared_of}
use Rattle.conn_record.specs.Connection.{zero_record, fits_b, remote_ok, refusal_of, marks_to, coherent_b, numbers_ok, offsets_ok, distances_ok, place_ok, places_ok, reached_b, passed_by}
use Rattle.conn_answer.specs.Outcome.{outcome_of, told_of, told_in, used_in, closed_if}
use Rattle.element.specs.Element.{part, unread, element_of, splice, intact_b, fresh_element, ring_from, all_free}
use Rattle.group_table.specs.Table.{slot_b, open_b, active_b, gauge_at, find_from, with_link, link_set, record_at, with_record, sizes_b, holds_b, lowest}
use Rattle.conn_record.specs.Connection.{opened_record}
use Rattle.link_exchange.specs.Exchange.{empty_queue, ends_b}
use Rattle.link_calls.specs.Calls.{touched, settled_of, change_touch, changed_of}
use Rattle.link_failover.specs.Failover as Failover
use Rattle.link_failover.specs.Failover.{plan_of, target_of, gone_b, moves_b, tells_b, moved_all, messages_of, count_of, buffer_left}
use Rattle.group_rules.specs.Rules.{turn_of, request_turn, put_turn, hear_turn, on_does, hear_at, hear_does, open_refusal, open_does, link_does, link_refusal, fails_over}
use Rattle.closing.specs.Closing.{marks_heard}
use Rattle.conn_receive.specs.Receive.{place_of, read_of, take_of, consumed_of, consumed_in, cleared_in, unread_of, may_place, place_forbids, read_forbids, update_of}
use Rattle.conn_hear.specs.Hear.{ruled_of, hear_of, followed_of, validated_of, accepted_of}
use Rattle.conn_hear.specs.Heard.{next_b, producer_b, consumer_b, heard_record, urges_b, urgent_in, heard_in, heard_out, answers_b}
use Rattle.cdc.specs.Cdc.{decode_of, fields_of, num2, cursor_of, encode_of, num4, high_byte, low_byte, flags_of}
use Rattle.flow.specs.Flow.{taken_of, window_of, update_due}

pub peer_announced_unwritten : PeerAnnouncedUnwritten
unfolding sizes_b slot_b record_at open_b active_b gauge_at zero_record journal_from answers after_call on_does hear_does hear_at put_turn link_refusal fails_over link_does plan_of target_of gone_b moves_b tells_b Failover.moved_of Failover.told_of moved_all messages_of count_of buffer_left open_does open_refusal opened_record find_from lowest holds_b with_record with_link link_set touched settled_of change_touch changed_of ends_b empty_queue splice part element_of fresh_element request_turn hear_turn turn_of place_of read_of take_of consumed_of consumed_in cleared_in update_of update_due window_of unread_of taken_of gap_of distance_of turns_of step_of moved_of in_range good_b coherent_b fits_b remote_ok numbers_ok offsets_ok distances_ok place_ok places_ok reached_b passed_by refusal_of place_forbids read_forbids may_place all_free intact_b outcome_of told_of told_in used_in hear_of followed_of validated_of accepted_of producer_b consumer_b heard_record urges_b urgent_in heard_in heard_out answers_b same_b closed_if marks_heard marks_to ruled_of next_b encode_of high_byte low_byte cursor_at decode_of fields_of cursor_of num2 num4 flags_of ring_from unread
peer_announced_unwritten = (
  record { sizes = refl; closed = shut; down = off; unheard = empty; idle = refl; none = refl; zeros = refl },
  record { handed_8 = refl; announced_8 = refl; first_again = refl; placed_once = refl; not_again = refl },
)
  where
    shut : (k : ℕ) → open_b 1 (zero_record ∷ []) k ≡ false
    shut zero = refl
    shut (suc zero) = refl
    shut (suc (suc k)) = and-false (slot_b 1 (suc (suc k)))

    off : (l : ℕ) → active_b (false ∷ false ∷ false ∷ false ∷ []) l ≡ false
    off zero = refl
    off (suc zero) = refl
    off (suc (suc zero)) = refl
    off (suc (suc (suc zero))) = refl
    off (suc (suc (suc (suc zero)))) = refl
    off (suc (suc (suc (suc (suc l))))) = refl

    empty : (l : ℕ) → (gauge_at (cleared_of ∷ cleared_of ∷ cleared_of ∷ cleared_of ∷ []) l).count ≡ 0
    empty zero = refl
    empty (suc zero) = refl
    empty (suc (suc zero)) = refl
    empty (suc (suc (suc zero))) = refl
    empty (suc (suc (suc (suc zero)))) = refl
    empty (suc (suc (suc (suc (suc l))))) = refl
