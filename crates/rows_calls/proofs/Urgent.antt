-- Every row of specs/Urgent comes out as it says, by computation; the first row in two parts, because a row's cost grows faster than its
-- lines. Assumes nothing.
use Prim.Native.Nat.{ℕ}
use mathlib.Core.Path.{◌≡◌, refl, ap, sym, ◌∙◌}
use mathlib.Core.Bool.{false}
use mathlib.Core.List.{List, [], ◌∷◌, ◌++◌, map}
use lib.ListN.{take, drop}
use Rattle.cursor.specs.Cursor.{in_range, same_b, moved_of, step_of, turns_of, distance_of, good_b, gap_of}
use Rattle.cdc.specs.Cdc.{high_byte, low_byte, encode_of, num2, num4, cursor_of, flags_of, fields_of, decode_of}
use Rattle.closing.specs.Closing.{close_state_of, state_of, done_sent, closed_sent, abort_sent, marks_heard}
use Rattle.flow.specs.Flow.{room_of, taken_of, first_of, stretches_of, window_of, update_due}
use Rattle.element.specs.Element.{part, element_of, splice, intact_b, fresh_element, all_free, ring_from, unread}
use Rattle.conn_record.specs.Connection.{zero_record, fits_b, remote_ok, numbers_ok, offsets_ok, distances_ok, place_ok, places_ok, coherent_b, reached_b, passed_by, refusal_of, marks_to}
use Rattle.conn_answer.specs.Outcome.{message_of, pending_of, told_in, used_in, told_of, outcome_of, urgent_outcome, refused_of, closed_if}
use Rattle.conn_send.specs.Transmit.{rtoken_of, placing_of, sent_of, urgent_of, send_of, urgent_send_of}
use Rattle.conn_send.specs.Produced.{send_forbids, n_of, produced_out, produced_of, tells_of, urged_out, urged_of, waits_b}
use Rattle.conn_receive.specs.Receive.{place_forbids, may_place, place_of, read_forbids, unread_of, consumed_in, cleared_in, consumed_of, update_of, torn_of, take_of, read_of}
use Rattle.conn_hear.specs.Hear.{ruled_of, aborted_of, accepted_of, followed_of, validated_of, hear_of}
use Rattle.conn_hear.specs.Heard.{next_b, producer_b, consumer_b, urges_b, urgent_in, heard_in, heard_out, heard_record, answers_b}
use Rattle.conn_finish.specs.Finish.{reset_of, closing_of, shutdown_forbids, shutdown_of, close_forbids, close_of, abort_of}
use Rattle.group_table.specs.Table.{sizes_b, slot_b, record_at, open_b, active_b, holds_b, lowest, find_from, with_record, with_link, gauge_at}
use Rattle.conn_record.specs.Connection.{opened_record, place_at}
use Rattle.link_failover.specs.Failover as Failover
use Rattle.link_failover.specs.Failover.{plan_of, target_of, gone_b, moves_b, tells_b, moved_all, messages_of, count_of, buffer_left}
use Rattle.group_rules.specs.Rules.{turn_of, request_turn, hear_turn, refuses, put_turn, on_does, hear_at, hear_does, open_refusal, open_does, free_refusal, free_does, link_does, link_refusal, fails_over}
use Rattle.group_rules.specs.Rules.{Group, answer, next, record_of_all}
use Rattle.rows_calls.specs.Vectors.{Line, gives, hands, slot, memory, gauge, Vector, plays, message_in, played, found, cur, start, inwards, unmarked, token_a, token_b, laid, a_group}
use Rattle.rows_calls.specs.Urgent.{urgents, UrgentRight}

-- LINES IN TWO PARTS. The group that lines leave; the second part is played on what the first leaves
after : Group → List Line → Group
after g [] = g
after g (gives c s m ∷ l) = after (next g c) l
after g (hands c s m out ∷ l) = after (next g c) l
after g (slot k c ∷ l) = after g l
after g (memory m ∷ l) = after g l
after g (gauge k q ∷ l) = after g l

parts : (g : Group) (k l : List Line) → played g (k ++ l) ≡ played g k ++ played (after g k) l
unfolding played after
parts g [] l = refl
parts g (gives c s m ∷ k) l = ap (λ (r : List Line). gives c (answer g c).says (message_in (answer g c)) ∷ r) (parts (next g c) k l)
parts g (hands c s m out ∷ k) l =
    ap (λ (r : List Line). hands c (answer g c).says (message_in (answer g c)) (answer g c).out ∷ r) (parts (next g c) k l)
parts g (slot k c ∷ k') l = ap (λ (r : List Line). slot k (record_of_all g k) ∷ r) (parts g k' l)
parts g (memory m ∷ k) l = ap (λ (r : List Line). memory g.memory ∷ r) (parts g k l)
parts g (gauge k q ∷ k') l = ap (λ (r : List Line). gauge k (gauge_at g.gauges k) ∷ r) (parts g k' l)

in_parts : (g h : Group) (k l : List Line) → after g k ≡ h → played g k ≡ k → played h l ≡ l → played g (k ++ l) ≡ k ++ l
in_parts g h k l left first second = parts g k l ∙ simp (first, left, second)

first_in_parts : (n : ℕ) (g h : Group) (l : List Line) (rest : List Vector) → take n l ++ drop n l ≡ l → after g (take n l) ≡ h →
    played g (take n l) ≡ take n l → played h (drop n l) ≡ drop n l → map found rest ≡ rest →
    map found (plays g l ∷ rest) ≡ plays g l ∷ rest
unfolding found
first_in_parts n g h l rest whole left first second others =
    let both = in_parts g h (take n l) (drop n l) left first second in
    let all : played g l ≡ l = ap (λ (x : List Line). played g x) (sym whole) ∙ (both ∙ whole) in
    ap (λ (x : List Line). plays g x ∷ map found rest) all ∙ ap (λ (x : List Vector). plays g l ∷ x) others

-- host A once the 500 urgent bytes of scenario 5 are sent
urged : Group
urged =
    a_group 1 8
    (laid token_a token_b 10000 (inwards start start start)
    (record { producer = cur 1500 1; consumer = cur 1000 1; next = 2; blocked = false; urgent = place_at (cur 1500 1) }) unmarked
    ∷ [])
    (fresh_element 8)

pub urgent_right : UrgentRight
unfolding in_range same_b moved_of step_of turns_of distance_of good_b gap_of
    high_byte low_byte encode_of num2 num4 cursor_of flags_of fields_of decode_of
    close_state_of state_of done_sent closed_sent abort_sent marks_heard
    room_of taken_of first_of stretches_of window_of update_due
    part element_of splice intact_b fresh_element all_free ring_from unread
    zero_record fits_b remote_ok numbers_ok offsets_ok distances_ok place_ok places_ok coherent_b reached_b passed_by refusal_of message_of pending_of told_in used_in told_of outcome_of urgent_outcome refused_of closed_if marks_to
    send_forbids n_of rtoken_of placing_of produced_out produced_of tells_of sent_of urged_out urged_of urgent_of waits_b send_of urgent_send_of
    place_forbids may_place place_of read_forbids unread_of consumed_in cleared_in consumed_of update_of torn_of take_of read_of
    aborted_of producer_b consumer_b urges_b urgent_in heard_in heard_out heard_record answers_b accepted_of followed_of validated_of ruled_of next_b hear_of
    shutdown_forbids shutdown_of close_forbids close_of reset_of closing_of abort_of
    sizes_b slot_b record_at open_b active_b holds_b lowest find_from with_record with_link
    turn_of request_turn hear_turn refuses put_turn on_does hear_at hear_does opened_record open_refusal open_does free_refusal free_does link_refusal fails_over link_does plan_of target_of gone_b moves_b tells_b Failover.moved_of Failover.told_of moved_all messages_of count_of buffer_left
    played found after urged urgents
urgent_right = first_in_parts 3 _ urged _ _ refl refl refl refl refl
