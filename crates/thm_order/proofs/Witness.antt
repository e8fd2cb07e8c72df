-- The premises of sentence 3 can be met: there is a fresh group, and two neighbouring connection calls that do not belong to one connection
-- may change places in any list; and of two opened connections whose sends change places, sentence 3 says what it says. Assumes nothing.
use mathlib.Core.Path.{◌≡◌, refl, sym, ap, ◌∙◌}
use mathlib.Core.Logic.{◌⊎◌, inl, inr, ◌≢◌}
use mathlib.Core.Bool.{true, false, and-false}
use mathlib.Core.Option.{some-injective}
use mathlib.Core.List.{List, [], ◌∷◌, ◌++◌, map}
use Prim.Native.Nat.{ℕ, zero, suc, ◌<◌, suc-le-suc}
use native.Mathlib.Nat.{le_of_suc-le-suc, not-suc-le-zero}
use native.Mathlib.Omega.{arith}
use lib.ListN.{length, get_elem?, replicate, length-append}
use Rattle.cursor.specs.Cursor.{in_range, moved_of, step_of, turns_of, distance_of, good_b, gap_of}
use Rattle.cdc.specs.Cdc.{high_byte, low_byte, encode_of}
use Rattle.flow.specs.Flow.{room_of, taken_of, first_of, stretches_of}
use Rattle.gauge.specs.Gauge.{cleared_of}
use Rattle.link_exchange.specs.declared.Role.TheVariants.{Client}
use Rattle.link_exchange.specs.Exchange.{no_exchange, empty_queue, ends_b}
use Rattle.element.specs.Element.{part, element_of, splice, fresh_element}
use Rattle.conn_record.specs.Connection.{zero_token, zero_record, fits_b, remote_ok, numbers_ok, offsets_ok, distances_ok, place_ok, places_ok, coherent_b, refusal_of}
use Rattle.conn_answer.specs.Outcome.{message_of, told_in, used_in, told_of, outcome_of, refused_of}
use Rattle.conn_send.specs.Transmit.{rtoken_of, placing_of, sent_of, send_of}
use Rattle.conn_send.specs.Produced.{send_forbids, n_of, produced_out, produced_of, tells_of, waits_b}
use Rattle.group_table.specs.Table.{sizes_b, slot_b, record_at, open_b, active_b, gauge_at, holds_b, lowest, find_from, with_record, with_link, link_set}
use Rattle.link_calls.specs.Calls.{touched, settled_of, change_touch, changed_of}
use Rattle.conn_record.specs.declared.Opening.{Opening}
use Rattle.conn_record.specs.Connection.{opened_record}
use Rattle.group_rules.specs.Rules.{Group, send, open_slot, link_change, Call, on, manage, Says, accepted, sent, Answer, turn_of, request_turn, refuses, put_turn, on_does, open_refusal, open_does, link_refusal, fails_over, link_does, link_changed, next, Fresh}
use Rattle.link_failover.specs.Failover as Failover
use Rattle.link_failover.specs.Failover.{plan_of, target_of, gone_b, moves_b, tells_b, moved_all, messages_of, count_of, buffer_left}
use Rattle.thm_order.specs.Statement.{answers, leaves, At, Whose, the_manager, connection, owner_of, whose_from, whose, AnotherOrder, Made, none_made, one_made, SameOutcome}
use Rattle.thm_order.proofs.Theorem.{sentence3}

-- two slots, elements of 8 bytes
abbrev pub a_group : Group
a_group =
    record {
      S = 2;
      N = 8;
      table = zero_record ∷ zero_record ∷ [];
      links = false ∷ false ∷ false ∷ false ∷ [];
      gauges = cleared_of ∷ cleared_of ∷ cleared_of ∷ cleared_of ∷ [];
      role = Client;
      exchange = no_exchange;
      queue = empty_queue;
      memory = replicate 16 0;
    }

pub a_fresh_group : Fresh a_group
unfolding sizes_b slot_b record_at open_b active_b gauge_at zero_record empty_queue
a_fresh_group = record { sizes = refl; closed = shut; down = off; unheard = empty; idle = refl; none = refl; zeros = refl }
  where
    shut : (k : ℕ) → open_b 2 (zero_record ∷ zero_record ∷ []) k ≡ false
    shut zero = refl
    shut (suc zero) = refl
    shut (suc (suc zero)) = refl
    shut (suc (suc (suc k))) = and-false (slot_b 2 (suc (suc (suc k))))

    off : (l : ℕ) → active_b (false ∷ false ∷ false ∷ false ∷ []) l ≡ false
    off zero = refl
    off (suc zero) = refl
    off (suc (suc zero)) = refl
    off (suc (suc (suc zero))) = refl
    off (suc (suc (suc (suc zero)))) = refl
    off (suc (suc (suc (suc (suc l))))) = refl

    empty : (l : ℕ) → (gauge_at (cleared_of ∷ cleared_of ∷ cleared_of ∷ cleared_of ∷ []) l).count ≡ 0
    empty zero = refl
    empty (suc zero) = refl
    empty (suc (suc zero)) = refl
    empty (suc (suc (suc zero))) = refl
    empty (suc (suc (suc (suc zero)))) = refl
    empty (suc (suc (suc (suc (suc l))))) = refl

-- numbers n and n + 1 change places
swap : ℕ → ℕ → ℕ
swap zero zero = 1
swap zero (suc zero) = 0
swap zero (suc (suc i)) = suc (suc i)
swap (suc n) zero = 0
swap (suc n) (suc i) = suc (swap n i)

swap-swap : (n i : ℕ) → swap n (swap n i) ≡ i
unfolding swap
swap-swap zero zero = refl
swap-swap zero (suc zero) = refl
swap-swap zero (suc (suc i)) = refl
swap-swap (suc n) zero = refl
swap-swap (suc n) (suc i) = ap suc (swap-swap n i)

swap_in : (n i len : ℕ) → suc n < len → i < len → swap n i < len
unfolding swap
swap_in zero zero len h l = h
swap_in zero (suc zero) len h l = omega arith
swap_in zero (suc (suc i)) len h l = l
swap_in (suc n) zero len h l = l
swap_in (suc n) (suc i) zero h l = absurd (not-suc-le-zero l)
swap_in (suc n) (suc i) (suc len) h l = suc-le-suc (swap_in n i len (le_of_suc-le-suc h) (le_of_suc-le-suc l))

-- every other two keep their order
swap_less : (n i j : ℕ) → i < j → ((i ≡ n) → (j ≡ suc n) → ⊥) → swap n i < swap n j
unfolding swap
swap_less n i zero l d = absurd (not-suc-le-zero l)
swap_less zero zero (suc zero) l d = absurd (d refl refl)
swap_less zero zero (suc (suc j)) l d = omega arith
swap_less zero (suc zero) (suc zero) l d = absurd (omega arith)
swap_less zero (suc zero) (suc (suc j)) l d = omega arith
swap_less zero (suc (suc i)) (suc zero) l d = absurd (omega arith)
swap_less zero (suc (suc i)) (suc (suc j)) l d = l
swap_less (suc n) zero (suc j) l d = omega arith
swap_less (suc n) (suc i) (suc j) l d = suc-le-suc (swap_less n i j (le_of_suc-le-suc l) (λ p q. d (ap suc p) (ap suc q)))

swap_at : (xs : List Call) (c d : Call) (ys : List Call) (i : ℕ) → get_elem? (xs ++ d ∷ c ∷ ys) (swap (length xs) i) ≡ get_elem? (xs ++ c ∷ d ∷ ys) i
unfolding swap
swap_at [] c d ys zero = refl
swap_at [] c d ys (suc zero) = refl
swap_at [] c d ys (suc (suc i)) = refl
swap_at (x ∷ xs) c d ys zero = refl
swap_at (x ∷ xs) c d ys (suc i) = swap_at xs c d ys i

at_one : (l : List Whose) (i j : ℕ) {x y : Whose} → At l i x → At l j y → j ≡ i → x ≡ y
at_one l i j {x} {y} e f p = some-injective x y (sym e ∙ ap (λ k. get_elem? l k) (sym p) ∙ f)

pub neighbours : (g : Group) (xs : List Call) (c d : Call) (ys : List Call) (v w : Whose)
    → At (whose g (xs ++ c ∷ d ∷ ys)) (length xs) v → At (whose g (xs ++ c ∷ d ∷ ys)) (suc (length xs)) w
    → v ≢ the_manager → w ≢ the_manager → ((k : ℕ) → v ≡ connection k → w ≡ connection k → ⊥)
    → AnotherOrder g (xs ++ c ∷ d ∷ ys) (xs ++ d ∷ c ∷ ys)
neighbours g xs c d ys v w ev ew dv dw apart =
    record {
      numbers =
          record {
            place = swap n;
            back = swap n;
            place_in = λ i l. swap_in n i (length (xs ++ c ∷ d ∷ ys)) room l;
            back_in = λ i l. swap_in n i (length (xs ++ c ∷ d ∷ ys)) room l;
            back_place = λ i l. swap-swap n i;
            place_back = λ i l. swap-swap n i;
          };
      as_long = length-append xs (d ∷ c ∷ ys) ∙ sym (length-append xs (c ∷ d ∷ ys));
      same_call = λ i x e. swap_at xs c d ys i ∙ e;
      manage_kept = λ i j l h e. swap_less n i j l (manages i j e);
      own_kept = λ k i j l h e f. swap_less n i j l (λ p q. apart k (at_one owners n i ev e p) (at_one owners (suc n) j ew f q));
    }
  where
    n : ℕ
    n = length xs

    owners : List Whose
    owners = whose g (xs ++ c ∷ d ∷ ys)

    room : suc n < length (xs ++ c ∷ d ∷ ys)
    room = omega (arith, length-append xs (c ∷ d ∷ ys))

    manages : (i j : ℕ) → At owners i the_manager ⊎ At owners j the_manager → (i ≡ n) → (j ≡ suc n) → ⊥
    manages i j (inl e) p q = dv (at_one owners n i ev e p)
    manages i j (inr e) p q = dw (at_one owners (suc n) j ew e q)

-- CALLS MADE BY THE RULES: whatever calls, from whatever group
pub made_by_rules : (cs : List Call) (g : Group) → Made g cs (answers g cs) (leaves g cs)
unfolding answers leaves
made_by_rules [] g = none_made
made_by_rules (c ∷ cs) g = one_made (record { answered = refl; left = refl }) (made_by_rules cs (next g c))

-- TWO CONNECTIONS. A link is brought up, both slots are opened, the first connection sends two bytes and the second three
abbrev given : ℕ → ℕ → Opening
given own peer =
    record {
      own = own;
      peer = peer;
      link = 1;
      remote = record { size = 8; index = 1; link1 = zero_token; link2 = zero_token; link3 = zero_token; link4 = zero_token };
    }

abbrev opening : List Call
opening = manage (link_change 1 true (replicate 88 0)) ∷ manage (open_slot 1 (given 11 21)) ∷ manage (open_slot 2 (given 12 22)) ∷ []

abbrev one : Call
one = on 1 (send (5 ∷ 6 ∷ []))

abbrev two : Call
two = on 2 (send (7 ∷ 8 ∷ 9 ∷ []))

abbrev pub firstly : List Call
firstly = opening ++ one ∷ two ∷ []

-- in the other order the sends change places
abbrev pub secondly : List Call
secondly = opening ++ two ∷ one ∷ []

-- whose each call is, by the groups as the spans begin
pub owners_are : whose a_group firstly ≡ the_manager ∷ the_manager ∷ the_manager ∷ connection 1 ∷ connection 2 ∷ []
unfolding whose_from owner_of in_range moved_of step_of turns_of distance_of good_b gap_of high_byte low_byte encode_of room_of taken_of first_of stretches_of part element_of splice fresh_element zero_record fits_b remote_ok numbers_ok offsets_ok distances_ok place_ok places_ok coherent_b refusal_of message_of told_in used_in told_of outcome_of refused_of send_forbids n_of rtoken_of placing_of produced_out produced_of tells_of sent_of waits_b send_of sizes_b slot_b record_at open_b active_b holds_b lowest find_from with_record with_link link_set touched change_touch settled_of changed_of ends_b empty_queue turn_of request_turn refuses put_turn on_does opened_record open_refusal open_does link_refusal fails_over link_does plan_of target_of gone_b moves_b tells_b Failover.moved_of Failover.told_of moved_all messages_of count_of buffer_left
owners_are = refl

pub sends_swapped : AnotherOrder a_group firstly secondly
sends_swapped =
    neighbours a_group opening one two [] (connection 1) (connection 2) (ap (λ l. get_elem? l 3) owners_are) (ap (λ l. get_elem? l 4) owners_are)
    (λ e. let y : ◌≡◌ {A = ℕ} 0 1 = cc in omega arith)
    (λ e. let y : ◌≡◌ {A = ℕ} 0 1 = cc in omega arith)
    (λ k e f. let y : ◌≡◌ {A = ℕ} 1 2 = cc in omega arith)

-- what is said in each order: every call is accepted, and each send takes its own bytes
abbrev sends : ℕ → Says
sends n = sent n (record { key = 0; address = 4; start = 0; len = n } ∷ [])

pub said_first : map (λ (a : Answer). a.says) (answers a_group firstly) ≡ link_changed 0 ∷ accepted ∷ accepted ∷ sends 2 ∷ sends 3 ∷ []
unfolding answers in_range moved_of step_of turns_of distance_of good_b gap_of high_byte low_byte encode_of room_of taken_of first_of stretches_of part element_of splice fresh_element zero_record fits_b remote_ok numbers_ok offsets_ok distances_ok place_ok places_ok coherent_b refusal_of message_of told_in used_in told_of outcome_of refused_of send_forbids n_of rtoken_of placing_of produced_out produced_of tells_of sent_of waits_b send_of sizes_b slot_b record_at open_b active_b holds_b lowest find_from with_record with_link link_set touched change_touch settled_of changed_of ends_b empty_queue turn_of request_turn refuses put_turn on_does opened_record open_refusal open_does link_refusal fails_over link_does plan_of target_of gone_b moves_b tells_b Failover.moved_of Failover.told_of moved_all messages_of count_of buffer_left
said_first = refl

pub said_second : map (λ (a : Answer). a.says) (answers a_group secondly) ≡ link_changed 0 ∷ accepted ∷ accepted ∷ sends 3 ∷ sends 2 ∷ []
unfolding answers in_range moved_of step_of turns_of distance_of good_b gap_of high_byte low_byte encode_of room_of taken_of first_of stretches_of part element_of splice fresh_element zero_record fits_b remote_ok numbers_ok offsets_ok distances_ok place_ok places_ok coherent_b refusal_of message_of told_in used_in told_of outcome_of refused_of send_forbids n_of rtoken_of placing_of produced_out produced_of tells_of sent_of waits_b send_of sizes_b slot_b record_at open_b active_b holds_b lowest find_from with_record with_link link_set touched change_touch settled_of changed_of ends_b empty_queue turn_of request_turn refuses put_turn on_does opened_record open_refusal open_does link_refusal fails_over link_does plan_of target_of gone_b moves_b tells_b Failover.moved_of Failover.told_of moved_all messages_of count_of buffer_left
said_second = refl

-- sentence 3, of these two lists
pub swapped_same :
    SameOutcome a_group firstly secondly sends_swapped.numbers.place (answers a_group firstly) (answers a_group secondly)
    (leaves a_group firstly) (leaves a_group secondly)
swapped_same =
    sentence3 a_group a_fresh_group firstly secondly sends_swapped (answers a_group firstly) (answers a_group secondly) (leaves a_group firstly)
    (leaves a_group secondly) (made_by_rules firstly a_group) (made_by_rules secondly a_group)
