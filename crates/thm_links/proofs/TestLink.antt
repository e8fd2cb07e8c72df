-- TEST LINK is answered, of all bytes. Assumes nothing.
use mathlib.Core.Path.{◌≡◌, ◌∙◌, refl, ap, sym}
use mathlib.Core.Bool.{Bool, true, false, ◌&&◌, not, cond}
use mathlib.Core.List.{List, [], ◌∷◌, ◌++◌}
use Prim.Native.Nat.{ℕ, zero, suc, ◌+◌, ◌/◌, ◌%◌, ◌^◌, ◌≤◌}
use native.Mathlib.Omega.{arith}
use lib.Dec.{eqb, leb, ltb}
use lib.ListN.{length, get_or, take, drop, set, replicate, length-append, length-take, length-drop, take-append-drop}
use lib.Seq.{take-append-le, drop-append-le, drop-drop, drop_at}
use Rattle.layout.specs.Layout.{bits_of, number_of, spread, are_bytes, reserved_zero, written_of, number_at}
use Rattle.layout.proofs.Bits.{and_left, and_right, bytes_at_lem, spread-length, spread_append}
use Rattle.layout.proofs.Places.{number_at_lem, number_none, number_next, append_bytes}
use Rattle.link_message.specs.Llc.{class_of}
use Rattle.link_message.specs.declared.Kind.TheVariants.{TestLink}
use Rattle.link_message.specs.Names.{row_of}
use Rattle.link_message.specs.Names.Name.{R}
use Rattle.link_message.specs.Layouts.{code_of, kind_of, named_b, mark, table_of, value_at, values_in, reduced, filled, read_of, laid_rows, rows_of, nums, encode_of}
use Rattle.link_message.proofs.RoundTrip.{written_again}
use Rattle.link_exchange.specs.declared.Exchange.{Exchange}
use Rattle.link_exchange.specs.declared.Fate.TheVariants.{Taken, Dropped}
use Rattle.link_exchange.specs.declared.Said.{Said}
use Rattle.link_exchange.specs.Exchange.{flag_at, said_of, sort_of, stages, due_b, ends_b}
use Rattle.link_exchange.specs.Fates.{arriving_of, fates, fate_at, fate_number, fate_named, bad_mtu, fate_of, acts_b, outside_b, taken_exchange, taken_touch}
use Rattle.group_table.specs.declared.Links.{Links}
use Rattle.group_table.specs.Table.{link_in, active_b}
use Rattle.link_calls.specs.declared.Fields.{Fields}
use Rattle.link_calls.specs.declared.Heard.{Heard}
use Rattle.link_calls.specs.Calls.{first, fields_in, touched, settled_of, unchanged, down_b, optional_b, message_b, heard_in, message_refusal, replies, Named, replies_b, named, reply_values, message_work, no_reply, heard_work, heard_of}
use Rattle.thm_links.specs.TestLink.{IsTestLink, reply_bit, user_bytes, reply_with, TestLinkAnswered}

-- BYTES that are cut out of bytes
take_bytes : (n : ℕ) (l : List ℕ) → are_bytes l ≡ true → are_bytes (take n l) ≡ true
unfolding are_bytes
take_bytes zero l e = refl
take_bytes (suc n) [] e = refl
take_bytes (suc n) (x ∷ l) e = λ i. and_left (ltb x 256) _ e i && take_bytes n l (and_right (ltb x 256) _ e) i

drop_bytes : (n : ℕ) (l : List ℕ) → are_bytes l ≡ true → are_bytes (drop n l) ≡ true
unfolding are_bytes
drop_bytes zero l e = e
drop_bytes (suc n) [] e = refl
drop_bytes (suc n) (x ∷ l) e = drop_bytes n l (and_right (ltb x 256) _ e)

-- what stands behind is not looked at
part : (a y z : List ℕ) (i : ℕ) → i + 8 ≤ length a → take 8 (drop i (a ++ y)) ≡ take 8 (drop i (a ++ z))
part a y z i h = alone y ∙ sym (alone z)
  where
    alone : (y : List ℕ) → take 8 (drop i (a ++ y)) ≡ take 8 (drop i a)
    alone y = ap (take 8) (drop-append-le i a y (omega arith)) ∙ take-append-le 8 (drop i a) y (omega (arith, length-drop i a))

-- THE REPLY with 16 user bytes
module _ (u : List ℕ) (size : length u ≡ 16) where
  reply_size : length (reply_with u) ≡ 44
  reply_size = omega (arith, length-append u (replicate 24 0))

  reply_kind : number_at (reply_with u) 0 1 ≡ 0x07
  unfolding number_at number_of spread bits_of
  reply_kind = refl

  reply_marked : number_at (reply_with u) 1 1 ≡ mark
  unfolding number_at number_of spread bits_of
  reply_marked = refl

  reply_set : number_at (reply_with u) 3 1 ≡ 0x80
  unfolding number_at number_of spread bits_of
  reply_set = refl

  behind : drop 64 (drop 0 (drop 64 (spread (u ++ replicate 24 0)))) ≡ spread (replicate 24 0)
  behind =
      drop-drop 64 64 (spread (u ++ replicate 24 0))
      ∙ ap (drop 128) (spread_append u (replicate 24 0))
      ∙ drop_at (spread u) (spread (replicate 24 0)) 128 (spread-length u ∙ omega arith)

  zeros : eqb (number_of (take 192 (spread (replicate 24 0)))) 0 ≡ true
  unfolding number_of spread bits_of
  zeros = refl

  reply_zeros : reserved_zero (rows_of TestLink) (spread (reply_with u)) ≡ true
  unfolding reserved_zero rows_of laid_rows table_of number_of spread bits_of
  reply_zeros = ap (λ (m : List Bool). eqb (number_of (take 192 m)) 0 && true) behind ∙ ap (λ (t : Bool). t && true) zeros

-- WHAT IS WRITTEN: the values of b with R 1
abbrev with_r : List ℕ → List ℕ
with_r b = set (read_of TestLink b) 0 1

abbrev three_of : ℕ → ℕ → ℕ → List ℕ
three_of r x y = r / 2 ^ 7 % 2 ^ 1 ∷ x / 2 ^ 0 % 2 ^ 64 ∷ y / 2 ^ 0 % 2 ^ 64 ∷ []

values : (b : List ℕ) → values_in (table_of TestLink) b ≡ three_of (number_at b 3 1) (number_at b 4 8) (number_at b 12 8)
unfolding values_in value_at table_of
values b = refl

with_r_lem : (b : List ℕ) → reduced (table_of TestLink) (with_r b) ≡ reduced (table_of TestLink) (three_of 0x80 (number_at b 4 8) (number_at b 12 8))
unfolding reduced read_of filled values_in value_at table_of
with_r_lem b = refl

module _ (b : List ℕ) (t : IsTestLink b) where
  abbrev u : List ℕ
  u = user_bytes b

  user_size : length u ≡ 16
  user_size = simp (length-take, length-drop, t.size)

  user_bytes_lem : are_bytes u ≡ true
  user_bytes_lem = search (take_bytes, drop_bytes, t.bytes)

  reply_bytes : are_bytes (reply_with u) ≡ true
  unfolding are_bytes
  reply_bytes = append_bytes u (replicate 24 0) user_bytes_lem refl

  same : (i : ℕ) → i + 8 ≤ 16 → take 8 (drop i (u ++ replicate 24 0)) ≡ take 8 (drop i (drop 4 b))
  same i h =
      part u (replicate 24 0) (drop 16 (drop 4 b)) i (omega (arith, user_size))
      ∙ ap (λ (x : List ℕ). take 8 (drop i x)) (take-append-drop 16 (drop 4 b))

  user1 : number_at (reply_with u) 4 8 ≡ number_at b 4 8
  user1 =
      number_at_lem (reply_with u) 4 8
      ∙ ap (λ (x : List ℕ). number_of (spread x)) (same 0 (omega arith))
      ∙ sym (number_at_lem b 4 8)

  user2 : number_at (reply_with u) 12 8 ≡ number_at b 12 8
  user2 =
      number_at_lem (reply_with u) 12 8
      ∙ ap (λ (x : List ℕ). number_of (spread x)) (same 8 (omega arith) ∙ ap (take 8) (drop-drop 8 4 b))
      ∙ sym (number_at_lem b 12 8)

  reply_values_lem : values_in (table_of TestLink) (reply_with u) ≡ three_of 0x80 (number_at b 4 8) (number_at b 12 8)
  reply_values_lem = values (reply_with u) ∙ (λ i. three_of (reply_set u user_size i) (user1 i) (user2 i))

  encoded : encode_of TestLink (with_r b) ≡ reply_with u
  unfolding encode_of
  encoded =
      ap (λ (vs : List ℕ). written_of 44 (rows_of TestLink) (nums vs)) (with_r_lem b)
      ∙ ap (encode_of TestLink) (sym reply_values_lem)
      ∙ written_again TestLink (reply_with u) reply_bytes (reply_size u user_size) (reply_kind u user_size) (reply_marked u user_size)
      (reply_zeros u user_size)

  -- WHAT IS HEARD
  fields_are : fields_in b ≡ record { named = true; kind = TestLink; values = read_of TestLink b }
  unfolding fields_in named_b kind_of class_of
  fields_are = simp t.kind

  byte3 : number_at b 3 1 ≡ get_or b 3 0
  byte3 = number_next b 3 0 (omega (arith, t.size)) (bytes_at_lem b t.bytes 3) ∙ omega (arith, number_none b 3)

-- BY THE RULES: a message of kind 07, whatever runs
and-false : (a : Bool) → (a && false) ≡ false
and-false true = refl
and-false false = refl

and-true : (a : Bool) → (a && true) ≡ a
and-true true = refl
and-true false = refl

either_same : (a : Bool) → ◌≡◌ {A = List Named} (cond a [] []) []
either_same true = refl
either_same false = refl

arrives : (m : Said) → m.kind ≡ 0x07 → arriving_of m ≡ 9
unfolding arriving_of
arrives m k = simp k

-- no stage's line names it
never_due : (x : Exchange) (l : ℕ) (m : Said) → m.kind ≡ 0x07 → due_b x l m ≡ false
unfolding due_b stages
never_due x l m k = simp (k, and-false)

row : (x : Exchange) → fate_at 9 (sort_of x) ≡ Taken
unfolding fate_at fates sort_of
row x = go (eqb x.stage 0) (leb x.stage 4) (eqb x.stage 5)
  where
    go : (a b c : Bool) → get_or (Taken ∷ Taken ∷ Taken ∷ Taken ∷ []) (cond a 0 (cond b 1 (cond c 2 3))) Dropped ≡ Taken
    go true b c = refl
    go false true c = refl
    go false false true = refl
    go false false false = refl

fate_is : (x : Exchange) (l : ℕ) (m : Said) → m.kind ≡ 0x07 → fate_number (fate_of x l m) ≡ 0
unfolding fate_of bad_mtu
fate_is x l m k = simp (never_due x l m k, arrives m k, row x)

inside : (m : Said) → m.kind ≡ 0x07 → outside_b m ≡ false
unfolding outside_b acts_b
inside m k = simp k

replies_are : (m : Said) (down : Bool) → m.kind ≡ 0x07 → replies_b m 0 down ≡ not m.reply
unfolding replies_b replies
replies_are m down k = simp (k, and-false, and-true)

values_are : (m : Said) (down : Bool) (vs : List ℕ) → m.kind ≡ 0x07 → reply_values m 0 down vs ≡ set vs 0 1
unfolding reply_values replies named kind_of
values_are m down vs k = simp (k, and-false, and-true, either_same)

nothing_done : (g : Links) (l : ℕ) (b : List ℕ) (m : Said) → m.kind ≡ 0x07 → message_work g l b m false 0 ≡ unchanged g
unfolding message_work taken_exchange taken_touch settled_of unchanged touched ends_b
nothing_done g l b m k = simp (arrives m k)

-- THE CALL
module _ (g : Links) (l : ℕ) (b : List ℕ) (t : IsTestLink b) (known : link_in l ≡ true) (active : active_b g.active l ≡ true) where
  abbrev m : Said
  m = heard_in g b

  said_kind : m.kind ≡ 0x07
  unfolding said_of
  said_kind = ap (λ (f : Fields). code_of f.kind) (fields_are b t)

  said_reply : m.reply ≡ reply_bit b
  unfolding said_of flag_at read_of filled values_in value_at table_of
  said_reply =
      ap (λ (f : Fields). flag_at f.values (row_of f.kind R)) (fields_are b t) ∙ ap (λ (n : ℕ). eqb (n / 2 ^ 7 % 2 ^ 1) 1) (byte3 b t)

  is_up : down_b g l (first b) ≡ false
  unfolding down_b
  is_up = simp active

  needed : optional_b b ≡ false
  unfolding optional_b class_of
  needed = simp t.kind

  is_message : message_b b ≡ true
  unfolding message_b named_b class_of
  is_message = simp (t.kind, t.marked)

  no_refusal : message_refusal g l b m 0 ≡ 0
  unfolding message_refusal
  no_refusal = simp (known, is_up, t.size, needed, is_message, inside m said_kind)

  heard_is : heard_of g l b ≡ heard_work g l b m false 0
  unfolding heard_of
  heard_is = simp (fate_is g.exchange l m said_kind, no_refusal, needed, never_due g.exchange l m said_kind)

  abbrev down : Bool
  down = not (active_b g.active m.link)

  heard_replies : (heard_of g l b).replies ≡ not (reply_bit b)
  unfolding heard_work
  heard_replies = ap (λ (h : Heard). h.replies) heard_is ∙ replies_are m down said_kind ∙ ap not said_reply

  heard_reply : (heard_of g l b).reply ≡ cond (not (reply_bit b)) (reply_with (user_bytes b)) (replicate 44 0)
  unfolding heard_work no_reply
  heard_reply =
      ap (λ (h : Heard). h.reply) heard_is
      ∙ (λ i.
      cond ((replies_are m down said_kind ∙ ap not said_reply) i)
      (encode_of (fields_are b t i).kind (values_are m down (fields_in b).values said_kind i)) (replicate 44 0))
      ∙ (λ i. cond (not (reply_bit b)) (encode_of TestLink (set (fields_are b t i).values 0 1)) (replicate 44 0))
      ∙ ap (λ (r : List ℕ). cond (not (reply_bit b)) r (replicate 44 0)) (encoded b t)

  heard_left : (heard_of g l b).settled ≡ unchanged g
  unfolding heard_work
  heard_left = ap (λ (h : Heard). h.settled) heard_is ∙ nothing_done g l b m said_kind

  heard_taken : (heard_of g l b).fate ≡ Taken
  unfolding heard_work fate_named
  heard_taken = ap (λ (h : Heard). h.fate) heard_is

  heard_allowed : (heard_of g l b).refusal ≡ 0
  unfolding heard_work
  heard_allowed = ap (λ (h : Heard). h.refusal) heard_is

pub test_link_answered : TestLinkAnswered
test_link_answered g l b t known active =
    let made : (r : Bool) → reply_bit b ≡ r → (heard_of g l b).replies ≡ not r =
    λ r e. heard_replies g l b t known active ∙ ap not e in
    let is : (r : Bool) → reply_bit b ≡ r → (heard_of g l b).reply ≡ cond (not r) (reply_with (user_bytes b)) (replicate 44 0) =
    λ r e. heard_reply g l b t known active ∙ ap (λ (x : Bool). cond (not x) (reply_with (user_bytes b)) (replicate 44 0)) e in
    record {
      allowed = heard_allowed g l b t known active;
      taken = heard_taken g l b t known active;
      left = heard_left g l b t known active;
      request = λ e. record { replies = made false e; reply = is false e };
      reply = λ e. record { replies = made true e; reply = is true e };
    }
