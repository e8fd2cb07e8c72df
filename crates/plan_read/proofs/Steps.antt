-- What the parts of a read come to, by the code's tests. Assumes nothing.
use mathlib.Core.Path.{◌≡◌, sym, ap, ◌∙◌}
use mathlib.Core.Bool.{Bool, true, false}
use mathlib.Core.List.{List}
use Prim.Native.Nat.{ℕ, ◌-◌}
use native.Mathlib.Omega.{arith}
use lib.Dec.{ltb}
use borrow.Author.Tests.{lt-ltb}
use Rattle.cursor.specs.declared.Cursor.{Cursor}
use Rattle.cursor.specs.Cursor.{step_of}
use Rattle.cdc.specs.declared.Message.{Message}
use Rattle.cdc.specs.Cdc.{encode_of}
use Rattle.flow.specs.Flow.{taken_of, window_of, update_due}
use Rattle.element.specs.Element as Element
use Rattle.conn_record.specs.declared.Inbound.{Inbound}
use Rattle.conn_record.specs.declared.Record.{Record}
use Rattle.conn_record.specs.Connection.{reached_b}
use Rattle.conn_answer.specs.Outcome.{message_of}
use Rattle.conn_receive.specs.Receive.{read_forbids}
use Rattle.plan_read.specs.declared.ReadAnswer.{ReadAnswer}
use Rattle.plan_read.specs.declared.Reading.{Reading}
use Rattle.plan_read.specs.Reading.{unread_in, due_in, took_of, torn_reading, reading_of, refused_answer, refused_reading, moved_of, message_left, copied_by}

-- how many bytes are taken
pub taken_parts : (n : ℕ) (i : Inbound) (room d w k : ℕ) → d ≡ n - 4 → w ≡ window_of n i.consumer i.producer → k ≡ taken_of (d - w) room
    → k ≡ taken_of (unread_in n i) room
unfolding unread_in
taken_parts n i room d w k hd hw hk = simp (hk, hw, hd)

-- whether a message is due
some : (k : ℕ) → (k ≡ 0 → ⊥) → ltb 0 k ≡ true
some k h = lt-ltb 0 k (omega (arith, h))

module _ (n : ℕ) (i : Inbound) (c : Cursor) (k : ℕ) (reached : Bool) where
  pub due_none : k ≡ 0 → false ≡ due_in n i c k reached
  unfolding due_in
  due_none e = simp e

  pub due_blocked : (k ≡ 0 → ⊥) → i.blocked ≡ true → true ≡ due_in n i c k reached
  unfolding due_in
  due_blocked h e = simp (some k h, e)

  pub due_request : (k ≡ 0 → ⊥) → i.blocked ≡ false → i.request ≡ true → true ≡ due_in n i c k reached
  unfolding due_in
  due_request h e f = simp (some k h, e, f)

  pub due_reached : (k ≡ 0 → ⊥) → i.blocked ≡ false → i.request ≡ false → reached ≡ true → true ≡ due_in n i c k reached
  unfolding due_in
  due_reached h e f g = simp (some k h, e, f, g)

  pub due_update : (v : Bool) → (k ≡ 0 → ⊥) → i.blocked ≡ false → i.request ≡ false → reached ≡ false
      → v ≡ update_due n i.told i.producer c → v ≡ due_in n i c k reached
  unfolding due_in
  due_update v h e f g q = simp (q, some k h, e, f, g)

-- a read of an intact element, put together
abbrev pub took_by_of : Inbound → ℕ → Cursor → Bool → Bool → Reading
took_by_of i k c reached tells =
    record {
      said = record { refusal = 0; torn = false; made = tells; count = k };
      consumer = c;
      cleared = reached;
      from = i.consumer.offset;
    }

pub took_parts : (n : ℕ) (i : Inbound) (room k : ℕ) (c : Cursor) (reached tells : Bool) → k ≡ taken_of (unread_in n i) room
    → c ≡ step_of n i.consumer k → reached ≡ reached_b n c i.producer i.urgent → tells ≡ due_in n i c k reached
    → took_by_of i k c reached tells ≡ took_of n i room
unfolding took_of
took_parts n i room k c reached tells hk hc hr ht = simp (ht, hr, hc, hk)

pub whole_is : (m : List ℕ) (base b : ℕ) (x v : Bool) → x ≡ Element.intact_at m base → base ≡ b → x ≡ v → Element.intact_at m b ≡ v
whole_is m base b x v h e f = sym (h ∙ ap (Element.intact_at m) e) ∙ f

-- a refusal's reading
pub kept_parts : (j : ℕ) (c : Cursor) (a : ReadAnswer) → a ≡ refused_answer j
    → record { said = a; consumer = c; cleared = false; from = c.offset } ≡ refused_reading j c
kept_parts j c a e = λ i. record { said = e i; consumer = c; cleared = false; from = c.offset }

-- a read, test by test
module _ (n : ℕ) (intact : Bool) (rec : Record) (room : ℕ) (r : Reading) where
  pub read_forbidden : read_forbids rec.marks ≡ true → r ≡ refused_reading 7 rec.inbound.consumer → r ≡ reading_of n intact rec room
  unfolding reading_of
  read_forbidden f e = simp (e, f)

  pub read_took : read_forbids rec.marks ≡ false → intact ≡ true → r ≡ took_of n rec.inbound room → r ≡ reading_of n intact rec room
  unfolding reading_of
  read_took f w e = simp (e, f, w)

  pub read_torn : read_forbids rec.marks ≡ false → intact ≡ false → r ≡ torn_reading rec.inbound.consumer
      → r ≡ reading_of n intact rec room
  unfolding reading_of
  read_torn f w e = simp (e, f, w)

-- the bytes copied
pub copied_parts : (n : ℕ) (m : List ℕ) (k : ℕ) (t : Reading) (out l : List ℕ) (base : ℕ) → base ≡ Element.base_of n k
    → l ≡ Element.read_of m base n t.from t.said.count out → l ≡ copied_by n m k t out
unfolding copied_by
copied_parts n m k t out l base e h = simp (h, e)

-- the message in its buffer
module _ (rec : Record) (t : Reading) (b : List ℕ) where
  pub told_parts : (x : Record) (m : Message) (bytes : List ℕ) → t.said.made ≡ true → x ≡ moved_of rec t → m ≡ message_of x
      → bytes ≡ encode_of m → bytes ≡ message_left rec t b
  unfolding message_left
  told_parts x m bytes e hx hm hb = simp (hb, hm, hx, e)

  pub told_none : t.said.made ≡ false → b ≡ message_left rec t b
  unfolding message_left
  told_none e = simp e
