-- What the parts of a send come to, by the code's tests. Assumes nothing.
use Rattle.std.proofs.Common.{◌≡◌, ℕ, ◌+◌, ◌-◌, ◌*◌, ◌^◌, ◌<◌, min, Bool, true, false, ◌||◌, ltb, sym, ap, ◌∙◌, mul-le-mul_right, arith, eq-eqb, ne_eqb}
use Rattle.cursor.specs.declared.Cursor.{Cursor}
use Rattle.cursor.specs.Cursor.{step_of}
use Rattle.flow.specs.declared.Stretch.{Stretch}
use Rattle.flow.specs.declared.Stretches.TheVariants.{One, Two}
use Rattle.flow.specs.Flow.{first_of, stretches_of}
use Rattle.conn_record.specs.declared.RToken.{RToken}
use Rattle.conn_answer.specs.declared.Placing.{Placing}
use Rattle.conn_record.specs.declared.Record.{Record}
use Rattle.conn_send.specs.Transmit.{rtoken_of, no_placing}
use Rattle.conn_send.specs.Produced.{send_forbids, waits_b}
use Rattle.plan_send.specs.declared.SendAnswer.{SendAnswer}
use Rattle.plan_send.specs.declared.Sending.{Sending}
use Rattle.plan_send.specs.Transmitting.{taken_in_of, tells_in, placing_in, said, said_of, named_in, unsent, sent_by, sending_of}

-- a place in the peer's memory has no more than 64 bits, before its base is added
pub place_fits : (a b c : ℕ) → a < 2 ^ 32 - 1 → b < 2 ^ 32 → c < 2 ^ 32 → a * b + c < 2 ^ 64
place_fits a b c h i j = omega (arith, mul-le-mul_right {m = a} {n = 2 ^ 32 - 2} b (omega arith))

-- a send with bytes, put together
pub sent_parts : (urgent : Bool) (rec : Record) (len k : ℕ) (q : Cursor) (tells : Bool) (t : RToken) (a : SendAnswer)
    → k ≡ taken_in_of rec.remote.size rec.outbound len → q ≡ step_of rec.remote.size rec.outbound.producer k
    → tells ≡ urgent || tells_in rec.outbound k len → t ≡ rtoken_of rec
    → a ≡ named_in rec.remote.size rec.remote.index t rec.outbound.producer k tells
    → ◌≡◌ {A = Sending} (record { said = a; producer = q; blocked = ltb k len }) (sent_by urgent rec len)
unfolding sent_by
sent_parts urgent rec len k q tells t a hk hq ht hr ha = simp (ha, hr, ht, hq, hk)

-- a send, test by test
module _ (urgent : Bool) (rec : Record) (len : ℕ) (r : Sending) where
  pub send_forbidden : send_forbids rec.marks ≡ true → r ≡ unsent 7 rec.outbound → r ≡ sending_of urgent rec len
  unfolding sending_of
  send_forbidden f e = simp (e, f)

  pub send_waits : send_forbids rec.marks ≡ false → waits_b rec len ≡ true → r ≡ unsent 0 rec.outbound → r ≡ sending_of urgent rec len
  unfolding sending_of
  send_waits f w e = simp (e, f, w)

  pub send_sent : send_forbids rec.marks ≡ false → waits_b rec len ≡ false → r ≡ sent_by urgent rec len → r ≡ sending_of urgent rec len
  unfolding sending_of
  send_sent f w e = simp (e, f, w)
