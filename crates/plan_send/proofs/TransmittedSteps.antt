-- What the message comes to, by the code's test. Assumes nothing.
use Rattle.std.proofs.Common.{◌≡◌, ℕ, Bool, true, false, List}
use Rattle.cdc.specs.declared.Message.{Message}
use Rattle.cdc.specs.Cdc.{encode_of}
use Rattle.conn_record.specs.declared.Record.{Record}
use Rattle.conn_answer.specs.Outcome.{message_of}
use Rattle.plan_send.specs.declared.Sending.{Sending}
use Rattle.plan_send.specs.Transmitted.{moved_of, pending_if, message_left}

-- the message in its buffer
module _ (urgent : Bool) (rec : Record) (t : Sending) (b : List ℕ) where
  pub told_parts : (x : Record) (m p : Message) (bytes : List ℕ) → t.said.made ≡ true → x ≡ moved_of urgent rec t → m ≡ message_of x
      → p ≡ pending_if urgent m → bytes ≡ encode_of p → bytes ≡ message_left urgent rec t b
  unfolding message_left
  told_parts x m p bytes e hx hm hp hb = simp (hb, hp, hm, hx, e)

  pub told_none : t.said.made ≡ false → b ≡ message_left urgent rec t b
  unfolding message_left
  told_none e = simp e
