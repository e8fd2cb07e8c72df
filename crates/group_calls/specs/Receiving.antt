-- What a place and a read ask of their own reply. Assumes nothing.
use Rattle.std.specs.Prelude.{ℕ, Bool, true, false}
use Rattle.conn_answer.specs.declared.Reply.{Reply}
use Rattle.conn_answer.specs.declared.Reply.TheVariants.{Refused, Accepted, Sent, Read, Torn, Heard, Reset, Sampled}

-- whether a place was accepted, and its bytes are stored
abbrev pub stores_b : Reply → Bool
stores_b (Refused k) = false
stores_b Accepted = true
stores_b (Sent k p) = false
stores_b (Read n) = false
stores_b Torn = false
stores_b (Heard moved state) = false
stores_b Reset = false
stores_b (Sampled h) = false

-- how many bytes of a read are copied
abbrev pub copied_of : Reply → ℕ
copied_of (Refused k) = 0
copied_of Accepted = 0
copied_of (Sent k p) = 0
copied_of (Read n) = n
copied_of Torn = 0
copied_of (Heard moved state) = 0
copied_of Reset = 0
copied_of (Sampled h) = 0
