-- The two sends: what their turns are. Assumes nothing.
use Prim.Native.Nat.{ℕ}
use mathlib.Core.Path.{◌≡◌, sym, ap}
use mathlib.Core.Bool.{Bool}
use mathlib.Core.List.{List, []}
use lib.ListN.{length}
use Rattle.conn_record.specs.declared.Record.{Record}
use Rattle.conn_answer.specs.declared.Outcome.{Outcome}
use Rattle.conn_send.specs.Transmit.{send_of, urgent_send_of}
use Rattle.group_rules.specs.Rules.{Request, turn_of, request_turn}

-- what a request's turn is, where nothing is stored or read
module _ (n : ℕ) (active : Bool) (c : Record) (e : List ℕ) (o : Outcome) where
  pub send_turn_lem : (b : List ℕ) → o ≡ send_of n active c (length b) → request_turn n active c e (Request.send b) ≡ turn_of o e []
  unfolding request_turn
  send_turn_lem b h = ap (λ (w : Outcome). turn_of w e []) (sym h)

  pub urgent_turn : (b : List ℕ) → o ≡ urgent_send_of n active c (length b) → request_turn n active c e (Request.urgent b) ≡ turn_of o e []
  unfolding request_turn
  urgent_turn b h = ap (λ (w : Outcome). turn_of w e []) (sym h)
