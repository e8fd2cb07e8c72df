-- Shutdown, close and abort: what their turns are. Assumes nothing.
use Prim.Native.Nat.{ℕ}
use mathlib.Core.Path.{◌≡◌, sym, ap}
use mathlib.Core.Bool.{Bool}
use mathlib.Core.List.{List, []}
use Rattle.conn_record.specs.declared.Record.{Record}
use Rattle.conn_answer.specs.declared.Outcome.{Outcome}
use Rattle.conn_finish.specs.Finish.{shutdown_of, close_of, abort_of}
use Rattle.group_rules.specs.Rules.{Request, turn_of, request_turn}

-- what a request's turn is, where nothing is stored or read
module _ (n : ℕ) (active : Bool) (c : Record) (e : List ℕ) (o : Outcome) where
  pub shutdown_turn : o ≡ shutdown_of n active c → request_turn n active c e Request.shutdown ≡ turn_of o e []
  unfolding request_turn
  shutdown_turn h = ap (λ (w : Outcome). turn_of w e []) (sym h)

  pub close_turn : o ≡ close_of n active c → request_turn n active c e Request.close ≡ turn_of o e []
  unfolding request_turn
  close_turn h = ap (λ (w : Outcome). turn_of w e []) (sym h)

  pub abort_turn : o ≡ abort_of n active c → request_turn n active c e Request.abort ≡ turn_of o e []
  unfolding request_turn
  abort_turn h = ap (λ (w : Outcome). turn_of w e []) (sym h)
