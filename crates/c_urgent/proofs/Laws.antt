-- What the proof of `fordlinnet_make_urgent_send` cites: the send with `true` is the rules' urgent send. Assumes nothing.
use Prim.Native.Nat.{ℕ}
use mathlib.Core.Bool.{true}
use mathlib.Core.List.{List}
use Rattle.group_rules.specs.Rules.{Group}
use Rattle.plan_send.specs.declared.SendAnswer.{SendAnswer}
use Rattle.c_send.specs.DirectSend.{Sends, UrgentMade}

pub fordlinnet_make_urgent_send_returns : (g : Group) (k : ℕ) (bytes b : List ℕ) (a : SendAnswer) (h : Group) (c : List ℕ)
    → Sends true g k bytes b a h c → UrgentMade g k bytes b a h c
fordlinnet_make_urgent_send_returns g k bytes b a h c e = e
