-- What the two calls give together. Assumes nothing.
use Prim.Native.Nat.{ℕ}
use mathlib.Core.List.{List}
use Rattle.conn_record.specs.declared.Record.{Record}
use Rattle.group_table.specs.declared.Links.{Links}
use Rattle.group_table.specs.declared.Answered.{Answered}
use Rattle.group_calls.specs.declared.Request.TheVariants.{Send, Shutdown}
use Rattle.group_rules.specs.Rules.{Did, group_of, answer_of}
use Rattle.group_make.specs.declared.Command.TheVariants.{On}
use Rattle.group_make.specs.Group.{call_of, out_left, OutKept}
use Rattle.thm_order.specs.Statement.{none_made, one_made}
use Rattle.example_send.specs.Example.{LastWords, said_of}

pub last_words_returns : (s n : ℕ) (m : List ℕ) (t : List Record) (ls : Links) (k : ℕ) (b out : List ℕ)
    → (a₁ : Answered) (m₁ : List ℕ) (t₁ : List Record) (o₁ : List ℕ)
    → Did (group_of s n t ls m) (call_of (On k Send) b out) (answer_of a₁ (out_left (On k Send) o₁)) (group_of s n t₁ a₁.links m₁)
    × OutKept (On k Send) out o₁
    → (a₂ : Answered) (m₂ : List ℕ) (t₂ : List Record) (o₂ : List ℕ)
    → Did (group_of s n t₁ a₁.links m₁) (call_of (On k Shutdown) b o₁) (answer_of a₂ (out_left (On k Shutdown) o₂)) (group_of s n t₂ a₂.links m₂)
    × OutKept (On k Shutdown) o₁ o₂
    → LastWords (group_of s n t ls m) k b (said_of a₁ a₂) t₂ m₂
last_words_returns s n m t ls k b out a₁ m₁ t₁ o₁ d₁ a₂ m₂ t₂ o₂ d₂ = one_made d₁.0 (one_made d₂.0 none_made)
