-- A gather answers as a send does, but that it names pieces: what holds of the one's answer holds of the other's. Assumes nothing.
use mathlib.Core.Path.{◌≡◌}
use mathlib.Core.List.{List}
use Prim.Native.Nat.{ℕ}
use Rattle.conn_answer.specs.declared.Placing.{Placing}
use Rattle.conn_gather.specs.Pieces.{Piece}
use Rattle.group_rules.specs.Rules.{Says, refusal, accepted, sent, gathered, was_read_of, torn, heard, reset, sampled, link_changed, link_heard, link_sent, in_pieces}
use Rattle.thm_refusals.proofs.Answers.{clash}

module _ (f : ℕ → List Piece) where
  pub carried : (P : Says → Type 0) → ((n : ℕ) (p : List Placing) (q : List Piece) → P (sent n p) → P (gathered n q)) → (s : Says)
      → P s → P (in_pieces f s)
  carried P h (refusal k) w = w
  carried P h accepted w = w
  carried P h (sent n p) w = h n p (f n) w
  carried P h (gathered n p) w = w
  carried P h (was_read_of n) w = w
  carried P h torn w = w
  carried P h (heard moved state) w = w
  carried P h reset w = w
  carried P h (sampled health) w = w
  carried P h (link_changed n) w = w
  carried P h (link_heard f t u n) w = w
  carried P h (link_sent u n) w = w

  pub refused_in : (s : Says) (k : ℕ) → in_pieces f s ≡ refusal k → s ≡ refusal k
  refused_in s k = carried (λ (r : Says). r ≡ refusal k → s ≡ refusal k) (λ n p q h e. clash (cc)) s (λ e. e)

  pub torn_in : (s : Says) → in_pieces f s ≡ torn → s ≡ torn
  torn_in s = carried (λ (r : Says). r ≡ torn → s ≡ torn) (λ n p q h e. clash (cc)) s (λ e. e)
