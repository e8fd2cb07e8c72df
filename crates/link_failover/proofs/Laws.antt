-- Which links went down, as the code looks it up, and a message laid into the buffer. Assumes nothing.
use Prim.Native.Nat.{ℕ, ◌+◌, ◌-◌, ◌*◌, ◌≤◌, ◌<◌}
use mathlib.Core.Path.{◌≡◌, refl, sym, ap, ◌∙◌}
use mathlib.Core.Bool.{Bool, true, false, ◌&&◌, not, cond}
use mathlib.Core.List.{List}
use native.Mathlib.Omega.{arith}
use lib.Dec.{leb}
use lib.ListN.{length, get_or}
use mir.Val.{Val}
use denote.Laws.{Is}
use borrow.Author.Tests.{le-leb, lt-leb}
use Rattle.cdc.specs.declared.Message.{Message}
use Rattle.cdc.specs.Cdc.{encode_of}
use Rattle.layout.specs.Layout.{laid_at}
use Rattle.conn_record.specs.declared.Record.{Record}
use Rattle.group_table.specs.Table.{active_b}
use Rattle.group_table.proofs.Laws.{link_low, link_in_lem, link_out}
use Rattle.link_failover.specs.declared.Plan.{Plan}
use Rattle.link_failover.specs.Failover.{gone_b, moves_b, tells_b, link_to, failover_of, Told, standing, writes_b, told_if, told_by}
use Rattle.link_failover.specs.contracts.Plan.{the_row}

-- THE ARRAYS' LENGTHS, which a value of the type has
pub before_length : (p : Plan) (vs : List Val) (is : Is the_row p vs) → length p.before ≡ 4
before_length p vs is = is.1.1.0.1.0.1

pub after_length : (p : Plan) (vs : List Val) (is : Is the_row p vs) → length p.after ≡ 4
after_length p vs is = is.1.1.1.0.1.0.1

module _ (p : Plan) (l : ℕ) where
  pub gone_low : l < 1 → false ≡ gone_b p l
  unfolding gone_b
  gone_low h = ap (λ (b : Bool). b && not (active_b p.after l)) (sym (link_low p.before l h))

  pub gone_out : length p.before ≡ 4 → 4 < l → false ≡ gone_b p l
  unfolding gone_b
  gone_out e h = ap (λ (b : Bool). b && not (active_b p.after l)) (sym (link_out p.before l (omega (arith, e, h))))

  pub gone_in_lem : 1 ≤ l → get_or p.before (l - 1) false && not (get_or p.after (l - 1) false) ≡ gone_b p l
  unfolding gone_b
  gone_in_lem h =
      λ i. sym (link_in_lem p.before l h) i && not (sym (link_in_lem p.after l h) i)

-- THE LINK, looked up before the record is changed
pub on_link_lem : (goes : Bool) (to : ℕ) (c : Record) (on : ℕ) → on ≡ cond goes to c.id.link → link_to c on ≡ cond goes (link_to c to) c
on_link_lem true to c on e = ap (link_to c) e
on_link_lem false to c on e = ap (link_to c) e

-- A MESSAGE, WHERE THE RECORD TELLS
module _ (goes : Bool) (c : Record) (at : ℕ) (b : List ℕ) where
  abbrev tells : Bool
  tells = goes && not c.marks.abort

  abbrev after_told : Told
  after_told = told_if goes c (standing at b)

  if_silent : tells ≡ false → after_told ≡ standing at b
  unfolding told_if writes_b
  if_silent e = simp e

  if_short : tells ≡ true → length b < at + 44 → after_told ≡ standing at b
  unfolding told_if writes_b
  if_short e h = simp (e, lt-leb (at + 44) (length b) h)

  if_laid : tells ≡ true → at + 44 ≤ length b → after_told ≡ standing (at + 44) (laid_at b at (encode_of (failover_of c)))
  unfolding told_if writes_b
  if_laid e h = simp (e, le-leb (at + 44) (length b) h)

  -- as the code gives it
  abbrev pub Left : ℕ → List ℕ → Type 0
  Left r d = (r ≡ after_told.at) × (d ≡ after_told.buffer)

  pub left_silent : tells ≡ false → Left at b
  left_silent e = let k = if_silent e in (sym (ap Told.at k), sym (ap Told.buffer k))

  pub left_short : tells ≡ true → length b < at + 44 → Left at b
  left_short e h = let k = if_short e h in (sym (ap Told.at k), sym (ap Told.buffer k))

  pub left_laid : tells ≡ true → at + 44 ≤ length b → (m : Message) → m ≡ failover_of c → (s : List ℕ) → s ≡ encode_of m
      → (d : List ℕ) → d ≡ laid_at b at s → Left (at + 44) d
  left_laid e h m me s se d de =
      let k = if_laid e h in
      (sym (ap Told.at k), de ∙ ap (laid_at b at) (se ∙ ap encode_of me) ∙ sym (ap Told.buffer k))

-- as the rules have it
module _ (n : ℕ) (p : Plan) (c : Record) (at : ℕ) (b : List ℕ) where
  pub told_silent : tells_b n p c ≡ false → told_by n p c (standing at b) ≡ standing at b
  unfolding told_by tells_b
  told_silent e = if_silent (moves_b n p c) c at b e

  pub told_laid : tells_b n p c ≡ true → at + 44 ≤ length b
      → told_by n p c (standing at b) ≡ standing (at + 44) (laid_at b at (encode_of (failover_of c)))
  unfolding told_by tells_b
  told_laid e h = if_laid (moves_b n p c) c at b e h
