-- A piece from its parts. Assumes nothing.
use Rattle.std.proofs.Common.{◌≡◌, ℕ, ◌+◌, ◌-◌, ◌%◌, ◌^◌, ◌<◌, ◌≤◌, min, Bool, cond, ltb, sym, ap, ◌∙◌, arith, le-ltb, lt-ltb}
use Rattle.conn_answer.specs.declared.Placing.{Placing}
use Rattle.plan_gather.specs.declared.GatherAnswer.{GatherAnswer}
use Rattle.plan_gather.specs.declared.Joined.{Joined}
use Rattle.plan_gather.specs.declared.GatherPiece.{GatherPiece}
use Rattle.plan_gather.specs.Cutting.{placing_with, bound_of, cut_at, piece_in, no_piece, piece_or_none, in_pieces}

module _ (x y z : Placing) (n k : ℕ) where
  abbrev with : Placing
  with = cond (ltb k x.len) x (cond (ltb k n) y z)

  pub with_first : k < x.len → x ≡ with
  with_first h = simp (lt-ltb k x.len h)

  pub with_second : x.len ≤ k → k < n → y ≡ with
  with_second h i = simp (le-ltb k x.len h, lt-ltb k n i)

  pub with_last : x.len ≤ k → n ≤ k → z ≡ with
  with_last h i = simp (le-ltb k x.len h, le-ltb k n i)

module _ (h k : ℕ) (p : Placing) (ahead left len address : ℕ) (ea : ahead ≡ k - p.start) (el : left ≡ p.len - ahead)
    (en : len ≡ bound_of h k left) (ed : address ≡ (p.address + ahead) % 2 ^ 64)
  where
    of : Bool → ℕ → ℕ → GatherPiece
    of z l d = record { buffer = cond z 0 1; start = cond z k (k - h); len = l; key = p.key; address = d }

    long : len ≡ bound_of h k (p.len - (k - p.start))
    long = en ∙ ap (bound_of h k) (el ∙ ap (λ (x : ℕ). p.len - x) ea)

    there : address ≡ (p.address + (k - p.start)) % 2 ^ 64
    there = ed ∙ ap (λ (x : ℕ). (p.address + x) % 2 ^ 64) ea

    abbrev made : ℕ → ℕ → GatherPiece
    made buffer start = record { buffer = buffer; start = start; len = len; key = p.key; address = address }

    pub cut_head : k < h → made 0 k ≡ cut_at h k p
    unfolding cut_at of
    cut_head i = λ j. of (sym (lt-ltb k h i) j) (long j) (there j)

    pub cut_body : h ≤ k → made 1 (k - h) ≡ cut_at h k p
    unfolding cut_at of
    cut_body i = λ j. of (sym (le-ltb k h i) j) (long j) (there j)

pub piece_is : (a : Joined) (h k at : ℕ) (p : Placing) (r : GatherPiece) → at ≡ min k a.sent.taken → p ≡ placing_with a at
    → r ≡ cut_at h at p → r ≡ piece_in a h k
unfolding piece_in
piece_is a h k at p r ea ep er = er ∙ ap (cut_at h at) ep ∙ ap (λ (x : ℕ). cut_at h x (placing_with a x)) ea

-- one, or none
pub some_piece : (a : Joined) (h k : ℕ) (r : GatherPiece) → k < a.sent.taken → r ≡ piece_in a h k → r ≡ piece_or_none a h k
unfolding piece_or_none
some_piece a h k r i e = simp (e, lt-ltb k a.sent.taken i)

pub no_piece_lem : (a : Joined) (h k : ℕ) → a.sent.taken ≤ k → no_piece ≡ piece_or_none a h k
unfolding piece_or_none
no_piece_lem a h k i = simp (le-ltb k a.sent.taken i)

-- the answer from its parts
pub pieces_is : (a : Joined) (h k : ℕ) (x y z : GatherPiece) → x ≡ piece_or_none a h 0 → y ≡ piece_or_none a h x.len
    → k ≡ a.sent.taken - (a.sent.taken - x.len - y.len) → z ≡ piece_or_none a h k
    → let r : GatherAnswer =
    record { refusal = a.sent.refusal; made = a.sent.made; taken = a.sent.taken; first = x; second = y; third = z; last = a.last } in
    r ≡ in_pieces a h
unfolding in_pieces
pieces_is a h k x y z ex ey ek ez =
    let n = a.sent.taken in
    let of : GatherPiece → GatherPiece → GatherPiece → GatherAnswer =
    λ x y z. record { refusal = a.sent.refusal; made = a.sent.made; taken = n; first = x; second = y; third = z; last = a.last } in
    ap (of x y) (ez ∙ ap (piece_or_none a h) ek)
    ∙ ap (λ (w : GatherPiece). of x w (piece_or_none a h (n - (n - x.len - w.len)))) ey
    ∙ ap (λ (w : GatherPiece). let v = piece_or_none a h w.len in of w v (piece_or_none a h (n - (n - w.len - v.len)))) ex
