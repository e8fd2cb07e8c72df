-- Where no link went down, or none is active, nothing moves and nothing is told. A record that moves stays coherent. Assumes nothing.
use Prim.Native.Nat.{ℕ, zero, suc, ◌+◌, ◌≤◌, ◌<◌}
use mathlib.Core.Path.{◌≡◌, refl, sym, ap, ◌∙◌}
use mathlib.Core.Bool.{Bool, true, false, ◌&&◌, ◌||◌, not, cond}
use mathlib.Core.List.{List, [], ◌∷◌}
use native.Mathlib.Omega.{arith}
use lib.Dec.{ltb}
use borrow.Author.Tests.{ltb-true}
use Rattle.conn_record.specs.declared.Record.{Record}
use Rattle.conn_record.specs.Connection.{most_link, coherent_b}
use Rattle.conn_record.proofs.Laws.{and_left, and_right, Coherent, coherent_facts, coherent_from}
use Rattle.group_table.specs.Table.{active_b}
use Rattle.link_failover.specs.declared.Plan.{Plan}
use Rattle.link_failover.specs.Failover.{target_of, plan_of, gone_b, moves_b, link_to, moved_of, moved_all, Told, writes_b, told_if, told_by, told_from, any_gone, some_b}

-- a coherent record's link is one of four
four : (l : ℕ) → 1 ≤ l → l ≤ 4 → (P : ℕ → Type 0) → P 1 → P 2 → P 3 → P 4 → P l
four zero h k P a b c d = absurd (omega (arith, h))
four (suc zero) h k P a b c d = a
four (suc (suc zero)) h k P a b c d = b
four (suc (suc (suc zero))) h k P a b c d = c
four (suc (suc (suc (suc zero)))) h k P a b c d = d
four (suc (suc (suc (suc (suc l))))) h k P a b c d = absurd (omega (arith, k))

module _ (p : Plan) where
  none_gone : any_gone p ≡ false → (l : ℕ) → 1 ≤ l → l ≤ 4 → gone_b p l ≡ false
  unfolding any_gone
  none_gone e l h k =
      let a = off_left (gone_b p 1) _ e in
      let r = off_right (gone_b p 1) _ e in
      let b = off_left (gone_b p 2) _ r in
      let s = off_right (gone_b p 2) _ r in
      four l h k (λ j. gone_b p j ≡ false) a b (off_left (gone_b p 3) _ s) (off_right (gone_b p 3) _ s)
    where
      off_left : (x y : Bool) → x || y ≡ false → x ≡ false
      off_left true y e = e
      off_left false y e = refl

      off_right : (x y : Bool) → x || y ≡ false → y ≡ false
      off_right true true e = e
      off_right true false e = refl
      off_right false y e = e

  -- nothing moves
  module _ (n : ℕ) (c : Record) where
    moves_not : some_b p ≡ false → moves_b n p c ≡ false
    unfolding moves_b some_b
    moves_not e = go (ltb 0 p.target) (coherent_b n c) e refl
      where
        go : (x y : Bool) → x && any_gone p ≡ false → coherent_b n c ≡ y → (x && (c.id.opened && gone_b p c.id.link)) && y ≡ false
        go false y f k = refl
        go true false f k = off (c.id.opened && gone_b p c.id.link)
          where
            off : (b : Bool) → b && false ≡ false
            off true = refl
            off false = refl
        go true true f k =
            let h = coherent_facts n c k in
            let z = none_gone f c.id.link h.link_least h.link_most in
            shut c.id.opened (gone_b p c.id.link) z
          where
            shut : (a b : Bool) → b ≡ false → (a && b) && true ≡ false
            shut false b z = refl
            shut true b z = ap (λ (x : Bool). x && true) z

    moved_not : some_b p ≡ false → moved_of n p c ≡ c
    unfolding moved_of
    moved_not e = simp (moves_not e)

    told_not : (s : Told) → some_b p ≡ false → told_by n p c s ≡ s
    unfolding told_by told_if writes_b
    told_not s e = simp (moves_not e)

  pub still_moved : (n : ℕ) (t : List Record) → some_b p ≡ false → t ≡ moved_all n p t
  unfolding moved_all
  still_moved n [] e = refl
  still_moved n (c ∷ t) e = λ i. sym (moved_not n c e) i ∷ still_moved n t e i

  pub still_told : (n : ℕ) (t : List Record) (s : Told) → some_b p ≡ false → s ≡ told_from n p t s
  unfolding told_from
  still_told n [] s e = refl
  still_told n (c ∷ t) s e = still_told n t s e ∙ ap (told_from n p t) (sym (told_not n c s e))

-- A MOVE KEEPS COHERENCE, where it goes to one of four links
pub target_most : (l : List Bool) → target_of l ≤ most_link
unfolding target_of
target_most l = go (active_b l 1) (active_b l 2) (active_b l 3) (active_b l 4)
  where
    go : (a b c d : Bool) → cond a 1 (cond b 2 (cond c 3 (cond d 4 0))) ≤ most_link
    go true b c d = omega arith
    go false true c d = omega arith
    go false false true d = omega arith
    go false false false true = omega arith
    go false false false false = omega arith

pub plan_most : (before after : List Bool) → (plan_of before after).target ≤ most_link
unfolding plan_of
plan_most before after = target_most after

pub link_coherent : (n : ℕ) (c : Record) (l : ℕ) → 1 ≤ l → l ≤ most_link → coherent_b n c ≡ true → coherent_b n (link_to c l) ≡ true
link_coherent n c l h k e =
    let f = coherent_facts n c e in
    coherent_from n (link_to c l)
    (record {
      own_nonzero = f.own_nonzero;
      peer_nonzero = f.peer_nonzero;
      link_least = h;
      link_most = k;
      remote_ok_lem = f.remote_ok_lem;
      not_both = f.not_both;
      p_range = f.p_range;
      c_range = f.c_range;
      t_range = f.t_range;
      q_range = f.q_range;
      r_range = f.r_range;
      tc_good = f.tc_good;
      cp_good = f.cp_good;
      sum = f.sum;
      rq_good = f.rq_good;
      at_their_place = f.at_their_place;
      at_own_place = f.at_own_place;
    })

pub moved_coherent : (n : ℕ) (p : Plan) (c : Record) → p.target ≤ most_link → coherent_b n c ≡ true → coherent_b n (moved_of n p c) ≡ true
unfolding moved_of moves_b
moved_coherent n p c k e = go ((ltb 0 p.target && (c.id.opened && gone_b p c.id.link)) && coherent_b n c) refl
  where
    go : (b : Bool) → (ltb 0 p.target && (c.id.opened && gone_b p c.id.link)) && coherent_b n c ≡ b → coherent_b n (cond b (link_to c p.target) c) ≡ true
    go false f = e
    go true f =
        let a = and_left (ltb 0 p.target) _ (and_left (ltb 0 p.target && (c.id.opened && gone_b p c.id.link)) _ f) in
        link_coherent n c p.target (ltb-true 0 p.target a) k e

-- a call that leaves the links as they were moves nothing
pub same_still : (a : List Bool) → some_b (plan_of a a) ≡ false
unfolding some_b any_gone gone_b plan_of
same_still a = simp (off (active_b a 1), off (active_b a 2), off (active_b a 3), off (active_b a 4), shut (ltb 0 (target_of a)))
  where
    off : (x : Bool) → x && not x ≡ false
    off true = refl
    off false = refl

    shut : (x : Bool) → x && false ≡ false
    shut true = refl
    shut false = refl

pub same_moved : (n : ℕ) (a : List Bool) (c : Record) → moved_of n (plan_of a a) c ≡ c
same_moved n a c = moved_not (plan_of a a) n c (same_still a)
