-- `link_message::write` meets its contract. Assumes nothing.
use Prim.Native.Nat.{ℕ, ◌+◌, ◌*◌, ◌%◌, ◌^◌, ◌≤◌, ◌<◌}
use mathlib.Core.Path.{◌≡◌, ap, ◌∙◌, sym, subst}
use mathlib.Core.List.{List, ◌∷◌}
use native.Mathlib.Omega.{arith}
use lib.ListN.{get_or, take, replicate}
use lib.Pow.{pow_mono}
use Rattle.layout.specs.Layout.{number_at, laid_at, be_of}
use Rattle.link_message.specs.declared.Kind.{Kind}
use Rattle.link_message.specs.declared.Place.{Place}
use Rattle.link_message.specs.Layouts.{table_of, no_place, encode_of, mark}
use Rattle.link_message.proofs.Table.{count_most}
use Rattle.link_message.proofs.Adding.{within, Step, step, none_yet, all_there}
use Rattle.link_message.proofs.write.Goals as goal

-- what the step says, of the place and the number in hand
module _ (k : Kind) (vs : List ℕ) (i : ℕ) (out : List ℕ) (p : Place) (x : ℕ) (o : out ≡ encode_of k (take i vs))
    (e : p ≡ get_or (table_of k) i no_place)
    (m : x ≡ get_or vs i 0 % 2 ^ (get_or (table_of k) i no_place).3 * 2 ^ (get_or (table_of k) i no_place).2)
    (g : Step k vs i (get_or (table_of k) i no_place) (get_or vs i 0 % 2 ^ (get_or (table_of k) i no_place).3 * 2 ^ (get_or (table_of k) i no_place).2)) where
  bound : number_at out p.0 p.1 + x < 2 ^ (8 * p.1)
  bound =
      let a : number_at out p.0 p.1 + x
      ≡ number_at (encode_of k (take i vs)) (get_or (table_of k) i no_place).0 (get_or (table_of k) i no_place).1
      + get_or vs i 0 % 2 ^ (get_or (table_of k) i no_place).3 * 2 ^ (get_or (table_of k) i no_place).2 =
      λ j. number_at (o j) (e j).0 (e j).1 + m j in
      let b : 2 ^ (8 * p.1) ≡ 2 ^ (8 * (get_or (table_of k) i no_place).1) = λ j. 2 ^ (8 * (e j).1) in
      omega (arith, g.fits)

  laid_next : laid_at out p.0 (be_of p.1 (number_at out p.0 p.1 + x)) ≡ encode_of k (take (i + 1) vs)
  laid_next = (λ j. laid_at (o j) (e j).0 (be_of (e j).1 (number_at (o j) (e j).0 (e j).1 + m j))) ∙ g.more

pub loop-i-init : goal.loop-i-init
loop-i-init c =
    (c.count-i-end.ensures, ap (λ (b : ℕ). b ∷ mark ∷ replicate 42 0) c.code_of.ensures ∙ none_yet c.args.kind)

pub offset_bounds-vs-i : goal.offset_bounds-vs-i
offset_bounds-vs-i c = omega (arith, count_most c.args.kind)

pub bounds-vs-i : goal.bounds-vs-i
bounds-vs-i c = omega (arith, count_most c.args.kind)

pub overflow_shl-x : goal.overflow_shl-x
overflow_shl-x c =
    let w = within c.args.kind c.loop-i.i (omega arith) in
    subst (λ (p : Place). p.2 < 64) (sym c.place_of-p.ensures) w.low

pub returns : goal.returns
returns c =
    let l = c.loop-i in
    let a = c.args in
    l.invariant.1 ∙ all_there a.kind a.vs l.i (omega arith)

pub add-requires : goal.add-requires
add-requires c =
    let a = c.args in
    let l = c.loop-i in
    let w = within a.kind l.i (omega arith) in
    let g = step a.kind a.vs l.i (omega arith) in
    let p = get_or (table_of a.kind) l.i no_place in
    let e = c.place_of-p.ensures in
    let y : c.low.result * 2 ^ c.place_of-p.result.2 ≡ get_or a.vs l.i 0 % 2 ^ p.3 * 2 ^ p.2 =
    λ j. (c.low.ensures ∙ ap (λ (q : Place). get_or a.vs l.i 0 % 2 ^ q.3) e) j * 2 ^ (e j).2 in
    let x : c.low.result * 2 ^ c.place_of-p.result.2 % 18446744073709551616 ≡ get_or a.vs l.i 0 % 2 ^ p.3 * 2 ^ p.2 =
    omega (arith, y, g.fits, w.small, pow_mono {i = 8 * p.1} {j = 64} (omega (arith, w.small))) in (
      subst (λ (q : Place). q.1 ≤ 8) (sym e) w.small,
      bound a.kind a.vs l.i l.out c.place_of-p.result _ l.invariant.1 e x g,
    )

pub loop-i-preserved : goal.loop-i-preserved
loop-i-preserved c =
    let a = c.args in
    let l = c.loop-i in
    let w = within a.kind l.i (omega arith) in
    let g = step a.kind a.vs l.i (omega arith) in
    let p = get_or (table_of a.kind) l.i no_place in
    let e = c.place_of-p.ensures in
    let y : c.low.result * 2 ^ c.place_of-p.result.2 ≡ get_or a.vs l.i 0 % 2 ^ p.3 * 2 ^ p.2 =
    λ j. (c.low.ensures ∙ ap (λ (q : Place). get_or a.vs l.i 0 % 2 ^ q.3) e) j * 2 ^ (e j).2 in
    let x : c.low.result * 2 ^ c.place_of-p.result.2 % 18446744073709551616 ≡ get_or a.vs l.i 0 % 2 ^ p.3 * 2 ^ p.2 =
    omega (arith, y, g.fits, w.small, pow_mono {i = 8 * p.1} {j = 64} (omega (arith, w.small))) in (
      l.invariant.0,
      c.add.ensures ∙ laid_next a.kind a.vs l.i l.out c.place_of-p.result _ l.invariant.1 e x g,
    )
