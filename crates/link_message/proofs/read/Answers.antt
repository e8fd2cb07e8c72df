-- `link_message::read` meets its contract. Assumes nothing.
use Prim.Native.Nat.{ℕ, ◌≤◌, ◌<◌}
use mathlib.Core.Path.{◌≡◌, ap, ◌∙◌, sym, subst}
use native.Mathlib.Omega.{arith}
use lib.ListN.{length, get_or, set}
use mathlib.Core.List.{List}
use Rattle.link_message.specs.declared.Place.{Place}
use Rattle.link_message.specs.Layouts.{table_of, value_at, values_in, read_of}
use Rattle.link_message.proofs.Table.{count_is, count_most}
use Rattle.link_message.proofs.Adding.{filled_none, filled_more, filled_all, value_at_lem, values_length, within}
use Rattle.link_message.proofs.read.Goals as goal

pub loop-i-init : goal.loop-i-init
loop-i-init c = (c.count-i-end.ensures, filled_none _)

pub value-requires : goal.value-requires
value-requires c =
    let l = c.loop-i in
    let a = c.args in
    let w = within a.kind l.i (omega arith) in
    let e = c.place_of.ensures in
    (subst (λ (p : Place). p.1 ≤ 8) (sym e) w.small, subst (λ (p : Place). p.2 < 64) (sym e) w.low)

pub offset_bounds-values-i : goal.offset_bounds-values-i
offset_bounds-values-i c =
    let a = c.args in
    omega (arith, count_most a.kind)

pub bounds-values-i : goal.bounds-values-i
bounds-values-i c =
    let a = c.args in
    omega (arith, count_most a.kind)

pub loop-i-preserved : goal.loop-i-preserved
loop-i-preserved c =
    let l = c.loop-i in
    let a = c.args in
    let t = table_of a.kind in
    let s = a.s.now in
    let h : l.i < length t = omega (arith, count_is a.kind) in
    let x : c.value.result ≡ get_or (values_in t s) l.i 0 =
    c.value.ensures ∙ ap (value_at s) c.place_of.ensures ∙ sym (value_at_lem t s l.i h) in (
      l.invariant.0,
      ap (λ (v : List ℕ). set v l.i c.value.result) l.invariant.1
          ∙ filled_more (values_in t s) l.i c.value.result (omega (arith, values_length t s)) (omega (arith, count_most a.kind)) x,
    )

pub returns : goal.returns
unfolding read_of
returns c =
    let l = c.loop-i in
    let a = c.args in
    l.invariant.1
    ∙ filled_all (values_in (table_of a.kind) a.s.now) l.i
    (omega (arith, values_length (table_of a.kind) a.s.now, count_is a.kind))
