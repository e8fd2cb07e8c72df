-- `link_message::reduce` meets its contract. Assumes nothing.
use Prim.Native.Nat.{ℕ, ◌%◌, ◌^◌, ◌<◌}
use mathlib.Core.Path.{◌≡◌, ap, ◌∙◌, sym}
use native.Mathlib.Omega.{arith}
use lib.ListN.{length, get_or, set}
use mathlib.Core.List.{List}
use Rattle.link_message.specs.declared.Place.{Place}
use Rattle.link_message.specs.Layouts.{table_of, reduced, reduced_of}
use Rattle.link_message.proofs.Table.{count_is, count_most}
use Rattle.link_message.proofs.Adding.{filled_none, filled_more, filled_all, reduced_at, reduced_length}
use Rattle.link_message.proofs.reduce.Goals as goal

pub loop-i-init : goal.loop-i-init
loop-i-init c = (c.count-i-end.ensures, filled_none _)

pub offset_bounds-vs-i : goal.offset_bounds-vs-i
offset_bounds-vs-i c = omega (arith, count_most c.args.kind)

pub bounds-vs-i : goal.bounds-vs-i
bounds-vs-i c = omega (arith, count_most c.args.kind)

pub offset_bounds-values-i : goal.offset_bounds-values-i
offset_bounds-values-i c = omega (arith, count_most c.args.kind)

pub bounds-values-i : goal.bounds-values-i
bounds-values-i c = omega (arith, count_most c.args.kind)

pub loop-i-preserved : goal.loop-i-preserved
loop-i-preserved c =
    let l = c.loop-i in
    let a = c.args in
    let t = table_of a.kind in
    let h : l.i < length t = omega (arith, count_is a.kind) in
    let x : c.low.result ≡ get_or (reduced t a.vs) l.i 0 =
    c.low.ensures
    ∙ ap (λ (p : Place). get_or a.vs l.i 0 % 2 ^ p.3) c.place_of.ensures
    ∙ sym (reduced_at t a.vs l.i h) in (
      l.invariant.0,
      ap (λ (v : List ℕ). set v l.i c.low.result) l.invariant.1
          ∙ filled_more (reduced t a.vs) l.i c.low.result (omega (arith, reduced_length t a.vs))
          (omega (arith, count_most a.kind)) x,
    )

pub returns : goal.returns
unfolding reduced_of
returns c =
    let l = c.loop-i in
    let a = c.args in
    l.invariant.1
    ∙ filled_all (reduced (table_of a.kind) a.vs) l.i
    (omega (arith, reduced_length (table_of a.kind) a.vs, count_is a.kind))
