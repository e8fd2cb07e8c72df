-- `setup_write::put_networks` meets its contract. Assumes nothing.
use lib.Seq.{length-take-le}
use Rattle.setup_write.specs.Pieces.{networks_of}
use Rattle.setup_write.proofs.Known.{known}
use Rattle.setup_read.specs.Places.{zeros}
use Rattle.setup_read.specs.Clc.{eye_catcher}
use Rattle.layout.proofs.Places.{over_first, over_next, be_length}
use Rattle.layout.specs.Layout.{be_of, laid_at}
use native.Mathlib.Omega.{arith}
use Prim.Native.Nat.{ℕ, ◌+◌, ◌-◌, ◌*◌}
use mathlib.Core.Path.{◌≡◌, refl, ap, ◌∙◌}
use lib.ListN.{length, take, length-replicate}
use Rattle.setup_write.proofs.put_networks.Goals as goal

pub returns : goal.returns
unfolding networks_of
returns c =
    let a = c.args in
    let m = a.m in
    let l = a.out.now in
    let long = c.requires in
    let t = known m _ c.well_formed.0 in
    let o = m.offset in
    let p = m.prefixes in
    let n : 17 * m.count - 0 ≡ 17 * m.count = omega arith in
    let prefixes : length (take (17 * m.count) p) ≡ 17 * m.count = length-take-le (17 * m.count) p (omega (arith, t.prefixes.size))
    in
    let o1 = over_first l (be_of 2 o) c.put_number.new.out 38 2 (be_length 2 o) (omega arith) c.put_number.ensures in
    let o2 = over_next o1 40 (zeros o) c.put_zeros.new.out o (length-replicate o 0) (refl) (omega arith) c.put_zeros.ensures
    in
    let o3 = over_next o2 (40 + o) m.mask c.put_bytes.new.out 4 t.mask.size (omega arith) (omega arith)
    c.put_bytes.ensures in
    let o4 = over_next o3 (44 + o) (be_of 1 m.masklen) c.put_number-2.new.out 1 (be_length 1 m.masklen) (omega arith)
    (omega arith) c.put_number-2.ensures in
    let o5 = over_next o4 (45 + o) (zeros 2) c.put_zeros-2.new.out 2 (refl) (omega arith) (omega arith) c.put_zeros-2.ensures in
    let o6 = over_next o5 (47 + o) (be_of 1 m.count) c.put_number-3.new.out 1 (be_length 1 m.count) (omega arith) (omega arith)
    c.put_number-3.ensures in
    let o7 = over_next o6 (48 + o) (take (17 * m.count) p) c.put_bytes-2.new.out (17 * m.count) (prefixes) (omega arith)
    (omega arith) (c.put_bytes-2.ensures ∙ ap (λ (k : ℕ). laid_at c.put_number-3.new.out (48 + o) (take k p)) n) in
    (over_next o7 (48 + o + 17 * m.count) (be_of 4 eye_catcher) c.put_number-4.new.out 4 (be_length 4 eye_catcher) (omega arith) (omega arith) c.put_number-4.ensures).is
