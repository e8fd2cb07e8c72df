-- `setup_write::put_rmb` meets its contract. Assumes nothing.
use Rattle.setup_write.specs.Pieces.{rmb_of}
use Rattle.setup_read.specs.Places.{zeros}
use Rattle.setup_read.specs.Clc.{eye_catcher}
use Rattle.layout.proofs.Places.{over_first, over_next, be_length}
use Rattle.layout.specs.Layout.{be_of}
use native.Mathlib.Omega.{arith}
use Prim.Native.Nat.{◌+◌, ◌*◌}
use mathlib.Core.Path.{refl}
use Rattle.setup_write.proofs.put_rmb.Goals as goal

pub returns : goal.returns
unfolding rmb_of
returns c =
    let a = c.args in
    let m = a.m in
    let l = a.out.now in
    let long = c.requires in
    let o1 = over_first l (be_of 3 m.qp) c.put_number.new.out 38 3 (be_length 3 m.qp) (omega arith) c.put_number.ensures
    in
    let o2 = over_next o1 41 (be_of 4 m.key) c.put_number-2.new.out 4 (be_length 4 m.key) (refl) (omega arith)
    c.put_number-2.ensures in
    let o3 = over_next o2 45 (be_of 1 m.index) c.put_number-3.new.out 1 (be_length 1 m.index) (refl) (omega arith)
    c.put_number-3.ensures in
    let o4 = over_next o3 46 (be_of 4 m.token) c.put_number-4.new.out 4 (be_length 4 m.token) (refl) (omega arith)
    c.put_number-4.ensures in
    let o5 = over_next o4 50 (be_of 1 (m.code * 16 + m.mtu)) c.put_number-5.new.out 1 (be_length 1 (m.code * 16 + m.mtu)) (refl)
    (omega arith) c.put_number-5.ensures in
    let o6 = over_next o5 51 (zeros 1) c.put_zeros.new.out 1 (refl) (refl) (omega arith) c.put_zeros.ensures in
    let o7 = over_next o6 52 (be_of 8 m.base) c.put_number-6.new.out 8 (be_length 8 m.base) (refl) (omega arith)
    c.put_number-6.ensures in
    let o8 = over_next o7 60 (zeros 1) c.put_zeros-2.new.out 1 (refl) (refl) (omega arith) c.put_zeros-2.ensures in
    let o9 = over_next o8 61 (be_of 3 m.psn) c.put_number-7.new.out 3 (be_length 3 m.psn) (refl) (omega arith)
    c.put_number-7.ensures in
    (over_next o9 64 (be_of 4 eye_catcher) c.put_number-8.new.out 4 (be_length 4 eye_catcher) (refl) (omega arith) c.put_number-8.ensures).is
