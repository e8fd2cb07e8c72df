-- `setup_write::put_diagnosis` meets its contract. Assumes nothing.
use Rattle.setup_write.specs.Pieces.{diagnosis_of}
use Rattle.setup_read.specs.Places.{zeros}
use Rattle.setup_read.specs.Clc.{eye_catcher}
use Rattle.layout.proofs.Places.{over_first, over_next, be_length}
use Rattle.layout.specs.Layout.{be_of}
use native.Mathlib.Omega.{arith}
use mathlib.Core.Path.{refl}
use Rattle.setup_write.proofs.put_diagnosis.Goals as goal

pub returns : goal.returns
unfolding diagnosis_of
returns c =
    let a = c.args in
    let m = a.m in
    let l = a.out.now in
    let long = c.requires in
    let o1 = over_first l (be_of 4 m.diagnosis) c.put_number.new.out 16 4 (be_length 4 m.diagnosis) (omega arith)
    c.put_number.ensures in
    let o2 = over_next o1 20 (zeros 4) c.put_zeros.new.out 4 (refl) (refl) (omega arith) c.put_zeros.ensures in
    (over_next o2 24 (be_of 4 eye_catcher) c.put_number-2.new.out 4 (be_length 4 eye_catcher) (refl) (omega arith) c.put_number-2.ensures).is
