-- `setup_write::put_head` meets its contract. Assumes nothing.
use mathlib.Core.Bool.{Bool, cond}
use Rattle.setup_write.specs.Pieces.{head_of, flag_of}
use Rattle.setup_write.proofs.Known.{known}
use Rattle.setup_read.specs.Clc.{type_of, eye_catcher}
use Rattle.layout.proofs.Places.{over_first, over_next, be_length}
use Rattle.layout.specs.Layout.{be_of, laid_at}
use native.Mathlib.Omega.{arith}
use Prim.Native.Nat.{ℕ, ◌+◌, ◌*◌}
use mathlib.Core.Path.{refl, ap, ◌∙◌}
use Rattle.setup_write.proofs.put_head.Goals as goal

pub returns : goal.returns
unfolding head_of
returns c =
    let a = c.args in
    let m = a.m in
    let k = type_of m.kind in
    let l = a.out.now in
    let long = c.requires in
    let t = known m _ c.well_formed.0 in
    let o1 = over_first l (be_of 4 eye_catcher) c.put_number.new.out 0 4 (be_length 4 eye_catcher) (omega arith)
    c.put_number.ensures in
    let o2 = over_next o1 4 (be_of 1 k) c.put_number-2.new.out 1 (be_length 1 k) (refl) (omega arith)
    (c.put_number-2.ensures ∙ ap (λ (x : ℕ). laid_at c.put_number.new.out 4 (be_of 1 x)) c.type_of-kind.ensures) in
    let o3 = over_next o2 5 (be_of 2 a.n) c.put_number-3.new.out 2 (be_length 2 a.n) (refl) (omega arith)
    c.put_number-3.ensures in
    let o4 = over_next o3 7 (be_of 1 (m.version * 16 + cond (flag_of k m) 8 0)) c.put_number-4.new.out 1
    (be_length 1 (m.version * 16 + cond (flag_of k m) 8 0)) (refl) (omega arith)
    (c.put_number-4.ensures ∙ ap (λ (x : ℕ). laid_at c.put_number-3.new.out 7 (be_of 1 (m.version * 16 + x))) (c.eight.ensures.0 ∙ ap (λ (b : Bool). cond b 8 0) c.flag.ensures))
    in
    (over_next o4 8 m.peer c.put_bytes.new.out 8 t.peer.size (refl) (omega arith) c.put_bytes.ensures).is
