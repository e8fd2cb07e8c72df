-- `setup_write::put_port` meets its contract. Assumes nothing.
use Rattle.setup_write.specs.Pieces.{port_of}
use Rattle.setup_write.proofs.Known.{known}
use Rattle.layout.proofs.Places.{over_first, over_next}
use native.Mathlib.Omega.{arith}
use mathlib.Core.Path.{refl}
use Rattle.setup_write.proofs.put_port.Goals as goal

pub returns : goal.returns
unfolding port_of
returns c =
    let a = c.args in
    let m = a.m in
    let l = a.out.now in
    let long = c.requires in
    let t = known m _ c.well_formed.0 in
    let o1 = over_first l m.gid c.put_bytes.new.out 16 16 t.gid.size (omega arith) c.put_bytes.ensures in
    (over_next o1 32 m.mac c.put_bytes-2.new.out 6 t.mac.size (refl) (omega arith) c.put_bytes-2.ensures).is
