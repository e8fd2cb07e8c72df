-- `plan_read::read_record` meets its contract. Assumes nothing.
use Rattle.conn_receive.specs.Receive.{read_forbids}
use Rattle.plan_read.proofs.Steps.{whole_is, read_forbidden, read_took, read_torn}
use Rattle.plan_read.proofs.read_record.Goals as goal

pub returns-then-rec : goal.returns-then-rec
unfolding read_forbids
returns-then-rec c = read_forbidden _ _ _ _ _ c.if-rec.true c.kept.ensures

pub returns-then-intact : goal.returns-then-intact
unfolding read_forbids
returns-then-intact c =
    let t = c in
    let i = t in
    let b = i in
    read_took _ _ _ _ _ b.if-rec.false (whole_is _ _ _ _ _ i.intact.ensures b.base_of-base.ensures t.if-intact.true) c.took.ensures

pub returns-else-intact : goal.returns-else-intact
unfolding read_forbids
returns-else-intact c =
    let t = c in
    let i = t in
    let b = i in
    read_torn _ _ _ _ _ b.if-rec.false (whole_is _ _ _ _ _ i.intact.ensures b.base_of-base.ensures t.if-intact.false) c.torn.ensures
