-- `plan_send::rtoken_of` meets its contract. Assumes nothing.
use Rattle.std.proofs.Common.{arith, ne_eqb}
use Rattle.conn_send.specs.Transmit.{rtoken_of}
use Rattle.plan_send.proofs.rtoken_of.Goals as goal

pub returns-in-1 : goal.returns-in-1
unfolding rtoken_of
returns-in-1 c = simp c.in-1.is

pub returns-in-2 : goal.returns-in-2
unfolding rtoken_of
returns-in-2 c = simp c.in-2.is

pub returns-in-3 : goal.returns-in-3
unfolding rtoken_of
returns-in-3 c = simp c.in-3.is

pub returns-in_default : goal.returns-in_default
unfolding rtoken_of
returns-in_default c =
    let out = c.in_default in
    let link = c.args.rec.id.link in
    simp (ne_eqb link 1 (omega (arith, out)), ne_eqb link 2 (omega (arith, out)), ne_eqb link 3 (omega (arith, out)))
