-- `c_call::with_health` meets its contract. Assumes nothing.
use Rattle.c_call.proofs.with_health.Goals as goal

pub returns-in-Unheard : goal.returns-in-Unheard
returns-in-Unheard c = rw c.in-Unheard.is

pub returns-in-Steady : goal.returns-in-Steady
returns-in-Steady c = rw c.in-Steady.is

pub returns-in-Late : goal.returns-in-Late
returns-in-Late c = rw c.in-Late.is
