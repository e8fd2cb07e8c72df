-- `plan_hear::urgent_left` meets its contract. Assumes nothing.
use Rattle.plan_hear.proofs.urgent_left.Goals as goal

pub returns-then-urged : goal.returns-then-urged
returns-then-urged c = simp c.if-urged.true
