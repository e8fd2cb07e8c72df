-- `conn_gather::placing` meets its contract. Assumes nothing.
use Rattle.conn_gather.proofs.placing.Goals as goal

pub returns : goal.returns
returns c = simp (c.placing_at.ensures, c.step-at.ensures)
