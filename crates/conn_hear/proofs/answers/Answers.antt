-- `conn_hear::answers` meets its contract. Assumes nothing.
use Rattle.cursor.specs.Cursor.{same_b}
use Rattle.conn_hear.specs.Heard.{answers_b}
use Rattle.conn_hear.proofs.answers.Goals as goal

pub returns : goal.returns
unfolding answers_b same_b
returns c = simp (c.ne.ensures, c.urges-urged.ensures)
