-- Every row comes out as it says. Assumes nothing.
use Rattle.rows_conn.specs.All.{RowsRight}
use Rattle.rows_conn.proofs.Coherent.{coherent_right}
use Rattle.rows_conn.proofs.Refused.{refused_right}
use Rattle.rows_conn.proofs.States.{states_right, marks_right, aborted_right}
use Rattle.rows_conn.proofs.Sends.{sends_right}
use Rattle.rows_conn.proofs.Receives.{receives_right}
use Rattle.rows_conn.proofs.Hears.{hears_right}
use Rattle.rows_conn.proofs.Ends.{ends_right}
use Rattle.rows_conn.proofs.Opens.{opens_right}
use Rattle.rows_conn.proofs.Moves.{moves_right}
use Rattle.rows_conn.proofs.Zeros.{zeros_right}

pub rows_right : RowsRight
rows_right =
    record {
      coherent = coherent_right;
      refused = refused_right;
      states = states_right;
      marks = marks_right;
      aborted = aborted_right;
      sends = sends_right;
      receives = receives_right;
      hears = hears_right;
      ends = ends_right;
      opens = opens_right;
      moves = moves_right;
      zeros = zeros_right;
    }
