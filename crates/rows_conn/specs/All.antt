-- THE CLAIM: every row comes out as it says; and what closing writes, all zeros, field by field. Assumes nothing.
use Rattle.std.specs.Prelude.{◌≡◌}
use Rattle.conn_record.specs.Connection.{zero_record}
use Rattle.rows_conn.specs.Rows.{closed_slot}
use Rattle.rows_conn.specs.Coherent as Coherent
use Rattle.rows_conn.specs.Refused as Refused
use Rattle.rows_conn.specs.States as States
use Rattle.rows_conn.specs.Sends as Sends
use Rattle.rows_conn.specs.Receives as Receives
use Rattle.rows_conn.specs.Hears as Hears
use Rattle.rows_conn.specs.Ends as Ends
use Rattle.rows_conn.specs.Opens as Opens
use Rattle.rows_conn.specs.Moves as Moves

pub record RowsRight : Type 0 where
  pub coherent : Coherent.RowsRight
  pub refused : Refused.RowsRight
  pub states : States.RowsRight
  pub marks : States.MarksRight
  pub aborted : States.AbortedRight
  pub sends : Sends.RowsRight
  pub receives : Receives.RowsRight
  pub hears : Hears.RowsRight
  pub ends : Ends.RowsRight
  pub opens : Opens.RowsRight
  pub moves : Moves.RowsRight
  pub zeros : zero_record ≡ closed_slot
