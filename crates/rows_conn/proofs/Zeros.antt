-- What closing writes, all zeros. Assumes nothing.
use mathlib.Core.Path.{◌≡◌, refl}
use Rattle.conn_record.specs.Connection.{zero_record}
use Rattle.rows_conn.specs.Rows.{closed_slot}

pub zeros_right : zero_record ≡ closed_slot
unfolding zero_record
zeros_right = refl
