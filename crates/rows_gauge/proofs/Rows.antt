-- Every row of specs/Rows comes out as it says, by computation. Assumes nothing.
use mathlib.Core.Path.{refl}
use lib.Ieee.{add, sub, mul, lt, of_int, of_bits}
use Rattle.gauge.specs.Gauge.{smoothed, late_at, sampled_of, health_of, view_of}
use Rattle.rows_gauge.specs.Rows.{rows, views, RowsRight}

pub rows_right : RowsRight
unfolding smoothed late_at sampled_of health_of view_of add sub mul lt of_int of_bits rows views
rows_right = record { samples = refl; health = refl; view = refl; cleared = refl; most = refl }
