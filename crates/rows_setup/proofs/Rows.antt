-- Every row of specs/Rows comes out as it says, by computation. Assumes nothing.
use mathlib.Core.Path.{refl}
use Rattle.layout.specs.Layout.{bits_of, number_of, spread, gather, lay_out, cut, written_of, fields_of, number_at, are_bytes, fits}
use Rattle.setup_read.specs.Codes.{bytes_of_code, code_of}
use Rattle.setup_read.specs.Clc as Clc
use Rattle.setup.specs.Setup.{our_proposal, ours as oursOf, our_decline, arguments_of, silent, saying, taken_b, answered_of, heard_of, setup_of}
use Rattle.rows_setup.specs.Rows.{codes, CodesRight, ours, rows, RowsRight, NumbersRight, sorts, SortsRight}

pub codes_right : CodesRight
unfolding bytes_of_code code_of codes
codes_right = record { bytes = refl; coded = refl; none = refl }

pub rows_right : RowsRight
unfolding bits_of number_of spread gather lay_out cut written_of fields_of number_at are_bytes fits bytes_of_code code_of
    Clc.table Clc.values Clc.message_of Clc.rows_in Clc.chosen Clc.restored Clc.lines_of Clc.rows_of Clc.chosen_of Clc.size_of Clc.fits_of
    Clc.encode_of Clc.writes_b Clc.written_count Clc.written_over Clc.begins_b Clc.sized_b Clc.message_b Clc.kind_of Clc.kind_in Clc.message_in
    Clc.read_of our_proposal oursOf our_decline arguments_of silent saying taken_b answered_of heard_of setup_of ours rows
rows_right = refl

pub sorts_right : SortsRight
unfolding bits_of number_of spread gather number_at Clc.begins_b Clc.sized_b Clc.message_b Clc.kind_of Clc.kind_in sorts
sorts_right = refl

pub numbers_right : NumbersRight
numbers_right = record { uncoded = refl; no_message = refl; not_due = refl }
