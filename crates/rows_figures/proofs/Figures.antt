-- Every message of specs/Figures, by computation. Assumes nothing.
use mathlib.Core.Path.{refl}
use Rattle.layout.specs.Layout.{bits_of, number_of, spread, gather, lay_out, cut, written_of, fields_of, number_at}
use Rattle.link_message.specs.Layouts.{table_of, value_at, values_in, reduced, third_first, laid_rows, rows_of, nums, encode_of}
use Rattle.setup_read.specs.Clc as Clc
use Rattle.rows_figures.specs.Figures.{link_messages, AsDrawn, setup_messages, SetupAsDrawn}

pub as_drawn : AsDrawn
unfolding bits_of number_of spread gather lay_out written_of number_at table_of value_at values_in reduced third_first laid_rows rows_of nums encode_of
    link_messages
as_drawn = record { written = refl; was_read_of = refl }

pub setup_as_drawn : SetupAsDrawn
unfolding bits_of number_of spread gather lay_out cut written_of fields_of number_at Clc.table Clc.values Clc.message_of Clc.rows_in Clc.chosen
    Clc.restored Clc.lines_of Clc.rows_of Clc.chosen_of Clc.size_of Clc.encode_of Clc.begins_b Clc.sized_b Clc.message_b Clc.kind_of Clc.kind_in
    Clc.message_in Clc.read_of setup_messages
setup_as_drawn = record { written = refl; was_read_of = refl }
