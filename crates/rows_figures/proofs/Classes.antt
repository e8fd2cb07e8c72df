-- The classes of specs/Classes, by computation. Assumes nothing.
use mathlib.Core.Path.{refl}
use Rattle.link_message.specs.Llc.{class_of}
use Rattle.link_message.specs.Layouts.{kind_of}
use Rattle.rows_figures.specs.Classes.{classes, FirstBytes}

pub first_bytes : FirstBytes
unfolding class_of kind_of classes
first_bytes = record { class = refl; kind = refl; code = refl }
