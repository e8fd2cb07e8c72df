-- What a console shows of a link, in numbers. Assumes nothing.
use Rattle.std.specs.Prelude.{ℕ}
use Rattle.gauge.specs.declared.View.{View}
use Rattle.gauge.specs.declared.Word.{Word}
use Rattle.gauge.specs.declared.Word.TheVariants.{Unheard, Steady, Late}
use Rattle.c_call.specs.declared.FlatView.{FlatView}

-- the numbers of `withHealth`
abbrev pub word_number : Word → ℕ
word_number Unheard = 1
word_number Steady = 2
word_number Late = 3

abbrev pub flat_view : View → FlatView
flat_view v = record { health = word_number v.word; shown = v.shown; mean = v.mean; worst = v.worst }
