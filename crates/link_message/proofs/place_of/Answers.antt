-- `link_message::place_of` meets its contract. Assumes nothing.
use Rattle.std.proofs.Common.{ℕ, ◌+◌, ap, refl}
use Rattle.link_message.specs.Layouts.{table_of}
use Rattle.link_message.proofs.Table.{all_rows, place_right}
use Rattle.link_message.proofs.place_of.Goals as goal

pub returns : goal.returns
unfolding all_rows table_of
returns c =
    let s = c.args in
    place_right s.kind (c.start.result + s.i) s.i _ _ _ _ refl refl refl refl (ap (λ (n : ℕ). n + s.i) c.start.ensures) c.requires
