-- No call is left without a number, and links are handed in and out without loss. Proved in proofs/Theorem.antt. Assumes nothing.
use Rattle.std.specs.Prelude.{◌≡◌, true}
use Rattle.group_make.specs.declared.Command.{Command}
use Rattle.c_call.specs.declared.FlatCommand.{FlatCommand}
use Rattle.c_call.specs.declared.FlatLinks.{FlatLinks}
use Rattle.c_call.specs.Flat.{known_b, named_of, links_in, flat_links}
use Rattle.group_table.specs.declared.Links.{Links}

-- a flat command that names the call
pub record Numbered (c : Command) : Type 0 where
  pub by : FlatCommand
  pub known : known_b by ≡ true
  pub names : named_of by ≡ c

abbrev pub EveryCallNumbered : Type 0
EveryCallNumbered = (c : Command) → Numbered c

-- each direction undoes the other
abbrev pub LinksBack : Type 0
LinksBack = (l : Links) → links_in (flat_links l) ≡ l

abbrev pub FlatBack : Type 0
FlatBack = (f : FlatLinks) → flat_links (links_in f) ≡ f
