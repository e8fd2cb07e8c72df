-- No call on the links is left without a number. Proved in proofs/Theorem.antt. Assumes nothing.
use Rattle.std.specs.Prelude.{ℕ, ◌≡◌, true, List}
use Rattle.group_link.specs.declared.LinkCommand.{LinkCommand}
use Rattle.c_call_link.specs.declared.FlatLinkCommand.{FlatLinkCommand}
use Rattle.c_call_link.specs.FlatLink.{link_known_b, link_named_of}

-- a flat command that names the call, with the values of a message to send
pub record LinkNumbered (c : LinkCommand) (vs : List ℕ) : Type 0 where
  pub by : FlatLinkCommand
  pub known : link_known_b by ≡ true
  pub names : link_named_of by ≡ c
  pub gives : by.fields.values ≡ vs

abbrev pub EveryLinkCallNumbered : Type 0
EveryLinkCallNumbered = (c : LinkCommand) (vs : List ℕ) → LinkNumbered c vs
