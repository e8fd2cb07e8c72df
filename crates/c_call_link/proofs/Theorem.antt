-- Every call on the links has a number. Assumes nothing.
use Prim.Native.Nat.{ℕ}
use mathlib.Core.Path.{◌≡◌, refl, ap}
use mathlib.Core.Bool.{Bool, true, false}
use mathlib.Core.List.{List}
use Rattle.link_message.specs.Llc.{class_of}
use Rattle.link_message.specs.declared.Kind.{Kind}
use Rattle.link_message.specs.declared.Kind.TheVariants as Kinds
use Rattle.link_message.specs.Layouts.{code_of, kind_of, named_b}
use Rattle.group_link.specs.declared.LinkCommand.TheVariants.{Change, Message, Send}
use Rattle.c_call_link.specs.declared.FlatLinkCommand.{FlatLinkCommand}
use Rattle.c_call_link.specs.FlatLink.{link_known_b, link_named_of}
use Rattle.c_call_link.specs.Statement.{EveryLinkCallNumbered}

abbrev call : ℕ → ℕ → Bool → ℕ → List ℕ → FlatLinkCommand
call number link up kind vs = record { number = number; link = link; up = up; fields = record { kind = kind; values = vs } }

kind_named : (k : Kind) → named_b (code_of k) ≡ true
unfolding named_b class_of
kind_named Kinds.ConfirmLink = refl
kind_named Kinds.AddLink = refl
kind_named Kinds.AddLinkContinuation = refl
kind_named Kinds.DeleteLink = refl
kind_named Kinds.ConfirmRkey = refl
kind_named Kinds.TestLink = refl
kind_named Kinds.ConfirmRkeyContinuation = refl
kind_named Kinds.DeleteRkey = refl

kind_back : (k : Kind) → kind_of (code_of k) ≡ k
unfolding kind_of
kind_back Kinds.ConfirmLink = refl
kind_back Kinds.AddLink = refl
kind_back Kinds.AddLinkContinuation = refl
kind_back Kinds.DeleteLink = refl
kind_back Kinds.ConfirmRkey = refl
kind_back Kinds.TestLink = refl
kind_back Kinds.ConfirmRkeyContinuation = refl
kind_back Kinds.DeleteRkey = refl

pub every_link_call_numbered : EveryLinkCallNumbered
unfolding link_known_b link_named_of
every_link_call_numbered (Change l up) vs = record { by = call 3 l up 0 vs; known = refl; names = refl; gives = refl }
every_link_call_numbered (Message l) vs = record { by = call 13 l false 0 vs; known = refl; names = refl; gives = refl }
every_link_call_numbered (Send l k) vs =
    record { by = call 14 l false (code_of k) vs; known = kind_named k; names = ap (Send l) (kind_back k); gives = refl }
