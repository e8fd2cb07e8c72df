-- Document 01, "Desk calls", and RFC 7609, A.3: the class of each of the 256 first bytes, one after the other. 0 is unknown, 1 named, 2 a
-- cursor message, 3 optional. proofs/Classes proves it by computation. Assumes nothing.
use Rattle.std.specs.Prelude.{ℕ, zero, suc, ◌+◌, ◌≡◌, List, [], ◌∷◌, ◌++◌, map, replicate}
use Rattle.link_message.specs.declared.Kind.TheVariants.{ConfirmLink, AddLink, AddLinkContinuation, DeleteLink, ConfirmRkey, TestLink}
use Rattle.link_message.specs.declared.Kind.TheVariants.{ConfirmRkeyContinuation, DeleteRkey}
use Rattle.link_message.specs.Layouts.{code_of, kind_of}
use Rattle.link_message.specs.Llc.{class_of}

abbrev from : ℕ → ℕ → List ℕ
from i zero = []
from i (suc n) = i ∷ from (i + 1) n

unfoldable pub classes : List ℕ
classes =
    0 ∷ 1 ∷ 1 ∷ 1 ∷ 1 ∷ 0 ∷ 1 ∷ 1 ∷ 1 ∷ 1  -- 00 to 09
    ∷ (replicate 118 0  -- 0A to 7F
    ++ (replicate 64 3  -- 80 to BF
    ++ (replicate 62 0  -- C0 to FD
    ++ (2 ∷ 0 ∷ []))))  -- FE, FF

pub record FirstBytes : Type 0 where
  pub class : map class_of (from 0 256) ≡ classes
  -- the kinds of the eight that are named
  pub kind : map kind_of (1 ∷ 2 ∷ 3 ∷ 4 ∷ 6 ∷ 7 ∷ 8 ∷ 9 ∷ [])
      ≡ ConfirmLink ∷ AddLink ∷ AddLinkContinuation ∷ DeleteLink ∷ ConfirmRkey ∷ TestLink ∷ ConfirmRkeyContinuation ∷ DeleteRkey ∷ []
  pub code : map code_of
      (ConfirmLink ∷ AddLink ∷ AddLinkContinuation ∷ DeleteLink ∷ ConfirmRkey ∷ TestLink ∷ ConfirmRkeyContinuation ∷ DeleteRkey ∷ [])
      ≡ 1 ∷ 2 ∷ 3 ∷ 4 ∷ 6 ∷ 7 ∷ 8 ∷ 9 ∷ []
