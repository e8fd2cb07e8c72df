-- The messages by the pieces that the code lays one behind the other. proofs/Writing shows that they are the rows laid out.
-- Assumes nothing.
use Rattle.std.specs.Prelude.{ℕ, ◌+◌, ◌*◌, Bool, ◌&&◌, ◌||◌, cond, List, ◌++◌, take, eqb}
use Rattle.layout.specs.Layout.{be_of}
use Rattle.setup_read.specs.declared.Message.{Message}
use Rattle.setup_read.specs.Clc.{eye_catcher}
use Rattle.setup_read.specs.Places.{zeros}

-- the bit 08 of byte 7 of a message of type t
abbrev pub flag_of : ℕ → Message → Bool
flag_of t m = eqb t 2 && m.first || eqb t 4 && m.sync

-- bytes 0-15, of a message of type t and n bytes
unfoldable pub head_of : ℕ → ℕ → Message → List ℕ
head_of t n m = be_of 4 eye_catcher ++ be_of 1 t ++ be_of 2 n ++ be_of 1 (m.version * 16 + cond (flag_of t m) 8 0) ++ m.peer

-- bytes 16-37
unfoldable pub port_of : Message → List ℕ
port_of m = m.gid ++ m.mac

-- bytes 38-67 of an Accept or a Confirm
unfoldable pub rmb_of : Message → List ℕ
rmb_of m =
    be_of 3 m.qp ++ be_of 4 m.key ++ be_of 1 m.index ++ be_of 4 m.token ++ be_of 1 (m.code * 16 + m.mtu) ++ zeros 1
    ++ be_of 8 m.base ++ zeros 1 ++ be_of 3 m.psn ++ be_of 4 eye_catcher

-- bytes 38 and on of a Proposal
unfoldable pub networks_of : Message → List ℕ
networks_of m =
    be_of 2 m.offset ++ zeros m.offset ++ m.mask ++ be_of 1 m.masklen ++ zeros 2 ++ be_of 1 m.count
    ++ take (17 * m.count) m.prefixes ++ be_of 4 eye_catcher

-- bytes 16-27 of a Decline
unfoldable pub diagnosis_of : Message → List ℕ
diagnosis_of m = be_of 4 m.diagnosis ++ zeros 4 ++ be_of 4 eye_catcher
