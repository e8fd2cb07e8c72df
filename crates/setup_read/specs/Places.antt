-- The messages by the table's columns: the byte where each row begins. The code reads so; proofs/Reading shows that this is what the
-- rows give.
-- Assumes nothing.
use Rattle.std.specs.Prelude.{ℕ, ◌+◌, ◌-◌, ◌*◌, ◌/◌, ◌%◌, Bool, false, List, ◌++◌, replicate, eqb, Some, None}
use Rattle.layout.specs.Layout.{number_at, bytes_at}
use Rattle.setup_read.specs.declared.Kind.{Kind}
use Rattle.setup_read.specs.declared.Kind.TheVariants.{Proposal, Decline}
use Rattle.setup_read.specs.declared.Message.{Message}
use Rattle.setup_read.specs.Clc.{offset_at, count_at}

-- the high four bits of a byte, the low four, and the bit 08
abbrev pub high : List ℕ → ℕ → ℕ
high l i = number_at l i 1 / 16

abbrev pub low : List ℕ → ℕ → ℕ
low l i = number_at l i 1 % 16

abbrev pub bit08 : List ℕ → ℕ → Bool
bit08 l i = eqb (number_at l i 1 / 8 % 2) 1

abbrev pub zeros : ℕ → List ℕ
zeros n = replicate n 0

-- no message: all zero
unfoldable pub no_message : Message
no_message =
    record {
      kind = None;
      version = 0;
      first = false;
      sync = false;
      peer = zeros 8;
      gid = zeros 16;
      mac = zeros 6;
      qp = 0;
      key = 0;
      index = 0;
      token = 0;
      code = 0;
      mtu = 0;
      base = 0;
      psn = 0;
      offset = 0;
      mask = zeros 4;
      masklen = 0;
      count = 0;
      prefixes = zeros 136;
      diagnosis = 0;
    }

unfoldable pub proposal_at : List ℕ → Message
proposal_at l =
    record {
      kind = Some Proposal;
      version = high l 7;
      first = false;
      sync = false;
      peer = bytes_at l 8 8;
      gid = bytes_at l 16 16;
      mac = bytes_at l 32 6;
      qp = 0;
      key = 0;
      index = 0;
      token = 0;
      code = 0;
      mtu = 0;
      base = 0;
      psn = 0;
      offset = offset_at l;
      mask = bytes_at l (40 + offset_at l) 4;
      masklen = number_at l (44 + offset_at l) 1;
      count = count_at l;
      prefixes = bytes_at l (48 + offset_at l) (17 * count_at l) ++ zeros (136 - 17 * count_at l);
      diagnosis = 0;
    }

-- an Accept or a Confirm
unfoldable pub endpoint_at : Kind → Bool → List ℕ → Message
endpoint_at k f l =
    record {
      kind = Some k;
      version = high l 7;
      first = f;
      sync = false;
      peer = bytes_at l 8 8;
      gid = bytes_at l 16 16;
      mac = bytes_at l 32 6;
      qp = number_at l 38 3;
      key = number_at l 41 4;
      index = number_at l 45 1;
      token = number_at l 46 4;
      code = high l 50;
      mtu = low l 50;
      base = number_at l 52 8;
      psn = number_at l 61 3;
      offset = 0;
      mask = zeros 4;
      masklen = 0;
      count = 0;
      prefixes = zeros 136;
      diagnosis = 0;
    }

unfoldable pub decline_at : List ℕ → Message
decline_at l =
    record {
      kind = Some Decline;
      version = high l 7;
      first = false;
      sync = bit08 l 7;
      peer = bytes_at l 8 8;
      gid = zeros 16;
      mac = zeros 6;
      qp = 0;
      key = 0;
      index = 0;
      token = 0;
      code = 0;
      mtu = 0;
      base = 0;
      psn = 0;
      offset = 0;
      mask = zeros 4;
      masklen = 0;
      count = 0;
      prefixes = zeros 136;
      diagnosis = number_at l 16 4;
    }
