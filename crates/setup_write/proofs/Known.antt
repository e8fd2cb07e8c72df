-- What a message's type says of its fields: each number is below 2 to its type's bits, each array has its bytes.
-- Assumes nothing.
use Prim.Native.Nat.{ℕ, ◌<◌}
use mathlib.Core.Path.{◌≡◌, refl}
use mathlib.Core.Bool.{true, ◌&&◌}
use mathlib.Core.List.{List, [], ◌∷◌}
use lib.ListN.{length}
use borrow.Author.Tests.{lt-ltb}
use mir.Val.{Val}
use mir.Syntax
use denote.Laws.{Is}
use denote.Shadow.{shadow}
use denote.Array.{in_array, each}
use denote.Plain.{UInt}
use denote.Struct.Declared
use Rattle.layout.specs.Layout.{are_bytes}
use Rattle.setup_read.specs.declared.Message.{Message}
use Rattle.setup_read.specs.contracts.Message as M

-- so many bytes
pub record Bytes (n : ℕ) (b : List ℕ) : Type 0 where
  pub size : length b ≡ n
  pub small : are_bytes b ≡ true

pub record Typed (m : Message) : Type 0 where
  pub version : m.version < 256
  pub peer : Bytes 8 m.peer
  pub gid : Bytes 16 m.gid
  pub mac : Bytes 6 m.mac
  pub qp : m.qp < 4294967296
  pub key : m.key < 4294967296
  pub index : m.index < 256
  pub token : m.token < 4294967296
  pub code : m.code < 256
  pub mtu : m.mtu < 256
  pub base : m.base < 18446744073709551616
  pub psn : m.psn < 4294967296
  pub offset : m.offset < 65536
  pub mask : Bytes 4 m.mask
  pub masklen : m.masklen < 256
  pub count : m.count < 256
  pub prefixes : Bytes 136 m.prefixes
  pub diagnosis : m.diagnosis < 4294967296

all_bytes : (b : List ℕ) (us : List Val) → shadow (each ℕ (UInt Syntax.w8).own_val b us) → are_bytes b ≡ true
unfolding are_bytes
all_bytes [] us s = refl
all_bytes (x ∷ b) [] s = absurd s
all_bytes (x ∷ b) (u ∷ us) s = λ i. lt-ltb x 256 s.0.1 i && all_bytes b us s.1 i

an_array : (n : ℕ) (b : List ℕ) (vs : List Val) → shadow (in_array ℕ (UInt Syntax.w8).own_val n b vs) → Bytes n b
an_array n b vs s = record { size = s.1.0.1; small = all_bytes b s.0 s.1.1 }

pub known : (m : Message) (vs : List Val) → Is (Declared.row M.the_type) m vs → Typed m
known m vs s =
    let a = s.1.1.1.1.1.1 in
    let b = a.1.1.1.1.1.1.1 in
    let d = b.1.1.1.1.1 in
    record {
      version = s.1.1.1.0.1;
      peer = an_array 8 m.peer _ a.0;
      gid = an_array 16 m.gid _ a.1.0;
      mac = an_array 6 m.mac _ a.1.1.0;
      qp = a.1.1.1.0.1;
      key = a.1.1.1.1.0.1;
      index = a.1.1.1.1.1.0.1;
      token = a.1.1.1.1.1.1.0.1;
      code = b.0.1;
      mtu = b.1.0.1;
      base = b.1.1.0.1;
      psn = b.1.1.1.0.1;
      offset = b.1.1.1.1.0.1;
      mask = an_array 4 m.mask _ d.0;
      masklen = d.1.0.1;
      count = d.1.1.0.1;
      prefixes = an_array 136 m.prefixes _ d.1.1.1.0;
      diagnosis = d.1.1.1.1.0.1;
    }
