-- Refusal 3 in the pages' words: "An open record is coherent if ..", of any record, with no definition of `cursor` or `connection` but
-- the one that every call tests, `coherentB`. proofs/Coherence proves that the two are one. Assumes nothing.
use Rattle.std.specs.Prelude.{ℕ, ◌+◌, ◌-◌, ◌*◌, ◌%◌, ◌≤◌, ◌<◌, ◌≡◌, true}
use Rattle.cursor.specs.declared.Cursor.{Cursor}
use Rattle.conn_record.specs.declared.Remote.{Remote}
use Rattle.conn_record.specs.declared.Record.{Record}
use Rattle.conn_record.specs.Connection.{coherent_b}

-- "Offsets run from 4 to N-1"
pub record InRange (N : ℕ) (c : Cursor) : Type 0 where
  pub least : 4 ≤ c.offset
  pub most : c.offset < N

-- ((w2 - w1) mod 65,536) x D + c2, which is c1 and the distance
abbrev pub reach : ℕ → Cursor → Cursor → ℕ
reach D a b = (b.wrap % 65536 + 65536 - a.wrap % 65536) % 65536 * D + b.offset

-- "it counts as good only from 0 to D"
pub record Good (D : ℕ) (a b : Cursor) : Type 0 where
  pub from_0 : a.offset ≤ reach D a b
  pub to_D : reach D a b ≤ a.offset + D

-- "an urgent place lies after R up to Q, or after C up to P"
pub record Stands (N : ℕ) (from to at : Cursor) : Type 0 where
  pub is_in_range : InRange N at
  pub good : Good (N - 4) from at
  pub after : from.offset < reach (N - 4) from at
  pub up_to : reach (N - 4) from at ≤ reach (N - 4) from to

-- "N' (8 to 65,540)", "an index outside 1 to 255", "an element whose last byte would pass the top of 64 bits on any link"
pub record Peer (r : Remote) : Type 0 where
  pub size_least : 8 ≤ r.size
  pub size_most : r.size ≤ 65540
  pub index_least : 1 ≤ r.index
  pub index_most : r.index ≤ 255
  pub top1 : r.link1.base + r.index * r.size ≤ 18446744073709551616
  pub top2 : r.link2.base + r.index * r.size ≤ 18446744073709551616
  pub top3 : r.link3.base + r.index * r.size ≤ 18446744073709551616
  pub top4 : r.link4.base + r.index * r.size ≤ 18446744073709551616

pub record Coherent (N : ℕ) (c : Record) : Type 0 where
  -- "both tokens are nonzero, link and N' are in range"
  pub own : 0 < c.id.own
  pub peer : 0 < c.id.peer
  pub link_least : 1 ≤ c.id.link
  pub link_most : c.id.link ≤ 4
  pub theirs : Peer c.remote
  -- "all offsets are in range"
  pub P : InRange N c.inbound.producer
  pub C : InRange N c.inbound.consumer
  pub T : InRange N c.inbound.told
  pub Q : InRange c.remote.size c.outbound.producer
  pub R : InRange c.remote.size c.outbound.consumer
  -- "the distances T to C and C to P are good and sum to at most D"
  pub T_to_C : Good (N - 4) c.inbound.told c.inbound.consumer
  pub C_to_P : Good (N - 4) c.inbound.consumer c.inbound.producer
  pub sum :
      reach (N - 4) c.inbound.told c.inbound.consumer + reach (N - 4) c.inbound.consumer c.inbound.producer
      ≤ c.inbound.told.offset + c.inbound.consumer.offset + (N - 4)
  -- "the distance R to Q is good by D'"
  pub R_to_Q : Good (c.remote.size - 4) c.outbound.consumer c.outbound.producer
  -- "the close marks sent and heard are not both C"
  pub not_both : c.marks.sent.closed ≡ true → c.marks.heard.closed ≡ true → ⊥
  pub urgent_inbound : c.inbound.urgent.standing ≡ true → Stands N c.inbound.consumer c.inbound.producer c.inbound.urgent.place
  pub urgent-out :
      c.outbound.urgent.standing ≡ true
      → Stands c.remote.size c.outbound.consumer c.outbound.producer c.outbound.urgent.place

abbrev pub CoherentExactly : Type 0
CoherentExactly = (N : ℕ) (c : Record) → (coherent_b N c ≡ true → Coherent N c) × (Coherent N c → coherent_b N c ≡ true)
