-- RFC 7609, Appendix A.2 (Figures 26 to 30) and A.3 (Figures 31 to 40): whole messages, written byte for byte from the drawings and not by
-- any writer of ours. Each byte of a field holds its own number, so that a field that lies elsewhere, or has another width, reads otherwise;
-- reserved bytes are 00, flags stand alone and together. Assumes nothing.
use Rattle.std.specs.Prelude.{ℕ, zero, suc, ◌-◌, ◌/◌, ◌%◌, ◌^◌, ◌≡◌, true, false, List, [], ◌∷◌, ◌++◌, map, replicate, Some}
use Rattle.link_message.specs.declared.Kind.{Kind}
use Rattle.link_message.specs.declared.Kind.TheVariants.{ConfirmLink, AddLink, AddLinkContinuation, DeleteLink, ConfirmRkey, TestLink, ConfirmRkeyContinuation, DeleteRkey}
use Rattle.link_message.specs.Layouts.{table_of, values_in, encode_of}
use Rattle.setup_read.specs.declared.Kind.TheVariants.{Proposal, Accept, Confirm, Decline}
use Rattle.setup_read.specs.declared.Message.{Message}
use Rattle.setup_read.specs.Clc as Clc

-- the k bytes of a number, high byte first
abbrev octets : ℕ → ℕ → List ℕ
octets zero x = []
octets (suc k) x = x / 256 ^ k % 256 ∷ octets k x

-- 44 bytes, the first k of them those of a number, zeros behind
abbrev message : ℕ → ℕ → List ℕ
message k x = octets k x ++ replicate (44 - k) 0

-- A.3. A link message: its kind, its bytes, its fields in the order of the drawing, flags first
pub record Drawn : Type 0 where
  pub kind : Kind
  pub bytes : List ℕ
  pub fields : List ℕ

abbrev drawn : Kind → List ℕ → List ℕ → Drawn
drawn k b f = record { kind = k; bytes = b; fields = f }

unfoldable pub link_messages : List Drawn
link_messages =
    -- Figure 31, CONFIRM LINK: R; MAC 4-9, GID 10-25, QP 26-28, link 29, user ID 30-33, max links 34
    drawn ConfirmLink (message 35 0x012C0080_040506070809_0A0B0C0D0E0F10111213141516171819_1A1B1C_1D_1E1F2021_22)
    (1 ∷ 0x040506070809 ∷ 0x0A0B0C0D0E0F1011 ∷ 0x1213141516171819 ∷ 0x1A1B1C ∷ 0x1D ∷ 0x1E1F2021 ∷ 0x22 ∷ [])
    ∷ drawn ConfirmLink (message 35 0x012C0000_040506070809_0A0B0C0D0E0F10111213141516171819_1A1B1C_1D_1E1F2021_22)
    (0 ∷ 0x040506070809 ∷ 0x0A0B0C0D0E0F1011 ∷ 0x1213141516171819 ∷ 0x1A1B1C ∷ 0x1D ∷ 0x1E1F2021 ∷ 0x22 ∷ [])
    -- Figure 32, ADD LINK: R, Z, reason; MAC 4-9, GID 10-25, QP 26-28, link 29, MTU 30, low half, initial PSN 31-33
    ∷ drawn AddLink (message 34 0x022C02C0_040506070809_0A0B0C0D0E0F10111213141516171819_1A1B1C_1D_0E_1F2021)
    (1 ∷ 1 ∷ 2 ∷ 0x040506070809 ∷ 0x0A0B0C0D0E0F1011 ∷ 0x1213141516171819 ∷ 0x1A1B1C ∷ 0x1D ∷ 0xE ∷ 0x1F2021 ∷ [])
    ∷ drawn AddLink (message 34 0x022C0F80_040506070809_0A0B0C0D0E0F10111213141516171819_1A1B1C_1D_0E_1F2021)
    (1 ∷ 0 ∷ 15 ∷ 0x040506070809 ∷ 0x0A0B0C0D0E0F1011 ∷ 0x1213141516171819 ∷ 0x1A1B1C ∷ 0x1D ∷ 0xE ∷ 0x1F2021 ∷ [])
    ∷ drawn AddLink (message 34 0x022C0140_040506070809_0A0B0C0D0E0F10111213141516171819_1A1B1C_1D_0E_1F2021)
    (0 ∷ 1 ∷ 1 ∷ 0x040506070809 ∷ 0x0A0B0C0D0E0F1011 ∷ 0x1213141516171819 ∷ 0x1A1B1C ∷ 0x1D ∷ 0xE ∷ 0x1F2021 ∷ [])
    -- Figures 33 and 34, ADD LINK CONTINUATION: R; link 4, RTokens left 5; reference RKey 8-11, new RKey 12-15, address 16-23; again from 24
    ∷ drawn AddLinkContinuation (message 40 0x032C0080_04_05_0000_08090A0B_0C0D0E0F_1011121314151617_18191A1B_1C1D1E1F_2021222324252627)
    (1 ∷ 4 ∷ 5 ∷ 0x08090A0B ∷ 0x0C0D0E0F ∷ 0x1011121314151617 ∷ 0x18191A1B ∷ 0x1C1D1E1F ∷ 0x2021222324252627 ∷ [])
    ∷ drawn AddLinkContinuation (message 40 0x032C0000_04_05_0000_08090A0B_0C0D0E0F_1011121314151617_18191A1B_1C1D1E1F_2021222324252627)
    (0 ∷ 4 ∷ 5 ∷ 0x08090A0B ∷ 0x0C0D0E0F ∷ 0x1011121314151617 ∷ 0x18191A1B ∷ 0x1C1D1E1F ∷ 0x2021222324252627 ∷ [])
    -- Figure 35, DELETE LINK: R, A, O; link 4, reason 5-8
    ∷ drawn DeleteLink (message 9 0x042C00E0_04_05060708)
    (1 ∷ 1 ∷ 1 ∷ 4 ∷ 0x05060708 ∷ [])
    ∷ drawn DeleteLink (message 9 0x042C0080_04_05060708)
    (1 ∷ 0 ∷ 0 ∷ 4 ∷ 0x05060708 ∷ [])
    ∷ drawn DeleteLink (message 9 0x042C0040_04_05060708)
    (0 ∷ 1 ∷ 0 ∷ 4 ∷ 0x05060708 ∷ [])
    ∷ drawn DeleteLink (message 9 0x042C0020_04_05060708)
    (0 ∷ 0 ∷ 1 ∷ 4 ∷ 0x05060708 ∷ [])
    -- Figures 36 and 37, CONFIRM RKEY: R, Z, C; RTokens 4; RKey 5-8 and address 9-16 on this link; link 17, RKey 18-21, address 22-29; again
    -- from 30
    ∷ drawn ConfirmRkey (message 43 0x062C00B0_04_05060708_090A0B0C0D0E0F10_11_12131415_161718191A1B1C1D_1E_1F202122_232425262728292A)
    (1 ∷ 1 ∷ 1 ∷ 4 ∷ 0x05060708 ∷ 0x090A0B0C0D0E0F10 ∷ 0x11 ∷ 0x12131415 ∷ 0x161718191A1B1C1D ∷ 0x1E ∷ 0x1F202122 ∷ 0x232425262728292A ∷ [])
    ∷ drawn ConfirmRkey (message 43 0x062C0080_04_05060708_090A0B0C0D0E0F10_11_12131415_161718191A1B1C1D_1E_1F202122_232425262728292A)
    (1 ∷ 0 ∷ 0 ∷ 4 ∷ 0x05060708 ∷ 0x090A0B0C0D0E0F10 ∷ 0x11 ∷ 0x12131415 ∷ 0x161718191A1B1C1D ∷ 0x1E ∷ 0x1F202122 ∷ 0x232425262728292A ∷ [])
    ∷ drawn ConfirmRkey (message 43 0x062C0020_04_05060708_090A0B0C0D0E0F10_11_12131415_161718191A1B1C1D_1E_1F202122_232425262728292A)
    (0 ∷ 1 ∷ 0 ∷ 4 ∷ 0x05060708 ∷ 0x090A0B0C0D0E0F10 ∷ 0x11 ∷ 0x12131415 ∷ 0x161718191A1B1C1D ∷ 0x1E ∷ 0x1F202122 ∷ 0x232425262728292A ∷ [])
    ∷ drawn ConfirmRkey (message 43 0x062C0010_04_05060708_090A0B0C0D0E0F10_11_12131415_161718191A1B1C1D_1E_1F202122_232425262728292A)
    (0 ∷ 0 ∷ 1 ∷ 4 ∷ 0x05060708 ∷ 0x090A0B0C0D0E0F10 ∷ 0x11 ∷ 0x12131415 ∷ 0x161718191A1B1C1D ∷ 0x1E ∷ 0x1F202122 ∷ 0x232425262728292A ∷ [])
    -- Figure 40, TEST LINK: R; user data 4-19
    ∷ drawn TestLink (message 20 0x072C0080_0405060708090A0B_0C0D0E0F10111213)
    (1 ∷ 0x0405060708090A0B ∷ 0x0C0D0E0F10111213 ∷ [])
    ∷ drawn TestLink (message 20 0x072C0000_0405060708090A0B_0C0D0E0F10111213)
    (0 ∷ 0x0405060708090A0B ∷ 0x0C0D0E0F10111213 ∷ [])
    -- Figures 38 and 37, CONFIRM RKEY CONTINUATION: R, Z; RTokens left 4; link 5, RKey 6-9, address 10-17; again from 18 and from 31 (the last
    -- byte of Figure 38 is drawn as reserved; three specifications of Figure 37 end with it)
    ∷ drawn ConfirmRkeyContinuation (message 44 0x082C00A0_04_05_06070809_0A0B0C0D0E0F1011_12_13141516_1718191A1B1C1D1E_1F_20212223_2425262728292A2B)
    (1 ∷ 1 ∷ 4 ∷ 5 ∷ 0x06070809 ∷ 0x0A0B0C0D0E0F1011 ∷ 0x12 ∷ 0x13141516 ∷ 0x1718191A1B1C1D1E ∷ 0x1F ∷ 0x20212223 ∷ 0x2425262728292A2B ∷ [])
    ∷ drawn ConfirmRkeyContinuation (message 44 0x082C0080_04_05_06070809_0A0B0C0D0E0F1011_12_13141516_1718191A1B1C1D1E_1F_20212223_2425262728292A2B)
    (1 ∷ 0 ∷ 4 ∷ 5 ∷ 0x06070809 ∷ 0x0A0B0C0D0E0F1011 ∷ 0x12 ∷ 0x13141516 ∷ 0x1718191A1B1C1D1E ∷ 0x1F ∷ 0x20212223 ∷ 0x2425262728292A2B ∷ [])
    ∷ drawn ConfirmRkeyContinuation (message 44 0x082C0020_04_05_06070809_0A0B0C0D0E0F1011_12_13141516_1718191A1B1C1D1E_1F_20212223_2425262728292A2B)
    (0 ∷ 1 ∷ 4 ∷ 5 ∷ 0x06070809 ∷ 0x0A0B0C0D0E0F1011 ∷ 0x12 ∷ 0x13141516 ∷ 0x1718191A1B1C1D1E ∷ 0x1F ∷ 0x20212223 ∷ 0x2425262728292A2B ∷ [])
    -- Figure 39, DELETE RKEY: R, Z; count 4, error mask 5, eight RKeys from 8
    ∷ drawn DeleteRkey (message 40 0x092C00A0_04_05_0000_08090A0B_0C0D0E0F_10111213_14151617_18191A1B_1C1D1E1F_20212223_24252627)
    (1 ∷ 1 ∷ 4 ∷ 5 ∷ 0x08090A0B ∷ 0x0C0D0E0F ∷ 0x10111213 ∷ 0x14151617 ∷ 0x18191A1B ∷ 0x1C1D1E1F ∷ 0x20212223 ∷ 0x24252627 ∷ [])
    ∷ drawn DeleteRkey (message 40 0x092C0080_04_05_0000_08090A0B_0C0D0E0F_10111213_14151617_18191A1B_1C1D1E1F_20212223_24252627)
    (1 ∷ 0 ∷ 4 ∷ 5 ∷ 0x08090A0B ∷ 0x0C0D0E0F ∷ 0x10111213 ∷ 0x14151617 ∷ 0x18191A1B ∷ 0x1C1D1E1F ∷ 0x20212223 ∷ 0x24252627 ∷ [])
    ∷ drawn DeleteRkey (message 40 0x092C0020_04_05_0000_08090A0B_0C0D0E0F_10111213_14151617_18191A1B_1C1D1E1F_20212223_24252627)
    (0 ∷ 1 ∷ 4 ∷ 5 ∷ 0x08090A0B ∷ 0x0C0D0E0F ∷ 0x10111213 ∷ 0x14151617 ∷ 0x18191A1B ∷ 0x1C1D1E1F ∷ 0x20212223 ∷ 0x24252627 ∷ [])
    ∷ []

-- each is written so of its fields, and is read so
pub record AsDrawn : Type 0 where
  pub written : map (λ d. encode_of d.kind d.fields) link_messages ≡ map (λ d. d.bytes) link_messages
  pub was_read_of : map (λ d. values_in (table_of d.kind) d.bytes) link_messages ≡ map (λ d. d.fields) link_messages

-- A.2. The messages exchanged over TCP: bytes and fields
pub record Exchanged : Type 0 where
  pub bytes : List ℕ
  pub fields : Message

unfoldable pub setup_messages : List Exchanged
setup_messages =
    -- Figures 26 and 27, Proposal: type 1, length 69, version 1; peer ID 8-15, GID 16-31, MAC 32-37, offset 0; mask 40-43, its length 44,
    -- one prefix of 17 bytes from 48
    record {
      bytes = octets 69 0xE2D4C3D9_01_0045_10_08090A0B0C0D0E0F_101112131415161718191A1B1C1D1E1F_202122232425_0000_28292A2B_2C_0000_01_303132333435363738393A3B3C3D3E3F_40_E2D4C3D9;
      fields =
          record {
            kind = Some Proposal;
            version = 1;
            first = false;
            sync = false;
            peer = octets 8 0x08090A0B0C0D0E0F;
            gid = octets 16 0x101112131415161718191A1B1C1D1E1F;
            mac = octets 6 0x202122232425;
            qp = 0;
            key = 0;
            index = 0;
            token = 0;
            code = 0;
            mtu = 0;
            base = 0;
            psn = 0;
            offset = 0;
            mask = octets 4 0x28292A2B;
            masklen = 0x2C;
            count = 1;
            prefixes = octets 17 0x303132333435363738393A3B3C3D3E3F40 ++ replicate 119 0;
            diagnosis = 0;
          };
    }
    -- the same, version 2, with three bytes for growth and no prefix: all behind them three bytes on
    ∷ record {
      bytes = octets 55 0xE2D4C3D9_01_0037_20_08090A0B0C0D0E0F_101112131415161718191A1B1C1D1E1F_202122232425_0003_000000_2B2C2D2E_2F_0000_00_E2D4C3D9;
      fields =
          record {
            kind = Some Proposal;
            version = 2;
            first = false;
            sync = false;
            peer = octets 8 0x08090A0B0C0D0E0F;
            gid = octets 16 0x101112131415161718191A1B1C1D1E1F;
            mac = octets 6 0x202122232425;
            qp = 0;
            key = 0;
            index = 0;
            token = 0;
            code = 0;
            mtu = 0;
            base = 0;
            psn = 0;
            offset = 3;
            mask = octets 4 0x2B2C2D2E;
            masklen = 0x2F;
            count = 0;
            prefixes = replicate 136 0;
            diagnosis = 0;
          };
    }
    -- Figure 28, Accept: type 2, length 68, version 1, F; peer ID 8-15, GID 16-31, MAC 32-37, QP 38-40, RKey 41-44, index 45, alert token
    -- 46-49, size 50, high half, MTU 50, low half, address 52-59, initial PSN 61-63
    ∷ record {
      bytes = octets 68 0xE2D4C3D9_02_0044_18_08090A0B0C0D0E0F_101112131415161718191A1B1C1D1E1F_202122232425_262728_292A2B2C_2D_2E2F3031_32_00_3435363738393A3B_00_3D3E3F_E2D4C3D9;
      fields =
          record {
            kind = Some Accept;
            version = 1;
            first = true;
            sync = false;
            peer = octets 8 0x08090A0B0C0D0E0F;
            gid = octets 16 0x101112131415161718191A1B1C1D1E1F;
            mac = octets 6 0x202122232425;
            qp = 0x262728;
            key = 0x292A2B2C;
            index = 0x2D;
            token = 0x2E2F3031;
            code = 3;
            mtu = 2;
            base = 0x3435363738393A3B;
            psn = 0x3D3E3F;
            offset = 0;
            mask = replicate 4 0;
            masklen = 0;
            count = 0;
            prefixes = replicate 136 0;
            diagnosis = 0;
          };
    }
    -- F off
    ∷ record {
      bytes = octets 68 0xE2D4C3D9_02_0044_10_08090A0B0C0D0E0F_101112131415161718191A1B1C1D1E1F_202122232425_262728_292A2B2C_2D_2E2F3031_32_00_3435363738393A3B_00_3D3E3F_E2D4C3D9;
      fields =
          record {
            kind = Some Accept;
            version = 1;
            first = false;
            sync = false;
            peer = octets 8 0x08090A0B0C0D0E0F;
            gid = octets 16 0x101112131415161718191A1B1C1D1E1F;
            mac = octets 6 0x202122232425;
            qp = 0x262728;
            key = 0x292A2B2C;
            index = 0x2D;
            token = 0x2E2F3031;
            code = 3;
            mtu = 2;
            base = 0x3435363738393A3B;
            psn = 0x3D3E3F;
            offset = 0;
            mask = replicate 4 0;
            masklen = 0;
            count = 0;
            prefixes = replicate 136 0;
            diagnosis = 0;
          };
    }
    -- Figure 29, Confirm: type 3, the same without F
    ∷ record {
      bytes = octets 68 0xE2D4C3D9_03_0044_10_08090A0B0C0D0E0F_101112131415161718191A1B1C1D1E1F_202122232425_262728_292A2B2C_2D_2E2F3031_32_00_3435363738393A3B_00_3D3E3F_E2D4C3D9;
      fields =
          record {
            kind = Some Confirm;
            version = 1;
            first = false;
            sync = false;
            peer = octets 8 0x08090A0B0C0D0E0F;
            gid = octets 16 0x101112131415161718191A1B1C1D1E1F;
            mac = octets 6 0x202122232425;
            qp = 0x262728;
            key = 0x292A2B2C;
            index = 0x2D;
            token = 0x2E2F3031;
            code = 3;
            mtu = 2;
            base = 0x3435363738393A3B;
            psn = 0x3D3E3F;
            offset = 0;
            mask = replicate 4 0;
            masklen = 0;
            count = 0;
            prefixes = replicate 136 0;
            diagnosis = 0;
          };
    }
    -- Figure 30, Decline: type 4, length 28, version 1, S; peer ID 8-15, diagnosis 16-19
    ∷ record {
      bytes = octets 28 0xE2D4C3D9_04_001C_18_08090A0B0C0D0E0F_10111213_00000000_E2D4C3D9;
      fields =
          record {
            kind = Some Decline;
            version = 1;
            first = false;
            sync = true;
            peer = octets 8 0x08090A0B0C0D0E0F;
            gid = replicate 16 0;
            mac = replicate 6 0;
            qp = 0;
            key = 0;
            index = 0;
            token = 0;
            code = 0;
            mtu = 0;
            base = 0;
            psn = 0;
            offset = 0;
            mask = replicate 4 0;
            masklen = 0;
            count = 0;
            prefixes = replicate 136 0;
            diagnosis = 0x10111213;
          };
    }
    ∷ []

pub record SetupAsDrawn : Type 0 where
  pub written : map (λ d. Clc.encode_of d.fields) setup_messages ≡ map (λ d. d.bytes) setup_messages
  pub was_read_of : map (λ d. Clc.read_of d.bytes) setup_messages ≡ map (λ d. d.fields) setup_messages
