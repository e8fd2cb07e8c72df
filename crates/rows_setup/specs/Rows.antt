-- Request 2026-05 row by row: settings with every field another, what is due, the peer's bytes, and the whole answer. Bytes are written by
-- hand from RFC 7609, A.2 (Figures 26 to 30), and the page's table; no definition of `setup_read`, `setup_write` or `setup` stands in what a row
-- expects. proofs/Rows proves them by computation. Assumes nothing.
use Rattle.std.specs.Prelude.{ℕ, zero, suc, ◌+◌, ◌-◌, ◌*◌, ◌/◌, ◌%◌, ◌^◌, ◌≡◌, Bool, true, false, List, [], ◌∷◌, ◌++◌, map, replicate, Option, Some, None, Result, Ok, Err}
use Rattle.setup_read.specs.Codes.{bytes_of_code, code_of}
use Rattle.setup_read.specs.declared.Kind.{Kind}
use Rattle.setup_read.specs.declared.Kind.TheVariants.{Proposal, Accept, Confirm, Decline}
use Rattle.setup_read.specs.Clc.{kind_in}
use Rattle.setup.specs.declared.Settings.{Settings}
use Rattle.setup.specs.declared.Due.{Due}
use Rattle.setup.specs.declared.Arguments.{Arguments}
use Rattle.setup.specs.declared.Answered.{Answered}
use Rattle.setup.specs.declared.Refusal.{Refusal}
use Rattle.setup.specs.declared.Refusal.TheVariants.{Uncoded, NoMessage, NotDue}
use Rattle.setup.specs.declared.Answer.{Answer}
use Rattle.setup.specs.Setup.{refusal_number, setup_of}

-- the k bytes of a number, high byte first
abbrev octets : ℕ → ℕ → List ℕ
octets zero x = []
octets (suc k) x = x / 256 ^ k % 256 ∷ octets k x

abbrev zeros : ℕ → List ℕ
zeros n = replicate n 0

-- SIZE CODES: the table of 16, and N's code; 16 stands for none
unfoldable pub codes : List ℕ
codes = 16384 ∷ 32768 ∷ 65536 ∷ 131072 ∷ 262144 ∷ 524288 ∷ zeros 10

abbrev counting : ℕ → ℕ → List ℕ
counting i zero = []
counting i (suc n) = i ∷ counting (suc i) n

pub record CodesRight : Type 0 where
  pub bytes : map bytes_of_code (counting 0 16) ≡ codes
  pub coded : map code_of (16384 ∷ 32768 ∷ 65536 ∷ 131072 ∷ 262144 ∷ 524288 ∷ []) ≡ 0 ∷ 1 ∷ 2 ∷ 3 ∷ 4 ∷ 5 ∷ []
  pub none : map code_of (0 ∷ 1 ∷ 8 ∷ 16 ∷ 10000 ∷ 16380 ∷ 16383 ∷ 16385 ∷ 16388 ∷ 32772 ∷ 65535 ∷ 65540 ∷ 1048576 ∷ []) ≡ replicate 13 16

-- OUR SETTINGS: N 32,768, code 1; link 2; QP number, MTU and PSN wider than their rows
unfoldable pub ours : ℕ → ℕ → ℕ → Bool → Settings
ours size count link first =
    record {
      size = size;
      peer = octets 8 0x0102030405060708;
      gid = octets 16 0x1112131415161718191A1B1C1D1E1F20;
      mac = octets 6 0x212223242526;
      mask = octets 4 0xFFFFFE00;
      masklen = 23;
      count = count;
      prefixes = counting 64 136;
      first = first;
      qp = 0x7B333435;
      mtu = 0xC4;
      psn = 0x7D363738;
      key = 0x41424344;
      base = 0x5152535455565758;
      slot = 9;
      own = 0x61626364;
      link = link;
      key1 = 0x71000001;
      base1 = 0x8100000000000001;
      key2 = 0x72000002;
      base2 = 0x8200000000000002;
      key3 = 0x73000003;
      base3 = 0x8300000000000003;
      key4 = 0x74000004;
      base4 = 0x8400000000000004;
    }

abbrev us : Settings
us = ours 32768 0 2 true

-- WHAT THE PEER SAYS. A Proposal with its mask; with three bytes for growth and two prefixes, version 2
abbrev proposal : List ℕ
proposal = octets 52 0xE2D4C3D9_01_0034_10_A1A2A3A4A5A6A7A8_B1B2B3B4B5B6B7B8B9BABBBCBDBEBFB0_C1C2C3C4C5C6_0000_FFFF0000_10_0000_00_E2D4C3D9

abbrev grown : List ℕ
grown =
    octets 38 0xE2D4C3D9_01_0059_2F_A1A2A3A4A5A6A7A8_B1B2B3B4B5B6B7B8B9BABBBCBDBEBFB0_C1C2C3C4C5C6
    ++ (octets 13 0x0003_070809_00000000_00_0506_02 ++ (counting 100 34 ++ octets 4 0xE2D4C3D9))

-- an Accept or a Confirm: its type, byte 7 and byte 50
abbrev endpoint : ℕ → ℕ → ℕ → List ℕ
endpoint type seven fifty =
    octets 4 0xE2D4C3D9
    ++ (type ∷ 0x00 ∷ 0x44 ∷ seven
    ∷ (octets 42 0xA1A2A3A4A5A6A7A8_B1B2B3B4B5B6B7B8B9BABBBCBDBEBFB0_C1C2C3C4C5C6_D1D2D3_E1E2E3E4_05_F1F2F3F4
    ++ (fifty ∷ octets 17 0x5A_9192939495969798_5B_898A8B_E2D4C3D9)))

-- a Decline: byte 7, and its diagnosis
abbrev decline : ℕ → ℕ → List ℕ
decline seven diagnosis =
    octets 7 0xE2D4C3D9_04_001C ++ (seven ∷ (octets 8 0xA1A2A3A4A5A6A7A8 ++ (octets 4 diagnosis ++ octets 8 0x5C5D5E5F_E2D4C3D9)))

-- WHAT WE SAY. Our Proposal with the mask, with count prefixes; our Accept, F on or off; our Confirm; our Decline
abbrev our_head : ℕ → ℕ → ℕ → List ℕ
our_head type length seven = octets 4 0xE2D4C3D9 ++ (type ∷ (octets 2 length ++ (seven ∷ octets 8 0x0102030405060708)))

abbrev our_port : List ℕ
our_port = octets 22 0x1112131415161718191A1B1C1D1E1F20_212223242526

abbrev our_mask : List ℕ
our_mask = our_head 1 52 0x10 ++ (our_port ++ octets 14 0x0000_FFFFFE00_17_0000_00_E2D4C3D9)

abbrev our_prefixes : ℕ → ℕ → ℕ → List ℕ
our_prefixes n bytes length =
    our_head 1 length 0x10
    ++ (our_port ++ (octets 9 0x0000_00000000_00_0000 ++ (n ∷ (counting 64 bytes ++ octets 4 0xE2D4C3D9))))

abbrev our_endpoint : ℕ → ℕ → ℕ → List ℕ
our_endpoint type seven code =
    our_head type 68 seven
    ++ (our_port
    ++ (octets 12 0x333435_41424344_09_61626364 ++ (code ∷ octets 17 0x00_5152535455565758_00_363738_E2D4C3D9)))

abbrev our_decline : List ℕ
our_decline = our_head 4 28 0x10 ++ octets 12 0x00000001_00000000_E2D4C3D9

abbrev Outcome : Type 0
Outcome = Result Answered Refusal

abbrev answered : Option Arguments → Option ℕ → Outcome
answered o d = Ok (record { opening = o; diagnosis = d })

-- OPEN'S ARGUMENTS over link 2: the peer's token, size and index, and its key and base at link 2
abbrev opened : ℕ → ℕ → ℕ → ℕ → ℕ → ℕ → ℕ → ℕ → ℕ → ℕ → Outcome
opened link size k1 b1 k2 b2 k3 b3 k4 b4 =
    answered
    (Some
    (record {
      slot = 9;
      own = 0x61626364;
      token = 0xF1F2F3F4;
      link = link;
      size = size;
      index = 5;
      key1 = k1;
      base1 = b1;
      key2 = k2;
      base2 = b2;
      key3 = k3;
      base3 = b3;
      key4 = k4;
      base4 = b4;
    }))
    None

abbrev over1 : ℕ → Outcome
over1 size =
    opened 1 size 0xE1E2E3E4 0x9192939495969798 0x72000002 0x8200000000000002 0x73000003 0x8300000000000003 0x74000004 0x8400000000000004

abbrev over2 : ℕ → Outcome
over2 size =
    opened 2 size 0x71000001 0x8100000000000001 0xE1E2E3E4 0x9192939495969798 0x73000003 0x8300000000000003 0x74000004 0x8400000000000004

abbrev over3 : ℕ → Outcome
over3 size =
    opened 3 size 0x71000001 0x8100000000000001 0x72000002 0x8200000000000002 0xE1E2E3E4 0x9192939495969798 0x74000004 0x8400000000000004

abbrev over4 : ℕ → Outcome
over4 size =
    opened 4 size 0x71000001 0x8100000000000001 0x72000002 0x8200000000000002 0x73000003 0x8300000000000003 0xE1E2E3E4 0x9192939495969798

-- our link outside 1 to 4: all four are the settings'
abbrev over_none : ℕ → ℕ → Outcome
over_none link size =
    opened link size 0x71000001 0x8100000000000001 0x72000002 0x8200000000000002 0x73000003 0x8300000000000003 0x74000004 0x8400000000000004

-- A ROW: settings, due, bytes, and the answer: its outcome, and its message of so many bytes, with zeros to 188
pub record Row : Type 0 where
  pub settings : Settings
  pub due : Option Due
  pub bytes : List ℕ
  pub answer : Answer

abbrev row : Settings → Option Due → List ℕ → Outcome → ℕ → List ℕ → Row
row s d b o n m = record { settings = s; due = d; bytes = b; answer = record { outcome = o; count = n; message = m ++ zeros (188 - n) } }

abbrev refused : Settings → Option Due → List ℕ → Refusal → Row
refused s d b k = row s d b (Err k) 0 []

abbrev plain : Outcome
plain = answered None None

abbrev diagnosis : ℕ → Outcome
diagnosis d = answered None (Some d)

-- the answer to an Accept or Confirm that is due, by its code: an open with a Confirm or with nothing, or a Decline of ours
abbrev accept_opens : ℕ → ℕ → Row
accept_opens code size = row us (Some Due.Accept) (endpoint 2 0x18 (16 * code + 7)) (over2 size) 68 (our_endpoint 3 0x10 0x14)

abbrev confirm_opens : ℕ → ℕ → Row
confirm_opens code size = row us (Some Due.Confirm) (endpoint 3 0x17 (16 * code + 7)) (over2 size) 0 []

abbrev accept_declined : ℕ → Row
accept_declined code = row us (Some Due.Accept) (endpoint 2 0x10 (16 * code)) (diagnosis 1) 28 our_decline

abbrev confirm_declined : ℕ → Row
confirm_declined code = row us (Some Due.Confirm) (endpoint 3 0x10 (16 * code)) (diagnosis 1) 28 our_decline

unfoldable pub rows : List Row
rows =
    -- NONE DUE: a Proposal, with the mask where count is 0, else with the first min(count, 8) prefixes; the bytes are not read
    row us None [] plain 52 our_mask
    ∷ row us None (decline 0x10 7) plain 52 our_mask
    ∷ row (ours 32768 1 2 true) None [] plain 69 (our_prefixes 1 17 69)
    ∷ row (ours 32768 8 2 true) None [] plain 188 (our_prefixes 8 136 188)
    ∷ row (ours 32768 9 2 true) None [] plain 188 (our_prefixes 8 136 188)
    ∷ row (ours 32768 255 2 true) None [] plain 188 (our_prefixes 8 136 188)
    -- A PROPOSAL DUE: an Accept with our code, F by the setting; no field of the Proposal enters
    ∷ row us (Some Due.Proposal) proposal plain 68 (our_endpoint 2 0x18 0x14)
    ∷ row (ours 32768 0 2 false) (Some Due.Proposal) proposal plain 68 (our_endpoint 2 0x10 0x14)
    ∷ row us (Some Due.Proposal) grown plain 68 (our_endpoint 2 0x18 0x14)
    ∷ row (ours 16384 3 2 true) (Some Due.Proposal) proposal plain 68 (our_endpoint 2 0x18 0x04)
    ∷ row (ours 65536 0 2 true) (Some Due.Proposal) proposal plain 68 (our_endpoint 2 0x18 0x24)
    ∷ row (ours 131072 0 2 true) (Some Due.Proposal) proposal plain 68 (our_endpoint 2 0x18 0x34)
    ∷ row (ours 262144 0 2 true) (Some Due.Proposal) proposal plain 68 (our_endpoint 2 0x18 0x44)
    ∷ row (ours 524288 0 2 true) (Some Due.Proposal) proposal plain 68 (our_endpoint 2 0x18 0x54)
    -- AN ACCEPT DUE: a Confirm without F and an open, by the peer's code
    ∷ accept_opens 0 16384
    ∷ accept_opens 1 32768
    ∷ accept_opens 2 65536
    ∷ row (ours 65536 0 2 false) (Some Due.Accept) (endpoint 2 0x1F 0x00) (over2 16384) 68 (our_endpoint 3 0x10 0x24)
    -- A CONFIRM DUE: an open, and no message
    ∷ confirm_opens 0 16384
    ∷ confirm_opens 1 32768
    ∷ confirm_opens 2 65536
    -- over each link, and over none
    ∷ row (ours 32768 0 1 true) (Some Due.Confirm) (endpoint 3 0x10 0x20) (over1 65536) 0 []
    ∷ row (ours 32768 0 2 true) (Some Due.Confirm) (endpoint 3 0xF0 0x20) (over2 65536) 0 []
    ∷ row (ours 32768 0 3 true) (Some Due.Confirm) (endpoint 3 0x10 0x20) (over3 65536) 0 []
    ∷ row (ours 32768 0 4 true) (Some Due.Confirm) (endpoint 3 0x10 0x20) (over4 65536) 0 []
    ∷ row (ours 32768 0 0 true) (Some Due.Confirm) (endpoint 3 0x10 0x20) (over_none 0 65536) 0 []
    ∷ row (ours 32768 0 5 true) (Some Due.Confirm) (endpoint 3 0x10 0x20) (over_none 5 65536) 0 []
    ∷ row (ours 32768 0 4 true) (Some Due.Accept) (endpoint 2 0x10 0x10) (over4 32768) 68 (our_endpoint 3 0x10 0x14)
    -- "a code that means more than 65,540 bytes, or nothing, is declined": 3 to 15
    ∷ (map accept_declined (counting 3 13)
    ++ (map confirm_declined (counting 3 13)
    -- A HEARD DECLINE, something due: its diagnosis, no message, no open
    ++ (row us (Some Due.Proposal) (decline 0x10 1) (diagnosis 1) 0 []
    ∷ row us (Some Due.Accept) (decline 0x18 0x03010203) (diagnosis 0x03010203) 0 []
    ∷ row us (Some Due.Confirm) (decline 0x90 0) (diagnosis 0) 0 []
    -- 1: N HAS NO CODE, first of all
    ∷ refused (ours 65540 0 2 true) None [] Uncoded
    ∷ refused (ours 10000 0 2 true) (Some Due.Proposal) [] Uncoded
    ∷ refused (ours 0 0 2 true) (Some Due.Proposal) proposal Uncoded
    ∷ refused (ours 32767 0 2 true) (Some Due.Accept) (decline 0x10 7) Uncoded
    ∷ refused (ours 1048576 0 2 true) (Some Due.Confirm) (endpoint 2 0x10 0x20) Uncoded
    -- 2: the bytes are no message, before 3
    ∷ refused us (Some Due.Proposal) [] NoMessage
    ∷ refused us (Some Due.Accept) [] NoMessage
    ∷ refused us (Some Due.Confirm) [] NoMessage
    ∷ refused us (Some Due.Accept) (endpoint 5 0x10 0x20) NoMessage
    ∷ refused us (Some Due.Accept) (endpoint 0 0x10 0x20) NoMessage
    ∷ refused us (Some Due.Accept) (endpoint 2 0x0F 0x20) NoMessage
    ∷ refused us (Some Due.Accept) (0x00 ∷ endpoint 2 0x10 0x20) NoMessage
    ∷ refused us (Some Due.Accept) (endpoint 1 0x10 0x20) NoMessage
    ∷ refused us (Some Due.Confirm) (endpoint 4 0x10 0x20) NoMessage
    -- 3: the message is neither what is due nor a Decline
    ∷ refused us (Some Due.Proposal) (endpoint 2 0x10 0x20) NotDue
    ∷ refused us (Some Due.Proposal) (endpoint 3 0x10 0x20) NotDue
    ∷ refused us (Some Due.Accept) proposal NotDue
    ∷ refused us (Some Due.Accept) (endpoint 3 0x10 0x20) NotDue
    ∷ refused us (Some Due.Accept) (endpoint 3 0x10 0x30) NotDue
    ∷ refused us (Some Due.Confirm) grown NotDue
    ∷ refused us (Some Due.Confirm) (endpoint 2 0x10 0x20) NotDue
    ∷ [])))

abbrev found : Row → Answer
found r = setup_of r.settings r.due r.bytes

abbrev answer_of : Row → Answer
answer_of r = r.answer

abbrev pub RowsRight : Type 0
RowsRight = map found rows ≡ map answer_of rows

-- THE REFUSALS' NUMBERS
pub record NumbersRight : Type 0 where
  pub uncoded : refusal_number Uncoded ≡ 1
  pub no_message : refusal_number NoMessage ≡ 2
  pub not_due : refusal_number NotDue ≡ 3

-- "A MESSAGE OF A.2 IS N BYTES OF WHICH ALL THIS HOLDS": each condition met and missed by one byte
pub record Sort : Type 0 where
  pub bytes : List ℕ
  pub kind : Option Kind

abbrev sort : List ℕ → Option Kind → Sort
sort b k = record { bytes = b; kind = k }

-- a Proposal: bytes 5 and 6, offset o, growth, what stands from byte 40 + o on
abbrev proposed : ℕ → ℕ → List ℕ → List ℕ
proposed length o rest =
    octets 5 0xE2D4C3D9_01
    ++ (octets 2 length ++ (0x10 ∷ (octets 30 0xA1A2A3A4A5A6A7A8_B1B2B3B4B5B6B7B8B9BABBBCBDBEBFB0_C1C2C3C4C5C6 ++ (octets 2 o ++ rest))))

-- n bytes between eye catchers, of which bytes 5 and 6 say n: zeros but for the type
abbrev plainly : ℕ → ℕ → List ℕ
plainly type n = octets 4 0xE2D4C3D9 ++ (type ∷ (octets 2 n ++ (0x10 ∷ (zeros (n - 12) ++ octets 4 0xE2D4C3D9))))

unfoldable pub sorts : List Sort
sorts =
    sort proposal (Some Proposal)
    ∷ sort grown (Some Proposal)
    ∷ sort (endpoint 2 0x10 0x20) (Some Accept)
    ∷ sort (endpoint 3 0x10 0x20) (Some Confirm)
    ∷ sort (decline 0x10 0) (Some Decline)
    -- the eye catcher, first and last
    ∷ sort (octets 28 0xE2D4C3D8_04_001C_10_A1A2A3A4A5A6A7A8_00000001_00000000_E2D4C3D9) None
    ∷ sort (octets 28 0xE2D4C3D9_04_001C_10_A1A2A3A4A5A6A7A8_00000001_00000000_E2D4C3D8) None
    ∷ sort (octets 28 0xE2D4C3D9_04_001C_10_A1A2A3A4A5A6A7A8_00000001_00000000_00000000) None
    -- byte 4 is 1 to 4
    ∷ sort (octets 28 0xE2D4C3D9_00_001C_10_A1A2A3A4A5A6A7A8_00000001_00000000_E2D4C3D9) None
    ∷ sort (octets 28 0xE2D4C3D9_05_001C_10_A1A2A3A4A5A6A7A8_00000001_00000000_E2D4C3D9) None
    -- 7h is not 0, and may be 15
    ∷ sort (octets 28 0xE2D4C3D9_04_001C_0F_A1A2A3A4A5A6A7A8_00000001_00000000_E2D4C3D9) None
    ∷ sort (octets 28 0xE2D4C3D9_04_001C_F7_A1A2A3A4A5A6A7A8_00000001_5C5D5E5F_E2D4C3D9) (Some Decline)
    -- bytes 5-6 are n, and n is what the type asks
    ∷ sort (octets 28 0xE2D4C3D9_04_001D_10_A1A2A3A4A5A6A7A8_00000001_00000000_E2D4C3D9) None
    ∷ sort (octets 29 0xE2D4C3D9_04_001D_10_A1A2A3A4A5A6A7A8_00000001_00000000_00_E2D4C3D9) None
    ∷ sort (octets 29 0xE2D4C3D9_04_001C_10_A1A2A3A4A5A6A7A8_00000001_00000000_E2D4C3D9_00) None
    ∷ sort (octets 27 0xE2D4C3D9_04_001B_10_A1A2A3A4A5A6A7A8_00000001_000000_E2D4C3D9) None
    ∷ sort (octets 28 0xE2D4C3D9_02_001C_10_A1A2A3A4A5A6A7A8_00000001_00000000_E2D4C3D9) None
    ∷ sort (octets 28 0xE2D4C3D9_01_001C_10_A1A2A3A4A5A6A7A8_00000001_00000000_E2D4C3D9) None
    ∷ sort (endpoint 1 0x10 0x20) None
    ∷ sort (endpoint 4 0x10 0x20) None
    -- an Accept and a Confirm are 68 bytes
    ∷ sort (plainly 2 68) (Some Accept)
    ∷ sort (plainly 3 68) (Some Confirm)
    ∷ sort (plainly 2 67) None
    ∷ sort (plainly 3 67) None
    ∷ sort (plainly 2 69) None
    ∷ sort (plainly 3 69) None
    -- a Proposal is 52 + o + 17 p bytes, p at most 8
    ∷ sort (proposed 52 0 (octets 12 0xFFFF0000_10_0000_00_E2D4C3D9)) (Some Proposal)
    ∷ sort (proposed 52 0 (octets 12 0xFFFF0000_10_0000_01_E2D4C3D9)) None
    ∷ sort (proposed 52 1 (octets 12 0xFFFF0000_10_0000_00_E2D4C3D9)) None
    ∷ sort (proposed 53 1 (octets 13 0x77_FFFF0000_10_0000_00_E2D4C3D9)) (Some Proposal)
    ∷ sort (proposed 69 0 (octets 8 0xFFFF0000_10_0000_01 ++ (counting 1 17 ++ octets 4 0xE2D4C3D9))) (Some Proposal)
    ∷ sort (proposed 70 0 (octets 8 0xFFFF0000_10_0000_01 ++ (counting 1 18 ++ octets 4 0xE2D4C3D9))) None
    ∷ sort (proposed 188 0 (octets 8 0xFFFF0000_10_0000_08 ++ (counting 1 136 ++ octets 4 0xE2D4C3D9))) (Some Proposal)
    ∷ sort (proposed 205 0 (octets 8 0xFFFF0000_10_0000_09 ++ (counting 1 153 ++ octets 4 0xE2D4C3D9))) None
    ∷ sort [] None
    ∷ []

abbrev kind_found : Sort → Option Kind
kind_found r = kind_in r.bytes

abbrev kind_asked : Sort → Option Kind
kind_asked r = r.kind

abbrev pub SortsRight : Type 0
SortsRight = map kind_found sorts ≡ map kind_asked sorts
