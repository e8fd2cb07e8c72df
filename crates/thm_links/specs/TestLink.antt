-- Document 01, "Desk calls": TEST LINK and its reply, by the rules of request 2026-01. proofs/TestLink proves it of all bytes.
-- Assumes nothing.
use Rattle.std.specs.Prelude.{ℕ, ◌/◌, ◌%◌, ◌≡◌, Bool, true, false, List, ◌∷◌, ◌++◌, length, get_or, take, drop, replicate, eqb}
use Rattle.layout.specs.Layout.{are_bytes}
use Rattle.link_exchange.specs.declared.Fate.TheVariants.{Taken}
use Rattle.group_table.specs.declared.Links.{Links}
use Rattle.group_table.specs.Table.{link_in, active_b}
use Rattle.link_calls.specs.Calls.{unchanged, heard_of}

-- "TEST LINK (07; reply bit 80 in byte 3, user bytes 4-19)": 44 bytes, of which byte 1 is 2C
pub record IsTestLink (b : List ℕ) : Type 0 where
  pub bytes : are_bytes b ≡ true
  pub size : length b ≡ 44
  pub kind : get_or b 0 0 ≡ 0x07
  pub marked : get_or b 1 0 ≡ 0x2C

abbrev pub reply_bit : List ℕ → Bool
reply_bit b = eqb (get_or b 3 0 / 0x80 % 2) 1

abbrev pub user_bytes : List ℕ → List ℕ
user_bytes b = take 16 (drop 4 b)

-- "is answered by a reply: 07 2C 00 80, the same 16 bytes, zeros"
abbrev pub reply_with : List ℕ → List ℕ
reply_with user = 0x07 ∷ 0x2C ∷ 0x00 ∷ 0x80 ∷ (user ++ replicate 24 0)

pub record Answered (g : Links) (l : ℕ) (b : List ℕ) : Type 0 where
  pub replies : (heard_of g l b).replies ≡ true
  pub reply : (heard_of g l b).reply ≡ reply_with (user_bytes b)

pub record NotAnswered (g : Links) (l : ℕ) (b : List ℕ) : Type 0 where
  pub replies : (heard_of g l b).replies ≡ false
  pub reply : (heard_of g l b).reply ≡ replicate 44 0

-- over an active link, whatever exchange runs and whatever waits, a request or a reply is taken and leaves the links, their gauges, the
-- exchange and the queue as they are. "A reply is taken and nothing follows"
pub record TestHeard (g : Links) (l : ℕ) (b : List ℕ) : Type 0 where
  pub allowed : (heard_of g l b).refusal ≡ 0
  pub taken : (heard_of g l b).fate ≡ Taken
  pub left : (heard_of g l b).settled ≡ unchanged g
  pub request : reply_bit b ≡ false → Answered g l b
  pub reply : reply_bit b ≡ true → NotAnswered g l b

abbrev pub TestLinkAnswered : Type 0
TestLinkAnswered =
    (g : Links) (l : ℕ) (b : List ℕ) → IsTestLink b → link_in l ≡ true → active_b g.active l ≡ true → TestHeard g l b
