-- Request 2026-05, "Proved": the claims about the call; proofs/Theorems proves them.
-- Assumes nothing.
use Rattle.std.specs.Prelude.{ℕ, ◌-◌, ◌/◌, ◌≤◌, ◌<◌, ◌≡◌, ◌⊎◌, ◌↔◌, true, cond, List, length, take, drop, eqb, Option, Some, None}
use Rattle.layout.specs.Layout.{are_bytes, number_at}
use Rattle.setup_read.specs.declared.Kind.TheVariants.{Proposal, Accept, Confirm, Decline}
use Rattle.setup_read.specs.declared.Message.{Message}
use Rattle.setup_read.specs.Codes.{code_of, no_code}
use Rattle.setup_read.specs.Clc.{encode_of, message_b, kind_in, read_of, tidy_of}
use Rattle.setup_read.specs.Places.{zeros}
use Rattle.setup.specs.declared.Settings.{Settings}
use Rattle.setup.specs.declared.Due.{Due}
use Rattle.setup.specs.declared.Arguments.{Arguments}
use Rattle.setup.specs.declared.Answer.{Answer}
use Rattle.setup.specs.Setup.{due_type, answers, our_proposal, our_accept, our_confirm, our_decline, silent, plain, declines, setup_of}

-- settings as their types have them: each number below 2 to its bits, each array of its bytes
pub record Bytes (n : ℕ) (b : List ℕ) : Type 0 where
  pub size : length b ≡ n
  pub small : are_bytes b ≡ true

pub record Typed (s : Settings) : Type 0 where
  pub peer : Bytes 8 s.peer
  pub gid : Bytes 16 s.gid
  pub mac : Bytes 6 s.mac
  pub mask : Bytes 4 s.mask
  pub masklen : s.masklen < 256
  pub prefixes : Bytes 136 s.prefixes
  pub key : s.key < 4294967296
  pub base : s.base < 18446744073709551616
  pub slot : s.slot < 256
  pub own : s.own < 4294967296

-- the bytes of an answer's message
abbrev pub said : Answer → List ℕ
said a = take a.count a.message

-- "with none due, equal for any two byte strings"
abbrev pub StartEqual : Type 0
StartEqual = (s : Settings) (a b : List ℕ) → setup_of s None a ≡ setup_of s None b

-- "a heard Decline, something due, N coded: its diagnosis, no message, no open"
abbrev pub HeardDecline : Type 0
HeardDecline =
    (s : Settings) (due : Option Due) (l : List ℕ) → code_of s.size < no_code → 1 ≤ due_type due → kind_in l ≡ Some Decline
    → setup_of s due l ≡ silent (declines (number_at l 16 4))

-- "every message answered is one of A.2 and reads back to the fields named above, for all settings": the answer's bytes are those of m,
-- with zeros behind, at most 188; they are a message, and are read as m
pub record Says (a : Answer) (m : Message) : Type 0 where
  pub bytes : said a ≡ encode_of m
  pub behind : drop a.count a.message ≡ zeros (188 - a.count)
  pub short : a.count ≤ 188
  pub one : message_b (said a) ≡ true
  pub back : read_of (said a) ≡ tidy_of m

-- column "message" by what is due: none, our Proposal; a Proposal, our Accept; an Accept, our Confirm or Decline; a Confirm, our Decline
abbrev pub AnswersDue : Settings → Option Due → Answer → Type 0
AnswersDue s None a = Says a (our_proposal s)
AnswersDue s (Some Due.Proposal) a = Says a (our_accept s)
AnswersDue s (Some Due.Accept) a = Says a (our_confirm s) ⊎ Says a (our_decline s)
AnswersDue s (Some Due.Confirm) a = Says a (our_decline s)

abbrev pub EveryMessage : Type 0
EveryMessage =
    (s : Settings) (due : Option Due) (l : List ℕ) → Typed s
    → let a = setup_of s due l in
    (a.count ≡ 0) ⊎ AnswersDue s due a

-- DECLINED EXACTLY WHEN: "a code from the peer that means more than 65,540 bytes, or nothing, is declined with diagnosis 1, and nothing
-- else is". N has a code, the Accept or Confirm that is due is heard, and its code, the high half of byte 50, is 3 or more (3 to 5 mean
-- 131,072 bytes and more, 6 to 15 nothing)
pub record TooLarge (s : Settings) (due : Option Due) (l : List ℕ) : Type 0 where
  pub coded : code_of s.size < no_code
  pub heard : ((due ≡ Some Due.Accept) × (kind_in l ≡ Some Accept)) ⊎ ((due ≡ Some Due.Confirm) × (kind_in l ≡ Some Confirm))
  pub code : 3 ≤ number_at l 50 1 / 16

-- exactly then the message answered is a Decline, and then it is ours with diagnosis 1, and there is no open
pub record DeclinedBy (s : Settings) (due : Option Due) (l : List ℕ) : Type 0 where
  pub exactly : (kind_in (said (setup_of s due l)) ≡ Some Decline) ↔ TooLarge s due l
  pub so : TooLarge s due l → ((setup_of s due l).outcome ≡ answers None (Some 1)) × Says (setup_of s due l) (our_decline s)

abbrev pub Declined : Type 0
Declined = (s : Settings) (due : Option Due) (l : List ℕ) → Typed s → DeclinedBy s due l

-- "THE EXCHANGE": c begins; each end hears what the other answered last
unfoldable pub first : Settings → List ℕ → Answer
first c l = setup_of c None l

unfoldable pub second : Settings → Settings → List ℕ → Answer
second c s l = setup_of s (Some Due.Proposal) (said (first c l))

unfoldable pub third : Settings → Settings → List ℕ → Answer
third c s l = setup_of c (Some Due.Accept) (said (second c s l))

unfoldable pub fourth : Settings → Settings → List ℕ → Answer
fourth c s l = setup_of s (Some Due.Confirm) (said (third c s l))

-- open(x.slot, x.own, y.own, x.link, y.N, y.slot, .. y.key, y.base at x.link ..): x's arguments, with y at the other end
unfoldable pub opened_with_of : Settings → Settings → Arguments
opened_with_of x y =
    record {
      slot = x.slot;
      own = x.own;
      token = y.own;
      link = x.link;
      size = y.size;
      index = y.slot;
      key1 = cond (eqb x.link 1) y.key x.key1;
      base1 = cond (eqb x.link 1) y.base x.base1;
      key2 = cond (eqb x.link 2) y.key x.key2;
      base2 = cond (eqb x.link 2) y.base x.base2;
      key3 = cond (eqb x.link 3) y.key x.key3;
      base3 = cond (eqb x.link 3) y.base x.base3;
      key4 = cond (eqb x.link 4) y.key x.key4;
      base4 = cond (eqb x.link 4) y.base x.base4;
    }

-- both codes 0 to 2: a Proposal, an Accept, a Confirm with c's open, s's open with no message
pub record Opened (c s : Settings) (l : List ℕ) : Type 0 where
  pub proposal : kind_in (said (first c l)) ≡ Some Proposal
  pub start : (first c l).outcome ≡ plain
  pub accept : kind_in (said (second c s l)) ≡ Some Accept
  pub answer : (second c s l).outcome ≡ plain
  pub confirm : kind_in (said (third c s l)) ≡ Some Confirm
  pub client : (third c s l).outcome ≡ answers (Some (opened_with_of c s)) None
  pub server : fourth c s l ≡ silent (answers (Some (opened_with_of s c)) None)

abbrev pub Exchange : Type 0
Exchange = (c s : Settings) (l : List ℕ) → Typed c → Typed s → code_of c.size ≤ 2 → code_of s.size ≤ 2 → Opened c s l

-- "if s's code is 3 to 5, c answers decline 1 and s, hearing it, decline 1"
pub record ServerLarge (c s : Settings) (l : List ℕ) : Type 0 where
  pub declined : kind_in (said (third c s l)) ≡ Some Decline
  pub client : (third c s l).outcome ≡ declines 1
  pub server : fourth c s l ≡ silent (declines 1)

abbrev pub ServerDeclined : Type 0
ServerDeclined =
    (c s : Settings) (l : List ℕ) → Typed c → Typed s → code_of c.size < no_code → 3 ≤ code_of s.size → code_of s.size ≤ 5
    → ServerLarge c s l

-- "if c's is, s answers decline 1 to its Confirm"
pub record ClientLarge (c s : Settings) (l : List ℕ) : Type 0 where
  pub declined : kind_in (said (fourth c s l)) ≡ Some Decline
  pub server : (fourth c s l).outcome ≡ declines 1

abbrev pub ClientDeclined : Type 0
ClientDeclined =
    (c s : Settings) (l : List ℕ) → Typed c → Typed s → 3 ≤ code_of c.size → code_of c.size ≤ 5 → code_of s.size ≤ 2
    → ClientLarge c s l
