-- Request 2026-05, "The call": settings, the message due and the peer's bytes give a refusal or an answer in three parts.
-- Assumes nothing.
use Rattle.std.specs.Prelude.{ℕ, ◌%◌, Result, Ok, Err, min, Bool, false, ◌&&◌, cond, List, leb, eqb, Option, Some, None}
use Rattle.setup_read.specs.declared.Kind.{Kind}
use Rattle.setup_read.specs.declared.Kind.TheVariants.{Proposal, Accept, Confirm, Decline}
use Rattle.setup_read.specs.declared.Message.{Message}
use Rattle.setup_read.specs.Codes.{bytes_of_code, code_of, no_code}
use Rattle.setup_read.specs.Clc.{type_of, read_of, written_count, written_over}
use Rattle.setup_read.specs.Places.{zeros}
use Rattle.setup.specs.declared.Settings.{Settings}
use Rattle.setup.specs.declared.Due.{Due}
use Rattle.setup.specs.declared.Arguments.{Arguments}
use Rattle.setup.specs.declared.Answered.{Answered}
use Rattle.setup.specs.declared.Refusal.{Refusal}
use Rattle.setup.specs.declared.Refusal.TheVariants.{Uncoded, NoMessage, NotDue}
use Rattle.setup.specs.declared.Answer.{Answer}

-- "the message due (none, Proposal, Accept, Confirm)", by its type; none is 0
abbrev pub due_type : Option Due → ℕ
due_type None = 0
due_type (Some Due.Proposal) = 1
due_type (Some Due.Accept) = 2
due_type (Some Due.Confirm) = 3

-- a refusal's number
abbrev pub refusal_number : Refusal → ℕ
refusal_number Uncoded = 1
refusal_number NoMessage = 2
refusal_number NotDue = 3

-- what a call comes to: a refusal, or the columns "open" and "diagnosis"
abbrev pub Outcome : Type 0
Outcome = Result Answered Refusal

abbrev pub answers : Option Arguments → Option ℕ → Outcome
answers o d = Ok (record { opening = o; diagnosis = d })

-- "ours carry version 1 and offset 0". "Proposal: with count 0 the mask and its length, else both zero and the first min(count, 8)
-- prefixes"
unfoldable pub our_proposal : Settings → Message
our_proposal s =
    record {
      kind = Some Proposal;
      version = 1;
      first = false;
      sync = false;
      peer = s.peer;
      gid = s.gid;
      mac = s.mac;
      qp = 0;
      key = 0;
      index = 0;
      token = 0;
      code = 0;
      mtu = 0;
      base = 0;
      psn = 0;
      offset = 0;
      mask = cond (eqb s.count 0) s.mask (zeros 4);
      masklen = cond (eqb s.count 0) s.masklen 0;
      count = min s.count 8;
      prefixes = s.prefixes;
      diagnosis = 0;
    }

-- an Accept or a Confirm: "QP number, MTU, PSN cut to 24, 4, 24 bits (mod 2^24, 2^4, 2^24)"
unfoldable pub ours : Kind → Bool → Settings → Message
ours k f s =
    record {
      kind = Some k;
      version = 1;
      first = f;
      sync = false;
      peer = s.peer;
      gid = s.gid;
      mac = s.mac;
      qp = s.qp % 16777216;
      key = s.key;
      index = s.slot;
      token = s.own;
      code = code_of s.size;
      mtu = s.mtu % 16;
      base = s.base;
      psn = s.psn % 16777216;
      offset = 0;
      mask = zeros 4;
      masklen = 0;
      count = 0;
      prefixes = zeros 136;
      diagnosis = 0;
    }

-- "first contact: F of Accept"
abbrev pub our_accept : Settings → Message
our_accept s = ours Accept s.first s

abbrev pub our_confirm : Settings → Message
our_confirm s = ours Confirm false s

-- "Decline: S off, our peer ID, diagnosis 1"
unfoldable pub our_decline : Settings → Message
our_decline s =
    record {
      kind = Some Decline;
      version = 1;
      first = false;
      sync = false;
      peer = s.peer;
      gid = zeros 16;
      mac = zeros 6;
      qp = 0;
      key = 0;
      index = 0;
      token = 0;
      code = 0;
      mtu = 0;
      base = 0;
      psn = 0;
      offset = 0;
      mask = zeros 4;
      masklen = 0;
      count = 0;
      prefixes = zeros 136;
      diagnosis = 1;
    }

-- "open is: slot, own token, token, link, bytes of code, index, then for links 1 to 4 key and base where the link is ours, else the
-- settings'" (of the heard message: token, code, index, key, base)
unfoldable pub arguments_of : Settings → Message → Arguments
arguments_of s m =
    record {
      slot = s.slot;
      own = s.own;
      token = m.token;
      link = s.link;
      size = bytes_of_code m.code;
      index = m.index;
      key1 = cond (eqb s.link 1) m.key s.key1;
      base1 = cond (eqb s.link 1) m.base s.base1;
      key2 = cond (eqb s.link 2) m.key s.key2;
      base2 = cond (eqb s.link 2) m.base s.base2;
      key3 = cond (eqb s.link 3) m.key s.key3;
      base3 = cond (eqb s.link 3) m.base s.base3;
      key4 = cond (eqb s.link 4) m.key s.key4;
      base4 = cond (eqb s.link 4) m.base s.base4;
    }

-- an answer with no message, and one with a message: its bytes, their count, zeros behind
unfoldable pub silent : Outcome → Answer
silent o = record { outcome = o; count = 0; message = zeros 188 }

unfoldable pub saying : Message → Outcome → Answer
saying m o = record { outcome = o; count = written_count m (zeros 188); message = written_over m (zeros 188) }

-- column "message": ours of a kind
abbrev pub sending : Kind → Settings → Outcome → Answer
sending Proposal s o = saying (our_proposal s) o
sending Accept s o = saying (our_accept s) o
sending Confirm s o = saying (our_confirm s) o
sending Decline s o = saying (our_decline s) o

-- neither an open nor a decline, an open, a decline
abbrev pub plain : Outcome
plain = answers None None

abbrev pub opens : Settings → Message → Outcome
opens s m = answers (Some (arguments_of s m)) None

abbrev pub declines : ℕ → Outcome
declines d = answers None (Some d)

-- "a code from the peer that means more than 65,540 bytes, or nothing, is declined"
unfoldable pub taken_b : ℕ → Bool
taken_b code = leb 1 (bytes_of_code code) && leb (bytes_of_code code) 65540

-- the message that was due, of type t
unfoldable pub answered_of : Settings → Message → ℕ → Answer
answered_of s m t =
    cond (eqb t 1) (sending Accept s plain)
    (cond (taken_b m.code)
    (cond (eqb t 2) (sending Confirm s (opens s m)) (silent (opens s m)))
    (sending Decline s (declines 1)))

-- something due, of type d: "2, the bytes are no message of A.2; 3, the message is neither that nor a Decline"
unfoldable pub heard_of : Settings → ℕ → Message → Answer
heard_of s d m =
    cond (eqb (type_of m.kind) 0) (silent (Err NoMessage))
    (cond (eqb (type_of m.kind) 4) (silent (declines m.diagnosis))
    (cond (eqb (type_of m.kind) d) (answered_of s m d)
    (silent (Err NotDue))))

-- "1, N has no code, whatever is due and whatever the bytes"; none due: a Proposal, bytes unread
unfoldable pub setup_of : Settings → Option Due → List ℕ → Answer
setup_of s due l =
    cond (eqb (code_of s.size) no_code) (silent (Err Uncoded))
    (cond (eqb (due_type due) 0) (sending Proposal s plain)
    (heard_of s (due_type due) (read_of l)))
