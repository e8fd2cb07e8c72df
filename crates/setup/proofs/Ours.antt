-- Our own messages: they fit, are short, and are read as they were meant.
-- Assumes nothing.
use Rattle.std.specs.Prelude.{None}
use Prim.Native.Nat.{ℕ, zero, suc, ◌+◌, ◌-◌, ◌*◌, ◌%◌, ◌≤◌, ◌<◌, min}
use mathlib.Core.Path.{◌≡◌, ◌∙◌, refl, ap, sym}
use mathlib.Core.Bool.{Bool, true, false, ◌&&◌, cond}
use mathlib.Core.List.{List, ◌++◌}
use native.Mathlib.Omega.{arith}
use lib.ListN.{length, take, drop, length-replicate}
use lib.Seq.{take_at, drop_at}
use lib.Dec.{eqb, leb}
use borrow.Author.Tests.{le-leb, lt-ltb, leb-true}
use Rattle.layout.specs.Layout.{written_of}
use Rattle.layout.proofs.Bits.{and_left, gather_length}
use Rattle.layout.proofs.Places.{zeros_bytes}
use Rattle.setup_read.specs.declared.Kind.{Kind}
use Rattle.setup_read.specs.declared.Kind.TheVariants.{Accept, Confirm}
use Rattle.setup_read.specs.declared.Message.{Message}
use Rattle.setup_read.specs.Codes.{code_of, no_code}
use Rattle.setup_read.specs.Clc.{type_of, table, chosen, restored, values, message_of, lines_of, chosen_of, size_of, fits_of, encode_of, writes_b}
use Rattle.setup_read.specs.Clc.{written_count, written_over, message_b, kind_in, message_in, read_of, tidy_of}
use Rattle.setup_read.specs.Places.{zeros}
use Rattle.setup_read.proofs.Codes.{code_most}
use Rattle.setup_read.proofs.Messages.{kind_none}
use Rattle.setup_write.proofs.Known as K
use Rattle.setup_write.proofs.Fits.{endpoint_fits, proposal_fit, decline_fit, accept_fit, confirm_fit}
use Rattle.setup_write.proofs.RoundTrip.{reads_back}
use Rattle.setup.specs.declared.Settings.{Settings}
use Rattle.setup.specs.Setup.{Outcome, our_proposal, ours, our_accept, our_confirm, our_decline, saying}
use Rattle.setup.specs.Statements.{Bytes, Typed, said, Says}

as_bytes : {n : ℕ} {b : List ℕ} → Bytes n b → K.Bytes n b
as_bytes x = record { size = x.size; small = x.small }

zeros_are : (n : ℕ) → K.Bytes n (zeros n)
zeros_are n = record { size = length-replicate n 0; small = zeros_bytes n }

pub record Fine (m : Message) : Type 0 where
  pub fit : fits_of m ≡ true
  pub short : size_of m ≤ 188

-- their fields are within their types
module _ (s : Settings) (t : Typed s) where
  ours_typed : (k : Kind) (f : Bool) → K.Typed (ours k f s)
  unfolding ours
  ours_typed k f =
      record {
        version = omega arith;
        peer = as_bytes t.peer;
        gid = as_bytes t.gid;
        mac = as_bytes t.mac;
        qp = omega arith;
        key = t.key;
        index = t.slot;
        token = t.own;
        code = omega (arith, code_most s.size);
        mtu = omega arith;
        base = t.base;
        psn = omega arith;
        offset = omega arith;
        mask = zeros_are 4;
        masklen = omega arith;
        count = omega arith;
        prefixes = zeros_are 136;
        diagnosis = omega arith;
      }

  proposal_typed : K.Typed (our_proposal s)
  unfolding our_proposal
  proposal_typed =
      record {
        version = omega arith;
        peer = as_bytes t.peer;
        gid = as_bytes t.gid;
        mac = as_bytes t.mac;
        qp = omega arith;
        key = omega arith;
        index = omega arith;
        token = omega arith;
        code = omega arith;
        mtu = omega arith;
        base = omega arith;
        psn = omega arith;
        offset = omega arith;
        mask = mask (eqb s.count 0);
        masklen = len (eqb s.count 0);
        count = omega arith;
        prefixes = as_bytes t.prefixes;
        diagnosis = omega arith;
      }
    where
      mask : (b : Bool) → K.Bytes 4 (cond b s.mask (zeros 4))
      mask true = as_bytes t.mask
      mask false = zeros_are 4

      len : (b : Bool) → cond b s.masklen 0 < 256
      len true = t.masklen
      len false = omega arith

  decline_typed : K.Typed (our_decline s)
  unfolding our_decline
  decline_typed =
      record {
        version = omega arith;
        peer = as_bytes t.peer;
        gid = zeros_are 16;
        mac = zeros_are 6;
        qp = omega arith;
        key = omega arith;
        index = omega arith;
        token = omega arith;
        code = omega arith;
        mtu = omega arith;
        base = omega arith;
        psn = omega arith;
        offset = omega arith;
        mask = zeros_are 4;
        masklen = omega arith;
        count = omega arith;
        prefixes = zeros_are 136;
        diagnosis = omega arith;
      }

  -- they fit, and have at most 188 bytes
  ours_fits : (k : Kind) (f : Bool) → code_of s.size < no_code → endpoint_fits (ours k f s) ≡ true
  unfolding ours
  ours_fits k f h =
      simp (
        lt-ltb (s.qp % 16777216) 16777216 (omega arith),
        lt-ltb (code_of s.size) 16 h,
        lt-ltb (s.mtu % 16) 16 (omega arith),
        lt-ltb (s.psn % 16777216) 16777216 (omega arith),
      )

  pub accept_fine : code_of s.size < no_code → Fine (our_accept s)
  unfolding ours
  accept_fine h =
      let e = accept_fit (our_accept s) (ours_typed Accept s.first) refl in
      record { fit = e.0 ∙ ours_fits Accept s.first h; short = omega (arith, e.1) }

  pub confirm_fine : code_of s.size < no_code → Fine (our_confirm s)
  unfolding ours
  confirm_fine h =
      let e = confirm_fit (our_confirm s) (ours_typed Confirm false) refl in
      record { fit = e.0 ∙ ours_fits Confirm false h; short = omega (arith, e.1) }

  pub decline_fine : Fine (our_decline s)
  unfolding our_decline
  decline_fine =
      let e = decline_fit (our_decline s) decline_typed refl in
      record { fit = e.0; short = omega (arith, e.1) }

  pub proposal_fine : Fine (our_proposal s)
  unfolding our_proposal
  proposal_fine =
      let e = proposal_fit (our_proposal s) proposal_typed refl in
      let n = min s.count 8 in
      record {
        fit = e.0 ∙ simp (le-leb n 8 (omega arith), le-leb (52 + 0 + 17 * n) 65535 (omega arith));
        short = omega (arith, e.1);
      }

known_kind : (m : Message) → fits_of m ≡ true → 1 ≤ type_of m.kind
unfolding fits_of
known_kind m f = leb-true 1 (type_of m.kind) (and_left (leb 1 (type_of m.kind)) _ f)

-- what is said of a message that fits
module _ (m : Message) (f : fits_of m ≡ true) (h : size_of m ≤ 188) (o : Outcome) where
  writes : writes_b m (zeros 188) ≡ true
  unfolding writes_b
  writes = λ i. f i && le-leb (size_of m) (length (zeros 188)) h i

  pub say_count : (saying m o).count ≡ size_of m
  unfolding saying written_count
  say_count = ap (λ (b : Bool). cond b (size_of m) 0) writes

  say_message : (saying m o).message ≡ encode_of m ++ drop (size_of m) (zeros 188)
  unfolding saying written_over
  say_message = ap (λ (b : Bool). cond b (encode_of m ++ drop (size_of m) (zeros 188)) (zeros 188)) writes

  long : length (encode_of m) ≡ size_of m
  unfolding encode_of written_of
  long = gather_length (size_of m) _

  pub say_bytes : said (saying m o) ≡ encode_of m
  say_bytes = (λ i. take (say_count i) (say_message i)) ∙ take_at (encode_of m) (drop (size_of m) (zeros 188)) (size_of m) long

  pub say_back : read_of (said (saying m o)) ≡ tidy_of m
  say_back = ap read_of say_bytes ∙ reads_back m f

  pub say_kind : kind_in (said (saying m o)) ≡ m.kind
  unfolding read_of message_in message_of tidy_of
  say_kind = ap (λ (x : Message). x.kind) say_back

  pub says : Says (saying m o) m
  says =
      record {
        bytes = say_bytes;
        behind =
            (λ i. drop (say_count i) (say_message i))
            ∙ drop_at (encode_of m) (drop (size_of m) (zeros 188)) (size_of m) long
            ∙ drop_zeros (size_of m) 188
            ∙ ap (λ (n : ℕ). zeros (188 - n)) (sym say_count);
        short = omega (arith, say_count);
        one = is_one (message_b (said (saying m o))) refl;
        back = say_back;
      }
    where
      drop_zeros : (k n : ℕ) → drop k (zeros n) ≡ zeros (n - k)
      drop_zeros zero n = ap zeros {x = n} {y = n - 0} (omega arith)
      drop_zeros (suc k) zero = ap zeros {x = 0} {y = 0 - suc k} (omega arith)
      drop_zeros (suc k) (suc n) = drop_zeros k n ∙ ap zeros {x = n - k} {y = suc n - suc k} (omega arith)

      known : 1 ≤ type_of m.kind
      known = known_kind m f

      is_one : (b : Bool) → message_b (said (saying m o)) ≡ b → message_b (said (saying m o)) ≡ true
      is_one true e = e
      is_one false e =
          let k : m.kind ≡ None = sym say_kind ∙ kind_none (said (saying m o)) e in
          absurd (omega (arith, known, ap type_of k))

-- an Accept and a Confirm of ours read back whole
pub accept_tidy : (s : Settings) → tidy_of (our_accept s) ≡ our_accept s
unfolding ours tidy_of lines_of chosen_of message_of restored chosen values table
accept_tidy s = go s.first
  where
    go : (b : Bool) → tidy_of (ours Accept b s) ≡ ours Accept b s
    go true = refl
    go false = refl

pub confirm_tidy : (s : Settings) → tidy_of (our_confirm s) ≡ our_confirm s
unfolding ours tidy_of lines_of chosen_of message_of restored chosen values table
confirm_tidy s = refl

pub decline_tidy : (s : Settings) → tidy_of (our_decline s) ≡ our_decline s
unfolding our_decline tidy_of lines_of chosen_of message_of restored chosen values table
decline_tidy s = refl
