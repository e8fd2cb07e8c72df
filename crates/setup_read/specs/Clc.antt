-- Request 2026-05, "The four messages (Appendix A.2): one table": reading and writing, from one list of rows.
-- Assumes nothing.
use Rattle.std.specs.Prelude.{ℕ, ◌+◌, ◌-◌, ◌*◌, ◌/◌, ◌≡◌, Bool, true, false, ◌&&◌, cond, List, [], ◌∷◌, ◌++◌, length, get_or, take, drop, replicate, leb, eqb, Option, Some, None}
use Rattle.layout.specs.Layout.{Row, Field, fits, spread, are_bytes, reserved_zero, written_of, fields_of, number_at}
use Rattle.layout.specs.Layout.Row.{fixed, reserved, number, bytes}
use Rattle.layout.specs.Layout.Field.{num, str}
use Rattle.setup_read.specs.declared.Kind.{Kind}
use Rattle.setup_read.specs.declared.Kind.TheVariants.{Proposal, Accept, Confirm, Decline}
use Rattle.setup_read.specs.declared.Message.{Message}

abbrev pub eye_catcher : ℕ
eye_catcher = 0xE2D4C3D9

-- row type: = 1, 2, 3, 4
abbrev pub type_of : Option Kind → ℕ
type_of None = 0
type_of (Some Proposal) = 1
type_of (Some Accept) = 2
type_of (Some Confirm) = 3
type_of (Some Decline) = 4

-- "bytes in all": 52+o+17p, 68, 68, 28. o is the value of row offset, p of row count
abbrev pub length_of : Option Kind → ℕ → ℕ → ℕ
length_of None o p = 0
length_of (Some Proposal) o p = 52 + o + 17 * p
length_of (Some Accept) o p = 68
length_of (Some Confirm) o p = 68
length_of (Some Decline) o p = 28

-- a line of the table: a row, and in which columns it has a place
pub record Line : Type 0 where
  pub proposal : Bool
  pub accept : Bool
  pub confirm : Bool
  pub decline : Bool
  pub row : Row

abbrev ■ : Bool
■ = true

abbrev □ : Bool
□ = false

abbrev line : Bool → Bool → Bool → Bool → Row → Line
line a b c d r = record { proposal = a; accept = b; confirm = c; decline = d; row = r }

-- the table; the columns are Proposal, Accept, Confirm, Decline
unfoldable pub table : Option Kind → ℕ → ℕ → List Line
table k o p =
    line ■ ■ ■ ■ (fixed 32 eye_catcher)  -- eye catcher
    ∷ line ■ ■ ■ ■ (fixed 8 (type_of k))  -- type
    ∷ line ■ ■ ■ ■ (fixed 16 (length_of k o p))  -- length
    ∷ line ■ ■ ■ ■ (number 4)  -- version
    ∷ line □ ■ □ □ (number 1)  -- F first contact
    ∷ line □ □ □ ■ (number 1)  -- S out of sync
    ∷ line □ ■ □ ■ (reserved 3)
    ∷ line ■ □ ■ □ (reserved 4)
    ∷ line ■ ■ ■ ■ (bytes 8)  -- peer ID
    ∷ line ■ ■ ■ □ (bytes 16)  -- GID
    ∷ line ■ ■ ■ □ (bytes 6)  -- MAC
    ∷ line □ ■ ■ □ (number 24)  -- QP number
    ∷ line □ ■ ■ □ (number 32)  -- key
    ∷ line □ ■ ■ □ (number 8)  -- index
    ∷ line □ ■ ■ □ (number 32)  -- token
    ∷ line □ ■ ■ □ (number 4)  -- code
    ∷ line □ ■ ■ □ (number 4)  -- MTU
    ∷ line □ ■ ■ □ (reserved 8)
    ∷ line □ ■ ■ □ (number 64)  -- base
    ∷ line □ ■ ■ □ (reserved 8)
    ∷ line □ ■ ■ □ (number 24)  -- PSN
    ∷ line ■ □ □ □ (number 16)  -- offset, o
    ∷ line ■ □ □ □ (reserved (8 * o))  -- growth area
    ∷ line ■ □ □ □ (bytes 4)  -- mask
    ∷ line ■ □ □ □ (number 8)  -- mask length
    ∷ line ■ □ □ □ (reserved 16)
    ∷ line ■ □ □ □ (number 8)  -- count, p
    ∷ line ■ □ □ □ (bytes (17 * p))  -- p times: prefix, its length
    ∷ line □ □ □ ■ (number 32)  -- diagnosis
    ∷ line □ □ □ ■ (reserved 32)
    ∷ line ■ ■ ■ ■ (fixed 32 eye_catcher)  -- eye catcher
    ∷ []

-- the fields of a message, for each line of the table that is a number or bytes, top to bottom
abbrev pub flag : Bool → ℕ
flag b = cond b 1 0

unfoldable pub values : ℕ → Message → List Field
values p m =
    num m.version ∷ num (flag m.first) ∷ num (flag m.sync) ∷ str m.peer ∷ str m.gid ∷ str m.mac
    ∷ num m.qp ∷ num m.key ∷ num m.index ∷ num m.token ∷ num m.code ∷ num m.mtu ∷ num m.base ∷ num m.psn
    ∷ num m.offset ∷ str m.mask ∷ num m.masklen ∷ num m.count ∷ str (take (17 * p) m.prefixes) ∷ num m.diagnosis ∷ []

-- and back, with zeros behind the prefixes
abbrev pub number_in : Field → ℕ
number_in (num x) = x
number_in (str b) = 0

abbrev pub bytes_in : Field → List ℕ
bytes_in (num x) = []
bytes_in (str b) = b

abbrev pub nth : List Field → ℕ → Field
nth fs i = get_or fs i (num 0)

unfoldable pub message_of : Option Kind → List Field → Message
message_of k fs =
    record {
      kind = k;
      version = number_in (nth fs 0);
      first = eqb (number_in (nth fs 1)) 1;
      sync = eqb (number_in (nth fs 2)) 1;
      peer = bytes_in (nth fs 3);
      gid = bytes_in (nth fs 4);
      mac = bytes_in (nth fs 5);
      qp = number_in (nth fs 6);
      key = number_in (nth fs 7);
      index = number_in (nth fs 8);
      token = number_in (nth fs 9);
      code = number_in (nth fs 10);
      mtu = number_in (nth fs 11);
      base = number_in (nth fs 12);
      psn = number_in (nth fs 13);
      offset = number_in (nth fs 14);
      mask = bytes_in (nth fs 15);
      masklen = number_in (nth fs 16);
      count = number_in (nth fs 17);
      prefixes = bytes_in (nth fs 18) ++ replicate (136 - length (bytes_in (nth fs 18))) 0;
      diagnosis = number_in (nth fs 19);
    }

-- "a message is the rows that have a place in its column, top to bottom"
abbrev pub stands : Option Kind → Line → Bool
stands None l = false
stands (Some Proposal) l = l.proposal
stands (Some Accept) l = l.accept
stands (Some Confirm) l = l.confirm
stands (Some Decline) l = l.decline

abbrev keep : Bool → Row → List Row → List Row
keep true r rows = r ∷ rows
keep false r rows = rows

unfoldable pub rows_in : Option Kind → List Line → List Row
rows_in k [] = []
rows_in k (l ∷ ls) = keep (stands k l) l.row (rows_in k ls)

-- of the values of all lines, those of the lines that have a place
abbrev choose : Row → Bool → (List Field → List Field) → List Field → List Field
choose (fixed w v) b f vs = f vs
choose (reserved w) b f vs = f vs
choose (number w) b f [] = []
choose (number w) true f (v ∷ vs) = v ∷ f vs
choose (number w) false f (v ∷ vs) = f vs
choose (bytes n) b f [] = []
choose (bytes n) true f (v ∷ vs) = v ∷ f vs
choose (bytes n) false f (v ∷ vs) = f vs

unfoldable pub chosen : Option Kind → List Line → List Field → List Field
chosen k [] vs = []
chosen k (l ∷ ls) vs = choose l.row (stands k l) (chosen k ls) vs

-- the values of all lines again: zero where a line has no place
abbrev restore : Row → Bool → (List Field → List Field) → List Field → List Field
restore (fixed w v) b f fs = f fs
restore (reserved w) b f fs = f fs
restore (number w) false f fs = num 0 ∷ f fs
restore (number w) true f [] = []
restore (number w) true f (x ∷ fs) = x ∷ f fs
restore (bytes n) false f fs = str (replicate n 0) ∷ f fs
restore (bytes n) true f [] = []
restore (bytes n) true f (x ∷ fs) = x ∷ f fs

unfoldable pub restored : Option Kind → List Line → List Field → List Field
restored k [] fs = []
restored k (l ∷ ls) fs = restore l.row (stands k l) (restored k ls) fs

-- o and p of a message: only a Proposal has the rows
abbrev pub only_proposal : Option Kind → ℕ → ℕ
only_proposal None x = 0
only_proposal (Some Proposal) x = x
only_proposal (Some Accept) x = 0
only_proposal (Some Confirm) x = 0
only_proposal (Some Decline) x = 0

abbrev pub offset_of : Message → ℕ
offset_of m = only_proposal m.kind m.offset

abbrev pub count_of : Message → ℕ
count_of m = only_proposal m.kind m.count

-- writing: the rows, the fields, whether they fit, the bytes
unfoldable pub lines_of : Message → List Line
lines_of m = table m.kind (offset_of m) (count_of m)

unfoldable pub rows_of : Message → List Row
rows_of m = rows_in m.kind (lines_of m)

unfoldable pub chosen_of : Message → List Field
chosen_of m = chosen m.kind (lines_of m) (values (count_of m) m)

unfoldable pub size_of : Message → ℕ
size_of m = length_of m.kind (offset_of m) (count_of m)

-- "fields fit if each is below 2 to its bits, version is 1 to 15, p at most 8 with p prefixes, and the message is at most 65,535 bytes"
unfoldable pub fits_of : Message → Bool
fits_of m = leb 1 (type_of m.kind) && (leb 1 m.version && (leb (count_of m) 8 && (leb (size_of m) 65535 && fits (rows_of m) (chosen_of m))))

unfoldable pub encode_of : Message → List ℕ
encode_of m = written_of (size_of m) (rows_of m) (chosen_of m)

-- "the writer fills the front of a lent buffer, leaves its rest and answers the count, or 0 with nothing written where the fields do not
-- fit or the buffer is shorter than the message"
unfoldable pub writes_b : Message → List ℕ → Bool
writes_b m out = fits_of m && leb (size_of m) (length out)

unfoldable pub written_count : Message → List ℕ → ℕ
written_count m out = cond (writes_b m out) (size_of m) 0

unfoldable pub written_over : Message → List ℕ → List ℕ
written_over m out = cond (writes_b m out) (encode_of m ++ drop (size_of m) out) out

-- "a message of A.2 is n bytes of which all this holds, looked at in this order": n is at least 28 and bytes 0-3 are the eye catcher;
-- byte 4 is 1 to 4; 7h is not 0; bytes 5-6 are n;
unfoldable pub begins_b : List ℕ → Bool
begins_b l =
    leb 28 (length l)
    && (eqb (number_at l 0 4) eye_catcher
    && (leb 1 (number_at l 4 1)
    && (leb (number_at l 4 1) 4
    && (leb 1 (number_at l 7 1 / 16)
    && eqb (number_at l 5 2) (length l)))))

-- where a Proposal has o and p
abbrev pub offset_at : List ℕ → ℕ
offset_at l = number_at l 38 2

abbrev pub count_at : List ℕ → ℕ
count_at l = number_at l (47 + offset_at l) 1

-- n is 68 (types 2, 3) or 28 (4), or (1) n is at least 52, then at least 52+o, then p is at most 8 and n is 52+o+17p;
unfoldable pub sized_b : List ℕ → Bool
sized_b l =
    cond (eqb (number_at l 4 1) 4) (eqb (length l) 28)
    (cond (eqb (number_at l 4 1) 1)
    (leb 52 (length l)
    && (leb (52 + offset_at l) (length l)
    && (leb (count_at l) 8
    && eqb (length l) (52 + offset_at l + 17 * count_at l))))
    (eqb (length l) 68))

-- the last four bytes are the eye catcher
unfoldable pub message_b : List ℕ → Bool
message_b l = begins_b l && (sized_b l && eqb (number_at l (length l - 4) 4) eye_catcher)

-- what kind of message the bytes are
unfoldable pub kind_of : ℕ → Kind
kind_of t = cond (eqb t 1) Proposal (cond (eqb t 2) Accept (cond (eqb t 3) Confirm Decline))

unfoldable pub kind_in : List ℕ → Option Kind
kind_in l = cond (message_b l) (Some (kind_of (number_at l 4 1))) None

-- reading: the rows of the kind's column are cut; all that has no place there is zero
unfoldable pub message_in : Option Kind → ℕ → ℕ → List ℕ → Message
message_in k o p l = message_of k (restored k (table k o p) (fields_of (rows_in k (table k o p)) l))

unfoldable pub read_of : List ℕ → Message
read_of l = message_in (kind_in l) (only_proposal (kind_in l) (offset_at l)) (only_proposal (kind_in l) (count_at l)) l

-- a message with zeros where its kind has no place: what is read is so
unfoldable pub tidy_of : Message → Message
tidy_of m = message_of m.kind (restored m.kind (lines_of m) (chosen_of m))

-- the claims of the page; proofs/RoundTrip proves them, from the laws over any rows
-- fields that fit read back
abbrev pub ReadsBack : Type 0
ReadsBack = (m : Message) → fits_of m ≡ true → read_of (encode_of m) ≡ tidy_of m

-- each message read fits
abbrev pub ReadFits : Type 0
ReadFits = (l : List ℕ) → message_b l ≡ true → fits_of (read_of l) ≡ true

-- one with its reserved rows zero is written again byte for byte
abbrev pub WrittenAgain : Type 0
WrittenAgain =
    (l : List ℕ) → are_bytes l ≡ true → message_b l ≡ true → reserved_zero (rows_of (read_of l)) (spread l) ≡ true → encode_of (read_of l) ≡ l
