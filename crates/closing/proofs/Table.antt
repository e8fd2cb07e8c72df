-- The table's rule, at all 32 values of the five marks by one computation.
-- Assumes nothing.
use mathlib.Core.Path.{◌≡◌, ◌∙◌, ap}
use mathlib.Core.Bool.{Bool, true, false, ◌&&◌}
use mathlib.Core.List.{List}
use Prim.Native.Nat.{ℕ, ◌<◌}
use lib.Dec.{T, eqb, eqb→eq, ltb, ltb→lt}
use lib.ListN.{get_or}
use Rattle.closing.specs.declared.Marks.{Marks}
use Rattle.closing.specs.Closing.{close_state_of, number_of, packed_of}

left : (a b : Bool) → T (a && b) → T a
left true b t = tt
left false b t = t

right : (a b : Bool) → T (a && b) → T b
right true b t = t
right false b t = absurd t

abbrev all : (Bool → Bool) → Bool
all f = f true && f false

each : (f : Bool → Bool) → T (all f) → (b : Bool) → T (f b)
each f t true = left (f true) (f false) t
each f t false = right (f true) (f false) t

-- marks, from the five that the table is indexed by
abbrev marks : (abort : Bool) (ds cs dh ch first : Bool) → Marks
marks abort ds cs dh ch first =
    record { sent = record { done = ds; closed = cs }; heard = record { done = dh; closed = ch }; first = first; abort = abort }

-- a test passes at all values of the five marks
abbrev pub everywhere : (Marks → Bool) → Bool → Bool
everywhere f abort = all (λ ds. all (λ cs. all (λ dh. all (λ ch. all (λ first. f (marks abort ds cs dh ch first))))))

everywhere_at : (f : Marks → Bool) (m : Marks) → T (everywhere f m.abort) → T (f m)
everywhere_at f m h =
    let at : Bool → Bool → Bool → Bool → Bool → Bool = λ ds cs dh ch first. f (marks m.abort ds cs dh ch first) in
    let ds = m.sent.done in
    let cs = m.sent.closed in
    let dh = m.heard.done in
    let ch = m.heard.closed in
    each (at ds cs dh ch)
    (each (λ ch. all (at ds cs dh ch))
    (each (λ dh. all (λ ch. all (at ds cs dh ch)))
    (each (λ cs. all (λ dh. all (λ ch. all (at ds cs dh ch))))
    (each (λ ds. all (λ cs. all (λ dh. all (λ ch. all (at ds cs dh ch))))) h ds) cs) dh) ch) m.first

abbrev pub right_entry : List ℕ → Marks → Bool
right_entry table m = eqb (get_or table (packed_of m) 0) (number_of (close_state_of m))

-- every entry of a table is the rule's
abbrev pub right_table : List ℕ → Bool → Bool
right_table table = everywhere (right_entry table)

-- a table that passes the test has, at any marks' place, their state's number
pub table_right : (table : List ℕ) (m : Marks) (at : ℕ) → at ≡ packed_of m → T (right_table table m.abort)
    → get_or table at 0 ≡ number_of (close_state_of m)
table_right table m at e t = ap (λ (k : ℕ). get_or table k 0) e ∙ eqb→eq _ _ (everywhere_at (right_entry table) m t)

below : Marks → Bool
below m = ltb (packed_of m) 32

pub packed_below : (m : Marks) → packed_of m < 32
unfolding packed_of below
packed_below m = ltb→lt _ _ (everywhere_at below m tt)
