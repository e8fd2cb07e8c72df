-- Demand 3 and document 01, "Who sees what": the claims, about the rules that every contract cites (`answer`, `next`, `Did`).
-- proofs/Theorem proves them. Assumes nothing.
use Rattle.std.specs.Prelude.{ℕ, zero, suc, ◌<◌, ◌≡◌, ◌⊎◌, true, cond, List, [], ◌∷◌, ◌++◌, length}
use Rattle.std.proofs.Math.Option.{some}
use Rattle.std.proofs.Math.ListN.{get_elem?}
use Rattle.cdc.specs.declared.Decoded.{Decoded}
use Rattle.cdc.specs.declared.Decoded.TheVariants.{Good, Malformed}
use Rattle.cdc.specs.Cdc.{decode_of}
use Rattle.group_table.specs.Table.{slot_b, open_b}
use Rattle.group_rules.specs.Rules.{Group, Call, on, hear, manage, Answer, answer, next, record_of_all, element_in, link_of, holder_of, Did, Fresh}

-- A LIST OF CALLS, each made on the group as the last one left it: what the rules answer, and the group at the end. A call holds all bytes
-- lent to it, so a call that stands in two lists is lent the same bytes in both.
unfoldable pub answers : Group → List Call → List Answer
answers g [] = []
answers g (c ∷ cs) = answer g c ∷ answers (next g c) cs

unfoldable pub leaves : Group → List Call → Group
leaves g [] = g
leaves g (c ∷ cs) = leaves (next g c) cs

-- number i of a list, counted from 0, is x
abbrev pub At : {A : Type 0} → List A → ℕ → A → Type 0
At l i x = get_elem? l i ≡ some x

-- WHOSE A CALL IS. A management call (document 01: a desk call) is the manager's.
pub data Whose : Type 0 where
  the_manager : Whose
  connection : ℕ → Whose
  nobody : Whose

-- the slot that has a heard message's token; 0: no open slot has it, or it is 0, or the bytes are malformed
abbrev pub hearer : Group → Decoded → ℕ
hearer g (Good m) = holder_of g m.token
hearer g Malformed = 0

abbrev pub connection_at : ℕ → Whose
connection_at zero = nobody
connection_at (suc k) = connection (suc k)

-- By the group as it was when the call's span began: a call on a slot belongs to that slot's connection; one on a slot outside 1 to S,
-- or closed then, belongs to nobody. A heard message belongs to the connection that held its token then; one with a token nobody held,
-- or malformed, belongs to nobody. A desk call, sample and link send among them, is the manager's, a refused one too.
unfoldable pub owner_of : Group → Call → Whose
owner_of began (on k q) = cond (open_b began.S began.table k) (connection k) nobody
owner_of began (hear b) = connection_at (hearer began (decode_of b))
owner_of began (manage d) = the_manager

-- A span is the connection calls before the first desk call, between two neighbouring ones, or after the last: a desk call ends one, and
-- the next begins with the group that it left.
abbrev pub began_by : Whose → Group → Group → Group
began_by the_manager left began = left
began_by (connection k) left began = began
began_by nobody left began = began

-- whose each call of a list is, made from g in a span that began with the group `began`, as the rules give that from the calls before
unfoldable pub whose_from : Group → Group → List Call → List Whose
whose_from began g [] = []
whose_from began g (c ∷ cs) = owner_of began c ∷ whose_from (began_by (owner_of began c) (next g c) began) (next g c) cs

abbrev pub whose : Group → List Call → List Whose
whose g cs = whose_from g g cs

-- ANOTHER ORDER. The numbers below n each have a place, one to one; `back` is the inverse.
pub record Renumbering (n : ℕ) : Type 0 where
  pub place : ℕ → ℕ
  pub back : ℕ → ℕ
  pub place_in : (i : ℕ) → i < n → place i < n
  pub back_in : (j : ℕ) → j < n → back j < n
  pub back_place : (i : ℕ) → i < n → back (place i) ≡ i
  pub place_back : (j : ℕ) → j < n → place (back j) ≡ j

-- Call number i of the first list is call number `place i` of the second. A call that stands twice is two calls: it has two numbers.
-- No call is moved across a desk call: of two calls one of which is a desk call, the one before stays before. Each connection's own
-- calls keep their order (in two spans they do by that alone: a desk call stands between). Nothing else is asked, so nobody's calls may
-- stand anywhere in their span.
pub record AnotherOrder (g : Group) (first second : List Call) : Type 0 where
  pub numbers : Renumbering (length first)
  pub as_long : length second ≡ length first
  pub same_call : (i : ℕ) (c : Call) → At first i c → At second (numbers.place i) c
  pub manage_kept : (i j : ℕ) → i < j → j < length first → At (whose g first) i the_manager ⊎ At (whose g first) j the_manager
      → numbers.place i < numbers.place j
  pub own_kept : (k i j : ℕ) → i < j → j < length first → At (whose g first) i (connection k) → At (whose g first) j (connection k)
      → numbers.place i < numbers.place j

-- CALLS THAT WERE MADE: from g the calls cs answered said and left end. Of each is known what its contract promises, `Did`, and that it got
-- the group as the last one left it; nobody else writes the tables or the memory meanwhile.
pub data Made : Group → List Call → List Answer → Group → Type 0 where
  none_made : {g : Group} → Made g [] [] g
  one_made : {g h end : Group} {c : Call} {cs : List Call} {a : Answer} {said : List Answer} → Did g c a h → Made h cs said end
      → Made g (c ∷ cs) (a ∷ said) end

-- SENTENCE 3. Every call, in either order, answers as the rules answer it in the first, out bytes and message bytes too. The tables
-- and the memory end the same: `Group` has the connection table field for field, the links, their gauges, the role, the exchange and the
-- queue, the memory byte for byte, S and N. Each call's owner is the same in both orders.
pub record SameOutcome (g : Group) (first second : List Call) (place : ℕ → ℕ) (said₁ said₂ : List Answer) (end₁ end₂ : Group) : Type 0 where
  pub in_first : (i : ℕ) (a : Answer) → At (answers g first) i a → At said₁ i a
  pub in_second : (i : ℕ) (a : Answer) → At (answers g first) i a → At said₂ (place i) a
  pub by_rules : end₁ ≡ leaves g first
  pub same_end : end₂ ≡ end₁
  pub same_owner : (i : ℕ) (w : Whose) → At (whose g first) i w → At (whose g second) (place i) w

abbrev pub Sentence3 : Type 0
Sentence3 =
    (g : Group) → Fresh g
    → (first second : List Call) (o : AnotherOrder g first second)
    → (said₁ said₂ : List Answer) (end₁ end₂ : Group)
    → Made g first said₁ end₁ → Made g second said₂ end₂
    → SameOutcome g first second o.numbers.place said₁ said₂ end₁ end₂

-- Nobody's call changes nothing, after whatever calls it stands.
abbrev pub NobodysCall : Type 0
NobodysCall =
    (g : Group) → Fresh g → (cs : List Call) (c : Call) → At (whose g (cs ++ c ∷ [])) (length cs) nobody
    → next (leaves g cs) c ≡ leaves g cs

-- WHO SEES WHAT. The slot on which a connection call acts: for hear, the slot that has the token (0: none has it)
abbrev pub ActsOn : Group → Call → ℕ → Type 0
ActsOn g (on s q) k = s ≡ k
ActsOn g (hear b) k = hearer g (decode_of b) ≡ k
ActsOn g (manage d) k = ⊥

-- two groups with the same record, the same element and the same state of its link at slot k
pub record SameSlot (g h : Group) (k : ℕ) : Type 0 where
  pub same_record : record_of_all g k ≡ record_of_all h k
  pub same_element : element_in g k ≡ element_in h k
  pub same_link : link_of g k ≡ link_of h k

-- what a call on slot k reads of the group: S, N, the memory's length and the table's, and that slot, if there is one
pub record Agree (g h : Group) (k : ℕ) : Type 0 where
  pub same_S : g.S ≡ h.S
  pub same_N : g.N ≡ h.N
  pub same_length : length g.memory ≡ length h.memory
  pub same_count : length g.table ≡ length h.table
  pub same_slot : slot_b g.S k ≡ true → SameSlot g h k

-- Two groups that agree on these give equal answers, and equal records and elements: they still agree.
abbrev pub WhoSeesWhat : Type 0
WhoSeesWhat =
    (g h : Group) (c : Call) (k : ℕ) → ActsOn g c k → ActsOn h c k → Agree g h k
    → (answer g c ≡ answer h c) × Agree (next g c) (next h c) k
