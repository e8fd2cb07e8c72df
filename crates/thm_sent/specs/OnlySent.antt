-- Request 2026-14, "Only what was sent": its sentences in its order, each over the definition that says it. Two groups, one connection
-- between them, any calls on any connections; about the rules that every contract cites (`answer`, `next`, `Did`), over the books of
-- `Books`. The last sentence, the plain engine, is in `Plain`. Crate thm_sent proves it. Assumes nothing.
use Rattle.std.specs.Prelude.{ℕ, ◌+◌, ◌≤◌, ◌<◌, ◌≡◌, Bool, true, false, ◌&&◌, cond, List, [], ◌∷◌, ◌++◌, map, eqb, length, take, get_or}
use Rattle.std.proofs.Math.Option.{some}
use Rattle.cdc.specs.Cdc.{decode_of}
use Rattle.conn_record.specs.declared.RToken.{RToken}
use Rattle.conn_record.specs.declared.Opening.{Opening}
use Rattle.conn_record.specs.Connection.{every}
use Rattle.group_table.specs.Table.{open_b}
use Rattle.group_rules.specs.Rules.{Group, open_slot, free_slot, link_change, link_message, link_send, sample, Call, on, hear, manage, refusal, Answer}
use Rattle.group_rules.specs.Rules.{next, link_of, Fresh}
use Rattle.thm_order.specs.Statement.{leaves, At, Made}
use Rattle.thm_safety.specs.Statement.{accepted_b}
use Rattle.thm_sent.specs.Books.{near, far, Two, pick, other_side, both, Event, calls_at, said_at, Names, Aim, sends, places, reads}
use Rattle.thm_sent.specs.Books.{finishes, hears, elsewhere, aim_of, Owed, Item, owed, message, failover_b, lands_in, Origin, End}
use Rattle.thm_sent.specs.Books.{both_begun, called, reached}

-- "A CONNECTION IS OPENED AT BOTH ENDS, BEFORE EITHER SENDS, WITH SIZES, TOKENS, BASE AND INDEX THAT MATCH." That open at an end is the
-- first accepted one of this slot with this link, this own token, the other end's own one as peer token, the other group's N as N', the
-- other end's slot as index, and for each link the key and base of the other's memory. (That it is made before either sends is not asked:
-- what is sent before it waits under way.)
abbrev pub same_token : RToken → RToken → Bool
same_token a b = eqb a.key b.key && eqb a.base b.base

unfoldable pub match_b : Names → Names → ℕ → ℕ → Opening → Bool
match_b mine theirs N k o =
    let r = o.remote in
    every
    (eqb k mine.slot
    ∷ eqb o.own mine.own
    ∷ eqb o.peer theirs.own
    ∷ eqb o.link mine.link
    ∷ eqb r.size N
    ∷ eqb r.index theirs.slot
    ∷ same_token r.link1 (theirs.reach 1)
    ∷ same_token r.link2 (theirs.reach 2)
    ∷ same_token r.link3 (theirs.reach 3)
    ∷ same_token r.link4 (theirs.reach 4)
    ∷ [])

unfoldable pub opens_b : Names → Names → ℕ → Call → Answer → Bool
opens_b mine theirs N (on k q) a = false
opens_b mine theirs N (hear b) a = false
opens_b mine theirs N (manage (open_slot k o)) a = accepted_b a.says && match_b mine theirs N k o
opens_b mine theirs N (manage (free_slot k)) a = false
opens_b mine theirs N (manage (link_change l up b)) a = false
opens_b mine theirs N (manage (link_message l b out)) a = false
opens_b mine theirs N (manage (link_send l k vs b)) a = false
opens_b mine theirs N (manage (sample l ms)) a = false

-- Asked of an event, with both ends as the events before left them. What it is to the connection at its own end: before that open, nothing
abbrev pub Asking : Type 1
Asking = Two Names → Two End → Event → Type 0

abbrev pub aim_at : Two Names → Two End → Event → Aim
aim_at names ends e = cond (pick e.side ends).opened (aim_of (pick e.side names) e.call) elsewhere

-- where a placing is performed at an end, P; where a message is heard, H; of other calls nothing is asked
abbrev pub IfComes : (ℕ → List ℕ → Type 0) → (List ℕ → Type 0) → Aim → Type 0
IfComes P H (sends u b) = Unit {0}
IfComes P H (places at b) = P at b
IfComes P H (reads out) = Unit {0}
IfComes P H finishes = Unit {0}
IfComes P H (hears b) = H b
IfComes P H elsewhere = Unit {0}

-- "ITS PLACINGS ARE PERFORMED BEFORE THE MESSAGE THAT ANNOUNCES THEM": when one is heard, every byte handed over before it was
abbrev pub AllPerformed : List Item → Type 0
AllPerformed [] = Unit {0}
AllPerformed (owed o ∷ l) = (o.performed ≡ true) × AllPerformed l
AllPerformed (message m ∷ l) = Unit {0}

abbrev pub PerformedBefore : Asking
PerformedBefore names ends e = IfComes (λ at b. Unit {0}) (λ b. AllPerformed (pick e.side ends).coming) (aim_at names ends e)

-- "AND NO OTHERS": each byte placed on the slot is under way to that very offset
pub data OwedIn (n : Names) (N x v : ℕ) : List Item → Type 0 where
  here : {o : Owed} {l : List Item} → lands_in n N x 1 o ≡ true → o.byte ≡ v → OwedIn n N x v (owed o ∷ l)
  later : {i : Item} {l : List Item} → OwedIn n N x v l → OwedIn n N x v (i ∷ l)

abbrev pub EachOwed : Names → End → ℕ → List ℕ → Type 0
EachOwed n e at b = (i : ℕ) → i < length b → OwedIn n e.group.N (at + i) (get_or b i 0) e.coming

abbrev pub NoOthers : Asking
NoOthers names ends e = IfComes (EachOwed (pick e.side names) (pick e.side ends)) (λ b. Unit {0}) (aim_at names ends e)

-- "EACH MESSAGE IS HEARD ONCE, IN ORDER, AND NO OTHER": one heard with the connection's token has the fields of the first under way
abbrev pub FirstIs : List ℕ → List Item → Type 0
FirstIs b [] = ⊥
FirstIs b (owed o ∷ l) = FirstIs b l
FirstIs b (message m ∷ l) = decode_of b ≡ decode_of m

abbrev pub HeardInOrder : Asking
HeardInOrder names ends e = IfComes (λ at b. Unit {0}) (λ b. FirstIs b (pick e.side ends).coming) (aim_at names ends e)

-- "THE LINK AT EACH END STAYS ACTIVE", or the connection moves to one that is: whenever a placing is performed there or a message heard,
-- the link that its record then names is active. (While it is down every call is refused with 6, and alters nothing.)
abbrev pub OwnActive : Names → End → Type 0
OwnActive n e = link_of e.group n.slot ≡ true

abbrev pub LinkActive : Asking
LinkActive names ends e =
    let active = OwnActive (pick e.side names) (pick e.side ends) in IfComes (λ at b. active) (λ b. active) (aim_at names ends e)

-- "EACH GROUP'S CALLS GET ITS S, N, TABLES AND MEMORY AS LAST LEFT": `Made` says so of the calls at each end, and of their answers that
-- they are what the contracts promise. The groups are such as any calls leave of a fresh one
abbrev pub FromFresh : Group → Type 0
FromFresh g = (g₀ : Group) × Fresh g₀ × (cs : List Call) × (leaves g₀ cs ≡ g)

pub record AsLeft (g h : Group) (es : List Event) : Type 0 where
  pub near_fresh : FromFresh g
  pub far_fresh : FromFresh h
  pub near_end : Group
  pub far_end : Group
  pub near_made : Made g (calls_at near es) (said_at near es) near_end
  pub far_made : Made h (calls_at far es) (said_at far es) far_end

-- "THEN, OVER ANY CALLS ON ANY CONNECTIONS": one event on, and all. Before that open calls only leave the group that they leave
unfoldable pub waited : Names → Names → End → ℕ → Call → Answer → End
waited mine theirs e N c a =
    record {
      group = next e.group c;
      opened = opens_b mine theirs N c a;
      coming = e.coming;
      put = e.put;
      took = e.took;
      read = e.read;
    }

unfoldable pub mine_after : Names → Names → End → End → Call → Answer → End
mine_after mine theirs e other c a = cond e.opened (called mine e c a) (waited mine theirs e other.group.N c a)

unfoldable pub theirs_after : Names → End → End → Call → Answer → End
theirs_after mine e other c a = cond e.opened (reached mine e c a other) other

unfoldable pub after : Two Names → Two End → Event → Two End
after names ends e =
    let s = e.side in
    let n = pick s names in
    let mine = pick s ends in
    let theirs = pick (other_side s) ends in
    both s (mine_after n (pick (other_side s) names) mine theirs e.call e.said) (theirs_after n mine theirs e.call e.said)

unfoldable pub course : Two Names → Two End → List Event → Two End
course names ends [] = ends
course names ends (e ∷ es) = course names (after names ends e) es

unfoldable pub Throughout : Asking → Two Names → Two End → List Event → Type 0
Throughout P names ends [] = Unit {0}
Throughout P names ends (e ∷ es) = P names ends e × Throughout P names (after names ends e) es

-- "FROM THAT OPEN UNTIL THE SLOT CLOSES AT EITHER END": wherever that open was made, the slot is open when a call is made. The call that
-- closes it may stand last
abbrev pub OpenThere : Names → End → Bool
OpenThere n e = open_b e.group.S e.group.table n.slot

abbrev pub OpenIf : Names → End → Type 0
OpenIf n e = e.opened ≡ true → OpenThere n e ≡ true

abbrev pub StillOpen : Asking
StillOpen names ends e = OpenIf names.at_near ends.at_near × OpenIf names.at_far ends.at_far

-- the premises together
pub record Met (Open : Asking) (names : Two Names) (ends : Two End) (e : Event) : Type 0 where
  pub is_open : Open names ends e
  pub link_active : LinkActive names ends e
  pub no_others : NoOthers names ends e
  pub performed_before : PerformedBefore names ends e
  pub heard_in_order : HeardInOrder names ends e

pub record PremisesWith (Open : Asking) (names : Two Names) (g h : Group) (es : List Event) : Type 0 where
  pub as_left : AsLeft g h es
  pub throughout : Throughout (Met Open) names (both_begun g h) es

abbrev pub Premises : Two Names → Group → Group → List Event → Type 0
Premises = PremisesWith StillOpen

abbrev pub holds_of : Origin → ℕ
holds_of o = o.holds

pub record OnlySent (e other : End) : Type 0 where
  -- "THE BYTES READ AT ONE END ARE THE FIRST SO MANY OF THE BYTES TAKEN BY SENDS AT THE OTHER."
  pub first_so_many : e.read.got ≡ take (length e.read.got) other.took
  -- "EACH WAS READ FROM THIS ELEMENT'S DATA,"
  pub from_element : map holds_of e.read.origins ≡ e.read.got
  pub within_data : (i : ℕ) (o : Origin) → At e.read.origins i o → (4 ≤ o.offset) × (o.offset < e.group.N)
  -- "WHERE A PLACING OF THIS CONNECTION PUT IT": the placing of the byte with the same number
  pub where_put : (i : ℕ) (o : Origin) → At e.read.origins i o → o.put ≡ some i

-- "IT ALSO HOLDS WITH URGENT SENDS AND HEAD-AND-BODY SENDS": they are among the sends (`asked`)
abbrev pub BothOnly : Two End → Type 0
BothOnly ends = OnlySent ends.at_near ends.at_far × OnlySent ends.at_far ends.at_near

abbrev pub OnlyWhatWasSent : Type 0
OnlyWhatWasSent =
    (names : Two Names) (g h : Group) (es : List Event) → Premises names g h es → BothOnly (course names (both_begun g h) es)

-- At every point of such a list: its beginnings meet the premises too
abbrev pub BeginningsToo : Type 0
BeginningsToo = (names : Two Names) (g h : Group) (es rest : List Event) → Premises names g h (es ++ rest) → Premises names g h es

-- AND NO ONE IS TURNED AWAY: what the premises let through is taken. No place of theirs is refused but with 7 (A was sent here, or none are
-- left to come), and no hear; and no message with F aborts the connection: none is made for it
abbrev pub TakenIn : Answer → Aim → Type 0
TakenIn a =
    IfComes (λ at b. (k : ℕ) → a.says ≡ refusal k → k ≡ 7)
    (λ b. ((k : ℕ) → a.says ≡ refusal k → ⊥) × (failover_b (decode_of b) ≡ true → a.made ≡ false))

abbrev pub NotTurnedAway : Asking
NotTurnedAway names ends e = TakenIn e.said (aim_at names ends e)

abbrev pub NoOneTurnedAway : Type 0
NoOneTurnedAway =
    (names : Two Names) (g h : Group) (es : List Event) → Premises names g h es → Throughout NotTurnedAway names (both_begun g h) es
