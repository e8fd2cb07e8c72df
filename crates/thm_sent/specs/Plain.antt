-- Request 2026-14, its last sentence: "A PLAIN ENGINE IN THE DEFINITIONS THAT KEEPS POSITIONS AS WHOLE NUMBERS FROM THE OPEN, NEVER
-- WRAPPED, IS TO BE PROVED EQUAL TO THE CURSORS UNDER THESE PREMISES." It has no cursor, no offset, no memory and no byte. Of a call it is
-- told whether that open was made, what the call is to the connection, whether it was refused, whether a message was made and with A, and
-- whether the connection moved and told (request 2026-13); all numbers are its own. Crate thm_sent proves it. Assumes nothing.
use Rattle.std.specs.Prelude.{ℕ, ◌+◌, ◌-◌, ◌%◌, ◌≤◌, min, ◌≡◌, Bool, true, false, ◌&&◌, ◌||◌, cond, List, [], ◌∷◌, ◌++◌, ltb, leb, length}
use Rattle.cursor.specs.Cursor.{data_of, cursor_at}
use Rattle.cdc.specs.declared.Message.{Message}
use Rattle.cdc.specs.declared.Decoded.{Decoded}
use Rattle.cdc.specs.declared.Decoded.TheVariants.{Good, Malformed}
use Rattle.cdc.specs.Cdc.{decode_of}
use Rattle.conn_record.specs.declared.Inbound.{Inbound}
use Rattle.conn_record.specs.declared.Outbound.{Outbound}
use Rattle.conn_record.specs.declared.Urgent.{Urgent}
use Rattle.conn_record.specs.Connection.{no_place, place_at}
use Rattle.group_rules.specs.Rules.{Group, Says, Answer, record_of_all}
use Rattle.thm_changes.specs.Numbers.{refused_b}
use Rattle.thm_sent.specs.Books.{Two, pick, other_side, both, Event, Names, Aim, sends, places, reads, finishes, hears, elsewhere}
use Rattle.thm_sent.specs.Books.{aim_of, Item, Owed, owed, message, tells_in, End, both_begun}
use Rattle.thm_sent.specs.OnlySent.{after, course, OpenThere, Premises}

-- a message under way: how many bytes its maker had taken, how many it had read, whether an urgent place of its own stood, and which of its
-- maker's messages it is, from 1; or one with F, whose number is that of the last before it
pub record Mark : Type 0 where
  pub taken : ℕ
  pub read : ℕ
  pub urges : Bool
  pub number : ℕ
  pub failover : Bool

-- what goes out of an end: bytes taken (Q), of these known to be read at the other (R), the urgent place of its own sends (U: none stands
-- once R has reached it), and how many messages it made
pub record Outward : Type 0 where
  pub Q : ℕ
  pub R : ℕ
  pub U : ℕ
  pub made : ℕ

-- what comes in: bytes heard of (P), read (C), told to be read (T), the urgent place of what it hears of (W: none stands once C has reached
-- it), and the number of the last message heard, from 1
pub record Inward : Type 0 where
  pub P : ℕ
  pub C : ℕ
  pub T : ℕ
  pub W : ℕ
  pub last : ℕ

-- one end: both, whether A was sent, and the messages under way to it
pub record Plain : Type 0 where
  pub outward : Outward
  pub inward : Inward
  pub mute : Bool
  pub coming : List Mark

abbrev pub plain_begun : Plain
plain_begun =
    record {
      outward = record { Q = 0; R = 0; U = 0; made = 0 };
      inward = record { P = 0; C = 0; T = 0; W = 0; last = 0 };
      mute = false;
      coming = [];
    }

-- a send that is not refused takes the smaller of room and length, where room is R + D' - Q; and none while R is before the urgent place.
-- An urgent send of a byte or more, taken whole, makes Q the urgent place
abbrev pub free_room : ℕ → Outward → ℕ → ℕ
free_room d' o len = cond (ltb o.R o.U) 0 (min (o.R + d' - o.Q) len)

unfoldable pub plain_sent : Outward → Bool → ℕ → ℕ → Outward
plain_sent o urgent len n =
    record { Q = o.Q + n; R = o.R; U = cond (urgent && (ltb 0 len && leb len n)) (o.Q + n) o.U; made = o.made }

-- a read that is not refused reads the smaller of P - C and the room in out
unfoldable pub plain_read : Inward → ℕ → Inward
plain_read i n = record { P = i.P; C = i.C + n; T = i.T; W = i.W; last = i.last }

-- a message is heard: P and R become what it says; one that urges and moves P makes the new P urgent
unfoldable pub plain_heard_out : Outward → Mark → Outward
plain_heard_out o m = record { Q = o.Q; R = m.read; U = o.U; made = o.made }

unfoldable pub plain_heard_in : Inward → Mark → Inward
plain_heard_in i m =
    record { P = m.taken; C = i.C; T = i.T; W = cond (m.urges && ltb i.P m.taken) m.taken i.W; last = m.number }

-- one with F changes nothing, and none does after A was sent
abbrev pub with_marks : Plain → List Mark → Plain
with_marks e l = record { outward = e.outward; inward = e.inward; mute = e.mute; coming = l }

unfoldable pub plain_heard : Plain → Mark → List Mark → Plain
plain_heard e m l = record { outward = plain_heard_out e.outward m; inward = plain_heard_in e.inward m; mute = e.mute; coming = l }

unfoldable pub plain_hears : Plain → List Mark → Plain
plain_hears e [] = e
plain_hears e (m ∷ l) = cond (m.failover || e.mute) (with_marks e l) (plain_heard e m l)

-- what a call does; d': the other element's data bytes
abbrev pub unless_refused : Says → ℕ → ℕ
unless_refused says n = cond (refused_b says) 0 n

abbrev pub plain_does : ℕ → Plain → Says → Aim → Plain
plain_does d' e says (sends u b) =
    let n = unless_refused says (free_room d' e.outward (length b)) in
    record { outward = plain_sent e.outward u (length b) n; inward = e.inward; mute = e.mute; coming = e.coming }
plain_does d' e says (places at b) = e
plain_does d' e says (reads out) =
    let n = unless_refused says (min (e.inward.P - e.inward.C) (length out)) in
    record { outward = e.outward; inward = plain_read e.inward n; mute = e.mute; coming = e.coming }
plain_does d' e says finishes = e
plain_does d' e says (hears b) = plain_hears e e.coming
plain_does d' e says elsewhere = e

-- and tells: a message made sets T to C, and carries Q and C, and whether an urgent place stands. A move tells the same with F, under the
-- number of the last message made; it uses no number, and T stays
abbrev pub aborts_b : Decoded → Bool
aborts_b (Good m) = m.flags.abort
aborts_b Malformed = false

unfoldable pub plain_told : Plain → Bool → Plain
plain_told e aborts =
    let o = e.outward in
    let i = e.inward in
    record {
      outward = record { Q = o.Q; R = o.R; U = o.U; made = o.made + 1 };
      inward = record { P = i.P; C = i.C; T = i.C; W = i.W; last = i.last };
      mute = e.mute || aborts;
      coming = e.coming;
    }

abbrev pub mark_of : Plain → ℕ → Bool → Mark
mark_of e number failover =
    let o = e.outward in
    record { taken = o.Q; read = e.inward.C; urges = ltb o.R o.U; number = number; failover = failover }

abbrev pub told_mark : Plain → Mark
told_mark e = mark_of e (e.outward.made + 1) false

abbrev pub moved_mark : Plain → Mark
moved_mark e = mark_of e e.outward.made true

-- the other end with a message more under way to it
abbrev pub plain_reaches : Plain → Mark → Plain
plain_reaches other m = with_marks other (other.coming ++ (m ∷ []))

abbrev pub mine_b : Aim → Bool
mine_b (sends u b) = true
mine_b (places at b) = true
mine_b (reads out) = true
mine_b finishes = true
mine_b (hears b) = true
mine_b elsewhere = false

abbrev pub plain_mine : Plain → Answer → Aim → Plain
plain_mine e a aim = cond (mine_b aim && a.made) (plain_told e (aborts_b (decode_of a.message))) e

abbrev pub plain_theirs : Plain → Plain → Answer → Bool → Aim → Plain
plain_theirs e other a moved aim =
    cond (mine_b aim) (cond a.made (plain_reaches other (told_mark e)) other) (cond moved (plain_reaches other (moved_mark e)) other)

-- ONE EVENT ON, and all: the engine begins at that open
unfoldable pub plain_after : Two Names → Two End → Two Plain → Event → Two Plain
plain_after names ends plains e =
    let s = e.side in
    let n = pick s names in
    let mine = pick s plains in
    let theirs = pick (other_side s) plains in
    let aim = aim_of n e.call in
    let done = plain_does (data_of (pick (other_side s) ends).group.N) mine e.said.says aim in
    let moved = tells_in n (pick s ends).group e.call in
    let at_open = (pick s ends).opened in
    both s (cond at_open (plain_mine done e.said aim) mine) (cond at_open (plain_theirs done theirs e.said moved aim) theirs)

unfoldable pub plain_course : Two Names → Two End → Two Plain → List Event → Two Plain
plain_course names ends plains [] = plains
plain_course names ends plains (e ∷ es) = plain_course names (after names ends e) (plain_after names ends plains e) es

-- THE CLAIM. d: this element's data bytes; d': the other's. The cursors, urgent places and sequence numbers of a record are those of the
-- positions
abbrev pub urgent_at : ℕ → ℕ → ℕ → Urgent
urgent_at d r u = cond (ltb r u) (place_at (cursor_at d u)) no_place

pub record OutwardIs (d' : ℕ) (o : Outward) (c : Outbound) : Type 0 where
  pub Q_is : c.producer ≡ cursor_at d' o.Q
  pub R_is : c.consumer ≡ cursor_at d' o.R
  pub U_is : c.urgent ≡ urgent_at d' o.R o.U
  pub next_number_is : c.next ≡ (o.made + 1) % 65536

pub record InwardIs (d : ℕ) (i : Inward) (c : Inbound) : Type 0 where
  pub P_is : c.producer ≡ cursor_at d i.P
  pub C_is : c.consumer ≡ cursor_at d i.C
  pub T_is : c.told ≡ cursor_at d i.T
  pub W_is : c.urgent ≡ urgent_at d i.C i.W
  pub last_number_is : c.last ≡ i.last % 65536

-- a message under way carries the cursors and the number of its mark
pub data Carries (d d' : ℕ) : List Item → List Mark → Type 0 where
  nothing : Carries d d' [] []
  a_byte : {o : Owed} {l : List Item} {marks : List Mark} → Carries d d' l marks → Carries d d' (owed o ∷ l) marks
  a_message : {b : List ℕ} {m : Message} {l : List Item} {mark : Mark} {marks : List Mark} → decode_of b ≡ Good m
      → m.producer ≡ cursor_at d mark.taken → m.consumer ≡ cursor_at d' mark.read → m.sequence ≡ mark.number % 65536
      → Carries d d' l marks
      → Carries d d' (message b ∷ l) (mark ∷ marks)

pub record AtEnd (d d' : ℕ) (n : Names) (e : End) (p : Plain) : Type 0 where
  pub outward : e.opened ≡ true → OpenThere n e ≡ true → OutwardIs d' p.outward (record_of_all e.group n.slot).outbound
  pub inward : e.opened ≡ true → OpenThere n e ≡ true → InwardIs d p.inward (record_of_all e.group n.slot).inbound
  pub taken : length e.took ≡ p.outward.Q
  pub given : length e.read.got ≡ p.inward.C
  pub messages : Carries d d' e.coming p.coming

-- the positions of one direction are in order: what is known to be read, told, read, heard of, sent, and what the element has room for
pub record InOrder (d : ℕ) (sender : Outward) (receiver : Inward) : Type 0 where
  pub R_T : sender.R ≤ receiver.T
  pub T_C : receiver.T ≤ receiver.C
  pub C_P : receiver.C ≤ receiver.P
  pub P_Q : receiver.P ≤ sender.Q
  pub Q_R : sender.Q ≤ sender.R + d
  pub U_Q : sender.U ≤ sender.Q
  pub W_P : receiver.W ≤ receiver.P

pub record Equal (d d' : ℕ) (names : Two Names) (ends : Two End) (plains : Two Plain) : Type 0 where
  pub near_is : AtEnd d d' names.at_near ends.at_near plains.at_near
  pub far_is : AtEnd d' d names.at_far ends.at_far plains.at_far
  pub to_far : InOrder d' plains.at_near.outward plains.at_far.inward
  pub to_near : InOrder d plains.at_far.outward plains.at_near.inward

abbrev pub plain_course_of : Two Names → Two End → List Event → Two Plain
plain_course_of names ends = plain_course names ends (record { at_near = plain_begun; at_far = plain_begun })

abbrev pub CursorsArePlain : Type 0
CursorsArePlain =
    (names : Two Names) (g h : Group) (es : List Event) → Premises names g h es
    → let start = both_begun g h in
    Equal (data_of g.N) (data_of h.N) names (course names start es) (plain_course_of names start es)
