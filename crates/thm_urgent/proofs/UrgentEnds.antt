-- The claims of specs/Urgent about the two ends of a connection. Assumes nothing.
use mathlib.Core.Path.{◌≡◌, refl, sym, ap, ◌∙◌}
use mathlib.Core.Bool.{Bool, true, false, false≢true, ◌&&◌, ◌||◌, cond, or-true}
use mathlib.Core.Logic.{◌⊎◌, inl, inr}
use mathlib.Core.List.{List, [], ◌∷◌}
use Prim.Native.Nat.{ℕ, ◌+◌, ◌-◌, ◌≤◌, ◌<◌}
use native.Mathlib.Omega.{arith}
use native.Mathlib.Decide.{dec_le}
use lib.Dec.{ltb, leb, eqb}
use borrow.Author.Tests.{lt-ltb, le-leb, lt-leb}
use Rattle.cursor.specs.declared.Cursor.{Cursor}
use Rattle.cursor.specs.Cursor.{good_b, gap_of, step_of}
use Rattle.cursor.proofs.Laws.{gap_self, step_gap}
use Rattle.cdc.specs.declared.Message.{Message}
use Rattle.cdc.specs.declared.Decoded.TheVariants.{Good}
use Rattle.cdc.specs.Cdc.{encode_of, decode_of}
use Rattle.cdc.proofs.RoundTrip.{reads_back}
use Rattle.closing.specs.Closing.{marks_heard}
use Rattle.flow.specs.Flow.{room_of, taken_of}
use Rattle.flow.proofs.Laws.{room_most}
use Rattle.conn_record.specs.declared.Inbound.{Inbound}
use Rattle.conn_record.specs.declared.Record.{Record}
use Rattle.conn_answer.specs.declared.Placings.{Placings}
use Rattle.conn_answer.specs.declared.Placings.TheVariants.{Nowhere}
use Rattle.conn_answer.specs.declared.Reply.TheVariants.{Sent, Read}
use Rattle.conn_answer.specs.declared.Outcome.{Outcome}
use Rattle.conn_record.specs.Connection.{no_place, place_at, zero_record, coherent_b, place_ok, reached_b, passed_by, refusal_of, marks_to}
use Rattle.conn_answer.specs.Outcome.{refused_of, outcome_of, message_of, no_message, pending_of, told_of, told_in, used_in}
use Rattle.conn_record.proofs.Laws.{Coherent, coherent_facts, place_facts, remote_facts, refusal_0}
use Rattle.conn_answer.proofs.Laws.{refused_reply, outcome_reply, outcome_made, outcome_message, outcome_after, urgent_reply, urgent_message, urgent_after}
use Rattle.conn_send.specs.Transmit.{sent_reply, urgent_send_of}
use Rattle.conn_send.specs.Produced.{n_of, produced_of, produced_out, urged_of, urged_out}
use Rattle.conn_send.proofs.Laws.{whole_record, whole_of, n_room, urgent_cases, urgent_coherent}
use Rattle.conn_receive.specs.Receive.{read_forbids, unread_of, consumed_in, cleared_in, consumed_of, update_of, read_of}
use Rattle.conn_receive.proofs.Laws.{gap_cp, taking, taking_most, left, tells, take_is, consumed-cp, read_coherent}
use Rattle.conn_hear.specs.Hear.{accepted_of, ruled_of, followed_of, validated_of, hear_of}
use Rattle.conn_hear.specs.Heard.{producer_b, consumer_b, moved_by, urges_b, urgent_in, heard_in, heard_out, heard_record, answers_b, next_b}
use Rattle.conn_hear.proofs.Laws.{shut_by, heard_outcome, accepted_shut, accepted_open, hear_coherent}
use Rattle.thm_urgent.specs.Urgent.{Hears, Pending, UrgentHeard, read_now, Tells, here, later, UrgentRead, Free, UrgentPassed}
use Rattle.thm_refusals.proofs.Answers.{clash}

-- A MESSAGE THAT IS HEARD, and leaves the slot open, leaves the record with what it says
module _ (n : ℕ) (c : Record) (bytes : List ℕ) (m : Message) (h : Hears n c bytes m) where
  followed : Bool → Bool → Bool → Outcome
  followed z x ok = cond z (cond x (cond ok (accepted_of n c m) (refused_of 8 c)) (refused_of 16 c)) (refused_of (refusal_of n true c false) c)

  abbrev rules : Bool
  rules = producer_b n c m.producer && consumer_b c m.consumer

  hear_is : hear_of n true c m ≡ followed (eqb (refusal_of n true c false) 0) (next_b c m) rules
  unfolding hear_of followed_of validated_of ruled_of followed
  hear_is = rw (h.no_A, h.no_own_A, h.no_F)

  hear_accepted : hear_of n true c m ≡ accepted_of n c m
  unfolding followed
  hear_accepted = go (eqb (refusal_of n true c false) 0) (next_b c m) rules hear_is
    where
      go : (z x ok : Bool) → hear_of n true c m ≡ followed z x ok → hear_of n true c m ≡ accepted_of n c m
      go true true true e = e
      go true true false e = absurd (h.took 8 (ap (λ (o : Outcome). o.reply) e ∙ refused_reply 8 c))
      go true false ok e = absurd (h.took 16 (ap (λ (o : Outcome). o.reply) e ∙ refused_reply 16 c))
      go false x ok e = absurd (h.took _ (ap (λ (o : Outcome). o.reply) e ∙ refused_reply _ c))

  pub hear_left : hear_of n true c m ≡ heard_outcome n c m
  unfolding zero_record
  hear_left = go (shut_by n c m) refl
    where
      go : (s : Bool) → shut_by n c m ≡ s → hear_of n true c m ≡ heard_outcome n c m
      go true e =
          absurd (false≢true (sym (ap (λ (o : Outcome). o.after.id.opened) hear_accepted ∙ ap (λ (r : Record). r.id.opened) (accepted_shut n c m e)) ∙ h.open_after))
      go false e = hear_accepted ∙ accepted_open n c m e

  pub heard_after_lem : (hear_of n true c m).after ≡ cond (answers_b n c.inbound m) (told_of (heard_record n c m)) (heard_record n c m)
  heard_after_lem = ap (λ (o : Outcome). o.after) hear_left ∙ outcome_after _ _ _

  pub heard_made : (hear_of n true c m).made ≡ answers_b n c.inbound m
  heard_made = ap (λ (o : Outcome). o.made) hear_left ∙ outcome_made _ _ _

  pub heard_coherent : coherent_b n c ≡ true → coherent_b n (hear_of n true c m).after ≡ true
  unfolding zero_record
  heard_coherent e = go (hear_coherent n true c m e)
    where
      go : ((hear_of n true c m).after ≡ zero_record) ⊎ (coherent_b n (hear_of n true c m).after ≡ true) → coherent_b n (hear_of n true c m).after ≡ true
      go (inl z) = absurd (false≢true (sym (ap (λ (r : Record). r.id.opened) z) ∙ h.open_after))
      go (inr k) = k

-- what making a message keeps of the record
keeps : (t : Bool) (d : Record) (P : Record → Type 0) → P d → P (told_of d) → P (cond t (told_of d) d)
keeps true d P h k = k
keeps false d P h k = h

-- OUR END: a message that tells all up to Q, heard by us
pub urgent_passed : UrgentPassed
unfolding heard_record heard_out marks_to passed_by reached_b told_of used_in room_of
urgent_passed M a bytes m ok place all h =
    let o = a.outbound in
    let N' = a.remote.size in
    let least = (remote_facts a.remote (coherent_facts M a ok).remote_ok_lem).size_least in
    let self = (gap_self (N' - 4) o.producer).1 in
    let reached : leb (gap_of (N' - 4) m.consumer o.producer) (gap_of (N' - 4) o.producer o.producer) ≡ true =
    le-leb (gap_of (N' - 4) m.consumer o.producer) (gap_of (N' - 4) o.producer o.producer) (omega arith) in
    rw (heard_after_lem M a bytes m h)
    (keeps (answers_b M a.inbound m) (heard_record M a m) (Free N')
    (record { none_stands = rw (place, reached); room = omega arith })
    (record { none_stands = rw (place, reached); room = omega arith }))

-- AN URGENT SEND TAKEN WHOLE
module _ (M : ℕ) (a : Record) (len : ℕ) (p : Placings) (some : 0 < len) (whole : (urgent_send_of M true a len).reply ≡ Sent len p) where
  is_whole : (urgent_send_of M true a len ≡ whole_of a len) × (n_of a len ≡ len)
  is_whole =
      urgent_cases M true a len (λ o. o.reply ≡ Sent len p → (o ≡ whole_of a len) × (n_of a len ≡ len))
      (λ k e. let z = sym (refused_reply k a) ∙ e in clash (cc))
      (λ w e. let z : 0 ≡ len = let y = sym (outcome_reply (Sent 0 Nowhere) false a) ∙ e in cc in absurd (omega arith))
      (λ k l e.
      let next = produced_of a (n_of a len) len in
      let z : n_of a len ≡ len = let y = sym (urgent_reply (sent_reply a (n_of a len)) (pending_of (message_of next)) next) ∙ e in cc in
      absurd (omega arith))
      (λ k l n e. (refl, n))
      whole

  abbrev before : Record
  before = whole_record a len

  pub whole_after : (urgent_send_of M true a len).after ≡ told_of before
  whole_after = ap (λ (o : Outcome). o.after) is_whole.0 ∙ urgent_after (sent_reply a (n_of a len)) (message_of before) before

  -- the message that tells it
  pub whole_message : (m : Message) → decode_of (urgent_send_of M true a len).message ≡ Good m → m ≡ message_of before
  whole_message m e =
      let bytes = ap (λ (o : Outcome). o.message) is_whole.0 ∙ urgent_message (sent_reply a (n_of a len)) (message_of before) before in
      let back : Good (message_of before) ≡ Good m = sym (reads_back (message_of before)) ∙ ap decode_of (sym bytes) ∙ e in
      cc

  -- how far Q moves
  pub moves : coherent_b M a ≡ true
      → gap_of (a.remote.size - 4) a.outbound.producer (step_of a.remote.size a.outbound.producer (n_of a len)) ≡ len
  moves ok =
      let f = coherent_facts M a ok in
      let q = a.outbound.producer in
      let self = gap_self (a.remote.size - 4) q in
      let most = room_most a.remote.size a.outbound.consumer q in
      omega (
        arith,
        is_whole.1,
        (step_gap a.remote.size q q (n_of a len) f.q_range f.q_range self.0 (omega (arith, n_room a len))).1,
      )

-- THE PEER'S END: it hears that message
urged_answers : (N : ℕ) (i : Inbound) (m : Message) → urges_b N i m ≡ true → answers_b N i m ≡ true
unfolding answers_b
urged_answers N i m e = rw e

pub urgent_heard : UrgentHeard
unfolding urged_of urged_out produced_of produced_out told_of used_in told_in message_of heard_record heard_in heard_out marks_to marks_heard urgent_in urges_b read_forbids
urgent_heard M N a b len p m ends all some whole h =
    record { pending = pending; answered = heard_made N b _ m h ∙ answers }
  where
    is : m ≡ message_of (before M a len p some whole)
    is = whole_message M a len p some whole m h.reads

    q' : Cursor
    q' = step_of a.remote.size a.outbound.producer (n_of a len)

    produces : m.producer ≡ q'
    produces = ap (λ (x : Message). x.producer) is

    moved : moved_by N b.inbound m ≡ len
    moved =
        (λ i. gap_of (sym ends.one_size i - 4) (all i) (produces i))
        ∙ moves M a len p some whole ends.ours

    urges : m.flags.urgent && ltb 0 (moved_by N b.inbound m) ≡ true
    urges = (λ i. (is i).flags.urgent && ltb 0 (moved i)) ∙ lt-ltb 0 len some

    answers : answers_b N b.inbound m ≡ true
    answers = urged_answers N b.inbound m urges

    answered : (hear_of N true b m).after ≡ told_of (heard_record N b m)
    answered =
        heard_after_lem N b (urgent_send_of M true a len).message m h
        ∙ ap (λ (t : Bool). cond t (told_of (heard_record N b m)) (heard_record N b m)) answers

    pending : Pending M N (urgent_send_of M true a len).after (hear_of N true b m).after
    pending =
        record {
          ends =
              record {
                ours = urgent_coherent M true a len ends.ours;
                theirs = heard_coherent N b (urgent_send_of M true a len).message m h ends.theirs;
                one_size = ap (λ (r : Record). r.remote.size) (whole_after M a len p some whole) ∙ ends.one_size;
                may_read = ap (λ (r : Record). read_forbids r.marks) answered ∙ ends.may_read;
              };
          at_own_place = ap (λ (r : Record). r.outbound.urgent) (whole_after M a len p some whole) ∙ ap (λ (r : Record). place_at r.outbound.producer) (sym (whole_after M a len p some whole));
          at_their_place =
              ap (λ (r : Record). r.inbound.urgent) answered
              ∙ ap (λ (t : Bool). cond t (place_at m.producer) b.inbound.urgent) urges
              ∙ ap place_at (produces ∙ sym (ap (λ (r : Record). r.outbound.producer) (whole_after M a len p some whole)));
          heard_all =
              ap (λ (r : Record). r.inbound.producer) answered
              ∙ produces
              ∙ sym (ap (λ (r : Record). r.outbound.producer) (whole_after M a len p some whole));
        }

-- IT READS ON
taken_all : (u r : ℕ) → u ≤ r → taken_of u r ≡ u
unfolding taken_of
taken_all u r h = omega arith

taken_room : (u r : ℕ) → r < u → taken_of u r ≡ r
unfolding taken_of
taken_room u r h = omega arith

update_reached : (N : ℕ) (i : Inbound) (n : ℕ) → 0 < n → reached_b N i.consumer i.producer i.urgent ≡ true → update_of N i n ≡ true
unfolding update_of
update_reached N i n some r = rw (r, lt-ltb 0 n some) (or-true (i.blocked || i.request))

-- one read
module _ (M N : ℕ) (a b : Record) (room : ℕ) (w : Pending M N a b) where
  abbrev i : Inbound
  i = b.inbound

  abbrev n : ℕ
  n = taking N b room

  f : Coherent N b
  f = coherent_facts N b w.ends.theirs

  place_is : i.urgent ≡ place_at i.producer
  place_is = w.at_their_place ∙ ap place_at (sym w.heard_all)

  unread_some : 1 ≤ gap_cp N b
  unread_some =
      (place_facts N i.consumer i.producer (place_at i.producer)
      (ap (place_ok N i.consumer i.producer) (sym place_is) ∙ f.at_their_place) refl).least

  read_is : read_now N b room ≡ outcome_of (Read n) (tells N b room) (left N b room)
  unfolding read_of
  read_is = rw (refusal_0 N true b (read_forbids b.marks) w.ends.theirs refl w.ends.may_read) (take_is N b room)

  abbrev c' : Cursor
  c' = step_of N i.consumer n

  moved : (good_b (N - 4) c' i.producer ≡ true) × (gap_of (N - 4) c' i.producer + n ≡ gap_cp N b)
  moved = consumed-cp N b n f (taking_most N b room).0

  reached_is : reached_b N c' i.producer i.urgent ≡ leb (gap_of (N - 4) c' i.producer) 0
  unfolding reached_b unread_of
  reached_is =
      rw place_is (ap (λ (x : ℕ). leb (gap_of (N - 4) c' i.producer) x) (gap_self (N - 4) i.producer).1)

  -- it takes all: its message tells all up to Q
  reads_out : unread_of N i ≤ room → (rooms : List ℕ) → Tells N a b (room ∷ rooms)
  unfolding consumed_of consumed_in cleared_in message_of unread_of
  reads_out all rooms =
      let taken : n ≡ gap_cp N b = taken_all (gap_cp N b) room all in
      let none : gap_of (N - 4) c' i.producer ≡ 0 = omega (arith, moved.1) in
      let reached = reached_is ∙ le-leb (gap_of (N - 4) c' i.producer) 0 (omega arith) in
      let due : tells N b room ≡ true = update_reached N (consumed_in N i n) n (omega (arith, unread_some)) reached in
      let bytes =
      ap (λ (o : Outcome). o.message) read_is
      ∙ outcome_message (Read n) (tells N b room) (left N b room)
      ∙ ap (λ (t : Bool). cond t (encode_of (message_of (left N b room))) no_message) due
      in
      here (message_of (left N b room))
      (ap (λ (o : Outcome). o.made) read_is ∙ outcome_made (Read n) (tells N b room) (left N b room) ∙ due)
      (ap decode_of bytes ∙ reads_back (message_of (left N b room)))
      ((λ x. gap_of (w.ends.one_size x - 4) c' (sym w.heard_all x)) ∙ none)

  -- or leaves some: both still have Q for the urgent place
  abbrev after : Record
  after = (read_now N b room).after

  after_is : after ≡ cond (tells N b room) (told_of (left N b room)) (left N b room)
  after_is = ap (λ (o : Outcome). o.after) read_is ∙ outcome_after (Read n) (tells N b room) (left N b room)

  record Same (d : Record) : Type 0 where
    marks : d.marks ≡ b.marks
    place : d.inbound.urgent ≡ i.urgent
    producer : d.inbound.producer ≡ i.producer
    consumer : d.inbound.consumer ≡ c'

  after_same : room < unread_of N i → Same after
  unfolding consumed_of consumed_in cleared_in passed_by unread_of told_of told_in
  after_same short =
      let taken : n ≡ room = taken_room (gap_cp N b) room short in
      let far = reached_is ∙ lt-leb (gap_of (N - 4) c' i.producer) 0 (omega (arith, moved.1)) in
      let stays = ap (λ (r : Bool). cond r no_place i.urgent) far in
      rw after_is
      (keeps (tells N b room) (left N b room) Same
      (record { marks = refl; place = stays; producer = refl; consumer = refl })
      (record { marks = refl; place = stays; producer = refl; consumer = refl }))

  reads_some : room < unread_of N i → Pending M N a after × (unread_of N after.inbound + room ≡ unread_of N i)
  unfolding unread_of
  reads_some short =
      let taken : n ≡ room = taken_room (gap_cp N b) room short in
      let s = after_same short in (
        record {
          ends =
              record {
                ours = w.ends.ours;
                theirs = read_coherent N true b true room w.ends.theirs;
                one_size = w.ends.one_size;
                may_read = ap read_forbids s.marks ∙ w.ends.may_read;
              };
          at_own_place = w.at_own_place;
          at_their_place = s.place ∙ w.at_their_place;
          heard_all = s.producer ∙ w.heard_all;
        },
        (λ x. gap_of (N - 4) (s.consumer x) (s.producer x) + sym taken x) ∙ moved.1,
      )

pub urgent_read : UrgentRead
unfolding unread_of
urgent_read M N a b [] w h = absurd (omega (arith, unread_some M N a b 0 w, h))
urgent_read M N a b (room ∷ rooms) w h =
    elim (dec_le (unread_of N b.inbound) room) [
      | yes all ↦ reads_out M N a b room w all rooms
      | no l ↦
          let s = reads_some M N a b room w (omega arith) in
          later (urgent_read M N a (read_now N b room).after rooms s.0 (omega (arith, s.1)))
    ]
