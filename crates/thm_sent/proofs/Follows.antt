-- What a call on a connection keeps of its record, and the record of an open one in positions. Assumes nothing.
use mathlib.Core.Path.{◌≡◌, refl, sym}
use mathlib.Core.Logic.{◌⊎◌, inl, inr}
use mathlib.Core.Bool.{Bool, true, false, ◌||◌, false≢true}
use Prim.Native.Nat.{ℕ, ◌+◌, ◌≤◌, ◌<◌}
use mathlib.Core.List.{List}
use Rattle.cdc.specs.declared.Message.{Message}
use Rattle.cdc.specs.Cdc.{encode_of}
use Rattle.closing.specs.declared.Marks.{Marks}
use Rattle.closing.specs.Closing.{marked}
use Rattle.conn_record.specs.declared.Record.{Record}
use Rattle.conn_record.specs.Connection.{coherent_b}
use Rattle.conn_answer.specs.declared.Reply.{Reply}
use Rattle.conn_answer.specs.declared.Reply.TheVariants.{Refused}
use Rattle.conn_answer.specs.declared.Outcome.{Outcome}
use Rattle.conn_answer.specs.Outcome.{message_of, pending_of, outcome_of, urgent_outcome, refused_of, closed_if}
use Rattle.conn_answer.proofs.Goes.{Goes, outcome_goes, urgent_goes, shut_goes}
use Rattle.thm_sent.specs.Plain.{Outward, Inward, OutwardIs, InwardIs}

-- D, C or A was sent
abbrev pub ended_b : Marks → Bool
ended_b m = marked m.sent || m.abort

-- the message m is that of the record c, but for the flag P
pub record Alike (m : Message) (c : Record) : Type 0 where
  pub sequence_is : m.sequence ≡ c.outbound.next
  pub token_is_lem : m.token ≡ c.id.peer
  pub producer_is : m.producer ≡ c.outbound.producer
  pub consumer_is : m.consumer ≡ c.inbound.consumer
  pub done_is : m.flags.done ≡ c.marks.sent.done
  pub closed_is : m.flags.closed ≡ c.marks.sent.closed
  pub abort_is : m.flags.abort ≡ c.marks.abort
  pub urgent_is : m.flags.urgent ≡ c.outbound.urgent.standing
  pub failover_is : m.flags.failover ≡ false

pub record Told (c : Record) (b : List ℕ) : Type 0 where
  pub m : Message
  pub is : b ≡ encode_of m
  pub alike : Alike m c

-- what stays of c in c1: marks once sent stay
pub record Kept (c c1 : Record) : Type 0 where
  pub same_id : c1.id ≡ c.id
  pub same_remote : c1.remote ≡ c.remote
  pub same_next : c1.outbound.next ≡ c.outbound.next
  pub abort_up : c.marks.abort ≡ true → c1.marks.abort ≡ true
  pub sent_up_lem : marked c.marks.sent ≡ true → marked c1.marks.sent ≡ true

-- a call on c whose record before telling is c1; where no message is made the marks stay
pub record Follows (c c1 : Record) (o : Outcome) : Type 0 where
  pub goes : Goes c1 o
  pub tells : o.made ≡ true → Told c1 o.message
  pub kept : Kept c c1
  pub quiet : o.made ≡ false → (c1.marks.abort ≡ c.marks.abort) × (c1.marks.sent ≡ c.marks.sent)

pub kept_self : (c : Record) → Kept c c
kept_self c = search

pub alike_own : (c : Record) → Alike (message_of c) c
unfolding message_of
alike_own c = search

pub alike_pending : (c : Record) → Alike (pending_of (message_of c)) c
unfolding message_of pending_of
alike_pending c = search

module _ {c c1 : Record} (k : Kept c c1) (r : Reply) where
  pub urgent_follows : (m : Message) → Alike m c1 → Follows c c1 (urgent_outcome r m c1)
  unfolding urgent_outcome
  urgent_follows m a =
      let told : Told c1 (encode_of m) = record { m = m; is = refl; alike = a } in
      record { goes = urgent_goes r m c1; tells = λ e. told; kept = k; quiet = λ e. absurd (false≢true (sym e)) }

  pub outcome_follows : (t : Bool) → (t ≡ false → (c1.marks.abort ≡ c.marks.abort) × (c1.marks.sent ≡ c.marks.sent))
      → Follows c c1 (outcome_of r t c1)
  unfolding outcome_of urgent_outcome
  outcome_follows true q = urgent_follows (message_of c1) (alike_own c1)
  outcome_follows false q = record { goes = outcome_goes r false c1; tells = λ e. absurd (false≢true e); kept = k; quiet = λ e. q refl }

pub shut_follows : {c c1 : Record} {o : Outcome} (t : Bool) → Follows c c1 o → Follows c c1 (closed_if t o)
unfolding closed_if
shut_follows true f = record { goes = shut_goes true f.goes; tells = f.tells; kept = f.kept; quiet = f.quiet }
shut_follows false f = f

pub refused_follows : (c : Record) (k : ℕ) → Follows c c (refused_of k c)
unfolding refused_of outcome_of
refused_follows c k = outcome_follows (kept_self c) (Refused k) false (λ e. (refl, refl))

-- THE RECORD OF AN OPEN CONNECTION, in positions: d data bytes in its element, d' in the peer's
pub record Held (d d' : ℕ) (c : Record) (o : Outward) (i : Inward) : Type 0 where
  pub full : 0 < d
  pub full' : 0 < d'
  pub out : OutwardIs d' o c.outbound
  pub inn : InwardIs d i c.inbound
  pub size' : c.remote.size ≡ d' + 4
  pub coherent : coherent_b (d + 4) c ≡ true
  pub R_Q : o.R ≤ o.Q
  pub Q_R : o.Q ≤ o.R + d'
  pub C_P : i.C ≤ i.P
  pub P_C : i.P ≤ i.C + d
  pub W_P : i.W ≤ i.P

-- tests
pub or-none : (x y : Bool) → x || y ≡ false → (x ≡ false) × (y ≡ false)
or-none true y e = absurd (false≢true (sym e))
or-none false y e = (refl, e)

pub or_left : {a : Bool} (b : Bool) → a ≡ true → a || b ≡ true
or_left b e = λ i. e i || b

pub or_right : (a : Bool) {b : Bool} → b ≡ true → a || b ≡ true
or_right true e = refl
or_right false e = e

pub or_cases : (a b : Bool) → a || b ≡ true → (a ≡ true) ⊎ (b ≡ true)
or_cases true b e = inl refl
or_cases false b e = inr e
