-- The sequence numbers that a connection takes (request 2026-07): a claim about the rules that every contract cites (`answer`, `next`), of
-- any list of calls from any fresh group. A call holds all that a peer hands in, so "any list" is any peer, lying or not. proofs/Numbers
-- proves it. Assumes nothing.
use Rattle.std.specs.Prelude.{ℕ, zero, suc, ◌+◌, ◌%◌, ◌≡◌, Bool, false, ◌&&◌, ◌||◌, not, cond, List, [], ◌∷◌, ◌++◌, eqb, length}
use Rattle.cdc.specs.declared.Message.{Message}
use Rattle.cdc.specs.declared.Decoded.{Decoded}
use Rattle.cdc.specs.declared.Decoded.TheVariants.{Good, Malformed}
use Rattle.cdc.specs.Cdc.{decode_of}
use Rattle.thm_refusals.specs.Refusals.{aborting}
use Rattle.group_rules.specs.Says.{said_in}
use Rattle.group_rules.specs.Rules.{Group, Request, send, gather, urgent, place, read, shutdown, close, abort, open_slot, free_slot, link_change, link_message, link_send, sample, Call, on, hear, manage, Says, refusal, accepted, sent, gathered, was_read_of, torn, reset, heard, sampled, link_changed, link_heard, link_sent, answer, next, record_of_all, holder_of, Fresh}
use Rattle.thm_order.specs.Statement.{leaves}
use Rattle.thm_safety.specs.Statement.{OpenAt, accepted_b}

-- WHAT A SLOT TOOK since its last accepted open, by the calls and their answers
pub record Taken : Type 0 where
  -- the numbers of the messages that it took before we sent A, without A, one after the other
  pub numbers : List ℕ
  -- whether we sent A
  pub aborted : Bool

abbrev pub nothing_yet : Taken
nothing_yet = record { numbers = []; aborted = false }

abbrev pub refused_b : Says → Bool
refused_b says = (said_in says).refuses

-- we send A where abort is accepted, and where a call answers "torn" or "reset" (a hear of A sends one too, and closes the slot)
abbrev pub broken_b : Says → Bool
broken_b says = (said_in says).resets || (said_in says).tears

abbrev pub sends_a : Request → Says → Bool
sends_a (send b) says = broken_b says
sends_a (urgent b) says = broken_b says
sends_a (gather head body) says = broken_b says
sends_a (place at b) says = broken_b says
sends_a (read out) says = broken_b says
sends_a shutdown says = broken_b says
sends_a close says = broken_b says
sends_a abort says = accepted_b says

abbrev pub asked : Taken → Request → Says → Taken
asked j q says = record { numbers = j.numbers; aborted = sends_a q says || j.aborted }

-- a message counts that is not refused, has no A and no F, and is heard before we sent A
abbrev pub counts_b : Taken → Message → Says → Bool
counts_b j m says = not (refused_b says) && (not m.flags.abort && (not m.flags.failover && not j.aborted))

-- one with F, and no A, that answers PeerAbortWait has us send A, if we had not (request 2026-13)
abbrev pub waits_b : Says → Bool
waits_b (refusal k) = false
waits_b accepted = false
waits_b (sent n p) = false
waits_b (gathered n p) = false
waits_b (was_read_of n) = false
waits_b torn = false
waits_b (heard moved state) = aborting state
waits_b reset = false
waits_b (sampled q) = false
waits_b (link_changed n) = false
waits_b (link_heard f t u n) = false
waits_b (link_sent u n) = false

abbrev pub breaks_b : Message → Says → Bool
breaks_b m says = m.flags.failover && (not m.flags.abort && waits_b says)

abbrev pub with_number : Taken → ℕ → Taken
with_number j s = record { numbers = j.numbers ++ (s ∷ []); aborted = j.aborted }

abbrev pub heard_by : Taken → Message → Says → Taken
heard_by j m says = cond (counts_b j m says) (with_number j m.sequence) (record { numbers = j.numbers; aborted = breaks_b m says || j.aborted })

-- it is slot k's if that slot has its token when it is heard
abbrev pub with_message : Group → ℕ → Taken → Decoded → Says → Taken
with_message g k j (Good m) says = cond (eqb (holder_of g m.token) k) (heard_by j m says) j
with_message g k j Malformed says = j

-- one call on, made of g and answered so; an accepted open of the slot begins anew
unfoldable pub taken_after : Group → ℕ → Taken → Call → Says → Taken
taken_after g k j (on i q) says = cond (eqb i k) (asked j q says) j
taken_after g k j (hear b) says = with_message g k j (decode_of b) says
taken_after g k j (manage (open_slot i given)) says = cond (eqb i k && accepted_b says) nothing_yet j
taken_after g k j (manage (free_slot i)) says = j
taken_after g k j (manage (link_change l up b)) says = j
taken_after g k j (manage (link_message l bytes b)) says = j
taken_after g k j (manage (link_send l i vs b)) says = j
taken_after g k j (manage (sample l ms)) says = j

unfoldable pub taken_from : Group → ℕ → Taken → List Call → Taken
taken_from g k j [] = j
taken_from g k j (c ∷ cs) = taken_from (next g c) k (taken_after g k j c (answer g c).says) cs

abbrev pub taken : Group → List Call → ℕ → Taken
taken g cs k = taken_from g k nothing_yet cs

-- the first after an open is 1; n numbers from a on, 65,535 going on to 0
abbrev pub first_number : ℕ
first_number = 1

abbrev pub counted_from : ℕ → ℕ → List ℕ
counted_from a zero = []
counted_from a (suc n) = a % 65536 ∷ counted_from (a + 1) n

-- NONE TWICE, NONE PASSED OVER. The numbers are 1, 2, 3, .., in that order; an open slot keeps the last of them (0: there is none) as the
-- last number heard, and its abort mark says whether we sent A
pub record InOrder (h : Group) (k : ℕ) (j : Taken) : Type 0 where
  pub counted : j.numbers ≡ counted_from first_number (length j.numbers)
  pub last_number_heard : OpenAt h k → (record_of_all h k).inbound.last ≡ length j.numbers % 65536
  pub mark_is : OpenAt h k → (record_of_all h k).marks.abort ≡ j.aborted

abbrev pub NumbersInOrder : Type 0
NumbersInOrder = (g : Group) → Fresh g → (cs : List Call) (k : ℕ) → InOrder (leaves g cs) k (taken g cs k)
