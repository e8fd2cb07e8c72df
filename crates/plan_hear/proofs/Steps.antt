-- What the parts of a hear come to, by the code's tests. Assumes nothing.
use Prim.Native.Nat.{ℕ}
use mathlib.Core.Path.{◌≡◌, sym, ap, ◌∙◌}
use mathlib.Core.Bool.{Bool, true, false, ◌&&◌, ◌||◌, not}
use mathlib.Core.List.{List}
use lib.Dec.{ltb}
use borrow.Author.Tests.{eq-eqb, ne_eqb, not-true, not-false}
use Rattle.cursor.specs.Cursor.{same_b}
use Rattle.cdc.specs.declared.Message.{Message}
use Rattle.cdc.specs.Cdc.{encode_of}
use Rattle.closing.specs.declared.Marks.{Marks}
use Rattle.closing.specs.declared.State.{State}
use Rattle.closing.specs.Closing.{number_of, state_of, marks_heard}
use Rattle.conn_record.specs.declared.Record.{Record}
use Rattle.conn_record.specs.Connection.{reached_b, refusal_of}
use Rattle.conn_answer.specs.Outcome.{message_of}
use Rattle.conn_hear.specs.Heard.{moved_by, next_b}
use Rattle.group_table.specs.Table.{sizes_b}
use Rattle.plan_hear.specs.declared.Hearing.{Hearing}
use Rattle.plan_hear.specs.Hearing.{refused_before, refused_hearing, abort_hearing, kept_hearing, validated_hearing, accepted_hearing}
use Rattle.plan_hear.specs.Hearing.{ruled_hearing, hearing_of, told_by, message_left}

-- what is tested before the record
module _ (s n len count : ℕ) (good : Bool) (k : ℕ) (y : Bool) (ey : y ≡ sizes_b s n len count) where
  pub before_unsized : y ≡ false → 1 ≡ refused_before s n len count good k
  unfolding refused_before
  before_unsized e = simp (← ey, e)

  module _ (e : y ≡ true) where
    pub before_bad : not good ≡ true → 4 ≡ refused_before s n len count good k
    unfolding refused_before
    before_bad g = simp (← ey, e, not-true good g)

    module _ (g : not good ≡ false) where
      pub before_none : k ≡ 0 → 5 ≡ refused_before s n len count good k
      unfolding refused_before
      before_none z = simp (← ey, e, not-false good g, eq-eqb k 0 z)

      pub before_some : (k ≡ 0 → ⊥) → 0 ≡ refused_before s n len count good k
      unfolding refused_before
      before_some z = simp (← ey, e, not-false good g, ne_eqb k 0 z)

-- an accepted message, put together
module _ (n : ℕ) (rec : Record) (m : Message) (moved : ℕ) (marks : Marks) (state : State) (number : ℕ) (passed same : Bool) where
  abbrev accepted_with : Hearing
  accepted_with =
      let urged = m.flags.urgent && ltb 0 moved in
      let shut = marks.heard.closed && marks.sent.closed in
      record {
        said = record { refusal = 0; made = urged || (m.flags.request && not same); state = number; moved = moved };
        takes = not shut;
        closes = shut;
        urged = urged;
        passed = passed;
        aborts = false;
      }

  pub accepted_parts : moved ≡ moved_by n rec.inbound m → marks ≡ marks_heard rec.marks m.flags.done m.flags.closed
      → state ≡ state_of marks → number ≡ number_of state
      → passed ≡ reached_b rec.remote.size m.consumer rec.outbound.producer rec.outbound.urgent
      → same ≡ same_b rec.inbound.told rec.inbound.consumer → accepted_with ≡ accepted_hearing n rec m
  unfolding accepted_hearing
  accepted_parts hv hm hs hn hp he = simp (hn, hs, hm, hv, hp, he)

-- a hear, test by test
module _ (n : ℕ) (active : Bool) (rec : Record) (m : Message) (j : ℕ) (r : Hearing) where
  pub hear_before : (j ≡ 0 → ⊥) → r ≡ refused_hearing j → r ≡ hearing_of n active rec m j
  unfolding hearing_of
  hear_before z e = simp (e, ne_eqb j 0 z)

  module _ (z : j ≡ 0) (a : Bool) (ea : a ≡ active) (no : ℕ) (eno : no ≡ refusal_of n a rec false) where
    no_is : refusal_of n active rec false ≡ no
    no_is = sym (eno ∙ ap (λ (b : Bool). refusal_of n b rec false) ea)

    pub hear_refused : (no ≡ 0 → ⊥) → r ≡ refused_hearing no → r ≡ hearing_of n active rec m j
    unfolding hearing_of
    hear_refused q e = simp (e, eq-eqb j 0 z, no_is, ne_eqb no 0 q)

    module _ (q : no ≡ 0) where
      pub hear_aborted : m.flags.abort ≡ true → r ≡ abort_hearing rec.marks.abort → r ≡ hearing_of n active rec m j
      unfolding hearing_of
      hear_aborted f e = simp (e, eq-eqb j 0 z, no_is, eq-eqb no 0 q, f)

      module _ (f : m.flags.abort ≡ false) where
        pub hear_waits : rec.marks.abort ≡ true → r ≡ kept_hearing 5 → r ≡ hearing_of n active rec m j
        unfolding hearing_of
        hear_waits g e = simp (e, eq-eqb j 0 z, no_is, eq-eqb no 0 q, f, g)

        module _ (g : rec.marks.abort ≡ false) where
          pub hear_validated : m.flags.failover ≡ true → r ≡ validated_hearing rec m → r ≡ hearing_of n active rec m j
          unfolding hearing_of
          hear_validated v e = simp (e, eq-eqb j 0 z, no_is, eq-eqb no 0 q, f, g, v)

          module _ (v : m.flags.failover ≡ false) (x : Bool) (ex : x ≡ next_b rec m) where
            pub hear_ruled : x ≡ true → r ≡ ruled_hearing n rec m → r ≡ hearing_of n active rec m j
            unfolding hearing_of
            hear_ruled h e = simp (e, eq-eqb j 0 z, no_is, eq-eqb no 0 q, f, g, v, ← ex, h)

            pub hear_other : x ≡ false → r ≡ refused_hearing 16 → r ≡ hearing_of n active rec m j
            unfolding hearing_of
            hear_other h e = simp (e, eq-eqb j 0 z, no_is, eq-eqb no 0 q, f, g, v, ← ex, h)

-- the message in its buffer
module _ (rec : Record) (t : Hearing) (b : List ℕ) where
  pub told_parts : (x : Record) (m : Message) (bytes : List ℕ) → t.said.made ≡ true → x ≡ told_by rec t → m ≡ message_of x
      → bytes ≡ encode_of m → bytes ≡ message_left rec t b
  unfolding message_left
  told_parts x m bytes e hx hm hb = simp (hb, hm, hx, e)

  pub told_none : t.said.made ≡ false → b ≡ message_left rec t b
  unfolding message_left
  told_none e = simp e
