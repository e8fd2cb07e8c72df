-- Every call on a connection is a record before telling, then told or not, and perhaps the slot closes. Assumes nothing.
use mathlib.Core.Path.{◌≡◌, refl}
use mathlib.Core.Logic.{◌⊎◌, inl, inr}
use mathlib.Core.Bool.{Bool, true, false, cond}
use Prim.Native.Nat.{ℕ}
use Rattle.cdc.specs.declared.Message.{Message}
use Rattle.conn_record.specs.declared.Record.{Record}
use Rattle.conn_record.specs.Connection.{zero_record}
use Rattle.conn_answer.specs.declared.Reply.{Reply}
use Rattle.conn_answer.specs.declared.Reply.TheVariants.{Refused}
use Rattle.conn_answer.specs.declared.Outcome.{Outcome}
use Rattle.conn_answer.specs.Outcome.{told_of, outcome_of, urgent_outcome, refused_of, closed_if}

-- the outcome o of a call whose record before telling is d
pub record Goes (d : Record) (o : Outcome) : Type 0 where
  pub left : (o.after ≡ zero_record) ⊎ (o.after ≡ cond o.made (told_of d) d)

pub outcome_goes : (r : Reply) (t : Bool) (d : Record) → Goes d (outcome_of r t d)
unfolding outcome_of
outcome_goes r true d = record { left = inr refl }
outcome_goes r false d = record { left = inr refl }

pub urgent_goes : (r : Reply) (m : Message) (d : Record) → Goes d (urgent_outcome r m d)
unfolding urgent_outcome
urgent_goes r m d = record { left = inr refl }

pub refused_goes : (k : ℕ) (c : Record) → Goes c (refused_of k c)
unfolding refused_of
refused_goes k c = record { left = inr refl }

pub shut_goes : {d : Record} {o : Outcome} (t : Bool) → Goes d o → Goes d (closed_if t o)
unfolding closed_if
shut_goes true g = record { left = inl refl }
shut_goes false g = g

-- S says what the answer and the record before telling are
pub record By (S : Reply → Record → Type 0) (o : Outcome) : Type 0 where
  pub before : Record
  pub goes : Goes before o
  pub stands : S o.reply before

-- what holds of both sides of a test, each where the test leads to it
pub pick : {A : Type 0} (P : A → Type 0) (b : Bool) (x y : A) → (b ≡ true → P x) → (b ≡ false → P y) → P (cond b x y)
pick P true x y f g = f refl
pick P false x y f g = g refl

-- the tests of a call lead to outcomes of which it holds
module _ (S : Reply → Record → Type 0) where
  pub by_test : (t : Bool) (o p : Outcome) → (t ≡ true → By S o) → (t ≡ false → By S p) → By S (cond t o p)
  by_test = pick (By S)

  pub by_refused : (k : ℕ) (c : Record) → S (Refused k) c → By S (refused_of k c)
  unfolding refused_of
  by_refused k c s = record { before = c; goes = refused_goes k c; stands = s }

  pub by_outcome : (r : Reply) (t : Bool) (d : Record) → S r d → By S (outcome_of r t d)
  unfolding outcome_of
  by_outcome r true d s = record { before = d; goes = outcome_goes r true d; stands = s }
  by_outcome r false d s = record { before = d; goes = outcome_goes r false d; stands = s }

  pub by_urgent : (r : Reply) (m : Message) (d : Record) → S r d → By S (urgent_outcome r m d)
  unfolding urgent_outcome
  by_urgent r m d s = record { before = d; goes = urgent_goes r m d; stands = s }

  pub by_shut : (t : Bool) (o : Outcome) → By S o → By S (closed_if t o)
  unfolding closed_if
  by_shut true o h = record { before = h.before; goes = shut_goes true h.goes; stands = h.stands }
  by_shut false o h = h

  -- so the slot is closed, or L holds of what is left, told or not
  pub by_left : (L : Reply → Bool → Record → Type 0) → ((r : Reply) (d : Record) → S r d → L r false d)
      → ((r : Reply) (d : Record) → S r d → L r true (told_of d))
      → (o : Outcome) → By S o → (o.after ≡ zero_record) ⊎ L o.reply o.made o.after
  by_left L f t o h = go h.goes.left
    where
      go : (o.after ≡ zero_record) ⊎ (o.after ≡ cond o.made (told_of h.before) h.before)
          → (o.after ≡ zero_record) ⊎ L o.reply o.made o.after
      go (inl z) = inl z
      go (inr e) = inr (rw e (told o.made))
        where
          told : (b : Bool) → L o.reply b (cond b (told_of h.before) h.before)
          told true = t o.reply h.before h.stands
          told false = f o.reply h.before h.stands
