-- What holds of any call in a table, and what the search, the step of one record and the store give together. Assumes nothing.
use Prim.Native.Nat.{ℕ}
use mathlib.Core.Path.{◌≡◌, refl, sym, ap, ◌∙◌, subst}
use mathlib.Core.List.{List}
use lib.ListN.{length}
use Rattle.conn_record.specs.declared.Record.{Record}
use Rattle.group_table.specs.declared.Links.{Links}
use Rattle.group_table.specs.declared.Turned.{Turned}
use Rattle.group_table.specs.Table.{record_at, holder_in, with_record}
use Rattle.group_rules.specs.Rules.{Did, group_of, answer_of}
use Rattle.group_rules.specs.Promises.{shown_by, InTable}
use Rattle.group_rules.proofs.Settled.{on_in_table}
use Rattle.group_calls.specs.Calls.{request_of}
use Rattle.group_calls.proofs.Laws.{hear_in_table}
use Rattle.group_desk.proofs.Laws.{manage_in_table}
use Rattle.group_make.specs.Group.{call_of, token_of, slot_of_all, out_left, OutKept, command_record}
use Rattle.group_make.specs.declared.Command.{Command}
use Rattle.group_make.specs.declared.Command.TheVariants.{On, Hear, Manage}

-- in a table that shows the record, where the slot `holder` has the token
module _ (s n : ℕ) (t : List Record) (ls : Links) (m b out : List ℕ) (holder : ℕ) (rec : Record) where
  command_in_table : (w : Command) → holder ≡ holder_in t (token_of w b) → rec ≡ record_at t (slot_of_all w holder)
      → InTable s n m t ls (call_of w b out) (slot_of_all w holder) (command_record s n m (length t) ls holder rec w b out)
  command_in_table (On k q) hh hc = on_in_table s n t ls m k (request_of q b out) (length t) refl rec hc
  command_in_table Hear hh hc = hear_in_table s n t ls m b holder hh (length t) refl rec hc
  command_in_table (Manage d) hh hc = manage_in_table s n t ls m (length t) refl d holder hh rec hc

-- THE LENT FORM: what the search, the step of one record and the store give together
pub make_returns : (s n : ℕ) (m : List ℕ) (t : List Record) (ls : Links) (command : Command) (b out : List ℕ)
    → (token : ℕ) → token ≡ token_of command b → (holder : ℕ) → holder ≡ holder_in t token → (slot : ℕ) → slot ≡ slot_of_all command holder
    → (rec : Record) → rec ≡ record_at t slot → (d : Turned) (l left : List ℕ)
    → (shown_by d (out_left command left) l ≡ command_record s n m (length t) ls holder rec command b out) × OutKept command out left
    → (z : List Record) → z ≡ with_record t slot d.after
    → Did (group_of s n t ls m) (call_of command b out) (answer_of d.answer (out_left command left)) (group_of s n z d.answer.links l)
    × OutKept command out left
make_returns s n m t ls command b out token et holder eh slot es rec ec d l left e z ez =
    let q = command_in_table s n t ls m b out holder rec command (eh ∙ ap (holder_in t) et) (ec ∙ ap (record_at t) es) in
    let p = subst (InTable s n m t ls (call_of command b out) (slot_of_all command holder)) (sym e.0) q in (
      record {
        answered = p.answered;
        left = ap (λ (u : List Record). group_of s n u d.answer.links l) (ez ∙ ap (λ (k : ℕ). with_record t k d.after) es) ∙ p.left;
      },
      e.1,
    )
