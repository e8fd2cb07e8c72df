-- What a message that keeps the rules leaves: a coherent record, P as far from T and C as it says. Assumes nothing.
use mathlib.Core.Path.{◌≡◌, refl, ◌∙◌}
use mathlib.Core.Bool.{Bool, true, false, ◌&&◌, ◌||◌, not, cond, and_comm}
use mathlib.Core.List.{[], ◌∷◌}
use Prim.Native.Nat.{ℕ, ◌+◌, ◌-◌, ◌≤◌}
use native.Mathlib.Omega.{arith}
use lib.Dec.{ltb, leb}
use borrow.Author.Rules.{rules}
use borrow.Author.Tests.{leb-true, ltb-true}
use Rattle.cursor.specs.declared.Cursor.{Cursor}
use Rattle.cursor.specs.Cursor.{in_range, same_b, good_b, gap_of}
use Rattle.cursor.proofs.Laws.{gap_rest, good_most}
use Rattle.cdc.specs.declared.Message.{Message}
use Rattle.closing.specs.Closing.{marked, marks_heard}
use Rattle.conn_record.specs.declared.Record.{Record}
use Rattle.conn_record.specs.Connection.{place_at, place_ok, marks_to}
use Rattle.conn_record.proofs.Laws.{holds, Coherent, place_new, place_further, place_passed, tp_good}
use Rattle.conn_hear.specs.Heard.{producer_b, consumer_b, moved_by, urges_b, urgent_in, heard_in, heard_out, heard_record}

-- the rules that a heard producer p keeps
pub record Produces (n : ℕ) (rec : Record) (p : Cursor) : Type 0 where
  pub range : in_range n p ≡ true
  pub tp_good : good_b (n - 4) rec.inbound.told p ≡ true
  pub no_less : gap_of (n - 4) rec.inbound.told rec.inbound.producer ≤ gap_of (n - 4) rec.inbound.told p
  pub still : not (marked rec.marks.heard) || same_b rec.inbound.producer p ≡ true

-- the rules that a heard consumer r keeps
pub record Consumes (rec : Record) (r : Cursor) : Type 0 where
  pub range : in_range rec.remote.size r ≡ true
  pub rq_good : good_b (rec.remote.size - 4) r rec.outbound.producer ≡ true
  pub no_more :
      gap_of (rec.remote.size - 4) r rec.outbound.producer
      ≤ gap_of (rec.remote.size - 4) rec.outbound.consumer rec.outbound.producer

pub producer_rules : (n : ℕ) (rec : Record) (p : Cursor) → producer_b n rec p ≡ true → Produces n rec p
unfolding producer_b
producer_rules n rec p e =
    let d = n - 4 in
    let t = rec.inbound.told in
    let old = rec.inbound.producer in
    let near = leb (gap_of d t old) (gap_of d t p) in
    let h = holds (in_range n p ∷ good_b d t p ∷ near ∷ (not (marked rec.marks.heard) || same_b old p) ∷ []) e in
    record { range = h 0; tp_good = h 1; no_less = leb-true _ _ (h 2); still = h 3 }

pub consumer_rules : (rec : Record) (r : Cursor) → consumer_b rec r ≡ true → Consumes rec r
unfolding consumer_b
consumer_rules rec r e =
    let d = rec.remote.size - 4 in
    let q = rec.outbound.producer in
    let near = leb (gap_of d r q) (gap_of d rec.outbound.consumer q) in
    let h = holds (in_range rec.remote.size r ∷ good_b d r q ∷ near ∷ []) e in
    record { range = h 0; rq_good = h 1; no_more = leb-true _ _ (h 2) }

-- the distance C to the new P is good; T to C and it sum to T to the new P
new_cp : (n : ℕ) (rec : Record) (p : Cursor) → Coherent n rec → Produces n rec p
    → (good_b (n - 4) rec.inbound.consumer p ≡ true)
    × (gap_of (n - 4) rec.inbound.told rec.inbound.consumer + gap_of (n - 4) rec.inbound.consumer p
    ≡ gap_of (n - 4) rec.inbound.told p)
new_cp n rec p f k =
    gap_rest n rec.inbound.told rec.inbound.consumer p f.t_range f.c_range k.range f.tc_good k.tp_good
    (omega (arith, tp_good n rec f, k.no_less))

moved_is : (n : ℕ) (rec : Record) (p : Cursor) → Coherent n rec → Produces n rec p
    → gap_of (n - 4) rec.inbound.told rec.inbound.producer + gap_of (n - 4) rec.inbound.producer p
    ≡ gap_of (n - 4) rec.inbound.told p
moved_is n rec p f k =
    (gap_rest n rec.inbound.told rec.inbound.producer p f.t_range f.p_range k.range (tp_good n rec f).0 k.tp_good
    k.no_less
    ).1

-- how far P moved is what the distance from T grew by
pub hear_moved : (n : ℕ) (rec : Record) (p : Cursor) → Coherent n rec → producer_b n rec p ≡ true
    → gap_of (n - 4) rec.inbound.told rec.inbound.producer + gap_of (n - 4) rec.inbound.producer p
    ≡ gap_of (n - 4) rec.inbound.told p
hear_moved n rec p f e = moved_is n rec p f (producer_rules n rec p e)

-- and the distance from C
pub cp_grown : (n : ℕ) (rec : Record) (p : Cursor) → Coherent n rec → Produces n rec p
    → gap_of (n - 4) rec.inbound.consumer p
    ≡ gap_of (n - 4) rec.inbound.consumer rec.inbound.producer + gap_of (n - 4) rec.inbound.producer p
cp_grown n rec p f k = omega (arith, (new_cp n rec p f k).1, moved_is n rec p f k, (tp_good n rec f).1)

-- the urgent place of our element, a new one or the old, lies after C up to the new P
new_place : (n : ℕ) (rec : Record) (m : Message) → Coherent n rec → Produces n rec m.producer
    → place_ok n rec.inbound.consumer m.producer (urgent_in n rec.inbound m) ≡ true
unfolding urgent_in urges_b
new_place n rec m f k = go m.flags.urgent (ltb 0 (moved_by n rec.inbound m)) refl
  where
    old : place_ok n rec.inbound.consumer m.producer rec.inbound.urgent ≡ true
    old =
        let i = rec.inbound in
        place_further n i.consumer i.producer m.producer i.urgent f.at_their_place
        (omega (arith, cp_grown n rec m.producer f k))

    go : (u moves : Bool) → ltb 0 (moved_by n rec.inbound m) ≡ moves
        → place_ok n rec.inbound.consumer m.producer (cond (u && moves) (place_at m.producer) rec.inbound.urgent) ≡ true
    go true true e =
        let grown = cp_grown n rec m.producer f k in
        let some = ltb-true 0 (moved_by n rec.inbound m) e in
        place_new n rec.inbound.consumer m.producer m.producer
        (record { range = k.range; good = (new_cp n rec m.producer f k).0; least = omega arith; most = omega arith })
    go true false e = old
    go false moves e = old

-- the record with what the message says is coherent, unless C is then heard and sent
pub heard_facts : (n : ℕ) (rec : Record) (m : Message) → Coherent n rec → Produces n rec m.producer → Consumes rec m.consumer
    → (heard_record n rec m).marks.heard.closed && (heard_record n rec m).marks.sent.closed ≡ false → Coherent n (heard_record n rec m)
unfolding heard_record heard_in heard_out marks_to marks_heard
heard_facts n rec m f k r e =
    let g = new_cp n rec m.producer f k in
    let up = good_most (n - 4) rec.inbound.told m.producer k.tp_good in
    let not_both = and_comm rec.marks.sent.closed (heard_record n rec m).marks.heard.closed ∙ e in
    let theirs = new_place n rec m f k in
    let o = rec.outbound in
    let own =
    place_passed rec.remote.size o.consumer m.consumer o.producer o.urgent f.r_range r.range f.q_range f.rq_good
    r.rq_good f.at_own_place
    in
    search rules

pub heard_id : (n : ℕ) (rec : Record) (m : Message) → (heard_record n rec m).id ≡ rec.id
unfolding heard_record marks_to
heard_id n rec m = refl
