-- `text_state::World::lay_record` meets its contract: outside 1 to COUNT nothing is laid in. Assumes nothing.
use Rattle.std.proofs.Common.{◌≡◌, ℕ, List, ◌-◌, ◌≤◌, ◌<◌, min, slice_set, arith}
use borrow.Author.Tests.{le-leb, lt-leb}
use Rattle.conn_record.specs.declared.Record.{Record}
use Rattle.group_table.proofs.Laws.{with_in, with_low}
use Rattle.text_state.specs.World.{laid_in_of}
use Rattle.text_state.proofs.World.lay_record.Goals as goal
use Rattle.text_state.proofs.World.lay_record.Goals.{then-slot-lt1-via-then-slot-lt1, then-slot-lt1-via-else-slot-lt1+then-min-slot}

module _ (t : List Record) (count slot : ℕ) (c : Record) where
  laid_low : slot < 1 → laid_in_of t count slot c ≡ t
  unfolding laid_in_of
  laid_low h = rw (le-leb slot (min count 300) (omega arith)) (with_low t slot c h)

  laid_out : min count 300 < slot → laid_in_of t count slot c ≡ t
  unfolding laid_in_of
  laid_out h = rw (lt-leb slot (min count 300) h)

  laid_in : 1 ≤ slot → slot ≤ min count 300 → laid_in_of t count slot c ≡ slice_set t (slot - 1) c
  unfolding laid_in_of
  laid_in l h = rw (le-leb slot (min count 300) h) (with_in t slot c l)

pub returns-then-slot-lt1 : goal.returns-then-slot-lt1
returns-then-slot-lt1 c =
    let w = c.args.self.now in
    let e : laid_in_of w.table w.count c.args.slot c.args.c ≡ w.table =
    elim c.then-slot-lt1.branch [
      | then-slot-lt1-via-then-slot-lt1 b ↦ laid_low w.table w.count c.args.slot c.args.c b.if-slot-lt1.true
      | then-slot-lt1-via-else-slot-lt1+then-min-slot b ↦ laid_out w.table w.count c.args.slot c.args.c (omega arith)
    ] in
    rw e c.bad.ensures

pub returns : goal.returns
returns c = rw (laid_in c.args.self.now.table c.args.self.now.count c.args.slot c.args.c (omega arith) (omega arith))
