-- `text_state::World::poke` meets its contract: where the bytes do not fit, none is laid in. Assumes nothing.
use Rattle.std.proofs.Common.{◌≡◌, ℕ, List, ◌+◌, ◌-◌, ◌<◌, ◌++◌, min, length, take, drop, sym, arith}
use Rattle.std.proofs.Math.ListN.{length-take, take-append-drop}
use Rattle.layout.specs.Layout.{laid_at}
use Rattle.layout.proofs.Places as Places
use Rattle.text_state.proofs.World.poke.Goals as goal
use Rattle.text_state.proofs.World.poke.Goals.{then-len-at-via-then-len-at, then-len-at-via-else-len-at+then-len-at-2}

not_poked : (m b : List ℕ) (len count at : ℕ) → min len (length m) < at + min count (length b)
    → m ≡ laid_at (take len m) at (take count b) ++ drop len m
not_poked m b len count at h =
    let out = Places.laid_out (take len m) (take count b) at (omega (arith, length-take len m, length-take count b)) in
    rw out (sym (take-append-drop len m))

pub returns-then-len-at-clause-memory : goal.returns-then-len-at-clause-memory
returns-then-len-at-clause-memory c =
    let h : min c.args.self.now.len (length c.args.mem.now) < c.args.at + min c.args.count (length c.args.given.now) =
    elim c.then-len-at.branch [
      | then-len-at-via-then-len-at b ↦ omega arith
      | then-len-at-via-else-len-at+then-len-at-2 b ↦ omega arith
    ] in
    not_poked c.args.mem.now c.args.given.now _ _ _ h
