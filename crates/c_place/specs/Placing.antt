-- A place as the code takes it apart: what it is refused by, and the memory by this. Assumes nothing.
use Rattle.std.specs.Prelude.{ℕ, ◌+◌, cond, List, eqb}
use Rattle.element.specs.Element as Element
use Rattle.conn_record.specs.declared.Record.{Record}
use Rattle.conn_receive.specs.Receive.{place_forbids, may_place}

-- `j` is what was refused before, 0 for nothing; then 7 by the marks, then 9: a placed byte is outside the data or not free
unfoldable pub placing_of : ℕ → Record → ℕ → ℕ → ℕ → ℕ
placing_of N rec j at len =
    cond (eqb j 0) (cond (place_forbids rec.marks) 7 (cond (may_place N rec.inbound at len) 0 9)) j

-- the bytes from offset `at` of slot k's element on, where nothing is refused; else the memory stays as it is
unfoldable pub stored_by : ℕ → List ℕ → ℕ → ℕ → ℕ → List ℕ → List ℕ
stored_by N m k j at b = cond (eqb j 0) (Element.stored_of m (Element.base_of N k + at) b) m
