-- `bench_cursor::cursor_step_by_remainder` meets its contract. Assumes nothing.
use Rattle.bench_cursor.specs.Stepped.{stepped_of}
use Rattle.bench_cursor.proofs.cursor_step_by_remainder.Goals as goal

pub returns : goal.returns
returns c = λ i. stepped_of (c.step-to.ensures i)
