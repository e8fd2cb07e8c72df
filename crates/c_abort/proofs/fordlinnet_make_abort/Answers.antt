-- `c_abort::fordlinnet_make_abort` meets its contract. Assumes nothing.
use Rattle.plan_finish.specs.declared.Ending.TheVariants.{Abort}
use Rattle.plan_finish.proofs.Laws.{finish_made}
use Rattle.c_abort.proofs.fordlinnet_make_abort.Goals as goal

pub returns : goal.returns
returns c = finish_made Abort _ _ _ _ c.args.links _ _ _ _ c.finish-f.ensures _ _ c.answer.ensures
