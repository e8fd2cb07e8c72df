-- `c_shutdown::fordlinnet_make_shutdown` meets its contract. Assumes nothing.
use Rattle.plan_finish.specs.declared.Ending.TheVariants.{Shutdown}
use Rattle.plan_finish.proofs.Laws.{finish_made}
use Rattle.c_shutdown.proofs.fordlinnet_make_shutdown.Goals as goal

pub returns : goal.returns
returns c = finish_made Shutdown _ _ _ _ c.args.links _ _ _ _ c.finish-f.ensures _ _ c.answer.ensures
