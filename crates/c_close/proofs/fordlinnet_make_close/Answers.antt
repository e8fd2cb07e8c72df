-- `c_close::fordlinnet_make_close` meets its contract. Assumes nothing.
use Rattle.plan_finish.specs.declared.Ending.TheVariants.{Close}
use Rattle.plan_finish.proofs.Laws.{finish_made}
use Rattle.c_close.proofs.fordlinnet_make_close.Goals as goal

pub returns : goal.returns
returns c = finish_made Close _ _ _ _ c.args.links _ _ _ _ c.finish-f.ensures _ _ c.answer.ensures
