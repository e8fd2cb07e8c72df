-- `group_desk::manage` meets its contract. Assumes nothing.
use Rattle.group_desk.proofs.Laws.{by_management, sample_shown}
use Rattle.group_desk.proofs.manage.Goals as goal

pub returns-in-Sample : goal.returns-in-Sample
returns-in-Sample c =
    let a = c.args in
    let v = a.view.now in
    by_management c.in-Sample.is v.s v.n a.mem.now a.mem.now v.count v.links a.holder v.rec
    c.kept.result
    (sample_shown _ _ _ _ _ _ _ _ c.sample.ensures _ c.kept.ensures)
