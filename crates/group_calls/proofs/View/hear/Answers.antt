-- `group_calls::View::hear` meets its contract. Assumes nothing.
use mathlib.Core.Path.{sym, ◌∙◌}
use Rattle.group_calls.proofs.Laws.{good_shown, bad_shown, unsized_shown}
use Rattle.group_calls.proofs.View.hear.Goals as goal

pub returns-then-not-sizes_ok : goal.returns-then-not-sizes_ok
returns-then-not-sizes_ok c =
    let a = c.args in
    let v = a.self.now in
    unsized_shown v.s v.n a.mem.now v.count v.links a.bytes.now a.holder v.rec c.refused.result
    (sym c.sizes_ok.ensures ∙ c.if-not-sizes_ok.true) c.refused.ensures

pub returns-in-Good : goal.returns-in-Good
returns-in-Good c =
    let a = c.args in
    let v = a.self.now in
    good_shown v.s v.n a.mem.now v.count v.links a.bytes.now a.holder v.rec c.heard.result
    (sym c.sizes_ok.ensures ∙ c.if-not-sizes_ok.false) _ (sym c.decode.ensures ∙ c.in-Good.is) c.heard.ensures

pub returns-in-Malformed : goal.returns-in-Malformed
returns-in-Malformed c =
    let a = c.args in
    let v = a.self.now in
    bad_shown v.s v.n a.mem.now v.count v.links a.bytes.now a.holder v.rec c.refused-in-Malformed.result
    (sym c.sizes_ok.ensures ∙ c.if-not-sizes_ok.false) (sym c.decode.ensures ∙ c.in-Malformed.is) c.refused-in-Malformed.ensures
