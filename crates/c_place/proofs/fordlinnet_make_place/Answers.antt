-- `c_place::fordlinnet_make_place` meets its contract. Assumes nothing.
use mathlib.Core.Path.{◌≡◌, refl, sym, ap, ◌∙◌}
use Prim.Native.Nat.{ℕ}
use lib.ListN.{length}
use Rattle.conn_record.specs.declared.Record.{Record}
use Rattle.plan.proofs.Laws.{was_none, was_some}
use Rattle.c_place.specs.Placing.{placing_of}
use Rattle.c_place.proofs.Steps.{placing_before, stored_none}
use Rattle.c_place.proofs.Laws.{fordlinnet_make_place_returns}
use Rattle.c_place.proofs.fordlinnet_make_place.Goals as goal

pub returns-in-Some : goal.returns-in-Some
returns-in-Some c =
    let j = was_some _ _ (sym c.in-Some.ensures) in
    let z = λ (e : c.in-Some.j ≡ 0). j.1 (sym j.0 ∙ e) in
    fordlinnet_make_place_returns _ _ _ _ c.args.links _ _ _ _ j.0 _ (placing_before _ _ _ _ _ z) tt _ (stored_none _ _ _ _ _ _ z)

pub returns-in-Some-placing : goal.returns-in-Some-placing
returns-in-Some-placing c =
    let p = was_some _ _ (sym c.in-Some-placing.ensures) in
    let z = λ (e : c.in-Some-placing.no ≡ 0). p.1 (sym p.0 ∙ e) in
    fordlinnet_make_place_returns _ _ _ _ c.args.links _ _ _ 0 (sym (was_none _ (sym c.in-None.ensures))) _
    (p.0 ∙ ap (λ (x : Record). placing_of c.args.n x 0 c.args.offset (length c.args.bytes.now)) c.record_at-rec.ensures) tt _
    (stored_none _ _ _ _ _ _ z)

pub returns-in-None-placing : goal.returns-in-None-placing
returns-in-None-placing c =
    fordlinnet_make_place_returns _ _ _ _ c.args.links _ _ _ 0 (sym (was_none _ (sym c.in-None.ensures))) _
    (sym (was_none _ (sym c.in-None-placing.ensures))
    ∙ ap (λ (x : Record). placing_of c.args.n x 0 c.args.offset (length c.args.bytes.now)) c.record_at-rec.ensures) tt _
    c.store.ensures
