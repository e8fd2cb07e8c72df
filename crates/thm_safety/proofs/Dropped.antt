-- A close drops no byte in silence. Assumes nothing.
use Prim.Native.Nat.{ℕ}
use mathlib.Core.Path.{◌≡◌, refl, ap, ◌∙◌}
use mathlib.Core.Bool.{Bool, true, false}
use mathlib.Core.Logic.{◌⊎◌, inl, inr}
use Rattle.conn_answer.specs.declared.Reply.TheVariants.{Refused, Reset}
use Rattle.conn_receive.specs.Receive.{unread_of}
use Rattle.conn_finish.specs.Finish.{close_of}
use Rattle.conn_finish.proofs.Laws.{close_answers}
use Rattle.group_rules.specs.Rules.{Done, does, out_of, close, on, Answer, says_of, turn_of, request_turn, answer, refuses, on_does, sizes_ok, record_of_all, link_of}
use Rattle.thm_safety.specs.Statement.{NothingDropped}
use Rattle.thm_safety.proofs.OnSlot.{on_was_open, on_answer}

pub nothing_dropped : NothingDropped
unfolding request_turn turn_of on_does refuses
nothing_dropped g k taken told = sized (sizes_ok g) refl
  where
    by : sizes_ok g ≡ true → unread_of g.N (record_of_all g k).inbound ≡ 0
    by ok =
        let o = on_was_open g k close ok taken in
        let says = ap (λ (a : Answer). a.says) (on_answer g k close ok o) in
        go says (close_answers g.N (link_of g k) (record_of_all g k))
      where
        go : (answer g (on k close)).says ≡ says_of (close_of g.N (link_of g k) (record_of_all g k)).reply
            → ((j : ℕ) × ((close_of g.N (link_of g k) (record_of_all g k)).reply ≡ Refused j))
            ⊎ (((close_of g.N (link_of g k) (record_of_all g k)).reply ≡ Reset) ⊎ (unread_of g.N (record_of_all g k).inbound ≡ 0))
            → unread_of g.N (record_of_all g k).inbound ≡ 0
        go says (inl (j, e)) = absurd (taken j (says ∙ ap says_of e))
        go says (inr (inl e)) = absurd (told (says ∙ ap says_of e))
        go says (inr (inr e)) = e

    unsized : sizes_ok g ≡ false → does g (on k close) ≡ refuses g 1 (out_of close)
    unsized e = rw e

    sized : (t : Bool) → sizes_ok g ≡ t → unread_of g.N (record_of_all g k).inbound ≡ 0
    sized true e = by e
    sized false e = absurd (taken 1 (ap (λ (x : Done). x.answer.says) (unsized e)))
