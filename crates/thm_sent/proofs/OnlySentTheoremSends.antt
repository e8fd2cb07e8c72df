-- A send, and an ending, at an end where the connection is open. Assumes nothing.
use mathlib.Core.Path.{◌≡◌, refl, sym, ap, ◌∙◌, subst}
use mathlib.Core.Logic.{◌⊎◌, inl, inr}
use mathlib.Core.Bool.{Bool, true, false, ◌&&◌, cond}
use mathlib.Core.List.{List, [], ◌++◌}
use Prim.Native.Nat.{ℕ, zero, suc, ◌+◌, ◌≤◌}
use native.Mathlib.Omega.{arith}
use lib.Dec.{ltb, leb, eqb}
use lib.ListN.{length, take, get_or}
use lib.Seq.{length-take-le, get_or-append-add}
use Rattle.closing.specs.Closing.{marked}
use Rattle.conn_record.specs.declared.RToken.{RToken}
use Rattle.conn_record.specs.Connection.{first_byte_of}
use Rattle.conn_record.proofs.Laws.{coherent_facts}
use Rattle.conn_answer.specs.declared.Outcome.{Outcome}
use Rattle.conn_answer.specs.declared.Reply.{Reply}
use Rattle.conn_answer.specs.declared.Reply.TheVariants.{Refused}
use Rattle.conn_send.specs.Transmit.{rtoken_of, element_start, sent_reply}
use Rattle.conn_gather.specs.Pieces.{pieces_of}
use Rattle.conn_gather.specs.Statement.{Write}
use Rattle.group_rules.specs.Rules.{Says, says_of, in_pieces, record_of_all, element_in}
use Rattle.thm_sent.specs.Books.{sends, finishes, taken_by, written_by, owed_from, start_of, Item, takes}
use Rattle.thm_sent.specs.Plain.{OutwardIs, InwardIs, free_room, plain_sent, unless_refused}
use Rattle.thm_sent.proofs.Way.{Way}
use Rattle.thm_sent.proofs.Direction.{Stands, dir_sends, dir_elem}
use Rattle.thm_sent.proofs.Sends.{SendStep}
use Rattle.thm_sent.proofs.Receives.{FinishStep}
use Rattle.thm_sent.proofs.Named.{standing, placed_standing, pieces_standing, standing_way}
use Rattle.thm_sent.proofs.Pair.{in_of, Act, rec_of, elem_of, at_of, held, next_of, After, mid_by, no_items, finished}

-- the link decides which key and base
link_of_lem : (l : ℕ) (a b c d : RToken) (r : ℕ → RToken) → 1 ≤ l → l ≤ 4 → a ≡ r 1 → b ≡ r 2 → c ≡ r 3 → d ≡ r 4
    → cond (eqb l 1) a (cond (eqb l 2) b (cond (eqb l 3) c d)) ≡ r l
link_of_lem zero a b c d r low high x y z w = absurd (omega arith)
link_of_lem (suc zero) a b c d r low high x y z w = x
link_of_lem (suc (suc zero)) a b c d r low high x y z w = y
link_of_lem (suc (suc (suc zero))) a b c d r low high x y z w = z
link_of_lem (suc (suc (suc (suc zero)))) a b c d r low high x y z w = w
link_of_lem (suc (suc (suc (suc (suc l))))) a b c d r low high x y z w = absurd (omega arith)

module _ (a : Act) where
  open a use {n, m, d, d', full, full', e, f, p, q, h, k, pair, opened, is_open}

  token_is_lem : rtoken_of (rec_of a) ≡ m.reach (rec_of a).id.link
  unfolding rtoken_of
  token_is_lem =
      let c = rec_of a in
      let r = c.remote in
      let w = (at_of a).matched in
      let t = coherent_facts (d + 4) c (held a).coherent in
      link_of_lem c.id.link r.link1 r.link2 r.link3 r.link4 m.reach t.link_least t.link_most w.is_1 w.is_2
      w.is_3 w.is_4

  -- bytes from Q on, each at the place of its position in the peer's element
  abbrev pub named : List ℕ → List Write
  named b = standing d' full' (rtoken_of (rec_of a)).key (element_start (rec_of a)) p.outward.Q b

  abbrev pub Sent : Bool → List ℕ → Outcome → Type 0
  Sent u b o = SendStep d' (rec_of a) p.outward u (length b) o

  -- what a send that takes j bytes of b says
  pub record SaysSent (b : List ℕ) (j : ℕ) (says : Says) : Type 0 where
    pub taken_is : taken_by says ≡ j
    pub engine_is : unless_refused says (free_room d' p.outward (length b)) ≡ j
    pub writes_are : written_by b says ≡ named (take (taken_by says) b)

  none_named : [] ≡ named []
  unfolding standing
  none_named = refl

  -- SENDS
  module _ {u : Bool} {b : List ℕ} {o : Outcome} (step : Sent u b o) where
    module _ (pieces : Says → Says) (refused : (i : ℕ) → SaysSent b 0 (pieces (says_of (Refused i))))
        (sent : step.m ≤ d' → step.m ≡ free_room d' p.outward (length b) → SaysSent b step.m
        (pieces (says_of (sent_reply (rec_of a) step.m)))) where
      says_by_lem : SaysSent b step.m (pieces (says_of o.reply))
      says_by_lem = go step.replies
        where
          go : ((i : ℕ) × (o.reply ≡ Refused i) × (step.m ≡ 0))
              ⊎ ((o.reply ≡ sent_reply (rec_of a) step.m) × (step.m ≡ free_room d' p.outward (length b)))
              → SaysSent b step.m (pieces (says_of o.reply))
          go (inl z) =
              subst (λ (r : Reply). SaysSent b step.m (pieces (says_of r))) (sym z.1)
              (subst (λ (j : ℕ). SaysSent b j (pieces (says_of (Refused z.0)))) (sym z.2) (refused z.0))
          go (inr z) =
              subst (λ (r : Reply). SaysSent b step.m (pieces (says_of r))) (sym z.0)
              (sent (omega (arith, step.m_room, (held a).R_Q)) z.1)

    module _ (says : Says) (s : SaysSent b step.m says) (out : List ℕ) (record_is : record_of_all (next_of a) n.slot ≡ o.after)
        (element_is : element_in (next_of a) n.slot ≡ elem_of a) where
      abbrev bytes : List ℕ
      bytes = take (taken_by says) b

      abbrev taken : ℕ
      taken = unless_refused says (free_room d' p.outward (length b))

      abbrev link : ℕ
      link = (rec_of a).id.link

      abbrev items : List Item
      items = owed_from (length e.took) link (written_by b says)

      long : length bytes ≡ taken
      long = length-take-le (taken_by says) b (omega (arith, s.taken_is, step.m_len)) ∙ s.taken_is ∙ sym s.engine_is

      abbrev new_u : ℕ
      new_u = cond (u && (ltb 0 (length b) && leb (length b) taken)) (p.outward.Q + taken) p.outward.U

      U_below : (t : Bool) → cond t (p.outward.Q + taken) p.outward.U ≤ p.outward.Q + taken
      U_below true = omega arith
      U_below false = omega (arith, pair.to_f.order.U_Q)

      abbrev UnderWay : List Item → Type 0
      UnderWay l =
          let took = e.took ++ bytes in
          let o = p.outward in
          Way d' d m (Stands d' d m took (in_of m f q k).place q.mute) took h.ended (o.Q + taken) o.made o.Q o.made l []

      under_way : UnderWay items
      under_way =
          let at = (at_of a).matched in
          let start : element_start (rec_of a) ≡ start_of m (d' + 4) link =
          λ i. first_byte_of (at.size_is i) (at.index_is i) (token_is_lem i).base
          in
          subst UnderWay (sym (λ i. owed_from (pair.to_f.Q_is i) link (s.writes_are i)))
          (standing_way d' d m _ (e.took ++ bytes) h.ended link (rtoken_of (rec_of a)).key (element_start (rec_of a))
          (ap (λ (t : RToken). t.key) token_is_lem) start full' bytes p.outward.Q (p.outward.Q + taken) p.outward.made
          (omega (arith, long))
          (λ j l. sym (ap (λ (x : ℕ). get_or (e.took ++ bytes) (x + j) 0) (sym pair.to_f.Q_is) ∙ get_or-append-add e.took bytes j 0)))

      pub sends_event : After a (record { says = says; made = o.made; message = o.message; out = out }) (sends u b)
      unfolding plain_sent
      sends_event =
          finished a
          (mid_by a (takes e bytes) items step.follows
          (record {
            out_now =
                subst (λ (j : ℕ). OutwardIs d' (plain_sent p.outward u (length b) j) step.c1.outbound) (sym s.engine_is)
                step.now;
            in_now = subst (InwardIs d p.inward) (sym step.same_in) (at_of a).in_now;
            over-is = λ z. (at_of a).over-is (ap marked (sym step.same_heard) ∙ z);
          })
          refl refl refl
          (dir_sends pair.to_f bytes taken long new_u items (λ z. s.engine_is ∙ step.ended ((at_of a).ended_is ∙ z))
          (omega (arith, step.m_room, s.engine_is)) (U_below (u && (ltb 0 (length b) && leb (length b) taken))) under_way)
          (dir_elem pair.to_e (element_in (next_of a) n.slot) element_is))
          opened record_is

  pub says_sent : {u : Bool} {b : List ℕ} {o : Outcome} (step : Sent u b o) → SaysSent b step.m (says_of o.reply)
  says_sent {b = b} step =
      says_by_lem step (λ s. s) (λ i. record { taken_is = refl; engine_is = refl; writes_are = none_named })
      (λ most z.
      record {
        taken_is = refl;
        engine_is = sym z;
        writes_are =
            placed_standing d' full' (rec_of a) p.outward.Q b (at_of a).matched.size_is (at_of a).out_now.Q_is step.m most
            step.m_len;
      })

  pub says_gathered : {u : Bool} (head body : List ℕ) {o : Outcome} (step : Sent u (head ++ body) o)
      → SaysSent (head ++ body) step.m (in_pieces (pieces_of (rec_of a) head body) (says_of o.reply))
  says_gathered head body step =
      says_by_lem step (in_pieces (pieces_of (rec_of a) head body)) (λ i. record { taken_is = refl; engine_is = refl; writes_are = none_named })
      (λ most z.
      record {
        taken_is = refl;
        engine_is = sym z;
        writes_are =
            pieces_standing d' full' (rec_of a) p.outward.Q head body (at_of a).matched.size_is (at_of a).out_now.Q_is step.m most
            step.m_len;
      })

  -- ENDINGS
  pub finishes_event : {o : Outcome} → FinishStep (rec_of a) o → (says : Says) (out : List ℕ)
      → record_of_all (next_of a) n.slot ≡ o.after → element_in (next_of a) n.slot ≡ elem_of a
      → After a (record { says = says; made = o.made; message = o.message; out = out }) finishes
  finishes_event step says out record_is element_is =
      finished a
      (mid_by a e [] step.follows
      (record {
        out_now = subst (OutwardIs d' p.outward) (sym step.same_out) (at_of a).out_now;
        in_now = subst (InwardIs d p.inward) (sym step.same_in) (at_of a).in_now;
        over-is = λ z. (at_of a).over-is (ap marked (sym step.same_heard) ∙ z);
      })
      refl refl refl (no_items a e p h pair.to_f) (dir_elem pair.to_e (element_in (next_of a) n.slot) element_is))
      opened record_is
