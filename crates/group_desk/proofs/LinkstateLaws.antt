-- Link change and sample, from what their parts gave: the answer and the group that is left are what the rules say. Assumes nothing.
use Prim.Native.Nat.{ℕ}
use mathlib.Core.Path.{◌≡◌, refl, sym, ap, ◌∙◌}
use mathlib.Core.Bool.{Bool, true, false, not, cond}
use mathlib.Core.List.{[]}
use native.Mathlib.Omega.{arith}
use lib.Dec.{leb}
use borrow.Author.Tests.{eq-eqb, ne_eqb}
use Rattle.gauge.specs.declared.Gauge.{Gauge}
use Rattle.gauge.specs.Gauge.{most_ms, sampled_of, health_of}
use Rattle.group_table.specs.declared.Links.{Links}
use Rattle.group_table.specs.declared.Answered.{Answered}
use Rattle.group_table.specs.Table.{link_in, active_b, gauge_at, gauge_set, refused_by}
use Rattle.group_rules.specs.Rules.{Group, Call, Management, Done, Did, answer_of, does, healthy, refuses, links_of, with_links, sample_refusal, sample_does}
use Rattle.group_desk.specs.Linkstate.{health_by}

-- THE LINKS
module _ (ls : Links) (g : Group) (e : links_of g ≡ ls) where
  abbrev DidIt : Call → Answered → Type 0
  DidIt call r = Did g call (answer_of r []) (with_links g r.links)

  links_refused : (call : Call) (k : ℕ) (r : Answered) → does g call ≡ refuses g k [] → r ≡ refused_by k ls → DidIt call r
  unfolding refuses refused_by
  links_refused call k r d p =
      record {
        answered = ap (λ (b : Answered). answer_of b []) p ∙ sym (ap (λ (w : Done). w.answer) d);
        left =
            ap (λ (b : Answered). with_links g b.links) p ∙ ap (with_links g) (sym e) ∙ sym (ap (λ (w : Done). w.group) d);
      }

  -- what is answered and left, where the answer is a
  links_left : (call : Call) (a r : Answered) → does g call ≡ record { answer = answer_of a []; group = with_links g a.links } → r ≡ a
      → DidIt call r
  links_left call a r d p =
      record {
        answered = ap (λ (b : Answered). answer_of b []) p ∙ sym (ap (λ (w : Done). w.answer) d);
        left = ap (λ (b : Answered). with_links g b.links) p ∙ sym (ap (λ (w : Done). w.group) d);
      }

  module _ (l : ℕ) where
    -- SAMPLE, by the number of its refusal
    module _ (ms j : ℕ) (f : j ≡ sample_refusal ls.active l ms) (r : Answered) where
      abbrev sampling : Call
      sampling = Call.manage (Management.sample l ms)

      number_is : sample_refusal g.links l ms ≡ j
      number_is = ap (λ (x : Links). sample_refusal x.active l ms) e ∙ sym f

      pub sample_refused : (j ≡ 0 → ⊥) → r ≡ refused_by j ls → DidIt sampling r
      unfolding sample_does
      sample_refused h p = links_refused sampling j r (simp (number_is, ne_eqb j 0 h)) p

      -- a number that is refused nowhere is a sample
      is_in_range : j ≡ 0 → leb ms most_ms ≡ true
      unfolding sample_refusal
      is_in_range z = go (link_in l) (active_b ls.active l) (leb ms most_ms) (sym f ∙ z)
        where
          go : (a b d : Bool) → ◌≡◌ {A = ℕ} (cond (not a) 13 (cond (not b) 6 (cond (not d) 17 0))) 0 → d ≡ true
          go true true true h = refl
          go true true false h = absurd (omega arith)
          go true false d h = absurd (omega arith)
          go false b d h = absurd (omega arith)

      module _ (z : j ≡ 0) where
        pub sampled_is : (q after : Gauge) → q ≡ gauge_at ls.gauges l → after ≡ cond (leb ms most_ms) (sampled_of q ms) q
            → after ≡ sampled_of (gauge_at ls.gauges l) ms
        sampled_is q after hq ha =
            ha ∙ (simp (is_in_range z)) ∙ ap (λ (x : Gauge). sampled_of x ms) hq

        pub sample_did : (after : Gauge) → after ≡ sampled_of (gauge_at ls.gauges l) ms → r ≡ health_by (health_of after) (gauge_set ls l after)
            → DidIt sampling r
        unfolding sample_does health_by
        sample_did after ha p =
            links_left sampling (health_by (health_of after) (gauge_set ls l after)) r
            ((simp (number_is, eq-eqb j 0 z)) ∙ (λ i. left (e i) (after_is i)))
            p
          where
            after_is : sampled_of (gauge_at g.gauges l) ms ≡ after
            after_is = ap (λ (x : Links). sampled_of (gauge_at x.gauges l) ms) e ∙ sym ha

            left : Links → Gauge → Done
            left x q = record { answer = healthy q; group = with_links g (gauge_set x l q) }
