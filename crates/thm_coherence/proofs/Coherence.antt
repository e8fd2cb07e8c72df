-- A record is coherent exactly when the pages' words hold of it. Assumes nothing.
use mathlib.Core.Path.{◌≡◌, refl, sym, ap, ◌∙◌}
use mathlib.Core.Bool.{Bool, true, false, false≢true, ◌&&◌}
use Prim.Native.Nat.{ℕ, ◌+◌, ◌-◌, ◌*◌, ◌≤◌, ◌<◌}
use native.Mathlib.Omega.{arith}
use borrow.Author.Tests.{le-leb}
use Rattle.cursor.specs.declared.Cursor.{Cursor}
use Rattle.cursor.specs.Cursor.{in_range, good_b, gap_of, lead_of}
use Rattle.cursor.proofs.Laws.{turns_is, lead_is, good_lead, lead_good, gap_is, range_is, is_range}
use Rattle.conn_record.specs.declared.Remote.{Remote}
use Rattle.conn_record.specs.declared.Record.{Record}
use Rattle.conn_record.specs.Connection.{most_address, last_byte, fits_b, remote_ok}
use Rattle.conn_record.proofs.Laws as Laws
use Rattle.conn_record.proofs.Laws.{fits_facts, remote_facts, place_facts, place_by, coherent_facts, coherent_from}
use Rattle.thm_coherence.specs.Coherence.{InRange, reach, Good, Stands, Peer, Coherent, CoherentExactly}

-- numbers
less_by : (x y z : ℕ) → x ≤ y → y ≡ z → x ≤ z
less_by x y z h e = omega (arith, h, e)

more_by : (x y z : ℕ) → x ≤ y → x ≡ z → z ≤ y
more_by x y z h e = omega (arith, h, e)

sum_out : (g h l m t c d : ℕ) → g ≡ l - t → h ≡ m - c → g + h ≤ d → l + m ≤ t + c + d
sum_out g h l m t c d p q s = omega (arith, p, q, s)

sum_in : (g h l m t c d : ℕ) → g ≡ l - t → h ≡ m - c → t ≤ l → c ≤ m → l + m ≤ t + c + d → g + h ≤ d
sum_in g h l m t c d p q u v s = omega (arith, p, q, u, v, s)

after_out : (g l f : ℕ) → g ≡ l - f → 1 ≤ g → f < l
after_out g l f p s = omega (arith, p, s)

after_in : (g l f : ℕ) → g ≡ l - f → f < l → 1 ≤ g
after_in g l f p s = omega (arith, p, s)

up_out : (g h l m f : ℕ) → g ≡ l - f → h ≡ m - f → 1 ≤ g → g ≤ h → l ≤ m
up_out g h l m f p q s u = omega (arith, p, q, s, u)

up_in : (g h l m f : ℕ) → g ≡ l - f → h ≡ m - f → l ≤ m → g ≤ h
up_in g h l m f p q u = omega (arith, p, q, u)

module _ (d : ℕ) (a b : Cursor) where
  reach_is : lead_of d a b ≡ reach d a b
  reach_is = lead_is d a b ∙ ap (λ t. t * d + b.offset) (turns_is a.wrap b.wrap)

  gap_reach : gap_of d a b ≡ reach d a b - a.offset
  gap_reach = gap_is d a b ∙ ap (λ l. l - a.offset) reach_is

  good_out : good_b d a b ≡ true → Good d a b
  good_out h =
      let l = good_lead d a b h in
      record { from_0 = less_by _ _ _ l.0 reach_is; to_D = more_by _ _ _ l.1 reach_is }

  good_in : Good d a b → good_b d a b ≡ true
  good_in g = lead_good d a b (less_by _ _ _ g.from_0 (sym reach_is)) (more_by _ _ _ g.to_D (sym reach_is))

module _ (n : ℕ) (c : Cursor) where
  range_out : in_range n c ≡ true → InRange n c
  range_out h = let r = range_is n c h in record { least = r.0; most = r.1 }

  range_in : InRange n c → in_range n c ≡ true
  range_in r = is_range n c r.least r.most

module _ (n : ℕ) (from to at : Cursor) where
  stands_out : Laws.Stands n from to at → Stands n from to at
  stands_out s =
      record {
        is_in_range = range_out n at s.range;
        good = good_out (n - 4) from at s.good;
        after = after_out _ _ _ (gap_reach (n - 4) from at) s.least;
        up_to = up_out _ _ _ _ _ (gap_reach (n - 4) from at) (gap_reach (n - 4) from to) s.least s.most;
      }

  stands_in : Stands n from to at → Laws.Stands n from to at
  stands_in s =
      record {
        range = range_in n at s.is_in_range;
        good = good_in (n - 4) from at s.good;
        least = after_in _ _ _ (gap_reach (n - 4) from at) s.after;
        most = up_in _ _ _ _ _ (gap_reach (n - 4) from at) (gap_reach (n - 4) from to) s.up_to;
      }

-- the peer
fits_in : (N' index base : ℕ) → base + index * N' ≤ most_address + 1 → fits_b N' index base ≡ true
unfolding fits_b
fits_in N' index base h = le-leb (last_byte N' index base) most_address (omega (arith, h))

peer_out : (r : Remote) → remote_ok r ≡ true → Peer r
peer_out r h =
    let f = remote_facts r h in
    record {
      size_least = f.size_least;
      size_most = f.size_most;
      index_least = f.index_least;
      index_most = f.index_most;
      top1 = fits_facts r.size r.index r.link1.base f.fits1;
      top2 = fits_facts r.size r.index r.link2.base f.fits2;
      top3 = fits_facts r.size r.index r.link3.base f.fits3;
      top4 = fits_facts r.size r.index r.link4.base f.fits4;
    }

peer_in : (r : Remote) → Peer r → remote_ok r ≡ true
unfolding remote_ok
peer_in r p =
    simp (
      le-leb 8 r.size p.size_least,
      le-leb r.size 65540 p.size_most,
      le-leb 1 r.index p.index_least,
      le-leb r.index 255 p.index_most,
      fits_in r.size r.index r.link1.base p.top1,
      fits_in r.size r.index r.link2.base p.top2,
      fits_in r.size r.index r.link3.base p.top3,
      fits_in r.size r.index r.link4.base p.top4,
    )

-- the marks
both_out : (a b : Bool) → a && b ≡ false → a ≡ true → b ≡ true → ⊥
both_out true b e h k = false≢true (sym e ∙ k)
both_out false b e h k = false≢true h

both_in : (a b : Bool) → (a ≡ true → b ≡ true → ⊥) → a && b ≡ false
both_in true true h = absurd (h refl refl)
both_in true false h = refl
both_in false b h = refl

module _ (n : ℕ) (c : Record) where
  facts_out : Laws.Coherent n c → Coherent n c
  facts_out f =
      record {
        own = f.own_nonzero;
        peer = f.peer_nonzero;
        link_least = f.link_least;
        link_most = f.link_most;
        theirs = peer_out c.remote f.remote_ok_lem;
        P = range_out n c.inbound.producer f.p_range;
        C = range_out n c.inbound.consumer f.c_range;
        T = range_out n c.inbound.told f.t_range;
        Q = range_out c.remote.size c.outbound.producer f.q_range;
        R = range_out c.remote.size c.outbound.consumer f.r_range;
        T_to_C = good_out (n - 4) c.inbound.told c.inbound.consumer f.tc_good;
        C_to_P = good_out (n - 4) c.inbound.consumer c.inbound.producer f.cp_good;
        sum =
            sum_out _ _ _ _ _ _ _ (gap_reach (n - 4) c.inbound.told c.inbound.consumer)
            (gap_reach (n - 4) c.inbound.consumer c.inbound.producer) f.sum;
        R_to_Q = good_out (c.remote.size - 4) c.outbound.consumer c.outbound.producer f.rq_good;
        not_both = both_out c.marks.sent.closed c.marks.heard.closed f.not_both;
        urgent_inbound =
            λ s. stands_out n c.inbound.consumer c.inbound.producer c.inbound.urgent.place
            (place_facts n c.inbound.consumer c.inbound.producer c.inbound.urgent f.at_their_place s);
        urgent-out =
            λ s. stands_out c.remote.size c.outbound.consumer c.outbound.producer c.outbound.urgent.place
            (place_facts c.remote.size c.outbound.consumer c.outbound.producer c.outbound.urgent f.at_own_place s);
      }

  facts_in : Coherent n c → Laws.Coherent n c
  facts_in f =
      record {
        own_nonzero = f.own;
        peer_nonzero = f.peer;
        link_least = f.link_least;
        link_most = f.link_most;
        remote_ok_lem = peer_in c.remote f.theirs;
        not_both = both_in c.marks.sent.closed c.marks.heard.closed f.not_both;
        p_range = range_in n c.inbound.producer f.P;
        c_range = range_in n c.inbound.consumer f.C;
        t_range = range_in n c.inbound.told f.T;
        q_range = range_in c.remote.size c.outbound.producer f.Q;
        r_range = range_in c.remote.size c.outbound.consumer f.R;
        tc_good = good_in (n - 4) c.inbound.told c.inbound.consumer f.T_to_C;
        cp_good = good_in (n - 4) c.inbound.consumer c.inbound.producer f.C_to_P;
        sum =
            sum_in _ _ _ _ _ _ _ (gap_reach (n - 4) c.inbound.told c.inbound.consumer)
            (gap_reach (n - 4) c.inbound.consumer c.inbound.producer) f.T_to_C.from_0 f.C_to_P.from_0 f.sum;
        rq_good = good_in (c.remote.size - 4) c.outbound.consumer c.outbound.producer f.R_to_Q;
        at_their_place =
            place_by n c.inbound.consumer c.inbound.producer c.inbound.urgent
            (λ s. stands_in n c.inbound.consumer c.inbound.producer c.inbound.urgent.place (f.urgent_inbound s));
        at_own_place =
            place_by c.remote.size c.outbound.consumer c.outbound.producer c.outbound.urgent
            (λ s.
            stands_in c.remote.size c.outbound.consumer c.outbound.producer c.outbound.urgent.place (f.urgent-out s));
      }

pub coherent_exactly : CoherentExactly
coherent_exactly n c = (λ h. facts_out n c (coherent_facts n c h), λ f. coherent_from n c (facts_in n c f))
