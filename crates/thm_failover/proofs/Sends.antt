-- Link send keeps every record (claim 3 of specs/Resilience): a sent message is never due at stage 5, and after an 04 with A no link is
-- active. Assumes nothing.
use Prim.Native.Nat.{ℕ, zero, suc, ◌*◌}
use mathlib.Core.Path.{◌≡◌, refl, sym, ap, ◌∙◌}
use mathlib.Core.Bool.{Bool, true, false, false≢true, ◌&&◌, ◌||◌, not, cond}
use mathlib.Core.List.{List, [], ◌∷◌}
use lib.Dec.{eqb}
use lib.ListN.{length, drop, get_or, set}
use lib.Seq.{ext_get_or}
use Rattle.link_message.specs.declared.Kind.{Kind}
use Rattle.link_exchange.specs.declared.Exchange.{Exchange}
use Rattle.link_exchange.specs.declared.Touch.{Touch}
use Rattle.link_exchange.specs.declared.Touch.TheVariants.{Nothing, Up, Down, All}
use Rattle.link_exchange.specs.declared.Said.{Said}
use Rattle.link_exchange.specs.Exchange.{said_of, stages, due_b}
use Rattle.conn_record.specs.Connection.{zero_record, coherent_b}
use Rattle.group_table.specs.declared.Links.{Links}
use Rattle.group_table.specs.Table.{active_b, record_at, open_b, with_link, link_set}
use Rattle.link_calls.specs.Calls.{touched, sent_in}
use Rattle.thm_links.specs.Statements as Link
use Rattle.thm_links.specs.Statements.{Call as LinkCall, Deleted}
use Rattle.thm_links.proofs.Theorems.{links_touched, goes_down}
use Rattle.group_rules.specs.Rules.{Group, link_send, manage, answer, next, record_of_all, links_of, lent_ok}
use Rattle.thm_safety.specs.Links.{relinked}
use Rattle.thm_safety.proofs.Links.{link_calls_leave}
use Rattle.thm_failover.specs.Resilience.{gone_in, any_active, moves_in, SendKeeps, tellers}
use Rattle.thm_failover.proofs.Moves.{none_moves, only_links}
use Rattle.thm_failover.proofs.Messages.{none_tell, the_messages}

-- A SENT MESSAGE IS NOT DUE AT STAGE 5, which waits for one from the peer
due_heard : (v w L : ℕ) (m : Said) → due_b (record { stage = 5; v = v; w = w }) L m ≡ true → m.heard ≡ true
unfolding due_b stages
due_heard v w L m e = go (eqb m.kind 0x04) m.reply m.heard (eqb L v && (not m.a && eqb m.link w)) e
  where
    go : (a b h c : Bool) → (a && (b && (h && c))) || false ≡ true → h ≡ true
    go true true true c e = refl
    go true true false c e = absurd (false≢true e)
    go true false h c e = absurd (false≢true e)
    go false b h c e = absurd (false≢true e)

sent_heard : (g : Links) (k : Kind) (vs : List ℕ) → (sent_in g k vs).heard ≡ false
unfolding said_of
sent_heard g k vs = refl

sent_no_5 : (g : Links) (L l : ℕ) (k : Kind) (vs : List ℕ) → Deleted g L (sent_in g k vs) l → ⊥
sent_no_5 g L l k vs d =
    let x : Exchange = g.exchange in
    let at : x ≡ record { stage = 5; v = x.v; w = x.w } = λ i. record { stage = d.stage i; v = x.v; w = x.w } in
    false≢true
    (sym (sent_heard g k vs)
    ∙ due_heard x.v x.w L (sent_in g k vs) (sym (ap (λ (z : Exchange). due_b z L (sent_in g k vs)) at) ∙ d.due))

-- THE LINKS AFTER IT
set_up : (ls : List Bool) (i j : ℕ) → get_or ls j false ≡ true → get_or (set ls i true) j false ≡ true
set_up [] i j e = absurd (false≢true e)
set_up (x ∷ ls) zero zero e = refl
set_up (x ∷ ls) zero (suc j) e = e
set_up (x ∷ ls) (suc i) zero e = e
set_up (x ∷ ls) (suc i) (suc j) e = set_up ls i j e

still_up : (ls : List Bool) (w l : ℕ) → active_b ls l ≡ true → active_b (with_link ls w true) l ≡ true
unfolding active_b with_link
still_up ls zero l e = e
still_up ls (suc i) zero e = absurd (false≢true e)
still_up ls (suc i) (suc j) e = set_up ls i j e

all_down_lem : (ls : Links)
    → let a = (touched ls All).active in active_b a 1 || (active_b a 2 || (active_b a 3 || active_b a 4)) ≡ false
unfolding touched link_set active_b with_link
all_down_lem ls = go ls.active
  where
    go : (a : List Bool)
        → let z = set (set (set (set a 0 false) 1 false) 2 false) 3 false in
        get_or z 0 false || (get_or z 1 false || (get_or z 2 false || get_or z 3 false)) ≡ false
    go [] = refl
    go (a ∷ []) = refl
    go (a ∷ b ∷ []) = refl
    go (a ∷ b ∷ c ∷ []) = refl
    go (a ∷ b ∷ c ∷ d ∷ r) = refl

module _ (g h : Group) where
  none_by_gone : ((l : ℕ) → active_b g.links l ≡ true → active_b h.links l ≡ true) → (k : ℕ) → moves_in g h k ≡ false
  none_by_gone up k =
      go (any_active h) (open_b g.S g.table k) (coherent_b g.N (record_of_all g k)) (active_b g.links l) (active_b h.links l) (up l)
    where
      l : ℕ
      l = (record_of_all g k).id.link

      go : (a o c x y : Bool) → (x ≡ true → y ≡ true) → a && (o && (c && (x && not y))) ≡ false
      go false o c x y f = refl
      go true false c x y f = refl
      go true true false x y f = refl
      go true true true false y f = refl
      go true true true true y f = ap not (f refl)

  none_by_target : any_active h ≡ false → (k : ℕ) → moves_in g h k ≡ false
  none_by_target e k =
      ap (λ (a : Bool). a && (open_b g.S g.table k && (coherent_b g.N (record_of_all g k) && gone_in g h (record_of_all g k).id.link))) e

  none_touched : (t : Touch) → h.links ≡ (touched (links_of g) t).active → ((l : ℕ) → t ≡ Down l → ⊥) → (k : ℕ) → moves_in g h k ≡ false
  unfolding touched link_set
  none_touched Nothing e d = none_by_gone (λ l a. ap (λ (z : List Bool). active_b z l) e ∙ a)
  none_touched (Up w) e d = none_by_gone (λ l a. ap (λ (z : List Bool). active_b z l) e ∙ still_up g.links w l a)
  none_touched (Down w) e d = absurd (d w refl)
  none_touched All e d =
      none_by_target (ap (λ (z : List Bool). active_b z 1 || (active_b z 2 || (active_b z 3 || active_b z 4))) e ∙ all_down_lem (links_of g))

-- so nothing moves
none_sent : (g : Group) (l : ℕ) (k : Kind) (vs b : List ℕ) (j : ℕ) → moves_in g (next g (manage (link_send l k vs b))) j ≡ false
none_sent g l k vs b j = go (lent_ok g b) (link_calls_leave g (LinkCall.send l k vs) b)
  where
    s : LinkCall
    s = LinkCall.send l k vs

    h : Group
    h = next g (manage (link_send l k vs b))

    go : (t : Bool) → next g (manage (link_send l k vs b)) ≡ cond t (relinked g (LinkCall.send l k vs)) g
        → moves_in g (next g (manage (link_send l k vs b))) j ≡ false
    go false e = ap (λ (z : Group). moves_in g z j) e ∙ none_moves g j
    go true e =
        none_touched g h (Link.does (links_of g) s).touch (ap (λ (z : Group). z.links) e ∙ (links_touched (links_of g) s).0)
        (λ w d. sent_no_5 (links_of g) l w k vs (goes_down (links_of g) s w d)) j

pub send_keeps : SendKeeps
unfolding record_at
send_keeps g l k vs b =
    let c = manage (link_send l k vs b) in
    let o = only_links g (LinkCall.send l k vs) b in
    let t = the_messages g (LinkCall.send l k vs) b in
    let z : tellers g (next g c) ≡ [] = none_tell g (next g c) (none_sent g l k vs b) 1 g.S in (
      ext_get_or zero_record _ _ o.as_many (λ i h. o.stays (suc i) (none_sent g l k vs b (suc i))),
      t.counts ∙ ap length z,
      sym (ap (λ (n : List ℕ). drop (44 * length n) (answer g c).out) z) ∙ t.rest ∙ ap (λ (n : List ℕ). drop (44 * length n) b) z,
    )
