-- When an element may be used again: by what closes a slot (crate thm_changes), and by what holds of both ends before it. Assumes nothing.
use mathlib.Core.Path.{◌≡◌, refl, sym, ap, ◌∙◌, subst}
use mathlib.Core.Logic.{◌⊎◌, inl, inr}
use mathlib.Core.Bool.{Bool, true, false, ◌||◌, cond, false≢true}
use mathlib.Core.List.{List}
use Prim.Native.Nat.{ℕ, zero, suc, ◌<◌}
use native.Mathlib.Omega.{arith}
use borrow.Author.Tests.{eq-eqb}
use Rattle.cdc.specs.declared.Message.{Message}
use Rattle.cdc.specs.declared.Decoded.TheVariants.{Good}
use Rattle.cdc.specs.Cdc.{decode_of}
use Rattle.closing.specs.declared.Marks.{Marks}
use Rattle.closing.specs.Closing.{marked}
use Rattle.conn_send.specs.Produced.{send_forbids}
use Rattle.conn_record.proofs.Laws.{and_left}
use Rattle.group_rules.specs.Rules.{Group, close, free_slot, Call, on, manage, Answer, answer, next, record_of_all, holder_of}
use Rattle.thm_safety.specs.Statement.{OpenAt, own_of, accepted_b}
use Rattle.thm_safety.proofs.Effects.{holder_open}
use Rattle.thm_safety.proofs.Invariant.{no_slot_0}
use Rattle.thm_changes.specs.Changes.{HeardFor, Closes, by_close, by_hear, by_abort, by_free}
use Rattle.thm_changes.proofs.Changes.{closed_by}
use Rattle.thm_positions.specs.Positions.{names_b}
use Rattle.thm_sent.specs.Books.{Side, near, far, Two, pick, other_side, both, Event, Names, Aim, sends, places, reads, finishes, hears}
use Rattle.thm_sent.specs.Books.{elsewhere, aim_of, Item, failover_b, after_message, less_message, End, both_begun, with_group, acted, called}
use Rattle.thm_sent.specs.Books.{reached}
use Rattle.thm_sent.specs.OnlySent.{waited, mine_after, theirs_after, after, OpenThere, IfComes, AllPerformed, FirstIs, Met}
use Rattle.thm_sent.specs.Plain.{Plain, Mark, plain_after}
use Rattle.thm_sent.specs.Reuse.{OwnOpen, NotFreed, NoBytes, NoneToCome, NothingUnderWay}
use Rattle.thm_sent.proofs.Way.{Way, there, a_byte, a_message, Bears, ends_b, way_up}
use Rattle.thm_sent.proofs.Direction.{Dir, HeardBy, hears_it}
use Rattle.thm_sent.proofs.Follows.{ended_b, or_left, or_right, or_cases}
use Rattle.thm_sent.proofs.Pair.{Hidden, out_of, in_of, known_of, AtRec, AtEnd, Pair, swap}
use Rattle.thm_sent.proofs.Run.{opened_now, PairAt, from_near, event_step, over_all, both_hidden, both_plain, datas, full_of}
use Rattle.thm_sent.proofs.Run.{begun_pair, begun_mades}
use Rattle.thm_sent.proofs.Theorem.{throughout_both}

-- where all bytes taken were heard of, what is under way is messages; and where it is messages, all were
module _ {d d' : ℕ} {n : Names} {S : ℕ → Type 0} {took : List ℕ} {ended : Bool} where
  none_left : {y t x s : ℕ} {l : List Item} {ms : List Mark} → Way d d' n S took ended y t x s l ms → x ≡ y → NoBytes l
  none_left there e = tt
  none_left (a_byte b w) e = absurd (omega (arith, e, way_up w))
  none_left (a_message m w) e = none_left w e

  all_heard : {y t x s : ℕ} {l : List Item} {ms : List Mark} → Way d d' n S took ended y t x s l ms → NoBytes l → x ≡ y
  all_heard there e = refl
  all_heard (a_byte b w) e = absurd e
  all_heard (a_message m w) e = all_heard w e

-- whose a message is
holder_own : (g : Group) (token k : ℕ) → OpenAt g k → holder_of g token ≡ k → own_of g k ≡ token
holder_own g token zero o e = absurd (no_slot_0 g o)
holder_own g token (suc i) o e = (holder_open g token i e).1

forbids_by : (m : Marks) → ended_b m ≡ true → send_forbids m ≡ true
unfolding send_forbids
forbids_by m e = go m.sent.done m.sent.closed m.abort m.heard.closed e
  where
    go : (a b c d : Bool) → (a || b) || c ≡ true → a || (b || (c || d)) ≡ true
    go true b c d e = refl
    go false true c d e = refl
    go false false true d e = refl
    go false false false d e = absurd (false≢true e)

-- AT ONE END, where the connection is open, and a call closes its slot
module _ {n m : Names} {d d' : ℕ} {e f : End} {p q : Plain} {h k : Hidden} (w : Pair n m d d' e f p q h k) (opened : e.opened ≡ true)
    (is_open : OpenAt e.group n.slot) (c : Call) (a : Answer)
    (all : IfComes (λ at b. Unit {0}) (λ b. AllPerformed e.coming) (aim_of n c))
    (fi : IfComes (λ at b. Unit {0}) (λ b. FirstIs b e.coming) (aim_of n c)) where
  abbrev at : AtRec n m d d' (known_of p h) (record_of_all e.group n.slot)
  at = w.at_e.rec opened is_open

  record Clean (l : List Item) : Type 0 where
    no_bytes : NoBytes l
    ended : k.ended ≡ true

  abbrev CleanNow : Type 0
  CleanNow = Clean (acted n e a (aim_of n c)).coming

  -- C was heard
  closed_clean : c ≡ on n.slot close → (record_of_all e.group n.slot).marks.heard.closed ≡ true → CleanNow
  unfolding aim_of
  closed_clean z c-heard =
      let aim : aim_of n c ≡ finishes = ap (aim_of n) z ∙ ap (λ (t : Bool). cond t finishes elsewhere) (eq-eqb n.slot n.slot refl) in
      let over = w.to_e.over-is (at.over-is (or_right (record_of_all e.group n.slot).marks.heard.done c-heard)) in
      subst (λ (x : Aim). Clean (acted n e a x).coming) (sym aim)
      (record { no_bytes = none_left w.to_e.way over.1; ended = over.0 })

  -- a message is heard that has C or A, or C was heard before; one with F closes nothing
  module _ (m' : Message) (why : (marked (record_of_all e.group n.slot).marks.heard ≡ true) ⊎ (ends_b m' ≡ true))
      (no_F : (m'.flags.failover ≡ false) ⊎ (m'.flags.abort ≡ true)) where
    first_clean : (b : List ℕ) (x : HeardBy d d' n (out_of f q k) (in_of n e p h) b) → x.is.bears.m ≡ m'
        → Clean (acted n e a (hears b)).coming
    first_clean b x same =
        subst (λ (t : Bool). Clean (cond t (less_message e.coming) (after_message e.coming)))
        (sym (ap failover_b is.decoded ∙ is.failover_is ∙ plain no_F))
        (record { no_bytes = none_left (x.way (plain no_F)) (over why).1; ended = (over why).0 })
      where
        is : Bears d d' n x.x' h.seen.s (decode_of b) x.first
        is = x.is.bears

        over : (marked (record_of_all e.group n.slot).marks.heard ≡ true) ⊎ (ends_b m' ≡ true)
            → (k.ended ≡ true) × (x.x' ≡ q.outward.Q)
        over (inl z) = let o = w.to_e.over-is (at.over-is z) in (o.0, omega (arith, o.1, x.up, x.most))
        over (inr z) = let o = x.is.last (ap ends_b same ∙ z) in (o.0, o.1 ∙ w.to_e.Q_is)

        plain : (m'.flags.failover ≡ false) ⊎ (m'.flags.abort ≡ true) → x.first.failover ≡ false
        plain (inl z) = sym is.failover_is ∙ ap (λ (y : Message). y.flags.failover) same ∙ z
        plain (inr z) = go x.first.failover is.not_abort
          where
            go : (t : Bool) → (t ≡ true → is.m.flags.abort ≡ false) → t ≡ false
            go true y = absurd (false≢true (sym (y refl) ∙ ap (λ (y : Message). y.flags.abort) same ∙ z))
            go false y = refl

    heard_clean : HeardFor e.group c n.slot m' → CleanNow
    unfolding aim_of
    heard_clean for =
        let b = for.bytes in
        let own = holder_own e.group m'.token n.slot is_open for.holder in
        let t : names_b n.own (decode_of b) ≡ true =
        ap (names_b n.own) for.reads ∙ eq-eqb m'.token n.own (sym own ∙ at.matched.own_is)
        in
        let aim : aim_of n c ≡ hears b = ap (aim_of n) for.is ∙ ap (λ (u : Bool). cond u (hears b) elsewhere) t in
        subst (λ (x : Aim). Clean (acted n e a x).coming) (sym aim)
        (by b for.reads
        (hears_it w.to_e b (subst (IfComes (λ at b. Unit {0}) (λ b. FirstIs b e.coming)) aim fi)
        (subst (IfComes (λ at b. Unit {0}) (λ b. AllPerformed e.coming)) aim all)))
      where
        good_same : (x y : Message) → Good x ≡ Good y → x ≡ y
        good_same x y e = cc

        by : (b : List ℕ) → decode_of b ≡ Good m' → HeardBy d d' n (out_of f q k) (in_of n e p h) b → Clean (acted n e a (hears b)).coming
        by b z x = first_clean b x (good_same x.is.bears.m m' (sym x.is.bears.decoded ∙ z))

  clean : OpenThere n (with_group e (next e.group c)) ≡ false
      → (c ≡ manage (free_slot n.slot) → accepted_b (answer e.group c).says ≡ false) → CleanNow
  clean shut unfreed = go (closed_by e.group c n.slot is_open).only_by
    where
      go : OpenAt (next e.group c) n.slot ⊎ Closes e.group c n.slot → CleanNow
      go (inl o) = absurd (false≢true (sym shut ∙ o))
      go (inr (by_close z x c-heard)) = closed_clean z c-heard
      go (inr (by_hear m' for z alive off)) = heard_clean m' (by (or_cases _ _ (and_left _ _ z))) (inl off) for
        where
          by : ((record_of_all e.group n.slot).marks.heard.closed ≡ true) ⊎ (m'.flags.closed ≡ true)
              → (marked (record_of_all e.group n.slot).marks.heard ≡ true) ⊎ (ends_b m' ≡ true)
          by (inl y) = inl (or_right (record_of_all e.group n.slot).marks.heard.done y)
          by (inr y) = inr (or_left m'.flags.abort (or_right m'.flags.done y))
      go (inr (by_abort m' for z)) = heard_clean m' (inr (or_right (m'.flags.done || m'.flags.closed) z)) (inr z) for
      go (inr (by_free z x aborted)) = absurd (false≢true (sym (unfreed z) ∙ ap accepted_b x))

-- A CLOSED END IS SEALED: from then on all bytes taken at the other count as heard of
abbrev sealed : Hidden → Hidden
sealed h = record { ended = h.ended; seen = record { x = h.seen.x; s = h.seen.s; over = true } }

seal : {n m : Names} {d d' : ℕ} {e f : End} {p q : Plain} {h k : Hidden} → Pair n m d d' e f p q h k → NoBytes e.coming → k.ended ≡ true
    → e.opened ≡ true
    → OpenThere n e ≡ false → Pair n m d d' e f p q (sealed h) k
seal {n} {m} {d} {d'} {e} {f} {p} {q} {h} {k} w none ended opened shut =
    let x = w.to_e in
    let closed : AtEnd n m d d' e.group e.opened (known_of p (sealed h)) =
    record {
      sound = w.at_e.sound;
      N_is = w.at_e.N_is;
      rec = λ z o. absurd (false≢true (sym shut ∙ o));
      before = λ z. absurd (false≢true (sym z ∙ opened));
    }
    in
    let over : true ≡ true → (k.ended ≡ true) × (h.seen.x ≡ q.outward.Q) = λ z. (ended, all_heard x.way none) in
    let to_e : Dir d d' n (out_of f q k) (in_of n e p (sealed h)) = search in
    record { at_e = closed; at_f = w.at_f; to_f = w.to_f; to_e = to_e }

acted_opened : (n : Names) (e : End) (a : Answer) (x : Aim) → (acted n e a x).opened ≡ e.opened
acted_opened n e a (sends u b) = refl
acted_opened n e a (places at b) = refl
acted_opened n e a (reads out) = refl
acted_opened n e a finishes = refl
acted_opened n e a (hears b) = refl
acted_opened n e a elsewhere = refl

-- ONE EVENT AT e leaves it sealed, if closed
module _ {n m : Names} {d d' : ℕ} {e f : End} {p q : Plain} {h k : Hidden} (w : Pair n m d d' e f p q h k) (c : Call) (a : Answer)
    (a-is : a ≡ answer e.group c)
    (own : e.opened ≡ true → OpenAt e.group n.slot)
    (all : IfComes (λ at b. Unit {0}) (λ b. AllPerformed e.coming) (cond e.opened (aim_of n c) elsewhere))
    (fi : IfComes (λ at b. Unit {0}) (λ b. FirstIs b e.coming) (cond e.opened (aim_of n c) elsewhere))
    (unfreed : e.opened ≡ true → c ≡ manage (free_slot n.slot) → accepted_b a.says ≡ false) where
  record Sealing (e' f' : End) (p' q' : Plain) : Type 0 where
    hidden : Hidden
    pair : Pair n m d d' e' f' p' q' hidden k
    over : e'.opened ≡ true → OpenThere n e' ≡ false → hidden.seen.over ≡ true

  event_seals : {f' : End} {p' q' : Plain} {h' : Hidden} → Pair n m d d' (mine_after n m e f c a) f' p' q' h' k
      → Sealing (mine_after n m e f c a) f' p' q'
  unfolding mine_after called waited
  event_seals {f'} {p'} {q'} {h'} v = go e.opened refl v
    where
      go : (t : Bool) → e.opened ≡ t → Pair n m d d' (cond t (called n e c a) (waited n m e f.group.N c a)) f' p' q' h' k
          → Sealing (cond t (called n e c a) (waited n m e f.group.N c a)) f' p' q'
      go false z v =
          record {
            hidden = h';
            pair = v;
            over = λ y x. absurd (false≢true (sym x ∙ (opened_now n m f.group.N a e.group w.at_e.sound c a-is y).is_open));
          }
      go true z v = by (OpenThere n (called n e c a)) refl
        where
          by : (t : Bool) → OpenThere n (called n e c a) ≡ t → Sealing (called n e c a) f' p' q'
          by true o = record { hidden = h'; pair = v; over = λ y x. absurd (false≢true (sym x ∙ o)) }
          by false o =
              let done =
              clean w z (own z) c a
              (subst (λ (t : Bool). IfComes (λ at b. Unit {0}) (λ b. AllPerformed e.coming) (cond t (aim_of n c) elsewhere)) z all)
              (subst (λ (t : Bool). IfComes (λ at b. Unit {0}) (λ b. FirstIs b e.coming) (cond t (aim_of n c) elsewhere)) z fi) o
              (λ y. ap (λ (x : Answer). accepted_b x.says) (sym a-is) ∙ unfreed z y)
              in
              record {
                hidden = sealed h';
                pair = seal v done.no_bytes done.ended (acted_opened n e a (aim_of n c) ∙ z) o;
                over = λ y x. refl;
              }

-- THE CLAIM at a sealed end
none_to_come : {n m : Names} {d d' : ℕ} {e f : End} {p q : Plain} {h k : Hidden} → Pair n m d d' e f p q h k → h.seen.over ≡ true
    → NoneToCome m e f
none_to_come {m = m} {f = f} {k = k} w z =
    let over = w.to_e.over-is z in
    record { no_bytes = none_left w.to_e.way over.1; no_sends = λ still. go still over.0 f.opened refl }
  where
    go : OpenThere m f ≡ true → k.ended ≡ true → (t : Bool) → f.opened ≡ t → send_forbids (record_of_all f.group m.slot).marks ≡ true
    go still y true o = forbids_by (record_of_all f.group m.slot).marks ((w.at_f.rec o still).ended_is ∙ y)
    go still y false o = absurd (false≢true (sym (w.at_f.before o).not_ended ∙ y))

-- an event at one end leaves the other open or closed
theirs_same : (m n : Names) (e f : End) (c : Call) (a : Answer)
    → ((theirs_after n e f c a).opened ≡ f.opened) × (OpenThere m (theirs_after n e f c a) ≡ OpenThere m f)
unfolding theirs_after reached
theirs_same m n e f c a = go e.opened
  where
    go : (t : Bool) → ((cond t (reached n e c a f) f).opened ≡ f.opened) × (OpenThere m (cond t (reached n e c a f) f) ≡ OpenThere m f)
    go true = (refl, refl)
    go false = (refl, refl)

-- ALL EVENTS
module _ (names : Two Names) (ds : Two ℕ) (full : (s : Side) → 0 < pick s ds) where
  record Kept (s : Side) (ends : Two End) (plains : Two Plain) : Type 0 where
    hs : Two Hidden
    pair : PairAt names ds ends plains hs near
    over : (pick s ends).opened ≡ true → OpenThere (pick s names) (pick s ends) ≡ false → (pick s hs).seen.over ≡ true

  one : (s : Side) (ends : Two End) (plains : Two Plain) (v : Event) → Kept s ends plains
      → v.said ≡ answer (pick v.side ends).group v.call
      → Met OwnOpen names ends v × NotFreed s names ends v → Kept s (after names ends v) (plain_after names ends plains v) × Unit {0}
  unfolding after
  one s ends plains v k a-is t =
      let x = event_step names ds full ends plains k.hs k.pair v a-is t.0 in
      (by s v.side v.call v.said x.hidden k a-is t.0 t.1 x.pair, tt)
    where
      by : (s r : Side) (c : Call) (a : Answer) (hidden : Hidden) (k : Kept s ends plains)
          → let v : Event = record { side = r; call = c; said = a } in
          a ≡ answer (pick r ends).group c → Met OwnOpen names ends v → NotFreed s names ends v
          → PairAt names ds (after names ends v) (plain_after names ends plains v) (both r hidden (pick (other_side r) k.hs)) near
          → Kept s (after names ends v) (plain_after names ends plains v)
      by near near c a hidden k a-is met unfreed w =
          let r =
          event_seals k.pair c a a-is met.is_open met.performed_before met.heard_in_order (λ o z. unfreed o refl z) w
          in
          record { hs = both near r.hidden k.hs.at_far; pair = r.pair; over = r.over }
      by far far c a hidden k a-is met unfreed w =
          let r =
          event_seals (swap k.pair) c a a-is met.is_open met.performed_before met.heard_in_order (λ o z. unfreed o refl z)
          (swap w)
          in
          record { hs = both far r.hidden k.hs.at_near; pair = swap r.pair; over = r.over }
      by near far c a hidden k a-is met unfreed w =
          let same = theirs_same names.at_near names.at_far ends.at_far ends.at_near c a in
          record { hs = _; pair = w; over = λ z y. k.over (sym same.0 ∙ z) (sym same.1 ∙ y) }
      by far near c a hidden k a-is met unfreed w =
          let same = theirs_same names.at_far names.at_near ends.at_near ends.at_far c a in
          record { hs = _; pair = w; over = λ z y. k.over (sym same.0 ∙ z) (sym same.1 ∙ y) }

pub nothing_under_way : NothingUnderWay
nothing_under_way names g h es w s unfreed opened shut =
    let l = w.as_left in
    let ds = datas names g h l in
    let full = full_of names g h l in
    let none : (pick s (both_begun g h)).opened ≡ false = not_yet s in
    let k =
    (over_all names (λ names ends v. Met OwnOpen names ends v × NotFreed s names ends v) (λ names ends v. Unit {0}) (Kept names ds full s)
    (one names ds full s) es
    (both_begun g h) both_plain
    (record { hs = both_hidden; pair = begun_pair names g h l; over = λ z y. absurd (false≢true (sym none ∙ z)) }) (begun_mades names g h l)
    (throughout_both (Met OwnOpen) (NotFreed s) names es (both_begun g h) w.throughout unfreed)).0
    in
    none_to_come (from_near s k.pair) (k.over opened shut)
  where
    not_yet : (s : Side) → (pick s (both_begun g h)).opened ≡ false
    not_yet near = refl
    not_yet far = refl
