-- How what is said of a slot grows: each position is handed out by one read, in order, and stays number y of the stream. Assumes nothing.
use mathlib.Core.Path.{◌≡◌, refl, sym, ap, ◌∙◌, subst}
use mathlib.Core.Logic.{◌⊎◌, inl, inr}
use mathlib.Core.Bool.{Bool, true, false, false≢true, ◌&&◌, cond}
use mathlib.Core.List.{List, [], ◌++◌, append-nil, ◌∷◌}
use Prim.Native.Nat.{ℕ, ◌+◌, ◌≤◌, zero, suc, ◌-◌, ◌<◌}
use native.Mathlib.Omega.{arith}
use lib.ListN.{length, take, get_or, get_or-append, length-append, length-take}
use Rattle.group_rules.specs.Rules.{Group, Request, read, on, Done, answer, refuses, put_turn, record_of_all, element_in, link_of, Says, Call, Turn, does, open_slot, free_slot, link_change, link_message, link_send, sample, hear, manage, was_read_of, next}
use Rattle.thm_safety.proofs.Invariant.{Sound}
use Rattle.thm_safety.proofs.Effects.{opens, Acts, asks, hears, frees, Effect, refuses_it, links_it, samples_it, puts_turn, effect}
use Rattle.thm_refusals.proofs.Answers.{clash}
use Rattle.group_rules.proofs.Says.{says_accepted}
use Rattle.thm_positions.specs.Positions.{read_in, Placed, Journal, noted, after_call, opened, nothing, placed, names_b, journal_from}
use Rattle.thm_safety.proofs.Calls.{Opening}
use Rattle.thm_positions.proofs.Inbound.{request_reader, hear_reads_none}
use lib.Dec.{eqb}
use borrow.Author.Tests.{eqb-true, eqb-false, eq-eqb}
use Rattle.thm_safety.specs.Statement.{accepted_b, Opens}
use Rattle.cdc.specs.Cdc.{decode_of}
use Rattle.thm_safety.proofs.Reader.{read_fits}
use native.Mathlib.Decide.{dec_lt}
use Rattle.thm_order.specs.Statement.{leaves, answers, At}
use Rattle.thm_safety.proofs.Sound.{sound_next}
use mathlib.Core.Option.{some}
use Rattle.thm_safety.proofs.Bytes.{opens_later, opens_sooner, opens_first, first_opens}
use Rattle.thm_safety.proofs.Lists.{taken_at}

-- ONE CALL ON: the slot is opened, and nothing was handed out; or a read hands out n bytes; or as much as before
pub data Grows (g : Group) (c : Call) (k : ℕ) (j l : Journal) : Type 0 where
  anew : Opening g c k (does g c) → l.handed ≡ 0 → l.stream ≡ [] → Grows g c k j l
  more : (Opening g c k (does g c) → ⊥) → (out : List ℕ) (n : ℕ) → c ≡ on k (read out) → (answer g c).says ≡ was_read_of n
      → l.handed ≡ j.handed + n → l.stream ≡ j.stream ++ take n (answer g c).out → n ≤ length (answer g c).out
      → Grows g c k j l
  same : (Opening g c k (does g c) → ⊥) → l.handed ≡ j.handed → l.stream ≡ j.stream → Grows g c k j l

-- a message heard reads nothing
unread_by_hear : (g : Group) (b : List ℕ) → read_in (answer g (hear b)).says ≡ 0
unfolding refuses put_turn
unread_by_hear g b = go (does g (hear b)) refl (effect g (hear b))
  where
    by : (l : ℕ) (t : Turn) → Acts g (hear b) l t → read_in t.answer.says ≡ 0
    by l t (asks q p o r) = clash (cc)
    by l t (hears b' m p d h o w r) =
        ap (λ (t : Turn). read_in t.answer.says) r ∙ hear_reads_none g.N (link_of g l) (record_of_all g l) (element_in g l) m
    by l t (opens given p n r) = clash (cc)
    by l t (frees p n r) = clash (cc)

    go : (x : Done) → does g (hear b) ≡ x → Effect g (hear b) x → read_in x.answer.says ≡ 0
    go x q (refuses_it n h e) = ap (λ (d : Done). read_in d.answer.says) e
    go x q (links_it i b p w e) = clash (cc)
    go x q (samples_it l ms p z e) = clash (cc)
    go x q (puts_turn l t ok a e) = ap (λ (d : Done). read_in d.answer.says) e ∙ by l t a

-- a request that reads some bytes is a read
reads_by_read : (g : Group) (k : ℕ) (q : Request)
    → (read_in (answer g (on k q)).says ≡ 0) ⊎ ((out : List ℕ) × (q ≡ read out) × ((answer g (on k q)).says ≡ was_read_of (read_in (answer g (on k q)).says)))
unfolding refuses put_turn
reads_by_read g k q = go (does g (on k q)) (effect g (on k q))
  where
    Reads : Says → Type 0
    Reads says = (read_in says ≡ 0) ⊎ ((out : List ℕ) × (q ≡ read out) × (says ≡ was_read_of (read_in says)))

    by : (l : ℕ) (t : Turn) → Acts g (on k q) l t → Reads t.answer.says
    by l t (asks q' p o r) =
        let e : q' ≡ q = cc in
        rw (r, e) (request_reader g.N (link_of g l) (record_of_all g l) (element_in g l) q)
    by l t (hears b m p d h o w r) = clash (cc)
    by l t (opens given p n r) = clash (cc)
    by l t (frees p n r) = clash (cc)

    go : (x : Done) → Effect g (on k q) x → Reads x.answer.says
    go x (refuses_it n h e) = inl (ap (λ (d : Done). read_in d.answer.says) e)
    go x (links_it i b p w e) = clash (cc)
    go x (samples_it l ms p z e) = clash (cc)
    go x (puts_turn l t ok a e) = rw e (by l t a)

-- the first of nothing
none_taken : (l out : List ℕ) (n : ℕ) → n ≡ 0 → l ++ take n out ≡ l
none_taken l out n z = ap (λ (m : ℕ). l ++ take m out) z ∙ append-nil l

module _ (g : Group) (s : Sound g) (k : ℕ) (d : ℕ) (j : Journal) where
  -- a call that was noted
  noted_grows : (c : Call) (p : Placed) → (Opening g c k (does g c) → ⊥)
      → (read_in (answer g c).says ≡ 0)
      ⊎ ((out : List ℕ) × (c ≡ on k (read out)) × ((answer g c).says ≡ was_read_of (read_in (answer g c).says)))
      → Grows g c k j (noted d j p (answer g c))
  noted_grows c p w (inl z) = same w (omega (arith, z)) (none_taken j.stream (answer g c).out (read_in (answer g c).says) z)
  noted_grows c p w (inr r) =
      let n = read_in (answer g c).says in
      let says = ap (λ c. (answer g c).says) (sym r.1) ∙ r.2 in
      more w r.0 n r.1 r.2 refl refl (subst (λ c. n ≤ length (answer g c).out) (sym r.1) (read_fits g s k n r.0 says))

  -- no other call is an open
  not_open : (l : ℕ) (q : Request) → Opening g (on l q) k (does g (on l q)) → ⊥
  not_open l q o = let e = o.is in clash (cc)

  pub grows : (c : Call) → Grows g c k j (after_call d k j c (answer g c))
  unfolding after_call
  grows (on l q) = go (eqb l k) refl
    where
      reads : eqb l k ≡ true
          → (read_in (answer g (on l q)).says ≡ 0)
          ⊎ ((out : List ℕ) × (q ≡ read out) × ((answer g (on l q)).says ≡ was_read_of (read_in (answer g (on l q)).says)))
          → (read_in (answer g (on l q)).says ≡ 0)
          ⊎ ((out : List ℕ) × (on l q ≡ on k (read out)) × ((answer g (on l q)).says ≡ was_read_of (read_in (answer g (on l q)).says)))
      reads h (inl z) = inl z
      reads h (inr w) = inr (w.0, λ i. on (eqb-true l k h i) (w.1 i), w.2)

      go : (t : Bool) → eqb l k ≡ t → Grows g (on l q) k j (cond t (noted d j (placed q) (answer g (on l q))) j)
      go true h = noted_grows (on l q) (placed q) (not_open l q) (reads h (reads_by_read g l q))
      go false h = same (not_open l q) refl refl
  grows (hear b) = go (names_b j.own (decode_of b))
    where
      none_opened : Opening g (hear b) k (does g (hear b)) → ⊥
      none_opened o = let e = o.is in clash (cc)

      go : (t : Bool) → Grows g (hear b) k j (cond t (noted d j nothing (answer g (hear b))) j)
      go true = noted_grows (hear b) nothing none_opened (inl (unread_by_hear g b))
      go false = same none_opened refl refl
  grows (manage (open_slot l given)) = go (eqb l k) (accepted_b (answer g c).says) refl refl
    where
      c : Call
      c = manage (open_slot l given)

      go : (t u : Bool) → eqb l k ≡ t → accepted_b (answer g c).says ≡ u → Grows g c k j (cond (t && u) (opened given.own) j)
      go true true h a =
          anew
          (record {
            given = given;
            is = ap (λ i. manage (open_slot i given)) (eqb-true l k h);
            took = says_accepted (answer g c).says a;
          })
          refl refl
      go true false h a = same (λ o. false≢true (sym a ∙ ap accepted_b o.took)) refl refl
      go false u h a = same (λ o. let e = o.is in eqb-false l k h (cc)) refl refl
  grows (manage (free_slot l)) = same (λ o. let e = o.is in clash (cc)) refl refl
  grows (manage (link_change l up b)) = same (λ o. let e = o.is in clash (cc)) refl refl
  grows (manage (link_message l bytes b)) = same (λ o. let e = o.is in clash (cc)) refl refl
  grows (manage (link_send l i vs b)) = same (λ o. let e = o.is in clash (cc)) refl refl
  grows (manage (sample l ms)) = same (λ o. let e = o.is in clash (cc)) refl refl

-- ALL CALLS. What is said after the calls cs, from j on
abbrev pub said_by : ℕ → ℕ → Journal → Group → List Call → Journal
said_by d k j g cs = journal_from d k j cs (answers g cs)

abbrev pub Unopened : Group → List Call → ℕ → Type 0
Unopened g cs k = (m : ℕ) → Opens g cs m k → ⊥

module _ (d k : ℕ) where
  -- the first of them is no open of the slot, and neither are the others
  not_first : (g : Group) (c : Call) (cs : List Call) → Unopened g (c ∷ cs) k → Opening g c k (does g c) → ⊥
  not_first g c cs u o = u 0 (opens_first g c cs k o)

  not_later : (g : Group) (c : Call) (cs : List Call) → Unopened g (c ∷ cs) k → Unopened (next g c) cs k
  not_later g c cs u m o = u (suc m) (opens_later g c cs k m o)

  -- with no open, as much is handed out as before or more
  rises_by : (g : Group) (c : Call) (j l : Journal) → (Opening g c k (does g c) → ⊥) → Grows g c k j l → j.handed ≤ l.handed
  rises_by g c j l u (anew o z e) = absurd (u o)
  rises_by g c j l u (more w out n p a h t r) = omega (arith, h)
  rises_by g c j l u (same w h t) = omega (arith, h)

  rises : (i : ℕ) (cs : List Call) (g : Group) → Sound g → (j : Journal) → Unopened g cs k
      → j.handed ≤ (said_by d k j g (take i cs)).handed
  unfolding journal_from answers
  rises zero cs g s j u = omega arith
  rises (suc i) [] g s j u = omega arith
  rises (suc i) (c ∷ cs) g s j u =
      let l = after_call d k j c (answer g c) in
      omega (
        arith,
        rises_by g c j l (not_first g c cs u) (grows g s k d j c),
        rises i cs (next g c) (sound_next g s c) l (not_later g c cs u),
      )

  -- and what was handed out stays
  pub stays_by : (g : Group) (c : Call) (j l : Journal) → (Opening g c k (does g c) → ⊥) → Grows g c k j l → (y : ℕ) → y < length j.stream
      → (y < length l.stream) × (get_or l.stream y 0 ≡ get_or j.stream y 0)
  stays_by g c j l u (anew o z e) y h = absurd (u o)
  stays_by g c j l u (more w out n p a m t r) y h = (
    omega (arith, ap length t, length-append j.stream (take n (answer g c).out)),
    ap (λ x. get_or x y 0) t ∙ get_or-append j.stream (take n (answer g c).out) 0 y h,
  )
  stays_by g c j l u (same w m t) y h = (omega (arith, ap length t), ap (λ x. get_or x y 0) t)

  pub stream_stays : (cs : List Call) (g : Group) → Sound g → (j : Journal) → Unopened g cs k → (y : ℕ) → y < length j.stream
      → get_or (said_by d k j g cs).stream y 0 ≡ get_or j.stream y 0
  unfolding journal_from answers
  stream_stays [] g s j u y h = refl
  stream_stays (c ∷ cs) g s j u y h =
      let l = after_call d k j c (answer g c) in
      let w = stays_by g c j l (not_first g c cs u) (grows g s k d j c) y h in
      stream_stays cs (next g c) (sound_next g s c) l (not_later g c cs u) y w.0 ∙ w.1

  -- the stream is as long as what was handed out
  long_by : (g : Group) (c : Call) (j l : Journal) → Grows g c k j l → length j.stream ≡ j.handed → length l.stream ≡ l.handed
  long_by g c j l (anew o z e) h = ap length e ∙ sym z
  long_by g c j l (more w out n p a m t r) h =
      omega (arith, ap length t, length-append j.stream (take n (answer g c).out), length-take n (answer g c).out, h, m)
  long_by g c j l (same w m t) h = omega (arith, ap length t, h, m)

-- CALL NUMBER i HANDS OUT POSITION y, of what is said from j on
pub record HandsFrom (d : ℕ) (j : Journal) (g : Group) (cs : List Call) (k i y : ℕ) : Type 0 where
  pub out : List ℕ
  pub n : ℕ
  pub is : At cs i (on k (read out))
  pub says : (answer (leaves g (take i cs)) (on k (read out))).says ≡ was_read_of n
  pub since : (m : ℕ) → i ≤ m → Opens g cs m k → ⊥
  pub low : (said_by d k j g (take i cs)).handed ≤ y
  pub high : y < (said_by d k j g (take i cs)).handed + n

module _ (d k : ℕ) (j : Journal) (g : Group) (s : Sound g) (c : Call) (cs : List Call) where
  abbrev l : Journal
  l = after_call d k j c (answer g c)

  -- one call later, numbers are one more
  later : (i y : ℕ) → HandsFrom d l (next g c) cs k i y → HandsFrom d j g (c ∷ cs) k (suc i) y
  unfolding leaves journal_from answers
  later i y h =
      record {
        out = h.out;
        n = h.n;
        is = h.is;
        says = h.says;
        since = λ m. none_after m;
        low = h.low;
        high = h.high;
      }
    where
      none_after : (m : ℕ) → suc i ≤ m → Opens g (c ∷ cs) m k → ⊥
      none_after zero l o = omega arith
      none_after (suc m) l o = h.since m (omega arith) (opens_sooner g c cs k m o)

  sooner : (i y : ℕ) → HandsFrom d j g (c ∷ cs) k (suc i) y → HandsFrom d l (next g c) cs k i y
  unfolding leaves journal_from answers
  sooner i y h =
      record {
        out = h.out;
        n = h.n;
        is = h.is;
        says = h.says;
        since = λ m l o. h.since (suc m) (omega arith) (opens_later g c cs k m o);
        low = h.low;
        high = h.high;
      }

  -- the first call
  first-is : (y : ℕ) (h : HandsFrom d j g (c ∷ cs) k 0 y) → c ≡ on k (read h.out)
  first-is y h = let e = h.is in cc

  first_says : (y : ℕ) (h : HandsFrom d j g (c ∷ cs) k 0 y) → (answer g c).says ≡ was_read_of h.n
  unfolding leaves
  first_says y h = ap (λ c. (answer g c).says) (first-is y h) ∙ h.says

  first_noted : (out : List ℕ) (n : ℕ) → c ≡ on k (read out) → (answer g c).says ≡ was_read_of n
      → (l.handed ≡ j.handed + n) × (l.stream ≡ j.stream ++ take n (answer g c).out)
  unfolding after_call
  first_noted out n e a =
      let x =
      ap (λ z. after_call d k j z (answer g c)) e
      ∙ ap (λ z. cond z (noted d j nothing (answer g c)) j) (eq-eqb k k refl)
      in (
        ap (λ (x : Journal). x.handed) x ∙ ap (λ z. j.handed + read_in z) a,
        ap (λ (x : Journal). x.stream) x ∙ ap (λ z. j.stream ++ take (read_in z) (answer g c).out) a,
      )

  first_fits : (y : ℕ) (h : HandsFrom d j g (c ∷ cs) k 0 y) → h.n ≤ length (answer g c).out
  unfolding leaves
  first_fits y h = subst (λ c. h.n ≤ length (answer g c).out) (sym (first-is y h)) (read_fits g s k h.n h.out h.says)

  first_byte : length j.stream ≡ j.handed → (y : ℕ) → HandsFrom d j g (c ∷ cs) k 0 y
      → get_or (answer g c).out (y - j.handed) 0 ≡ get_or (said_by d k l (next g c) cs).stream y 0
  unfolding journal_from answers
  first_byte e y h =
      sym (taken_at j.stream (answer g c).out j.handed h.n y e h.low h.high)
      ∙ sym (ap (λ x. get_or x y 0) here)
      ∙ sym (stream_stays d k cs (next g c) (sound_next g s c) l (λ x q. h.since (suc x) (omega arith) (opens_later g c cs k x q)) y less)
    where
      here : l.stream ≡ j.stream ++ take h.n (answer g c).out
      here = (first_noted h.out h.n (first-is y h) (first_says y h)).1

      less : y < length l.stream
      less =
          omega (
            arith,
            ap length here,
            length-append j.stream (take h.n (answer g c).out),
            length-take h.n (answer g c).out,
            first_fits y h,
            e,
            h.high,
          )

  -- what it hands out, and what was handed out before
  first_or : (y : ℕ) → y < l.handed → Unopened (next g c) cs k → Grows g c k j l
      → ((y < j.handed) × Unopened g (c ∷ cs) k) ⊎ HandsFrom d j g (c ∷ cs) k 0 y
  unfolding leaves journal_from answers
  first_or y h u (anew o z e) = absurd (omega (arith, z, h))
  first_or y h u (same w z t) = inl (omega (arith, z), λ m. unopened_at m)
    where
      unopened_at : (m : ℕ) → Opens g (c ∷ cs) m k → ⊥
      unopened_at zero o = w (first_opens g c cs k o)
      unopened_at (suc m) o = u m (opens_sooner g c cs k m o)
  first_or y h u (more w out n p a z t r) =
      elim (dec_lt y j.handed) [
        | yes b ↦ inl (b, unopened_at)
        | no b ↦
            inr
            (record {
              out = out;
              n = n;
              is = ap some p;
              says = ap (λ c. (answer g c).says) (sym p) ∙ a;
              since = λ m i. unopened_at m;
              low = omega arith;
              high = omega (arith, z);
            })
      ]
    where
      unopened_at : (m : ℕ) → Opens g (c ∷ cs) m k → ⊥
      unopened_at zero o = w (first_opens g c cs k o)
      unopened_at (suc m) o = u m (opens_sooner g c cs k m o)

-- EACH POSITION by some read
pub some_from : (d k : ℕ) (cs : List Call) (g : Group) → Sound g → (j : Journal) (y : ℕ) → y < (said_by d k j g cs).handed
    → ((y < j.handed) × Unopened g cs k) ⊎ ((i : ℕ) × HandsFrom d j g cs k i y)
unfolding journal_from answers
some_from d k [] g s j y h = inl (h, λ m o. let e = o.took.0 in clash (cc))
some_from d k (c ∷ cs) g s j y h = go (some_from d k cs (next g c) (sound_next g s c) (after_call d k j c (answer g c)) y h)
  where
    first : ((y < j.handed) × Unopened g (c ∷ cs) k) ⊎ HandsFrom d j g (c ∷ cs) k 0 y
        → ((y < j.handed) × Unopened g (c ∷ cs) k) ⊎ ((i : ℕ) × HandsFrom d j g (c ∷ cs) k i y)
    first (inl w) = inl w
    first (inr w) = inr (0, w)

    go : ((y < (after_call d k j c (answer g c)).handed) × Unopened (next g c) cs k)
        ⊎ ((i : ℕ) × HandsFrom d (after_call d k j c (answer g c)) (next g c) cs k i y)
        → ((y < j.handed) × Unopened g (c ∷ cs) k) ⊎ ((i : ℕ) × HandsFrom d j g (c ∷ cs) k i y)
    go (inl w) = first (first_or d k j g s c cs y w.0 w.1 (grows g s k d j c))
    go (inr w) = inr (suc w.0, later d k j g s c cs w.0 y w.1)

-- a later read hands out later positions
pub order_from : (d k : ℕ) (cs : List Call) (g : Group) → Sound g → (j : Journal) (i m y z : ℕ)
    → HandsFrom d j g cs k i y → HandsFrom d j g cs k m z → i < m → y < z
unfolding journal_from answers
order_from d k [] g s j i m y z h q l = let e = h.is in clash (cc)
order_from d k (c ∷ cs) g s j i zero y z h q l = absurd (omega arith)
order_from d k (c ∷ cs) g s j zero (suc m) y z h q l =
    let w = first_noted d k j g s c cs h.out h.n (first-is d k j g s c cs y h) (first_says d k j g s c cs y h) in
    let up =
    rises d k m cs (next g c) (sound_next g s c) (after_call d k j c (answer g c)) (λ x o. h.since (suc x) (omega arith) (opens_later g c cs k x o))
    in
    omega (arith, h.high, w.0, up, q.low)
order_from d k (c ∷ cs) g s j (suc i) (suc m) y z h q l =
    order_from d k cs (next g c) (sound_next g s c) (after_call d k j c (answer g c)) i m y z (sooner d k j g s c cs i y h)
    (sooner d k j g s c cs m z q) (omega arith)

-- and its byte is number y of the stream
pub byte_from : (d k : ℕ) (cs : List Call) (g : Group) → Sound g → (j : Journal) → length j.stream ≡ j.handed
    → (i y : ℕ) (h : HandsFrom d j g cs k i y)
    → get_or (answer (leaves g (take i cs)) (on k (read h.out))).out (y - (said_by d k j g (take i cs)).handed) 0
    ≡ get_or (said_by d k j g cs).stream y 0
unfolding journal_from answers leaves sooner
byte_from d k [] g s j e i y h = let e = h.is in clash (cc)
byte_from d k (c ∷ cs) g s j e zero y h =
    ap (λ c. get_or (answer g c).out (y - j.handed) 0) (sym (first-is d k j g s c cs y h)) ∙ first_byte d k j g s c cs e y h
byte_from d k (c ∷ cs) g s j e (suc i) y h =
    byte_from d k cs (next g c) (sound_next g s c) (after_call d k j c (answer g c)) (long_by d k g c j _ (grows g s k d j c) e) i y
    (sooner d k j g s c cs i y h)
