-- What the proof of `fordlinnet_make_hear` cites. Assumes nothing.
use Prim.Native.Nat.{ℕ, ◌<◌, ◌≤◌}
use mathlib.Core.Path.{◌≡◌, refl, sym, ap, ◌∙◌, subst}
use mathlib.Core.Bool.{Bool, true, false, cond}
use mathlib.Core.List.{List, []}
use native.Mathlib.Omega.{arith}
use lib.Dec.{eqb}
use lib.ListN.{length}
use borrow.Author.Tests.{eq-eqb, ne_eqb}
use Rattle.cdc.specs.declared.Message.{Message}
use Rattle.cdc.specs.declared.Decoded.{Decoded}
use Rattle.cdc.specs.declared.Decoded.TheVariants.{Good, Malformed}
use Rattle.cdc.specs.Cdc.{encode_of, decode_of}
use Rattle.conn_record.specs.declared.Record.{Record}
use Rattle.conn_record.specs.Connection.{zero_record, numbers_ok, coherent_b}
use Rattle.conn_record.proofs.Laws.{refusal_3}
use Rattle.conn_answer.specs.declared.Outcome.{Outcome}
use Rattle.conn_answer.specs.Outcome.{no_message, message_of, refused_of}
use Rattle.conn_hear.specs.Hear.{hear_of}
use Rattle.group_table.specs.declared.Links.{Links}
use Rattle.group_table.specs.Table.{sizes_b, index_of, record_at, with_record, active_b, holder_in, refused_by, kept_by_of, turned_by, settled_by}
use Rattle.group_table.proofs.Laws.{record_kept}
use Rattle.group_table.proofs.SlotsLaws.{record_at_returns_2}
use Rattle.group_rules.specs.Rules.{hear, Answer, answer, links_of, group_of}
use Rattle.group_rules.specs.Promises.{Promise}
use Rattle.group_calls.specs.Calls.{token_is, token_in, heard_by}
use Rattle.group_calls.proofs.Laws.{hear_unsized, hear_bad, hear_good}
use Rattle.plan.specs.declared.LinkStates.{LinkStates}
use Rattle.plan.specs.DirectMade.{InEveryGroup}
use Rattle.plan.proofs.DirectMadeLaws.{made_by, told_same}
use Rattle.plan_hear.specs.declared.HearAnswer.{HearAnswer}
use Rattle.plan_hear.specs.declared.Parsed.{Parsed}
use Rattle.plan_hear.specs.declared.Hearing.{Hearing}
use Rattle.plan_hear.specs.Hearing.{parsed_of, parsed_in, refused_before, refused_answer, refused_hearing, hearing_of, none_hearing}
use Rattle.plan_hear.specs.Hearing.{told_by, message_left}
use Rattle.c_hear.specs.TableLeft.{table_left, HeardBy}
use Rattle.c_hear.specs.DirectHear.{hear_answer_of, HearMade, says_in, NothingLost}
use Rattle.c_hear.proofs.Agree.{Agrees, refused_agrees, agree}

-- a message's token, and the slot that has it
token_same : (d : Decoded) → (parsed_of d).message.token ≡ token_is d
token_same (Good m) = refl
token_same Malformed = refl

refused_same : (j : ℕ) (ls : Links) (rec : Record) → turned_by ls (refused_of j rec) ≡ kept_by_of rec (refused_by j ls)
unfolding turned_by refused_of kept_by_of refused_by
refused_same j ls rec = refl

module _ (n : ℕ) (ls : Links) (k : ℕ) (rec : Record) (m : Message) where
  heard_none : eqb k 0 ≡ true → heard_by n ls k rec m ≡ kept_by_of rec (refused_by 5 ls)
  unfolding heard_by settled_by
  heard_none e = simp e

  heard_some : eqb k 0 ≡ false → heard_by n ls k rec m ≡ turned_by ls (hear_of n (active_b ls.active rec.id.link) rec m)
  unfolding heard_by settled_by
  heard_some e = simp e

-- THE HEAR
module _ (s n : ℕ) (mem : List ℕ) (t : List Record) (states : LinkStates) (bytes b : List ℕ) (k : ℕ)
    (ek : k ≡ holder_in t (parsed_in bytes).message.token)
  where
    abbrev rec : Record
    rec = record_at t k

    abbrev active : Bool
    active = active_b states.active rec.id.link

    holder_is : k ≡ holder_in t (token_in bytes)
    unfolding token_in parsed_in
    holder_is = ek ∙ ap (holder_in t) (token_same (decode_of bytes))

    module _ (ls : Links) (ea : ls.active ≡ states.active) where
      abbrev Lossless : Type 0
      Lossless = let x = answer (group_of s n t ls mem) (hear bytes) in says_in (hear_answer_of x) ≡ x.says

      abbrev Done : HearAnswer → List Record → List ℕ → Type 0
      Done y u c = HearMade (group_of s n t ls mem) bytes b y (group_of s n u ls mem) c × Lossless

      module _ (m : Message) (r : Hearing) (c : List ℕ) (ec : c ≡ message_left rec r b) (u : List Record) (eu : u ≡ table_left t k m r)
          (o : Outcome) (g : Agrees rec m r o)
        where
          message_is : c ≡ cond o.made o.message b
          unfolding message_left
          message_is =
              ec
              ∙ told_same r.said.made (encode_of (message_of (told_by rec r))) no_message b
              ∙ (λ i. cond (g.answers i).made (sym g.message i) b)

          table_is : u ≡ with_record t k o.after
          unfolding table_left
          table_is = eu ∙ ap (with_record t k) (sym g.after)

          settles : Promise s n mem mem t ls (hear bytes) k (turned_by ls o) [] → Done r.said u c
          unfolding turned_by
          settles d = (
            made_by hear_answer_of b (record { answered = d.answered; left = (λ i. group_of s n (table_is i) ls mem) ∙ d.left }) g.answers
                refl message_is,
            subst (λ (x : Answer). says_in (hear_answer_of x) ≡ x.says) d.answered (ap says_in (sym g.answers) ∙ g.says),
          )

      -- 1, 4 and 5: of a record that stays as it is, whatever the message
      refuses : (x : ℕ) → eqb x 0 ≡ false → Promise s n mem mem t ls (hear bytes) k (turned_by ls (refused_of x rec)) []
          → Done (refused_answer x) t b
      unfolding message_left table_left
      refuses x z =
          settles (message_of rec) (refused_hearing x) b refl t (sym (record_kept t k)) (refused_of x rec)
          (refused_agrees rec (message_of rec) x z)

      -- what is promised of a refusal, and of a message that is heard
      abbrev Told : Bool → ℕ → Message → Type 0
      Told false x m = Done (refused_answer x) t b
      Told true x m = (y : HearAnswer) (u : List Record) (c : List ℕ) → HeardBy n t states.active k m b y u c → Done y u c

      unsized : sizes_b s n (length mem) (length t) ≡ false → Done (refused_answer 1) t b
      unsized y =
          refuses 1 refl
          (hear_unsized s n t ls mem bytes k holder_is rec refl (turned_by ls (refused_of 1 rec)) y (refused_same 1 ls rec))

      module _ (y : sizes_b s n (length mem) (length t) ≡ true) where
        malformed : decode_of bytes ≡ Malformed → Done (refused_answer 4) t b
        malformed d =
            refuses 4 refl
            (hear_bad s n t ls mem bytes k holder_is rec refl (turned_by ls (refused_of 4 rec)) y d (refused_same 4 ls rec))

        by_holder : (m : Message) → decode_of bytes ≡ Good m → (z : Bool) → eqb k 0 ≡ z
            → (let x = cond {A = ℕ} z 5 0 in Told (eqb x 0) x m)
        by_holder m d true z =
            refuses 5 refl
            (hear_good s n t ls mem bytes k holder_is rec refl (turned_by ls (refused_of 5 rec)) y m d
            (refused_same 5 ls rec ∙ sym (heard_none n ls k rec m z)))
        by_holder m d false z =
            λ a u c h.
            let o = hear_of n active rec m in
            subst (λ (x : HearAnswer). Done x u c) (sym h.0)
            (settles m (hearing_of n active rec m 0) c h.2 u h.1 o (agree rec m n active)
            (hear_good s n t ls mem bytes k holder_is rec refl (turned_by ls o) y m d
            (sym
            (heard_some n ls k rec m z
            ∙ ap (λ (x : List Bool). turned_by ls (hear_of n (active_b x rec.id.link) rec m)) ea))))

        by_bytes : (d : Decoded) → decode_of bytes ≡ d
            → (let x = cond {A = ℕ} (parsed_of d).good (cond (eqb k 0) 5 0) 4 in Told (eqb x 0) x (parsed_of d).message)
        by_bytes (Good m) d = by_holder m d (eqb k 0) refl
        by_bytes Malformed d = malformed d

      by_sizes : (y : Bool) → sizes_b s n (length mem) (length t) ≡ y
          → (let w = parsed_of (decode_of bytes) in
          let x = cond {A = ℕ} y (cond w.good (cond (eqb k 0) 5 0) 4) 1 in
          Told (eqb x 0) x w.message)
      by_sizes true y = by_bytes y (decode_of bytes) refl
      by_sizes false y = unsized y

      pub hears : let x = refused_before s n (length mem) (length t) (parsed_in bytes).good k in Told (eqb x 0) x (parsed_in bytes).message
      unfolding refused_before parsed_in
      hears = by_sizes (sizes_b s n (length mem) (length t)) refl

      lossless : (z : Bool) (x : ℕ) (m : Message) → Told z x m → Lossless
      lossless false x m d = d.1
      lossless true x m d =
          let q = hearing_of n active rec m 0 in (d q.said (table_left t k m q) (message_left rec q b) (refl, refl, refl)).1

      pub all_said : Lossless
      all_said =
          let x = refused_before s n (length mem) (length t) (parsed_in bytes).good k in lossless (eqb x 0) x (parsed_in bytes).message hears

-- WHAT THE CODE FINDS FIRST
module _
    (s n : ℕ) (mem : List ℕ) (t : List Record) (states : LinkStates) (bytes b : List ℕ) (w : Parsed) (ew : w ≡ parsed_in bytes)
    (k : ℕ) (ek : k ≡ holder_in t w.message.token) (j : ℕ) (ej : j ≡ refused_before s n (length mem) (length t) w.good k)
  where
    abbrev Promised : HearAnswer → List Record → List ℕ → Type 0
    Promised y u c = InEveryGroup states.active (λ (ls : Links). HearMade (group_of s n t ls mem) bytes b y (group_of s n u ls mem) c)

    abbrev held : k ≡ holder_in t (parsed_in bytes).message.token
    held = ek ∙ ap (λ (x : Parsed). holder_in t x.message.token) ew

    module _ (ls : Links) (ea : ls.active ≡ states.active) where
      first_is : (z : Bool) → eqb j 0 ≡ z → Told s n mem t states bytes b k held ls ea z j w.message
      first_is z e =
          let Is : Bool → ℕ → Message → Type 0 = Told s n mem t states bytes b k held ls ea in
          subst (λ (y : Bool). Is y j w.message) e
          (subst (λ (x : ℕ). Is (eqb x 0) x w.message) (sym ej)
          (subst (λ (p : Parsed). let x = refused_before s n (length mem) (length t) p.good k in Is (eqb x 0) x p.message) (sym ew)
          (hears s n mem t states bytes b k held ls ea)))

    pub heard_err : 0 < j → (y : HearAnswer) → y ≡ refused_answer j → Promised y t b
    heard_err h y ey ls ea =
        subst (λ (z : HearAnswer). HearMade (group_of s n t ls mem) bytes b z (group_of s n t ls mem) b) (sym ey)
        (first_is ls ea false (ne_eqb j 0 (λ e. absurd (omega (arith, e, h))))).0

    pub heard_ok : j ≡ 0 → (y : HearAnswer) (u : List Record) (c : List ℕ) → HeardBy n t states.active k w.message b y u c → Promised y u c
    heard_ok z y u c h ls ea = (first_is ls ea true (eq-eqb j 0 z) y u c h).0

pub nothing_lost : NothingLost
nothing_lost g bytes =
    all_said g.S g.N g.memory g.table (record { active = g.links }) bytes [] (holder_in g.table (parsed_in bytes).message.token) refl
    (links_of g) refl

-- A SLOT OUTSIDE THE TABLE, whose record is all zeros
zero_incoherent : (n : ℕ) → coherent_b n zero_record ≡ false
unfolding coherent_b numbers_ok zero_record
zero_incoherent n = refl

none_is : (n : ℕ) (active : Bool) (m : Message) (j : ℕ) → none_hearing j ≡ hearing_of n active zero_record m j
unfolding none_hearing hearing_of
none_is n active m j = simp (refusal_3 n active zero_record false (zero_incoherent n))

none_three : none_hearing 0 ≡ refused_hearing 3
unfolding none_hearing
none_three = refl

left_kept : (t : List Record) (k : ℕ) (m : Message) → table_left t k m (refused_hearing 3) ≡ with_record t k (record_at t k)
unfolding table_left
left_kept t k m = refl

untold : (c : Record) (b : List ℕ) → message_left c (refused_hearing 3) b ≡ b
unfolding message_left
untold c b = refl

pub hear_outside : (n : ℕ) (t : List Record) (active : List Bool) (k : ℕ) (m : Message) (b : List ℕ)
    → (r : ℕ) → r ≡ index_of k (length t) → length t ≤ r → (q : Hearing) → q ≡ none_hearing 0 → HeardBy n t active k m b q.said t b
hear_outside n t active k m b r e h q eq =
    let rec = record_at t k in
    let a = active_b active rec.id.link in
    let is : hearing_of n a rec m 0 ≡ refused_hearing 3 =
    sym (ap (λ (c : Record). hearing_of n (active_b active c.id.link) c m 0) (record_at_returns_2 t k r e h zero_record refl))
    ∙ sym (none_is n (active_b active zero_record.id.link) m 0)
    ∙ none_three in (
      ap (λ (x : Hearing). x.said) (eq ∙ none_three ∙ sym is),
      sym (record_kept t k) ∙ sym (ap (table_left t k m) is ∙ left_kept t k m),
      sym (ap (λ (x : Hearing). message_left rec x b) is ∙ untold rec b),
    )
