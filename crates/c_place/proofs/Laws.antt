-- What the proof of `fordlinnet_make_place` cites. Assumes nothing.
use Prim.Native.Nat.{ℕ, ◌+◌, ◌<◌, ◌≤◌}
use mathlib.Core.Path.{◌≡◌, refl, sym, ap, ◌∙◌, subst}
use mathlib.Core.Bool.{Bool, true, false, not, cond}
use mathlib.Core.List.{List, []}
use lib.Dec.{ltb, eqb}
use borrow.Author.Tests.{eqb-true}
use lib.ListN.{length, get_or}
use Rattle.element.specs.Element.{base_of, stored_of}
use Rattle.conn_record.specs.declared.Record.{Record}
use Rattle.conn_answer.specs.declared.Reply.TheVariants.{Refused, Accepted}
use Rattle.conn_answer.specs.declared.Outcome.{Outcome}
use Rattle.conn_record.specs.Connection.{zero_record}
use Rattle.conn_receive.specs.Receive.{place_of}
use Rattle.group_table.specs.declared.Links.{Links}
use Rattle.group_table.specs.declared.Turned.{Turned}
use Rattle.group_table.specs.Table.{sizes_b, index_of, record_at, active_b, found_of_all, kept_by_of, settled_by}
use Rattle.group_table.proofs.Laws.{record_kept}
use Rattle.group_table.proofs.SlotsLaws.{record_at_returns, record_at_returns_2}
use Rattle.group_rules.specs.Rules.{says_of, on, place, Answer, answer, Did, links_of, group_of, answer_of}
use Rattle.group_rules.specs.Rules as Rules
use Rattle.group_rules.specs.Promises.{Promise}
use Rattle.group_calls.specs.Receiving.{stores_b}
use Rattle.group_calls.proofs.ReceivingLaws.{place_stored, place_kept}
use Rattle.plan.specs.declared.LinkStates.{LinkStates}
use Rattle.plan.specs.Direct.{held_of, refusal_at}
use Rattle.plan.specs.DirectMade.{named_in, InEveryGroup}
use Rattle.plan.proofs.DirectMadeLaws.{made_by}
use Rattle.c_place.specs.Placing.{placing_of, stored_by}
use Rattle.c_place.specs.DirectPlace.{place_answer_of, PlaceMade, says_in, NothingLost}
use Rattle.c_place.proofs.Agree.{reply_by, answered_by, agree}

-- WHAT THE NUMBER SAYS, and whether bytes are stored
number_is : (r : ℕ) (z : Bool) → eqb r 0 ≡ z → r ≡ (named_in (says_of (cond z Accepted (Refused r)))).refused
number_is r true e = eqb-true r 0 e
number_is r false e = refl

says_is : (z : Bool) (r : ℕ) → cond z Rules.accepted (Rules.refusal r) ≡ says_of (cond z Accepted (Refused r))
says_is true r = refl
says_is false r = refl

stores_is : (b : Bool) (r : ℕ) → stores_b (cond b Accepted (Refused r)) ≡ b
stores_is true r = refl
stores_is false r = refl

-- THE PLACE
module _
    (s n : ℕ) (m : List ℕ) (t : List Record) (states : LinkStates) (k at : ℕ) (b : List ℕ) (first : ℕ)
    (eno : first ≡ refusal_at s n (length m) t states.active k) (r : ℕ) (er : r ≡ placing_of n (record_at t k) first at (length b))
    (l : List ℕ) (el : l ≡ stored_by n m k r at b) (ls : Links) (ea : ls.active ≡ states.active)
  where
    abbrev held : ℕ
    held = cond (sizes_b s n (length m) (length t)) (held_of s n states.active k (record_at t k)) 1

    held_is : first ≡ held
    unfolding refusal_at
    held_is = eno

    abbrev active : Bool
    active = active_b states.active (record_at t k).id.link

    abbrev j : ℕ
    j = found_of_all s n (length m) (length t) k (record_at t k)

    abbrev o : Outcome
    o = place_of n active (record_at t k) at (length b)

    abbrev a : Turned
    a = settled_by j ls (record_at t k) o

    same : a ≡ kept_by_of (record_at t k) (answered_by r ls)
    same =
        agree s n (length m) (length t) k states.active (record_at t k) at (length b) ls
        ∙ ap (λ (x : ℕ). kept_by_of (record_at t k) (answered_by x ls))
        (sym (er ∙ ap (λ (x : ℕ). placing_of n (record_at t k) x at (length b)) held_is))

    stores_as : stores_b a.answer.reply ≡ eqb r 0
    unfolding kept_by_of reply_by
    stores_as = ap (λ (x : Turned). stores_b x.answer.reply) same ∙ stores_is (eqb r 0) r

    up : active ≡ active_b ls.active (record_at t k).id.link
    up = ap (λ (x : List Bool). active_b x (record_at t k).id.link) (sym ea)

    by_number : (q : Bool) → eqb r 0 ≡ q → Promise s n m l t ls (on k (place at b)) k a []
    unfolding stored_by
    by_number true e =
        place_stored s n t ls m k at b (record_at t k) refl j refl active up o refl a refl l (stores_as ∙ e)
        (el ∙ ap (λ (x : Bool). cond x (stored_of m (base_of n k + at) b) m) e)
    by_number false e =
        place_kept s n t ls m k at b (record_at t k) refl j refl active up o refl a refl l (stores_as ∙ e)
        (el ∙ ap (λ (x : Bool). cond x (stored_of m (base_of n k + at) b) m) e)

    settled_did : Promise s n m l t ls (on k (place at b)) k (kept_by_of (record_at t k) (answered_by r ls)) []
    settled_did =
        subst (λ (x : Turned). Promise s n m l t ls (on k (place at b)) k x []) same (by_number (eqb r 0) refl)

    abbrev said : Answer
    said = answer_of (answered_by r ls) []

    did : Did (group_of s n t ls m) (on k (place at b)) said (group_of s n t ls l)
    unfolding kept_by_of
    did =
        record {
          answered = settled_did.answered;
          left = (λ i. group_of s n (sym (record_kept t k) i) ls l) ∙ settled_did.left;
        }

    answers : r ≡ place_answer_of said
    unfolding reply_by
    answers = number_is r (eqb r 0) refl

    pub placed : PlaceMade (group_of s n t ls m) k at b r (group_of s n t ls l)
    placed = made_by place_answer_of [] did answers refl refl

    -- so nothing is lost in the number
    says_all : says_in r ≡ said.says
    unfolding says_in reply_by
    says_all = says_is (eqb r 0) r

    pub all_said : (let x = answer (group_of s n t ls m) (on k (place at b)) in says_in (place_answer_of x) ≡ x.says)
    all_said = subst (λ (x : Answer). says_in (place_answer_of x) ≡ x.says) did.answered (ap says_in (sym answers) ∙ says_all)

pub fordlinnet_make_place_returns : (s n : ℕ) (m : List ℕ) (t : List Record) (states : LinkStates) (k at : ℕ) (b : List ℕ)
    → (first : ℕ) → first ≡ refusal_at s n (length m) t states.active k
    → (r : ℕ) → r ≡ placing_of n (record_at t k) first at (length b)
    → (v : Unit {0}) (l : List ℕ) → l ≡ stored_by n m k r at b
    → InEveryGroup states.active (λ (ls : Links). PlaceMade (group_of s n t ls m) k at b r (group_of s n t ls l))
fordlinnet_make_place_returns s n m t states k at b first eno r er v l el = placed s n m t states k at b first eno r er l el

pub nothing_lost : NothingLost
nothing_lost g k at b =
    let first = refusal_at g.S g.N (length g.memory) g.table g.links k in
    let r = placing_of g.N (record_at g.table k) first at (length b) in
    all_said g.S g.N g.memory g.table (record { active = g.links }) k at b first refl r refl
    (stored_by g.N g.memory k r at b) refl (links_of g) refl
