-- Why the exported call's contract follows from those of the functions that it calls. Assumes nothing.
use Prim.Native.Nat.{ℕ, ◌≤◌}
use mathlib.Core.Path.{◌≡◌, sym, ap, ◌∙◌, subst}
use mathlib.Core.Bool.{true, false}
use mathlib.Core.List.{List}
use Rattle.conn_record.specs.declared.Record.{Record}
use Rattle.group_table.specs.declared.Links.{Links}
use Rattle.group_rules.specs.Rules.{Group, Says, Answer, Did, group_of, links_of}
use Rattle.c_call.specs.declared.FlatLinks.{FlatLinks}
use Rattle.c_call.specs.Flat.{links_in}
use Rattle.c_call.proofs.Theorem.{links_back, flat_back}
use Rattle.group_link.specs.declared.LinkCommand.{LinkCommand}
use Rattle.group_link.specs.declared.LinkCommand.TheVariants.{Change}
use Rattle.group_link.specs.declared.LinkDone.{LinkDone}
use Rattle.group_link.specs.declared.Values.{Values}
use Rattle.group_link.specs.LinkDesk.{answer_in}
use Rattle.group_link.specs.LinkDesk as LinkDesk
use Rattle.c_call_link.specs.declared.FlatLinkCommand.{FlatLinkCommand}
use Rattle.c_call_link.specs.declared.FlatLinkAnswer.{FlatLinkAnswer}
use Rattle.c_call_link.specs.FlatLink.{link_known_b, link_named_of, link_command_of, values_of, link_told, link_told_of}
use Rattle.c_call_link.specs.FlatLink.{link_of, link_unknown_by, LinkMade}
use Rattle.c_call_link.proofs.Laws.{counted, few, told_is, said_links, idle}

-- THE NUMBER. A known one names its call, an unknown one a call that changes nothing
known_link : (q : FlatLinkCommand) → link_known_b q ≡ true → link_command_of q ≡ link_named_of q
unfolding link_command_of
known_link q h = simp h

unknown_link_lem : (q : FlatLinkCommand) → link_known_b q ≡ false → link_command_of q ≡ Change 0 false
unfolding link_command_of
unknown_link_lem q h = simp h

known_link_told : (q : FlatLinkCommand) (links : FlatLinks) (d : LinkDone) → link_known_b q ≡ true
    → link_told_of q links d ≡ link_told (link_named_of q) d
unfolding link_told_of
known_link_told q links d h = simp h

unknown_link_told : (q : FlatLinkCommand) (links : FlatLinks) (d : LinkDone) → link_known_b q ≡ false
    → link_told_of q links d ≡ link_unknown_by links
unfolding link_told_of
unknown_link_told q links d h = simp h

-- ONE CALL
pub fordlinnet_make_link_returns : (s n : ℕ) (m : List ℕ) (t : List Record) (links : FlatLinks) (q : FlatLinkCommand) (b out : List ℕ)
    → (own : Links) → own ≡ links_in links
    → (c : LinkCommand) → c ≡ link_command_of q → (v : Values) → v ≡ values_of q → (d : LinkDone) (z : List Record) (left : List ℕ)
    → Did (group_of s n t own m) (LinkDesk.call_of c b v.values out) (answer_in c d left) (group_of s n z d.answer.links m)
    → (r : FlatLinkAnswer) → r ≡ link_told_of q links d
    → LinkMade (group_of s n t (links_in links) m) q b out r (group_of s n z (links_in r.links) m) left
fordlinnet_make_link_returns s n m t links q b out own ho c hc v hv d z left e r hr =
    record {
      answered = λ h. told h ∙ (λ i. link_of ((known h).answered i) (links_of ((known h).left i)));
      next_left =
          λ h. ap (λ (w : FlatLinkAnswer). group_of s n z (links_in w.links) m) (told h)
          ∙ ap (λ (w : FlatLinks). group_of s n z (links_in w) m) (said_links says _ _ _)
          ∙ ap (λ (w : Links). group_of s n z w m) (links_back d.answer.links) ∙ (known h).left;
      out_is_left = λ h. ap (λ (w : Answer). w.out) (known h).answered;
      unknown =
          λ h. let p = unknown' h in
          let x = idle group out in
          let same : group_of s n z d.answer.links m ≡ group = p.left ∙ x.kept in (
            hr ∙ unknown_link_told q links d h ∙ sym (ap link_unknown_by (flat_back links)),
            (λ i. group_of s n (same i).table (links_in (left_links h i)) m),
            ap (λ (w : Answer). w.out) p.answered ∙ x.out_kept,
          );
    }
  where
    group : Group
    group = group_of s n t (links_in links) m

    Answers : Links → LinkCommand → Values → Type 0
    Answers w x y = Did (group_of s n t w m) (LinkDesk.call_of x b y.values out) (answer_in x d left) (group_of s n z d.answer.links m)

    in_group : Answers (links_in links) c (values_of q)
    in_group = subst (Answers (links_in links) c) hv (subst (λ (w : Links). Answers w c v) ho e)

    known : link_known_b q ≡ true → Answers (links_in links) (link_named_of q) (values_of q)
    known h = subst (λ (x : LinkCommand). Answers (links_in links) x (values_of q)) (hc ∙ known_link q h) in_group

    unknown' : link_known_b q ≡ false → Answers (links_in links) (Change 0 false) (values_of q)
    unknown' h = subst (λ (x : LinkCommand). Answers (links_in links) x (values_of q)) (hc ∙ unknown_link_lem q h) in_group

    says : Says
    says = (answer_in (link_named_of q) d left).says

    told : link_known_b q ≡ true → r ≡ link_of (answer_in (link_named_of q) d left) d.answer.links
    told h =
        hr ∙ known_link_told q links d h
        ∙ told_is (link_named_of q) d left
        (subst (λ (a : Answer). counted a.says ≤ 255) (sym (known h).answered) (few group (link_named_of q) b q.fields.values out))

    left_links : link_known_b q ≡ false → r.links ≡ links
    left_links h = ap (λ (w : FlatLinkAnswer). w.links) (hr ∙ unknown_link_told q links d h)
