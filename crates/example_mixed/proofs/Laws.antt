-- What the four calls give together. Assumes nothing.
use Prim.Native.Nat.{ℕ}
use mathlib.Core.Path.{refl}
use mathlib.Core.List.{List, []}
use Rattle.conn_record.specs.declared.Record.{Record}
use Rattle.group_table.specs.declared.Links.{Links}
use Rattle.group_table.specs.declared.Answered.{Answered}
use Rattle.group_rules.specs.Rules.{on, send, manage, link_message, Did, group_of, answer_of, answer}
use Rattle.plan_send.specs.declared.SendAnswer.{SendAnswer}
use Rattle.plan.specs.DirectMade.{InEveryGroup}
use Rattle.c_send.specs.DirectSend.{SendMade}
use Rattle.group_gather.specs.declared.Gathered.{Gathered}
use Rattle.group_gather.specs.Gathering.{DidGather}
use Rattle.group_link.specs.declared.LinkCommand.TheVariants.{Message}
use Rattle.group_link.specs.declared.LinkDone.{LinkDone}
use Rattle.group_link.specs.LinkDesk.{answer_in}
use Rattle.group_make.specs.declared.Command.{Command}
use Rattle.group_make.specs.Group.{call_of, out_left, OutKept}
use Rattle.thm_order.specs.Statement.{none_made, one_made}
use Rattle.example_mixed.specs.Mixed.{LeftDid, DirectDid, four_of, MadeFour}

pub left_did : LeftDid
left_did g q h e = record { answered = refl; left = e }

pub direct_did : DirectDid
direct_did R of g q b r h left c m = left_did g q h m.next_left

pub make_four_returns : (s n : ℕ) (m : List ℕ) (t : List Record) (ls : Links) (k : ℕ) (bytes message : List ℕ) (j : ℕ)
    → (head body : List ℕ) (link : ℕ) (told b : List ℕ) (c : Command) (lent out : List ℕ)
    → (sent : SendAnswer) (t₁ : List Record) (message₁ : List ℕ)
    → InEveryGroup ls.active (λ (x : Links). SendMade (group_of s n t x m) k bytes message sent (group_of s n t₁ x m) message₁)
    → (gathered : Gathered) (t₂ : List Record)
    → DidGather (group_of s n t₁ ls m) j head body gathered (group_of s n t₂ gathered.answer.links m)
    → (heard : LinkDone) (t₃ : List Record) (b₁ : List ℕ)
    → Did (group_of s n t₂ gathered.answer.links m) (manage (link_message link told b)) (answer_in (Message link) heard b₁)
    (group_of s n t₃ heard.answer.links m)
    → (made : Answered) (m₁ : List ℕ) (t₄ : List Record) (out₁ : List ℕ)
    → Did (group_of s n t₃ heard.answer.links m) (call_of c lent out) (answer_of made (out_left c out₁)) (group_of s n t₄ made.links m₁)
    × OutKept c out out₁
    → MadeFour (group_of s n t ls m) k bytes j head body link told c lent message message₁ b b₁ out out₁ (four_of sent gathered heard made)
    (group_of s n t₄ made.links m₁)
make_four_returns s n m t ls k bytes message j head body link told b c lent out sent t₁ message₁ d₁ gathered t₂ d₂ heard t₃ b₁ third made m₁ t₄ out₁ d₄ =
    let g = group_of s n t ls m in
    let q = on k (send bytes) in
    let first = d₁ ls refl in
    record {
      first = answer g q;
      made = one_made (direct_did _ _ g q message sent _ [] message₁ first) (one_made d₂.did (one_made third (one_made d₄.0 none_made)));
      sent = first.answered;
      message_is_left = first.message_is_left;
      out_kept = d₄.1;
    }
