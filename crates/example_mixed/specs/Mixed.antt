-- Four calls in a row, each by another function of the core, and that each one's contract gives `Did`. Assumes nothing.
use Rattle.std.specs.Prelude.{ℕ, ◌≡◌, cond, List, [], ◌∷◌}
use Rattle.group_table.specs.declared.Answered.{Answered}
use Rattle.group_rules.specs.Rules.{Group, Call, on, send, gather, manage, link_message, Answer, answer, next, Did, answer_of}
use Rattle.plan.specs.DirectMade as Direct
use Rattle.plan_send.specs.declared.SendAnswer.{SendAnswer}
use Rattle.c_send.specs.DirectSend.{send_answer_of}
use Rattle.group_gather.specs.declared.Gathered.{Gathered}
use Rattle.group_gather.specs.Gathering.{gather_answer}
use Rattle.group_link.specs.declared.LinkCommand.TheVariants.{Message}
use Rattle.group_link.specs.declared.LinkDone.{LinkDone}
use Rattle.group_link.specs.LinkDesk.{answer_in}
use Rattle.group_make.specs.declared.Command.{Command}
use Rattle.group_make.specs.Group.{call_of, out_left, OutKept}
use Rattle.thm_order.specs.Statement.{Made}
use Rattle.example_mixed.specs.declared.Four.{Four}

-- FROM A CONTRACT TO `Did`. `group_make::make` and, of link changes, messages and sends, `group_link::make` promise it as it is; a gather's
-- promise has it as a field. Where a promise says that what the rules leave is left, it follows, with the rules' answer. The flat forms'
-- say so (`CallMade` and `LinkMade`, of a number that is known, and `GatherMade`)
abbrev pub LeftDid : Type 0
LeftDid = (g : Group) (q : Call) (h : Group) → h ≡ next g q → Did g q (answer g q) h

-- and a direct call's, whichever call it is and whichever struct its answer is: that struct is the image of this answer
abbrev pub DirectDid : Type 1
DirectDid =
    (R : Type 0) (of : Answer → R) (g : Group) (q : Call) (b : List ℕ) (r : R) (h : Group) (left c : List ℕ)
    → Direct.Made of g q b r h left c → Did g q (answer g q) h

abbrev pub four_of : SendAnswer → Gathered → LinkDone → Answered → Four
four_of sent gathered heard made = record { sent = sent; gathered = gathered; heard = heard; made = made }

-- a send of the bytes on slot k, a gather of head and body on slot j, a link message, lent the buffer b, and the call c
abbrev pub four_calls : ℕ → List ℕ → ℕ → List ℕ → List ℕ → ℕ → List ℕ → List ℕ → Call → List Call
four_calls k bytes j head body link told b c =
    on k (send bytes) ∷ on j (gather head body) ∷ manage (link_message link told b) ∷ c ∷ []

-- The list of the four was made from g, with these answers, and left h. `first` is the rules' answer to the direct send, whose struct is
-- its image. Of what is lent, x' is what x was left as
pub record MadeFour
    (g : Group) (k : ℕ) (bytes : List ℕ) (j : ℕ) (head body : List ℕ) (link : ℕ) (told : List ℕ) (c : Command) (lent : List ℕ)
    (message message' b b' out out' : List ℕ) (r : Four) (h : Group)
    : Type 0 where
  pub first : Answer
  pub made :
      Made g (four_calls k bytes j head body link told b (call_of c lent out))
      (first
      ∷ gather_answer r.gathered.found head body r.gathered.answer
      ∷ answer_in (Message link) r.heard b'
      ∷ answer_of r.made (out_left c out')
      ∷ [])
      h
  pub sent : r.sent ≡ send_answer_of first
  pub message_is_left : message' ≡ cond first.made first.message message
  pub out_kept : OutKept c out out'
