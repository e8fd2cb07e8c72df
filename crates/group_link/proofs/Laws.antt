-- What link change, link message and link send of the links give, the code's parts give. Assumes nothing.
use Prim.Native.Nat.{ℕ}
use mathlib.Core.Path.{◌≡◌, sym, ap, ◌∙◌}
use mathlib.Core.Bool.{Bool, cond}
use mathlib.Core.List.{List}
use lib.Dec.{eqb}
use Rattle.link_message.specs.declared.Kind.{Kind}
use Rattle.group_table.specs.declared.Links.{Links}
use Rattle.group_table.specs.Table.{link_in}
use Rattle.link_calls.specs.declared.Settled.{Settled}
use Rattle.link_calls.specs.declared.Heard.{Heard}
use Rattle.link_calls.specs.declared.Sent.{Sent}
use Rattle.link_calls.specs.Calls.{changed_of, heard_of, sent_of}
use Rattle.group_link.specs.declared.LinkCommand.{LinkCommand}
use Rattle.group_link.specs.declared.LinkCommand.TheVariants.{Change, Message, Send}
use Rattle.group_link.specs.declared.Work.{Work}
use Rattle.group_link.specs.LinkDesk.{bare_of, work_of}

abbrev heard_work : Heard → Work
heard_work h =
    record {
      refusal = h.refusal;
      made = h.replies;
      message = h.reply;
      links = h.settled.after;
      fields = h.fields;
      fate = h.fate;
      up = h.settled.up;
    }

-- what a send says, over what is bare
abbrev sent_work : Sent → Work → Work
sent_work h w =
    record {
      refusal = w.refusal;
      made = eqb h.refusal 0;
      message = h.message;
      links = w.links;
      fields = w.fields;
      fate = w.fate;
      up = h.settled.up;
    }

module _ (links : Links) (bytes vs : List ℕ) (c : LinkCommand) where
  pub change_work : {l : ℕ} {up : Bool} → c ≡ Change l up → (s : Settled) → s ≡ changed_of links l up → (r : ℕ) → r ≡ cond (link_in l) 0 13
      → (w : Work) → w ≡ bare_of r s.after → w ≡ work_of links c bytes vs
  unfolding work_of
  change_work e s se r re w we = we ∙ (λ i. bare_of (re i) (se i).after) ∙ ap (λ (x : LinkCommand). work_of links x bytes vs) (sym e)

  pub message_work_lem : {l : ℕ} → c ≡ Message l → (h : Heard) → h ≡ heard_of links l bytes → heard_work h ≡ work_of links c bytes vs
  unfolding work_of
  message_work_lem e h he = ap heard_work he ∙ ap (λ (x : LinkCommand). work_of links x bytes vs) (sym e)

  pub send_work : {l : ℕ} {k : Kind} → c ≡ Send l k → (h : Sent) → h ≡ sent_of links l k vs → (w : Work) → w ≡ bare_of h.refusal h.settled.after
      → sent_work h w ≡ work_of links c bytes vs
  unfolding work_of
  send_work e h he w we =
      ap (sent_work h) we ∙ ap (λ (x : Sent). sent_work x (bare_of x.refusal x.settled.after)) he
      ∙ ap (λ (x : LinkCommand). work_of links x bytes vs) (sym e)
