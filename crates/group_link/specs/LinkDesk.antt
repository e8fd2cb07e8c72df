-- Requests 2026-01 and 2026-13: what the code does in a link change, a link message and a link send, and as a call of the rules.
-- Assumes nothing.
use Rattle.std.specs.Prelude.{ℕ, ◌*◌, ◌/◌, Bool, false, ◌&&◌, cond, List, eqb, leb}
use Rattle.link_exchange.specs.declared.Fate.TheVariants.{Dropped}
use Rattle.conn_answer.specs.declared.Reply.{Reply}
use Rattle.conn_answer.specs.declared.Reply.TheVariants.{Refused, Accepted, Sent, Read, Torn, Reset, Heard, Sampled}
use Rattle.conn_answer.specs.Outcome.{no_message}
use Rattle.group_table.specs.declared.Links.{Links}
use Rattle.group_table.specs.Table.{sizes_b, link_in}
use Rattle.link_calls.specs.Calls.{no_fields, none_up, changed_of, heard_of, sent_of}
use Rattle.group_rules.specs.Rules.{Call, manage, link_change, link_message, link_send, Says, link_changed, link_heard, link_sent, Answer, says_of}
use Rattle.group_link.specs.declared.LinkCommand.{LinkCommand}
use Rattle.group_link.specs.declared.LinkCommand.TheVariants.{Change, Message, Send}
use Rattle.group_link.specs.declared.Work.{Work}
use Rattle.group_link.specs.declared.LinkDone.{LinkDone}

-- a refusal's number, 0 for none
unfoldable pub reply_by : ℕ → Reply
reply_by k = cond (eqb k 0) Accepted (Refused k)

-- these links, and nothing made, heard or taken up
abbrev pub bare_of : ℕ → Links → Work
bare_of k links =
    record { refusal = k; made = false; message = no_message; links = links; fields = no_fields; fate = Dropped; up = none_up }

-- what each call does to the links
unfoldable pub work_of : Links → LinkCommand → List ℕ → List ℕ → Work
work_of links (Change l up) bytes vs =
    record {
      refusal = cond (link_in l) 0 13;
      made = false;
      message = no_message;
      links = (changed_of links l up).after;
      fields = no_fields;
      fate = Dropped;
      up = none_up;
    }
work_of links (Message l) bytes vs =
    let h = heard_of links l bytes in
    record {
      refusal = h.refusal;
      made = h.replies;
      message = h.reply;
      links = h.settled.after;
      fields = h.fields;
      fate = h.fate;
      up = h.settled.up;
    }
work_of links (Send l k) bytes vs =
    let h = sent_of links l k vs in
    record {
      refusal = h.refusal;
      made = eqb h.refusal 0;
      message = h.message;
      links = h.settled.after;
      fields = no_fields;
      fate = Dropped;
      up = h.settled.up;
    }

-- 1 first: a memory of `len` bytes, a table of `count` records, a buffer of `room` bytes
unfoldable pub lent_b : ℕ → ℕ → ℕ → ℕ → ℕ → Bool
lent_b s n len count room = sizes_b s n len count && leb (44 * s) room

unfoldable pub lent_of : Bool → Links → Work → Work
lent_of ok links w =
    cond ok w (record { refusal = 1; made = false; message = no_message; links = links; fields = no_fields; fate = Dropped; up = none_up })

-- what is handed out, where the messages have so many bytes
unfoldable pub done_by : Work → ℕ → LinkDone
done_by w written =
    record {
      answer = record { reply = reply_by w.refusal; made = w.made; message = w.message; links = w.links };
      fields = w.fields;
      fate = w.fate;
      up = w.up;
      count = written / 44;
    }

-- the rules' call, with the buffer out
abbrev pub call_of : LinkCommand → List ℕ → List ℕ → List ℕ → Call
call_of (Change l up) bytes vs out = manage (link_change l up out)
call_of (Message l) bytes vs out = manage (link_message l bytes out)
call_of (Send l k) bytes vs out = manage (link_send l k vs out)

-- what the call's line names, where it is not refused
abbrev pub names : LinkCommand → LinkDone → Says
names (Change l up) r = link_changed r.count
names (Message l) r = link_heard r.fields r.fate r.up r.count
names (Send l k) r = link_sent r.up r.count

-- Accepted, in the place of what the call's line names
abbrev pub naming : Says → Reply → Says
naming s (Refused k) = says_of (Refused k)
naming s Accepted = s
naming s (Sent n p) = says_of (Sent n p)
naming s (Read n) = says_of (Read n)
naming s Torn = says_of Torn
naming s Reset = says_of Reset
naming s (Heard moved state) = says_of (Heard moved state)
naming s (Sampled h) = says_of (Sampled h)

-- the answer, with the buffer as the call left it
abbrev pub answer_in : LinkCommand → LinkDone → List ℕ → Answer
answer_in c r left = record { says = naming (names c r) r.answer.reply; made = r.answer.made; message = r.answer.message; out = left }
