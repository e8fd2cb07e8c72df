-- What an answer names, for all that is asked of one. Assumes nothing.
use Rattle.std.specs.Prelude.{ℕ, Bool, true, false, List, []}
use Rattle.closing.specs.Closing.{number_of}
use Rattle.conn_answer.specs.declared.Placing.{Placing}
use Rattle.group_rules.specs.Rules.{Says, refusal, accepted, sent, gathered, was_read_of, torn, heard, reset, sampled, link_changed, link_heard, link_sent}

-- what it does not name is false, 0 or none
pub record Said : Type 0 where
  -- whether it refuses, and the refusal's number; whether it accepts and no more, a close reset, a read was torn
  pub refuses : Bool
  pub refused : ℕ
  pub accepts : Bool
  pub resets : Bool
  pub tears : Bool
  -- the bytes taken or read, those read, and where those taken go
  pub count : ℕ
  pub handed : ℕ
  pub placings : List Placing
  -- how far P moved, and the state's number
  pub moved : ℕ
  pub state : ℕ
  -- the messages with F in the buffer that a link call is lent
  pub messages : ℕ

-- by refuses, refused, accepts, resets and tears
abbrev word : Bool → ℕ → Bool → Bool → Bool → Said
word refuses refused accepts resets tears =
    record {
      refuses = refuses;
      refused = refused;
      accepts = accepts;
      resets = resets;
      tears = tears;
      count = 0;
      handed = 0;
      placings = [];
      moved = 0;
      state = 0;
      messages = 0;
    }

-- by count, handed, placings, moved, state and messages
abbrev figures : ℕ → ℕ → List Placing → ℕ → ℕ → ℕ → Said
figures count handed placings moved state messages =
    record {
      refuses = false;
      refused = 0;
      accepts = false;
      resets = false;
      tears = false;
      count = count;
      handed = handed;
      placings = placings;
      moved = moved;
      state = state;
      messages = messages;
    }

abbrev pub said_in : Says → Said
said_in (refusal k) = word true k false false false
said_in accepted = word false 0 true false false
said_in (sent n ps) = figures n 0 ps 0 0 0
said_in (gathered n ps) = figures n 0 [] 0 0 0
said_in (was_read_of n) = figures n n [] 0 0 0
said_in torn = word false 0 false false true
said_in (heard moved state) = figures 0 0 [] moved (number_of state) 0
said_in reset = word false 0 false true false
said_in (sampled health) = figures 0 0 [] 0 0 0
said_in (link_changed n) = figures 0 0 [] 0 0 n
said_in (link_heard fields fate up n) = figures 0 0 [] 0 0 n
said_in (link_sent up n) = figures 0 0 [] 0 0 n
