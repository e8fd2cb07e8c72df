-- Set-up's messages due by number, and its answer without enums. Assumes nothing.
use Rattle.std.specs.Prelude.{ℕ, true, false, cond, List, ltb, eqb, Option, Some, None, Ok, Err}
use Rattle.setup_read.specs.Places.{zeros}
use Rattle.setup.specs.declared.Settings.{Settings}
use Rattle.setup.specs.declared.Due.{Due}
use Rattle.setup.specs.declared.Due.TheVariants.{Proposal, Accept, Confirm}
use Rattle.setup.specs.declared.Arguments.{Arguments}
use Rattle.setup.specs.declared.Answer.{Answer}
use Rattle.setup.specs.Setup.{Outcome, refusal_number, setup_of}
use Rattle.c_setup.specs.declared.SetupAnswer.{SetupAnswer}

-- the message due: 1 Proposal, 2 Accept, 3 Confirm, else none (0; any other is unknown, below)
unfoldable pub due_of : ℕ → Option Due
due_of k = cond (eqb k 1) (Some Proposal) (cond (eqb k 2) (Some Accept) (cond (eqb k 3) (Some Confirm) None))

-- where no open is named
abbrev pub no_arguments : Arguments
no_arguments =
    record {
      slot = 0;
      own = 0;
      token = 0;
      link = 0;
      size = 0;
      index = 0;
      key1 = 0;
      base1 = 0;
      key2 = 0;
      base2 = 0;
      key3 = 0;
      base3 = 0;
      key4 = 0;
      base4 = 0;
    }

-- what is said, a refusal's number or 0, and the message
unfoldable pub bare_setup : ℕ → ℕ → ℕ → List ℕ → SetupAnswer
bare_setup said refusal count message =
    record {
      said = said;
      refusal = refusal;
      opens = false;
      declined = false;
      diagnosis = 0;
      count = count;
      arguments = no_arguments;
      message = message;
    }

-- columns "open" and "diagnosis"
abbrev pub with_opening : Option Arguments → SetupAnswer → SetupAnswer
with_opening None f = f
with_opening (Some given) f =
    record {
      said = f.said;
      refusal = f.refusal;
      opens = true;
      declined = f.declined;
      diagnosis = f.diagnosis;
      count = f.count;
      arguments = given;
      message = f.message;
    }

abbrev pub with_diagnosis : Option ℕ → SetupAnswer → SetupAnswer
with_diagnosis None f = f
with_diagnosis (Some d) f =
    record {
      said = f.said;
      refusal = f.refusal;
      opens = f.opens;
      declined = true;
      diagnosis = d;
      count = f.count;
      arguments = f.arguments;
      message = f.message;
    }

-- 1 refused, with the refusal's number; 12 answered
abbrev pub flat_outcome : Outcome → ℕ → List ℕ → SetupAnswer
flat_outcome (Err k) count message = bare_setup 1 (refusal_number k) count message
flat_outcome (Ok a) count message = with_diagnosis a.diagnosis (with_opening a.opening (bare_setup 12 0 count message))

abbrev pub flat_of : Answer → SetupAnswer
flat_of a = flat_outcome a.outcome a.count a.message

-- 0: the number is no message due
unfoldable pub flat_setup : Settings → ℕ → List ℕ → SetupAnswer
flat_setup s due b = cond (ltb 3 due) (bare_setup 0 0 0 (zeros 188)) (flat_of (setup_of s (due_of due) b))
