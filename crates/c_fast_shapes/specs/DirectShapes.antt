-- The structs of the direct calls filled, for a binding's test: field i is the number i, in the lowest and the highest byte, and a bool is
-- whether `one` is i. Assumes nothing.
use Rattle.std.specs.Prelude.{ℕ, [], ◌∷◌, eqb}
use Rattle.plan.specs.declared.LinkStates.{LinkStates}
use Rattle.plan_read.specs.declared.ReadAnswer.{ReadAnswer}
use Rattle.plan_send.specs.declared.SendAnswer.{SendAnswer}
use Rattle.plan_gather.specs.declared.GatherAnswer.{GatherAnswer}
use Rattle.plan_hear.specs.declared.HearAnswer.{HearAnswer}
use Rattle.plan_finish.specs.declared.FinishAnswer.{FinishAnswer}

abbrev pub shape_link_states : ℕ → LinkStates
shape_link_states one = record { active = eqb one 1 ∷ eqb one 2 ∷ eqb one 3 ∷ eqb one 4 ∷ [] }

abbrev pub shape_read_answer : ℕ → ReadAnswer
shape_read_answer one = record { refusal = 1; torn = eqb one 2; made = eqb one 3; count = 67108868 }

abbrev pub shape_send_answer : ℕ → SendAnswer
shape_send_answer one =
    record {
      refusal = 1;
      made = eqb one 2;
      placings = 3;
      taken = 67108868;
      first = record { key = 83886085; address = 432345564227567622; start = 117440519; len = 134217736 };
      second = record { key = 150994953; address = 720575940379279370; start = 184549387; len = 201326604 };
    }

abbrev pub shape_hear_answer : ℕ → HearAnswer
shape_hear_answer one = record { refusal = 1; made = eqb one 2; state = 3; moved = 288230376151711748 }

abbrev pub shape_finish_answer : ℕ → FinishAnswer
shape_finish_answer one = record { refusal = 1; made = eqb one 2; reset = eqb one 3 }

abbrev pub shape_gather_answer : ℕ → GatherAnswer
shape_gather_answer one =
    record {
      refusal = 1;
      made = eqb one 2;
      taken = 50331651;
      first = record { buffer = 67108868; start = 83886085; len = 100663302; key = 117440519; address = 576460752303423496 };
      second = record { buffer = 150994953; start = 167772170; len = 184549387; key = 201326604; address = 936748722493063181 };
      third = record { buffer = 234881038; start = 251658255; len = 268435472; key = 285212689; address = 1297036692682702866 };
      last = record { key = 318767123; address = 1441151880758558740; start = 352321557; len = 369098774 };
    }
