-- `c_call::answer_with` meets its contract: each arm is what the definition has for its case. Assumes nothing.
use Rattle.c_call.proofs.answer_with.Goals as goal

pub returns-in-Refused : goal.returns-in-Refused
returns-in-Refused c = simp (c.bare_answer.ensures, c.in-Refused.is)

pub returns-in-Accepted : goal.returns-in-Accepted
returns-in-Accepted c = simp (c.bare_answer-in-Accepted.ensures, c.in-Accepted.is)

pub returns-in-Sent : goal.returns-in-Sent
returns-in-Sent c = simp (c.with_placings.ensures, c.bare_answer-in-Sent.ensures, c.in-Sent.is)

pub returns-in-Read : goal.returns-in-Read
returns-in-Read c = simp (c.bare_answer-in-Read.ensures, c.in-Read.is)

pub returns-in-Torn : goal.returns-in-Torn
returns-in-Torn c = simp (c.bare_answer-in-Torn.ensures, c.in-Torn.is)

pub returns-in-Heard : goal.returns-in-Heard
returns-in-Heard c = simp (c.with_heard.ensures, c.bare_answer-in-Heard.ensures, c.in-Heard.is)

pub returns-in-Reset : goal.returns-in-Reset
returns-in-Reset c = simp (c.bare_answer-in-Reset.ensures, c.in-Reset.is)

pub returns-in-Sampled : goal.returns-in-Sampled
returns-in-Sampled c = simp (c.with_health.ensures, c.bare_answer-in-Sampled.ensures, c.in-Sampled.is)
