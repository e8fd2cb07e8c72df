-- The answer that refuses, and the one that accepts. Assumes nothing.
use mathlib.Core.Path.{◌≡◌, refl}
use mathlib.Core.Bool.{true, false≢true}
use Rattle.group_rules.specs.Rules.{Says, refusal, accepted, sent, gathered, was_read_of, torn, heard, reset, sampled, link_changed, link_heard, link_sent}
use Rattle.group_rules.specs.Says.{said_in}

pub says_refusal : (s : Says) → (said_in s).refuses ≡ true → s ≡ refusal (said_in s).refused
says_refusal (refusal k) e = refl
says_refusal accepted e = absurd (false≢true e)
says_refusal (sent n p) e = absurd (false≢true e)
says_refusal (gathered n p) e = absurd (false≢true e)
says_refusal (was_read_of n) e = absurd (false≢true e)
says_refusal torn e = absurd (false≢true e)
says_refusal (heard moved state) e = absurd (false≢true e)
says_refusal reset e = absurd (false≢true e)
says_refusal (sampled q) e = absurd (false≢true e)
says_refusal (link_changed n) e = absurd (false≢true e)
says_refusal (link_heard f t u n) e = absurd (false≢true e)
says_refusal (link_sent u n) e = absurd (false≢true e)

pub says_accepted : (s : Says) → (said_in s).accepts ≡ true → s ≡ accepted
says_accepted (refusal k) e = absurd (false≢true e)
says_accepted accepted e = refl
says_accepted (sent n p) e = absurd (false≢true e)
says_accepted (gathered n p) e = absurd (false≢true e)
says_accepted (was_read_of n) e = absurd (false≢true e)
says_accepted torn e = absurd (false≢true e)
says_accepted (heard moved state) e = absurd (false≢true e)
says_accepted reset e = absurd (false≢true e)
says_accepted (sampled q) e = absurd (false≢true e)
says_accepted (link_changed n) e = absurd (false≢true e)
says_accepted (link_heard f t u n) e = absurd (false≢true e)
says_accepted (link_sent u n) e = absurd (false≢true e)
