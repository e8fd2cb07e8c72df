-- `group_desk::sample_refusal` meets its contract. Assumes nothing.
use Rattle.group_rules.specs.Rules.{sample_refusal}
use Rattle.group_desk.proofs.sample_refusal.Goals as goal

pub returns-then-not-link_ok : goal.returns-then-not-link_ok
unfolding sample_refusal
returns-then-not-link_ok c = simp (← c.link_ok.ensures, c.if-not-link_ok.true)

pub returns-then-not-link_active : goal.returns-then-not-link_active
unfolding sample_refusal
returns-then-not-link_active c = simp (← c.link_ok.ensures, c.if-not-link_ok.false, ← c.link_active.ensures, c.if-not-link_active.true)

pub returns-then-not-is_sample : goal.returns-then-not-is_sample
unfolding sample_refusal
returns-then-not-is_sample c = simp (← c.link_ok.ensures, c.if-not-link_ok.false, ← c.link_active.ensures, c.if-not-link_active.false, ← c.is_sample.ensures, c.if-not-is_sample.true)

pub returns-else-not-is_sample : goal.returns-else-not-is_sample
unfolding sample_refusal
returns-else-not-is_sample c = simp (← c.link_ok.ensures, c.if-not-link_ok.false, ← c.link_active.ensures, c.if-not-link_active.false, ← c.is_sample.ensures, c.if-not-is_sample.false)
