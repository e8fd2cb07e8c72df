-- `replay::replay` ends: each line leaves fewer bytes to come. Assumes nothing.
use Rattle.replay.proofs.replay.Given as goal

abbrev pub decreases-loop-input : goal.decreases-loop-input
decreases-loop-input l = l.input.left
