use Rattle.io_core.proofs.adapters.write_some.Given as goal

abbrev pub decreases-loop-n : goal.decreases-loop-n
decreases-loop-n g l = l.patience.left
