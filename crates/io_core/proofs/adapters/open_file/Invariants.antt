use Rattle.io_core.proofs.adapters.open_file.Given as goal

abbrev pub decreases-loop-file : goal.decreases-loop-file
decreases-loop-file g l = l.patience.left
