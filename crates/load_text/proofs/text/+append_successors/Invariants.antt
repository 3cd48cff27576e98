use Rattle.load_text.proofs.text.+append_successors.Given as goal

abbrev pub decreases-append_successors : goal.decreases-append_successors
decreases-append_successors l = l.height
