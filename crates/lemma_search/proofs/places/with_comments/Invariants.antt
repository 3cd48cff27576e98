use Rattle.lemma_search.proofs.places.with_comments.Given as goal

abbrev pub decreases-loop-line : goal.decreases-loop-line
decreases-loop-line l = l.line
