use Rattle.lemma_search.proofs.places.goal_place.Given as goal

abbrev pub decreases-loop-place : goal.decreases-loop-place
decreases-loop-place l = l.place
