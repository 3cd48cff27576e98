use Rattle.lemma_search.proofs.exploring.Explorer.+directed.Given as goal

abbrev pub decreases-directed : goal.decreases-directed
decreases-directed g l = l.deeper

abbrev pub invariant-loop-candidate : goal.invariant-loop-candidate
invariant-loop-candidate g l =
    (goal.iterator-loop-candidate g).can_next l.candidate-iterator ×
    (goal.iterator-loop-candidate g).is_finite l.candidate-iterator
