use Rattle.term_core.specs.Measure.{weight, weights}
use Rattle.term_core.specs.Tree.{trees_of}
use Rattle.proof_script.proofs.words.+pattern.Given as goal

abbrev pub decreases-append_pattern : goal.decreases-append_pattern
decreases-append_pattern l = weight l.pattern.now

abbrev pub decreases-append_other_patterns : goal.decreases-append_other_patterns
decreases-append_other_patterns l = weights (trees_of l.patterns.now)
