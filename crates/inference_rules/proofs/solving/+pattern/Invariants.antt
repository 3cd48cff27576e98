use Rattle.std.proofs.Common.{take}
use Rattle.term_core.specs.Tree.{trees_of}
use Rattle.term_core.specs.Variables.{OccursAny}
use Rattle.term_core.specs.Measure.{weight, list_weight}
use Rattle.spec_core.specs.WellSorted.{ArePatterns}
use Rattle.inference_rules.proofs.solving.+pattern.Given as goal

abbrev pub decreases-is_pattern_without : goal.decreases-is_pattern_without
decreases-is_pattern_without l = weight l.term.now

abbrev pub decreases-are_patterns_without : goal.decreases-are_patterns_without
decreases-are_patterns_without l = list_weight l.terms.now

abbrev pub invariant-are_patterns_without-loop-term : goal.invariant-are_patterns_without-loop-term
invariant-are_patterns_without-loop-term l =
    ArePatterns l.sig (trees_of (take l.term-index l.terms))
    × (OccursAny l.var.0 (trees_of (take l.term-index l.terms)) → ⊥)
