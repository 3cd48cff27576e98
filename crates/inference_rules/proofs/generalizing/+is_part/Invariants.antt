use Rattle.std.proofs.Common.{take}
use Rattle.term_core.specs.Measure.{weight, list_weight}
use Rattle.term_core.specs.Tree.{trees_of}
use Rattle.inference_rules.specs.Parts.{IsPartOfAny}
use Rattle.inference_rules.proofs.generalizing.+is_part.Given as goal

abbrev pub decreases-is_part : goal.decreases-is_part
decreases-is_part l = weight l.whole.now

abbrev pub decreases-is_part_of_any : goal.decreases-is_part_of_any
decreases-is_part_of_any l = list_weight l.terms.now

abbrev pub invariant-is_part_of_any-loop-whole : goal.invariant-is_part_of_any-loop-whole
invariant-is_part_of_any-loop-whole l = IsPartOfAny l.term (trees_of (take l.whole-index l.terms)) → ⊥
