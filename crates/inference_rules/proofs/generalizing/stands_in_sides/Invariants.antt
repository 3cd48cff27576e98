use Rattle.std.proofs.Common.{take}
use Rattle.term_core.specs.Tree.{trees_of}
use Rattle.clause_core.specs.Clauses.{sides_of}
use Rattle.inference_rules.specs.Parts.{IsPartOfAny}
use Rattle.inference_rules.proofs.generalizing.stands_in_sides.Given as goal

abbrev pub invariant-loop-equation : goal.invariant-loop-equation
invariant-loop-equation l = IsPartOfAny l.term (trees_of (sides_of (take l.equation-index l.equations))) → ⊥
