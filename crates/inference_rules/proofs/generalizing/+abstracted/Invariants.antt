use Rattle.std.proofs.Common.{◌≡◌, map, take}
use Rattle.term_core.specs.Measure.{weight, list_weight}
use Rattle.clause_core.specs.Abstracting.{abstracted}
use Rattle.inference_rules.proofs.generalizing.+abstracted.Given as goal

abbrev pub decreases-abstracted : goal.decreases-abstracted
decreases-abstracted l = weight l.whole.now

abbrev pub decreases-abstracted_all : goal.decreases-abstracted_all
decreases-abstracted_all l = list_weight l.terms.now

abbrev pub invariant-abstracted_all-loop-whole : goal.invariant-abstracted_all-loop-whole
invariant-abstracted_all-loop-whole l = l.made ≡ map (abstracted l.term l.var.0) (take l.whole-index l.terms)
