use Rattle.std.proofs.Common.{◌≡◌, map, take}
use Rattle.term_core.specs.Measure.{weight, list_weight}
use Rattle.substitutions.specs.Substitution.{apply}
use Rattle.substitutions.proofs.subst.Subst.+apply.Given as goal

abbrev pub decreases-apply : goal.decreases-apply
decreases-apply l = weight l.term.now

abbrev pub decreases-apply_all : goal.decreases-apply_all
decreases-apply_all l = list_weight l.terms.now

abbrev pub invariant-apply_all-loop-term : goal.invariant-apply_all-loop-term
invariant-apply_all-loop-term l = l.made ≡ map (apply l.self.terms) (take l.term-index l.terms)
