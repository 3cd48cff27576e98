-- A list that makes the sides the terms makes what is left of them the same.
use Rattle.std.proofs.Common.{◌≡◌, List}
use Rattle.term_core.specs.Tree.{Tree, instance}
use Rattle.term_core.specs.Measure.{weight}
use Rattle.fitting_lists.proofs.along.sides_agree.Given as goal

abbrev pub invariant-along : goal.invariant-along
invariant-along l =
    (list : List Tree) →
    instance list l.equation.left ≡ l.left →
    instance list l.equation.right ≡ l.right →
    (instance list l.left_pattern ≡ l.left_term) × (instance list l.right_pattern ≡ l.right_term)

abbrev pub decreases-along : goal.decreases-along
decreases-along l = weight l.left_pattern
