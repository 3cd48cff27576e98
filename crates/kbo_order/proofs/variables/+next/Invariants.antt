-- Terms fall by what they mean.
use Rattle.term_core.specs.Measure.{weight, weights}
use Rattle.term_core.specs.Tree.{trees_of}
use Rattle.term_core.specs.References.{terms_of}
use Rattle.term_order.specs.Operands.{meaning}
use Rattle.kbo_order.specs.Operands.{meanings}
use Rattle.kbo_order.proofs.variables.+next.Given as goal

abbrev pub decreases-next_variable : goal.decreases-next_variable
decreases-next_variable l = weight (meaning (terms_of l.list.now) l.t)

abbrev pub decreases-next_in_all : goal.decreases-next_in_all
decreases-next_in_all l = weights (trees_of (meanings (terms_of l.list.now) l.terms))
