-- Terms fall by what they mean.
use Rattle.term_core.specs.Measure.{weight, weights}
use Rattle.term_core.specs.Tree.{trees_of}
use Rattle.term_core.specs.References.{terms_of}
use Rattle.term_order.specs.Operands.{meaning}
use Rattle.kbo_order.specs.Operands.{meanings}
use Rattle.kbo_order.proofs.totals.+total.Given as goal

abbrev pub decreases-total : goal.decreases-total
decreases-total l = weight (meaning (terms_of l.list.now) l.t)

abbrev pub decreases-total_of_all : goal.decreases-total_of_all
decreases-total_of_all l = weights (trees_of (meanings (terms_of l.list.now) l.terms))
