-- Terms fall by what they mean.
use Rattle.term_core.specs.Measure.{weight, weights}
use Rattle.term_core.specs.Tree.{trees_of}
use Rattle.term_core.specs.References.{terms_of}
use Rattle.term_order.specs.Operands.{meaning}
use Rattle.kbo_order.specs.Operands.{meanings}
use Rattle.kbo_order.proofs.compare.+compare.Given as goal

abbrev pub decreases-compare : goal.decreases-compare
decreases-compare l = weight (meaning (terms_of l.list.now) l.t)

abbrev pub decreases-compare_arguments : goal.decreases-compare_arguments
decreases-compare_arguments l = weights (trees_of (meanings (terms_of l.list.now) l.ts))
