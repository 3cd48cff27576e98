use Rattle.sample_specs.proofs.Sums.{sum_order_laws, sum_order_ranks}
use Rattle.sample_specs.proofs.laws.sums_are_ordered.Goals as goal

pub returns-clause-order : goal.returns-clause-order
returns-clause-order c = sum_order_laws

pub returns-clause-ranks : goal.returns-clause-ranks
returns-clause-ranks c = sum_order_ranks
