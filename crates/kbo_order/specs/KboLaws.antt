-- The laws of an order on terms and of its ranks, for a list of weights.
use Rattle.std.proofs.Common.{ℕ, ◌≤◌, List, arith}
use Rattle.term_order.specs.Laws.{IsTermOrder, HasRanks}
use Rattle.kbo_order.specs.Weights.{symbol_weight}
use Rattle.kbo_order.specs.Above.{AboveByWeight}
use Rattle.kbo_order.specs.Rank.{IsRank}
use Rattle.kbo_order.specs.OrderLaws.{weight_order_laws}
use Rattle.kbo_order.specs.RankLaws.{weight_order_ranks}

pub weighs-something : (weights : List ℕ) (f : ℕ) → 1 ≤ symbol_weight weights f
weighs-something weights f = omega arith

pub kbo_laws : (weights : List ℕ) → IsTermOrder (AboveByWeight (symbol_weight weights))
kbo_laws weights = weight_order_laws (symbol_weight weights) (weighs-something weights)

pub kbo_ranks :
    (weights : List ℕ) → HasRanks (AboveByWeight (symbol_weight weights)) (IsRank (symbol_weight weights))
kbo_ranks weights = weight_order_ranks (symbol_weight weights) (weighs-something weights)
