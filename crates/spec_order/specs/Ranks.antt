-- The ranks of an order.
use Rattle.std.specs.Prelude.{ℕ}
use Rattle.term_core.specs.Tree.{Tree}
use Rattle.path_order.specs.Rank as path
use Rattle.kbo_order.specs.Weights.{symbol_weight}
use Rattle.kbo_order.specs.Rank as kbo
use Rattle.spec_order.specs.declared.either.AnyOrder.{AnyOrder}
use Rattle.spec_order.specs.declared.either.AnyOrder.TheVariants.{Path, Weights}

-- those of the path ordering of a precedence, or of the ordering by weights
abbrev pub rank_by : AnyOrder → ℕ → ℕ → Tree → ℕ → Type 0
rank_by (Path precedence) = path.IsRank precedence
rank_by (Weights weights) = kbo.IsRank (symbol_weight weights)
