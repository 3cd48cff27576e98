-- Each order of a specification keeps the laws of an order on terms and of its ranks.
use Rattle.term_order.specs.Laws.{IsTermOrder, HasRanks}
use Rattle.path_order.specs.PathLaws.{path_order_laws}
use Rattle.path_order.specs.RankLaws.{path_order_ranks}
use Rattle.kbo_order.specs.KboLaws.{kbo_laws, kbo_ranks}
use Rattle.spec_order.specs.Orders.{above_by}
use Rattle.spec_order.specs.Ranks.{rank_by}
use Rattle.spec_order.specs.declared.either.AnyOrder.{AnyOrder}
use Rattle.spec_order.specs.declared.either.AnyOrder.TheVariants.{Path, Weights}

pub order_laws : (o : AnyOrder) → IsTermOrder (above_by o)
order_laws (Path precedence) = path_order_laws precedence
order_laws (Weights weights) = kbo_laws weights

pub order_ranks : (o : AnyOrder) → HasRanks (above_by o) (rank_by o)
order_ranks (Path precedence) = path_order_ranks precedence
order_ranks (Weights weights) = kbo_ranks weights
