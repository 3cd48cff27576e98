-- The order of a specification, by which it is admitted and its proofs descend.
use Rattle.term_core.specs.Tree.{Tree}
use Rattle.spec_core.specs.declared.records.OrderInfo.{OrderInfo}
use Rattle.spec_core.specs.declared.records.OrderInfo.TheVariants as info
use Rattle.spec_core.specs.declared.records.Spec.{Spec}
use Rattle.path_order.specs.Above.{Above}
use Rattle.kbo_order.specs.Weights.{symbol_weight}
use Rattle.kbo_order.specs.Above.{AboveByWeight}
use Rattle.spec_order.specs.declared.either.AnyOrder.{AnyOrder}
use Rattle.spec_order.specs.declared.either.AnyOrder.TheVariants.{Path, Weights}

-- the relation of an order: the path ordering of a precedence, or the ordering by weights
abbrev pub above_by : AnyOrder → Tree → Tree → Type 0
above_by (Path precedence) = Above precedence
above_by (Weights weights) = AboveByWeight (symbol_weight weights)

-- the order that a specification names
abbrev pub ordering : OrderInfo → AnyOrder
ordering (info.Path levels statuses) = Path (record { levels = levels; statuses = statuses })
ordering (info.Weights weights) = Weights weights

abbrev pub order_of : Spec → AnyOrder
order_of spec = ordering spec.order

-- `above_of spec t s`: t is above s by the specification's order
abbrev pub above_of : Spec → Tree → Tree → Type 0
above_of spec = above_by (order_of spec)
