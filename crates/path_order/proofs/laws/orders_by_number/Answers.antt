use Rattle.path_order.proofs.ByNumber.{written_orders}
use Rattle.path_order.proofs.laws.orders_by_number.Goals as goal

pub returns : goal.returns
returns c = written_orders
