-- What the test of an order promises of two terms.
use Rattle.std.proofs.Common.{◌≤◌, Bool, IsTrue}
use Rattle.term_core.specs.Tree.{Tree, tree_size}
use Rattle.spec_order.specs.Orders.{above_by}
use Rattle.spec_order.specs.declared.either.AnyOrder.{AnyOrder}

module _ (t s : Tree) (answer : Bool) where
  abbrev pub IsSound : AnyOrder → Type 0
  IsSound o = IsTrue answer → above_by o t s

  abbrev pub IsComplete : AnyOrder → Type 0
  IsComplete o =
      tree_size t ≤ 4294967295 → tree_size s ≤ 4294967295 → above_by o t s → IsTrue answer
