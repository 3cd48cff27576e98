-- What is so by an order is so by that of a specification, if this is the order; and terms are
-- ordered by number as by the order of a specification by number.
use Rattle.std.proofs.Common.{◌≡◌, List, [], ◌∷◌, subst, sym}
use Rattle.std.specs.Prelude.{◌↔◌}
use Rattle.std.specs.List.{AllByRecursion}
use Rattle.term_core.specs.Tree.{Tree}
use Rattle.term_core.specs.Precedence.{by_number}
use Rattle.spec_core.specs.declared.records.Guard.{Guard}
use Rattle.spec_core.specs.declared.records.Rule.{Rule}
use Rattle.spec_core.specs.declared.records.Spec.{Spec}
use Rattle.spec_core.specs.Gives.{boolean}
use Rattle.spec_core.specs.Orders.{arities, order_by_number}
use Rattle.path_order.specs.Above.{Above}
use Rattle.path_order.proofs.ByNumber.{written_orders}
use Rattle.clause_core.specs.Admitted.{GuardIsOrdered, RuleIsOrdered, RulesAreOrdered}
use Rattle.spec_order.specs.declared.either.AnyOrder.{AnyOrder}
use Rattle.spec_order.specs.Orders.{above_by, ordering, order_of, above_of}

pub by_own_order :
    (Holds : (Tree → Tree → Type 0) → Type 0) {order : AnyOrder} (spec : Spec) → order ≡ order_of spec →
    Holds (above_by order) → Holds (above_of spec)
by_own_order Holds spec same h = subst (λ o. Holds (above_by o)) same h

pub own_by_number :
    (spec : Spec) → spec.order ≡ order_by_number spec.sig → (t s : Tree) →
    above_of spec t s ↔ Above by_number t s
own_by_number spec is t s =
    subst (λ o. above_by (ordering o) t s ↔ Above by_number t s) (sym is) (written_orders (arities spec.sig) t s)

-- a rule that is ordered by one order is ordered by each one that has the same pairs
module _ {above other : Tree → Tree → Type 0} (has : (t s : Tree) → above t s → other t s) where
  guards_ordered :
      (left : Tree) (guards : List Guard) → AllByRecursion (GuardIsOrdered above left) guards →
      AllByRecursion (GuardIsOrdered other left) guards
  guards_ordered left [] h = tt
  guards_ordered left (g ∷ gs) h =
      ((has left g.test h.0.0, has left (boolean g.wanted) h.0.1), guards_ordered left gs h.1)

  pub rule_ordered : (rule : Rule) → RuleIsOrdered above rule → RuleIsOrdered other rule
  rule_ordered rule h = record {
    right = has rule.left rule.right h.right;
    guards = guards_ordered rule.left rule.guards h.guards;
  }

pub ordered_by_number :
    (spec : Spec) → spec.order ≡ order_by_number spec.sig → RulesAreOrdered (Above by_number) spec →
    RulesAreOrdered (above_of spec) spec
ordered_by_number spec is h k rule at =
    rule_ordered (λ t s a. (own_by_number spec is t s).1 a) rule (h k rule at)
