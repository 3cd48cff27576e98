-- Rules by their numbers, instances of their left sides, and the guards of these.
use Rattle.std.specs.Prelude.{◌≡◌, ℕ, ◌+◌, List, Some, map, filter, length, slice_get}
use Rattle.term_core.specs.Tree.{Tree, instance}
use Rattle.term_core.specs.Same.{same_tree}
use Rattle.spec_core.specs.declared.records.Equation.{Equation}
use Rattle.spec_core.specs.declared.records.Guard.{Guard}
use Rattle.spec_core.specs.declared.records.Rule.{Rule}
use Rattle.spec_core.specs.declared.records.Spec.{Spec}
use Rattle.spec_core.specs.Gives.{boolean}

-- the rule with this number, where the first one has the number 1
pub record RuleAt (spec : Spec) (number : ℕ) : Type 0 where
  pub place : ℕ
  pub rule : Rule
  pub counts : number ≡ place + 1
  pub is : slice_get spec.rules place ≡ Some rule

-- the term is an instance of the rule's left side, with a term for each of its variables
pub record IsInstance (rule : Rule) (t : Tree) : Type 0 where
  pub terms : List Tree
  pub long : length terms ≡ length rule.vars
  pub is : instance terms rule.left ≡ t

-- the instance of a guard's test, equated to the constant that it wants
abbrev pub guard_equation : List Tree → Guard → Equation
guard_equation terms g = record { left = instance terms g.test; right = boolean g.wanted }

abbrev pub guard_equations : List Tree → Rule → List Equation
guard_equations terms rule = map (guard_equation terms) rule.guards

-- the rules of a left side, in their order
abbrev pub group_of : Spec → Tree → List Rule
group_of spec left = filter (λ (r : Rule). same_tree left r.left) spec.rules
