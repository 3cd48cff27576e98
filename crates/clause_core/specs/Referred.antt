-- Clauses that a step refers to: nodes that are made and goals that may be used, with their
-- instances here.
use Rattle.std.specs.Prelude.{◌≡◌, ◌⊎◌, ℕ, List, Some, slice_get}
use Rattle.std.specs.List.{AllByRecursion}
use Rattle.term_core.specs.Tree.{Tree, trees_of}
use Rattle.spec_core.specs.declared.records.Equation.{Equation}
use Rattle.spec_core.specs.declared.records.Goal.{Goal}
use Rattle.spec_core.specs.declared.records.Spec.{Spec}
use Rattle.spec_core.specs.Sorts.{SortedAll}
use Rattle.clause_core.specs.declared.clauses.Clause.{Clause}
use Rattle.clause_core.specs.Limits.{IsWithin}
use Rattle.clause_core.specs.declared.answers.Why.TheVariants.{Sort, Limit}
use Rattle.clause_core.specs.Equations.{Among, IsIdentity}
use Rattle.clause_core.specs.Instances.{instance_by}
use Rattle.clause_core.specs.Rows.{Row, needs}

-- a node that is made
pub record NodeAt (nodes : List Clause) (number : ℕ) : Type 0 where
  pub clause : Clause
  pub is : slice_get nodes number ≡ Some clause

-- a goal of this name that may be used, if some goals may by their numbers
pub record UsableGoal (spec : Spec) (usable : ℕ → Type 0) (name : List ℕ) : Type 0 where
  pub number : ℕ
  pub goal : Goal
  pub is : slice_get spec.goals number ≡ Some goal
  pub named : goal.name ≡ name
  pub may_be_used : usable number

module _ (spec : Spec) (c : Clause) where
  -- one term for each variable of d, of its sort over the variables of c
  abbrev pub AreTermsFor : Clause → List Tree → Type 0
  AreTermsFor d terms = SortedAll spec.sig c.ctx (trees_of terms) d.ctx

  -- d with these terms for its variables
  abbrev pub instance_here : Clause → List Tree → Clause
  instance_here d terms = instance_by terms c.ctx d

  -- what is asked of the terms and of the instance before the rest
  abbrev pub with_instance : Clause → List Tree → (Clause → Row) → Row
  with_instance d terms rest =
      needs (AreTermsFor d terms) Sort (λ sorted.
      needs (IsWithin (instance_here d terms)) Limit (λ within.
      rest (instance_here d terms)))

-- each premise of d is among the premises of c or has identical sides
abbrev pub PremisesAreThere : Clause → Clause → Type 0
PremisesAreThere c d =
    AllByRecursion (λ (e : Equation). Among e c.premises ⊎ IsIdentity e) d.premises
