-- The children that a step makes of a sorted node can be nodes themselves.
use Rattle.std.specs.Prelude.{◌≡◌, ℕ, List, Contains, Some, Ok, slice_get}
use Rattle.term_core.specs.Tree.{Tree}
use Rattle.spec_core.specs.declared.records.Spec.{Spec}
use Rattle.spec_core.specs.Sig.{Sig}
use Rattle.spec_core.specs.WellSorted.{IsWellSorted}
use Rattle.clause_core.specs.declared.clauses.Clause.{Clause}
use Rattle.clause_core.specs.declared.steps.Step.{Step}
use Rattle.clause_core.specs.declared.answers.Child.{Child}
use Rattle.clause_core.specs.declared.answers.Children.{Children}
use Rattle.clause_core.specs.Clauses.{ClauseIsSorted}
use Rattle.clause_core.specs.Limits.{IsWithin}
use Rattle.clause_core.specs.Tidied.{IsTidied}
use Rattle.clause_core.specs.Says.{Says}
use Rattle.clause_core.specs.Steps.{row_of}

-- each node is sorted
abbrev pub NodesAreSorted : Sig → List Clause → Type 0
NodesAreSorted sig nodes = (j : ℕ) (d : Clause) → slice_get nodes j ≡ Some d → ClauseIsSorted sig d

-- a clause as it is in a node: sorted, tidied and within the limits
pub record IsNode (sig : Sig) (c : Clause) : Type 0 where
  pub sorted : ClauseIsSorted sig c
  pub is_tidied : IsTidied c
  pub within : IsWithin c

-- each child that a step makes of a sorted node, if the nodes so far are sorted, can be a node
abbrev pub ChildrenAreSorted : (Tree → Tree → Type 0) → Type 0
ChildrenAreSorted above =
    (step : Step) (spec : Spec) (numbers : List ℕ) (nodes : List Clause) (c : Clause)
    (made : Children) →
    IsWellSorted spec → NodesAreSorted spec.sig nodes → ClauseIsSorted spec.sig c →
    Says above c nodes (row_of spec (Contains numbers) nodes c step) (Ok made) →
    (i : ℕ) (d : Child) → slice_get made.clauses i ≡ Some d → IsNode spec.sig d.clause
