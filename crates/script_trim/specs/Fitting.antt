-- Which closing steps are defined at a node of a block.
use Rattle.std.specs.Prelude.{◌≡◌, ◌⊎◌, ℕ, List, [], ◌∷◌, ◌++◌, Some, slice_get, take}
use Rattle.std.specs.List.{AllByRecursion, Any}
use Rattle.term_core.specs.Tree.{Tree}
use Rattle.spec_core.specs.declared.records.Equation.{Equation}
use Rattle.spec_core.specs.declared.records.Spec.{Spec}
use Rattle.clause_core.specs.declared.answers.Children.{Children}
use Rattle.clause_core.specs.declared.answers.Reference.{Reference}
use Rattle.clause_core.specs.declared.clauses.Clause.{Clause}
use Rattle.clause_core.specs.declared.clauses.Relation.TheVariants.{Same}
use Rattle.clause_core.specs.declared.steps.Step.{Step}
use Rattle.clause_core.specs.Equations.{IsIdentity}
use Rattle.acceptance.specs.Blocks.{StepMakes}
use Rattle.script_trim.specs.declared.blocks.Fit.{Fit}
use Rattle.script_trim.specs.Closing.{trivials, matches, absurds, subsume_each, by_each_lemma, closing_steps}

-- the sides of one of the equations are one term
abbrev pub HasIdentity : List Equation → Type 0
HasIdentity = Any IsIdentity

-- the closing steps by a node's own equations, and then those by another clause
abbrev pub own_steps : Spec → List Clause → Clause → List Step
own_steps spec nodes c = trivials c ++ (matches c ++ absurds c)

abbrev pub other_steps : Spec → List Clause → Clause → List Step
other_steps spec nodes c = subsume_each 0 nodes ++ by_each_lemma spec.goals

-- one of the references is to node i, with the same sides
abbrev pub RefersToItself : ℕ → List Reference → Type 0
RefersToItself i refs =
    (a : ℕ) × (r : Reference) × (slice_get refs a ≡ Some r) × (r.node ≡ i) × (r.relation ≡ Same)

module _ (above : Tree → Tree → Type 0) (spec : Spec) (usable : ℕ → Type 0) where
  -- if the step is defined at node i over these nodes, it refers to the node itself
  abbrev pub IsByItself : List Clause → ℕ → Step → Type 0
  IsByItself nodes i step =
      (made : Children) → StepMakes above spec usable nodes i step made → RefersToItself i made.refs

  -- of these steps, those that are defined at node i over these nodes, with what they make; steps that
  -- refer to the node itself may be left out
  pub data AreDefined (nodes : List Clause) (i : ℕ) : List Step → List Fit → Type 0 where
    none : AreDefined nodes i [] []
    defined :
        {step : Step} {made : Children} {steps : List Step} {fits : List Fit} →
        StepMakes above spec usable nodes i step made → AreDefined nodes i steps fits →
        AreDefined nodes i (step ∷ steps) (record { step = step; made = made } ∷ fits)
    left_out :
        {step : Step} {steps : List Step} {fits : List Fit} →
        IsByItself nodes i step → AreDefined nodes i steps fits → AreDefined nodes i (step ∷ steps) fits

  -- of some of the closing steps, those that are defined at node i of a block with these nodes, over the
  -- first of them, as many as the steps before node i make
  abbrev pub AreFitting : (Spec → List Clause → Clause → List Step) → List Clause → ℕ → ℕ → List Fit → Type 0
  AreFitting steps nodes before i fits =
      (c : Clause) → slice_get nodes i ≡ Some c →
      AreDefined (take before nodes) i (steps spec nodes c) fits

  -- no closing step is defined at node i of the block, apart from steps that refer to the node itself
  abbrev pub OnlyItselfFits : List Clause → ℕ → ℕ → Type 0
  OnlyItselfFits nodes before i =
      (c : Clause) → slice_get nodes i ≡ Some c →
      AllByRecursion (IsByItself (take before nodes) i) (closing_steps spec nodes c)
