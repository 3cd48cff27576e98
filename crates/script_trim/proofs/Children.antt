-- What descends from a node comes after it.
use Rattle.std.proofs.Common.{◌≤◌, ◌<◌, ℕ, List, [], ◌∷◌, arith}
use Rattle.term_core.specs.Tree.{Tree}
use Rattle.spec_core.specs.declared.records.Spec.{Spec}
use Rattle.clause_core.specs.declared.answers.Children.{Children}
use Rattle.clause_core.specs.declared.clauses.Clause.{Clause}
use Rattle.clause_core.specs.declared.steps.Step.{Step}
use Rattle.acceptance.specs.Blocks.{StepsMake}
use Rattle.acceptance.specs.Strict.{first_child}
use Rattle.block_steps.proofs.ChildNumbers.{child_later, later_first}
use Rattle.script_trim.specs.Cut.{Descends, child, further}

module _ (above : Tree → Tree → Type 0) (spec : Spec) (usable : ℕ → Type 0) (start : Clause) (steps : List Step)
    (made : List Children) (makes : StepsMake above spec usable (start ∷ []) 0 steps made) where
  -- what descends from a node comes later
  pub descends_later : (i j : ℕ) → Descends made i j → i < j
  descends_later i j (child r h) = child_later above spec usable start steps made makes i j r h
  descends_later i j (further k r d h) = omega (
    arith,
    descends_later i k d,
    child_later above spec usable start steps made makes k j r h,
  )

  -- and after the first child
  pub descends_from : (i j : ℕ) → Descends made i j → first_child made i ≤ j
  descends_from i j (child r h) = omega (arith, h.6)
  descends_from i j (further k r d h) = omega (arith, h.6, later_first made i k (descends_later i k d))
