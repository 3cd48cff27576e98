-- Laws of accepting, for an order on terms.
use Rattle.std.specs.Prelude.{◌≡◌, ℕ, List, [], ◌∷◌, length}
use Rattle.term_core.specs.Tree.{Tree}
use Rattle.spec_core.specs.declared.records.Spec.{Spec}
use Rattle.spec_core.specs.WellSorted.{IsWellSorted}
use Rattle.clause_core.specs.declared.clauses.Clause.{Clause}
use Rattle.clause_core.specs.declared.steps.Step.{Step}
use Rattle.clause_core.specs.declared.answers.Children.{Children}
use Rattle.clause_core.specs.declared.reports.Claim.{Claim}
use Rattle.clause_core.specs.declared.reports.ReplayWhy.{ReplayWhy}
use Rattle.clause_core.specs.declared.reports.Report.{Report}
use Rattle.acceptance.specs.Blocks.{nodes_of, StepsMake}
use Rattle.acceptance.specs.AllowedAnswers.{IsWholeBlock}
use Rattle.acceptance.specs.Claims.{ProvedBefore}
use Rattle.acceptance.specs.Accepting.{IsAccepted}
use Rattle.acceptance.specs.Refusals.{IsFirstRefusal, HasNoRefusal}

-- a report on a well sorted specification is accepted or has a first refusal, never both, and has
-- one first refusal at most
pub record OneVerdict (above : Tree → Tree → Type 0) : Type 0 where
  pub no_refusal :
      (spec : Spec) (report : Report) →
      IsWellSorted spec → IsAccepted above spec report → HasNoRefusal above spec report
  pub not_both :
      (spec : Spec) (report : Report) (line : ℕ) (why : ReplayWhy) →
      IsWellSorted spec → IsAccepted above spec report → IsFirstRefusal above spec report line why →
      ⊥
  pub one_refusal :
      (spec : Spec) (report : Report) (line other : ℕ) (why reason : ReplayWhy) →
      IsFirstRefusal above spec report line why → IsFirstRefusal above spec report other reason →
      (line ≡ other) × (why ≡ reason)

-- if the steps of a claim's block make something, and each node has its step, it can be tested
-- what is allowed
abbrev pub BlocksAreWhole : (Tree → Tree → Type 0) → Type 0
BlocksAreWhole above =
    (spec : Spec) (before : List Claim)
    (start : Clause) (steps : List Step) (made : List Children) →
    StepsMake above spec (ProvedBefore spec before) (start ∷ []) 0 steps made →
    length (nodes_of start made) ≡ length steps →
    IsWholeBlock made
