-- When a report is accepted.
use Rattle.std.specs.Prelude.{◌≡◌, ℕ, List, [], ◌∷◌, ◌++◌, map}
use Rattle.term_core.specs.Tree.{Tree}
use Rattle.spec_core.specs.declared.records.Goal.{Goal}
use Rattle.spec_core.specs.declared.records.Spec.{Spec}
use Rattle.spec_core.specs.declared.records.Verdict.TheVariants.{Fails}
use Rattle.spec_core.specs.TermText.{variable_names}
use Rattle.spec_core.specs.Truth.{AreValuesOf}
use Rattle.spec_core.specs.Verdict.{IsVerdict}
use Rattle.spec_core.specs.WellSorted.{sorts_of}
use Rattle.clause_core.specs.declared.reports.Claim.{Claim}
use Rattle.clause_core.specs.declared.reports.Outcome.{Outcome}
use Rattle.clause_core.specs.declared.reports.Outcome.TheVariants.{Proved, Refuted, Open}
use Rattle.clause_core.specs.declared.reports.Report.{Report}
use Rattle.clause_core.specs.Tidied.{goal_clause}
use Rattle.acceptance.specs.Blocks.{Proves}
use Rattle.acceptance.specs.Claims.{IsClaimed, IsGoalNamed, ProvedBefore}

-- a list of values of variables with their names
abbrev pub NamedValues : Type 0
NamedValues = List (List ℕ × Tree)

abbrev pub names_in : NamedValues → List (List ℕ)
names_in values = map (λ (v : List ℕ × Tree). v.0) values

abbrev pub values_in : NamedValues → List Tree
values_in values = map (λ (v : List ℕ × Tree). v.1) values

-- a value for each variable of the goal, by its name and of its sort, in the order of the goal
pub record AreNamedValues (spec : Spec) (goal : Goal) (values : NamedValues) : Type 0 where
  pub names : names_in values ≡ variable_names goal.vars
  pub sorts : AreValuesOf spec (sorts_of goal.vars) (values_in values)

-- under the values the goal's verdict is Fails, within this many steps for each side
abbrev pub HasFailed : Spec → ℕ → Goal → NamedValues → Type 0
HasFailed spec steps goal values = IsVerdict spec (values_in values) steps goal Fails

module _ (above : Tree → Tree → Type 0) (spec : Spec) (steps : ℕ) where
  -- what a claim on the goal says is shown, if the goals that the claims before it prove may be
  -- used; nothing is asked of an open claim
  abbrev pub IsShown : List Claim → Goal → Outcome → Type 0
  IsShown before goal (Proved block) =
      Proves above spec (ProvedBefore spec before) (goal_clause goal) block.steps
  IsShown before goal (Refuted index values) =
      AreNamedValues spec goal values × HasFailed spec steps goal values
  IsShown before goal (Open budget) = Unit {0}

  -- the claim is on a goal of the specification, on which no claim before it is, and is shown
  pub record ClaimIsAccepted (before : List Claim) (claim : Claim) : Type 0 where
    pub goal : Goal
    pub named : IsGoalNamed spec claim.goal goal
    pub first : IsClaimed claim.goal before → ⊥
    pub shown : IsShown before goal claim.outcome

  abbrev pub ClaimsAreAccepted : List Claim → List Claim → Type 0
  ClaimsAreAccepted before [] = Unit {0}
  ClaimsAreAccepted before (claim ∷ claims) =
      ClaimIsAccepted before claim × ClaimsAreAccepted (before ++ claim ∷ []) claims

-- each claim is accepted, after the claims before it
abbrev pub IsAccepted : (Tree → Tree → Type 0) → Spec → Report → Type 0
IsAccepted above spec report = ClaimsAreAccepted above spec report.steps [] report.claims
