-- What may appear in the lines of a claim, and which reports have a text.
use Rattle.std.specs.Prelude.{ℕ, ◌≤◌, List, length}
use Rattle.std.specs.List.{AllByRecursion}
use Rattle.term_core.specs.Tree.{Tree, Trees, var, app, none, some}
use Rattle.spec_core.specs.Sig.{Sig, IsConstructor}
use Rattle.clause_core.specs.declared.reports.Budget.{Budget}
use Rattle.clause_core.specs.declared.reports.Claim.{Claim}
use Rattle.clause_core.specs.declared.reports.Outcome.{Outcome}
use Rattle.clause_core.specs.declared.reports.Outcome.TheVariants.{Proved, Refuted, Open}
use Rattle.clause_core.specs.declared.reports.Report.{Report}
use Rattle.proof_script.specs.Names.{IsReportName}
use Rattle.proof_script.specs.Standing.{IsShort, Between, TermStands, StepStands}

-- the greatest number of rule uses that the evaluation of one side may cost
abbrev pub most_steps : ℕ
most_steps = 100000

pub record BudgetStands (b : Budget) : Type 0 where
  pub depth : b.depth ≤ 8
  pub tried : IsShort b.tried
  pub skipped : IsShort b.skipped
  pub plain : IsShort b.plain
  pub nodes : IsShort b.nodes

module _ (sig : Sig) where
  -- neither a variable nor a function
  abbrev mutual
    pub IsClosed : Tree → Type 0
    IsClosed (var n) = ⊥
    IsClosed (app f ts) = IsConstructor sig f × AllAreClosed ts

    pub AllAreClosed : Trees → Type 0
    AllAreClosed none = Unit {0}
    AllAreClosed (some t ts) = IsClosed t × AllAreClosed ts

  pub record ValueStands (v : List ℕ × Tree) : Type 0 where
    pub name : IsReportName v.0
    pub stands : TermStands sig v.1
    pub closed : IsClosed v.1

  abbrev pub OutcomeStands : Outcome → Type 0
  OutcomeStands (Proved block) =
      (length block.steps ≤ 10000) × AllByRecursion (StepStands sig) block.steps
  OutcomeStands (Refuted index values) =
      IsShort index × (length values ≤ 16) × AllByRecursion ValueStands values
  OutcomeStands (Open b) = BudgetStands b

  pub record ClaimStands (claim : Claim) : Type 0 where
    pub goal : IsReportName claim.goal
    pub outcome : OutcomeStands claim.outcome

  -- each line of the report may appear
  pub record ReportStands (report : Report) : Type 0 where
    pub steps : Between 1 most_steps report.steps
    pub claims : AllByRecursion ClaimStands report.claims
