-- What holds of the reports of searches.
use Rattle.std.specs.Prelude.{◌≤◌, List, []}
use Rattle.term_core.specs.Tree.{Tree}
use Rattle.spec_core.specs.declared.records.Spec.{Spec}
use Rattle.spec_core.specs.WellSorted.{IsWellSorted}
use Rattle.clause_core.specs.declared.reports.Claim.{Claim}
use Rattle.acceptance.specs.Accepting.{IsAccepted}
use Rattle.proof_script.specs.Claims.{report_text}
use Rattle.proof_script.specs.Reports.{most_steps}
use Rattle.proof_script.specs.Standing.{Between}
use Rattle.proof_script.specs.Texts.{IsReportText}
use Rattle.command_line.specs.declared.bounds.SearchBounds.{SearchBounds}
use Rattle.search_claims.specs.Claims.{AreClaims, IsClaimOn, report_of}
use Rattle.search_claims.specs.Names.{NamesStand}

-- as far as a search may go
pub record BoundsStand (bounds : SearchBounds) : Type 0 where
  pub depth : bounds.depth ≤ 8
  pub tries : Between 1 1000000 bounds.tries
  pub steps : Between 1 most_steps bounds.steps

-- each report of searches for all goals has a text
abbrev pub SearchReportsStand : Type 0
SearchReportsStand =
    (bounds : SearchBounds) (spec : Spec) (claims : List Claim) →
    IsWellSorted spec → NamesStand spec → BoundsStand bounds →
    AreClaims (λ before. IsClaimOn bounds spec) [] spec.goals claims →
    IsReportText spec.sig (report_text spec.sig (report_of bounds.steps claims))
    (report_of bounds.steps claims)

-- each report of searches for all goals is accepted
abbrev pub SearchReportsAreAccepted : (Tree → Tree → Type 0) → Type 0
SearchReportsAreAccepted above =
    (bounds : SearchBounds) (spec : Spec) (claims : List Claim) →
    IsWellSorted spec → AreClaims (λ before. IsClaimOn bounds spec) [] spec.goals claims →
    IsAccepted above spec (report_of bounds.steps claims)
