-- What is written of a specification's open goals.
use Rattle.std.specs.Prelude.{ℕ, List, [], Option}
use Rattle.spec_core.specs.declared.records.Spec.{Spec}
use Rattle.clause_core.specs.declared.reports.Claim.{Claim}
use Rattle.command_line.specs.declared.bounds.ProofBounds.{ProofBounds}
use Rattle.search_claims.specs.Claims.{AreClaims}
use Rattle.spike_cli.specs.Claims.{IsNextClaim}
use Rattle.open_pages.specs.OpenPages.{IsOpenPage}

-- the text on the goals that are left open by the claims that `prove` makes within these bounds; its title is
-- the name of the file
abbrev pub IsOpenText : Spec → List ℕ → Option (List ℕ) → ProofBounds → List ℕ → Type 0
IsOpenText spec title asked bounds text =
    (claims : List Claim) × AreClaims (IsNextClaim bounds spec) [] spec.goals claims
    × IsOpenPage spec title asked bounds.search claims text
