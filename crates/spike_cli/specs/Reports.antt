-- The report of a specification.
use Rattle.std.specs.Prelude.{◌≡◌, ◌≤◌, ℕ, List, [], ◌++◌, length}
use Rattle.spec_core.specs.declared.records.Spec.{Spec}
use Rattle.spec_core.specs.Sig.{Sig}
use Rattle.spec_order.specs.Orders.{above_of}
use Rattle.clause_core.specs.declared.reports.Claim.{Claim}
use Rattle.acceptance.specs.Accepting.{IsAccepted}
use Rattle.proof_script.specs.Words.{lines_text}
use Rattle.proof_script.specs.Claims.{claims_text, header_lines, report_text}
use Rattle.proof_script.specs.Texts.{IsReportText}
use Rattle.search_claims.specs.Claims.{AreClaims, AreFirstClaims, report_of}
use Rattle.soundness.specs.ReportTruth.{ReportIsTrue}
use Rattle.command_line.specs.declared.bounds.ProofBounds.{ProofBounds}
use Rattle.command_line.specs.declared.bounds.SearchBounds.{SearchBounds}
use Rattle.file_replies.specs.declared.statuses.Status.{Status}
use Rattle.file_replies.specs.Reads.{most_report_bytes}
use Rattle.spike_cli.specs.Claims.{IsNextClaim, IsStatusOfClaims, IsStatusOfGoals}

-- a search for counterexamples that goes so far, and no proof
abbrev pub search_alone : SearchBounds → ProofBounds
search_alone search = record { search = search; plain = 0; nodes = 0 }

-- the text of a report up to these claims
abbrev pub begun_text : ℕ → Sig → List Claim → List ℕ
begun_text steps sig claims = lines_text sig (header_lines steps) ++ claims_text sig claims

-- the report of a specification, or what it begins with: the claims are those of its goals in their
-- order, each after the claims before it
pub data BeginsReport (bounds : ProofBounds) (spec : Spec) : List ℕ → Type 0 where
  begun : (claims : List Claim) → AreFirstClaims (IsNextClaim bounds spec) [] spec.goals claims
      → BeginsReport bounds spec (begun_text bounds.search.steps spec.sig claims)
  whole : (claims : List Claim) → AreClaims (IsNextClaim bounds spec) [] spec.goals claims
      → BeginsReport bounds spec (report_text spec.sig (report_of bounds.search.steps claims))

-- a whole report and its status: the report has this text, which isn't too long for `replay`, is
-- accepted and is true
pub record IsReport (bounds : ProofBounds) (spec : Spec) (text : List ℕ)
    (status : Status) : Type 0 where
  pub claims : List Claim
  pub are_claims : AreClaims (IsNextClaim bounds spec) [] spec.goals claims
  pub is_text : text ≡ report_text spec.sig (report_of bounds.search.steps claims)
  pub stands : IsReportText spec.sig text (report_of bounds.search.steps claims)
  pub short : length text ≤ most_report_bytes
  pub accepted : IsAccepted (above_of spec) spec (report_of bounds.search.steps claims)
  pub true : ReportIsTrue spec (report_of bounds.search.steps claims)
  pub answers : IsStatusOfClaims claims status
  pub exact : IsStatusOfGoals bounds spec status
