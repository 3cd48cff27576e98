-- What holds of all texts of reports.
use Rattle.std.specs.Prelude.{◌≡◌, ◌⊎◌, ℕ, List, [], ◌++◌}
use Rattle.std.specs.List.{AllByRecursion}
use Rattle.spec_core.specs.Sig.{Sig}
use Rattle.spec_core.specs.Declarations.{IsDeclared}
use Rattle.clause_core.specs.declared.reports.Claim.{Claim}
use Rattle.clause_core.specs.declared.reports.Report.{Report}
use Rattle.proof_script.specs.Claims.{claims_text}
use Rattle.proof_script.specs.Reports.{ClaimStands}
use Rattle.proof_script.specs.Texts.{Begins, IsReportText}
use Rattle.proof_script.specs.Faults.{IsFaultyLine}

-- the second list is the first one with more after it
abbrev pub Extends : List Claim → List Claim → Type 0
Extends cs ds = (more : List Claim) × (ds ≡ cs ++ more)

-- a text has one report, and nothing follows it; if the texts of two lists of claims begin the
-- same bytes, one of the lists goes on with what the other one has
pub record OneReport : Type 0 where
  pub one : (sig : Sig) (bytes : List ℕ) (report other : Report) → IsDeclared sig
      → IsReportText sig bytes report → IsReportText sig bytes other → report ≡ other
  pub ends : (sig : Sig) (bytes more : List ℕ) (report other : Report) → IsDeclared sig
      → IsReportText sig bytes report → Begins sig (bytes ++ more) other → more ≡ []
  pub extends : (sig : Sig) (bytes after others : List ℕ) (cs ds : List Claim) → IsDeclared sig
      → AllByRecursion (ClaimStands sig) cs → AllByRecursion (ClaimStands sig) ds
      → bytes ≡ claims_text sig cs ++ after → bytes ≡ claims_text sig ds ++ others
      → Extends cs ds ⊎ Extends ds cs

-- a text of a report has no faulty line, and no bytes have two
pub record OneFault : Type 0 where
  pub none : (sig : Sig) (bytes : List ℕ) (report : Report) (line : ℕ)
      → IsReportText sig bytes report → IsFaultyLine sig bytes line → ⊥
  pub one : (sig : Sig) (bytes : List ℕ) (line other : ℕ)
      → IsFaultyLine sig bytes line → IsFaultyLine sig bytes other → line ≡ other
