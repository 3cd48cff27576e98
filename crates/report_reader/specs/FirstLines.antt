-- What the first lines of a report and of its claims say.
use Rattle.std.specs.Prelude.{◌≡◌, ◌≤◌, ◌++◌, ◌∷◌, [], ℕ, List, codes, flat_map}
use Rattle.std.specs.Fmt.{decimal}
use Rattle.spec_core.specs.Sig.{Sig}
use Rattle.clause_core.specs.declared.reports.Budget.{Budget}
use Rattle.clause_core.specs.declared.reports.Outcome.TheVariants as outcomes
use Rattle.proof_script.specs.Claims.{first_line, yes_or_no}
use Rattle.proof_script.specs.Names.{IsReportName}
use Rattle.proof_script.specs.Reports.{BudgetStands, most_steps}
use Rattle.proof_script.specs.Standing.{Between, IsShort}
use Rattle.proof_script.specs.Words.{Line, fixed, name, number, word_text}
use Rattle.report_reader.specs.Lines.{IsLine}
use Rattle.report_reader.specs.Numbers.{IsNumberBehind}
use Rattle.report_reader.specs.declared.first_lines.FirstLine.{FirstLine}
use Rattle.report_reader.specs.declared.first_lines.FirstLine.TheVariants.{Proved, Refuted, Open}

-- the line `steps n`, of a number that may be there
pub record IsStepsLine (line : List ℕ) (n : ℕ) : Type 0 where
  pub range : Between 1 most_steps n
  pub is : IsNumberBehind (codes "steps") line n []

-- the line that says this
abbrev pub line_of : FirstLine → Line
line_of (Proved goal nodes) =
    record {
      head = codes "proved";
      words = name goal ∷ fixed (codes "nodes") ∷ number nodes ∷ [];
    }
line_of (Refuted goal index values) =
    record {
      head = codes "refuted";
      words =
          name goal ∷ fixed (codes "index") ∷ number index
          ∷ fixed (codes "with") ∷ number values ∷ [];
    }
line_of (Open goal budget) = first_line goal (outcomes.Open budget)

-- some claim that may appear has this first line
abbrev pub FirstStands : FirstLine → Type 0
FirstStands (Proved goal nodes) = IsReportName goal × (nodes ≤ 10000)
FirstStands (Refuted goal index values) = IsReportName goal × IsShort index × (values ≤ 16)
FirstStands (Open goal budget) = IsReportName goal × BudgetStands budget

-- what comes after the name of an open claim
abbrev pub budget_text : Budget → List ℕ
budget_text b =
    codes " depth " ++ (decimal b.depth ++ (codes " tried " ++ (decimal b.tried
    ++ (codes " skipped " ++ (decimal b.skipped ++ (codes " cut " ++ (yes_or_no b.cut
    ++ (codes " plain " ++ (decimal b.plain ++ (codes " nodes " ++ (decimal b.nodes ++ [])))))))))))

module _ (sig : Sig) where
  -- the line says this, which may appear
  pub record IsFirst (line : List ℕ) (first : FirstLine) : Type 0 where
    pub stands : FirstStands first
    pub is : IsLine sig line (line_of first)

  -- it does, if it begins with this word and these bytes follow
  pub record IsFirstBehind (head words : List ℕ) (first : FirstLine) : Type 0 where
    pub named : (line_of first).head ≡ head
    pub stands : FirstStands first
    pub is : words ≡ flat_map (λ w. codes " " ++ word_text sig w) (line_of first).words
