-- The lines of claims and reports.
use Rattle.std.specs.Prelude.{ℕ, List, [], ◌∷◌, ◌++◌, Bool, true, false, codes, map, flat_map, length}
use Rattle.term_core.specs.Tree.{Tree}
use Rattle.spec_core.specs.Sig.{Sig}
use Rattle.clause_core.specs.declared.reports.Claim.{Claim}
use Rattle.clause_core.specs.declared.reports.Outcome.{Outcome}
use Rattle.clause_core.specs.declared.reports.Outcome.TheVariants.{Proved, Refuted, Open}
use Rattle.clause_core.specs.declared.reports.Report.{Report}
use Rattle.proof_script.specs.Words.{Line, fixed, name, number, term, lines_text}
use Rattle.proof_script.specs.Steps.{step_line}

-- the word of an answer
abbrev pub yes_or_no : Bool → List ℕ
yes_or_no true = codes "yes"
yes_or_no false = codes "no"

-- NAME = VALUE
abbrev pub value_line : List ℕ × Tree → Line
value_line v = record { head = v.0; words = fixed (codes "=") ∷ term v.1 ∷ [] }

-- the first line of a claim
abbrev pub first_line : List ℕ → Outcome → Line
first_line goal (Proved block) =
    record {
      head = codes "proved";
      words = name goal ∷ fixed (codes "nodes") ∷ number (length block.steps) ∷ [];
    }
first_line goal (Refuted index values) =
    record {
      head = codes "refuted";
      words =
          name goal ∷ fixed (codes "index") ∷ number index
          ∷ fixed (codes "with") ∷ number (length values) ∷ [];
    }
first_line goal (Open b) =
    record {
      head = codes "open";
      words =
          name goal ∷ fixed (codes "depth") ∷ number b.depth
          ∷ fixed (codes "tried") ∷ number b.tried ∷ fixed (codes "skipped") ∷ number b.skipped
          ∷ fixed (codes "cut") ∷ fixed (yes_or_no b.cut)
          ∷ fixed (codes "plain") ∷ number b.plain ∷ fixed (codes "nodes") ∷ number b.nodes ∷ [];
    }

-- the lines after it: a line for each step, or for each value
abbrev pub other_lines : Outcome → List Line
other_lines (Proved block) = map step_line block.steps
other_lines (Refuted index values) = map value_line values
other_lines (Open b) = []

-- all lines of a claim
abbrev pub claim_lines : Claim → List Line
claim_lines claim = first_line claim.goal claim.outcome ∷ other_lines claim.outcome

-- the two lines that a report begins with
abbrev pub header_lines : ℕ → List Line
header_lines steps =
    record { head = codes "spike-report"; words = fixed (codes "1") ∷ [] }
    ∷ record { head = codes "steps"; words = number steps ∷ [] } ∷ []

-- and the one that it ends with
abbrev pub last_line : Line
last_line = record { head = codes "done"; words = [] }

-- the text of a claim, and of claims one after the other
abbrev pub claim_text : Sig → Claim → List ℕ
claim_text sig claim = lines_text sig (claim_lines claim)

abbrev pub claims_text : Sig → List Claim → List ℕ
claims_text sig claims = flat_map (claim_text sig) claims

-- a report's text: its two first lines, the lines of the claims, and the last line
abbrev pub report_text : Sig → Report → List ℕ
report_text sig report =
    lines_text sig (header_lines report.steps)
    ++ (claims_text sig report.claims ++ lines_text sig (last_line ∷ []))
