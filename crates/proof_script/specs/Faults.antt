-- The first line that can't continue, by the texts of reports alone.
use Rattle.std.specs.Prelude.{◌≡◌, ◌≢◌, ◌+◌, ℕ, List, ◌++◌, flat_map, length, codes}
use Rattle.std.specs.List.{AllByRecursion}
use Rattle.spec_core.specs.Sig.{Sig}
use Rattle.clause_core.specs.declared.reports.Report.{Report}
use Rattle.proof_script.specs.Texts.{Begins, IsReportText}

-- no newline is in the bytes
abbrev pub IsOneLine : List ℕ → Type 0
IsOneLine bytes = AllByRecursion (λ b. b ≢ 10) bytes

-- lines, each with its newline
abbrev pub whole_lines : List (List ℕ) → List ℕ
whole_lines lines = flat_map (λ line. line ++ codes "\n") lines

module _ (sig : Sig) where
  -- the bytes begin some report's text
  abbrev pub BeginsSome : List ℕ → Type 0
  BeginsSome bytes = (report : Report) × Begins sig bytes report

  -- after the lines before, the next line begins no report's text with them; or there is no
  -- further whole line, and the bytes are no report's text
  pub data CannotGoOn (before : List (List ℕ)) (rest : List ℕ) : Type 0 where
    strange : (line after : List ℕ) → rest ≡ (line ++ codes "\n") ++ after → IsOneLine line
        → (BeginsSome (whole_lines before ++ (line ++ codes "\n")) → ⊥) → CannotGoOn before rest
    unfinished : IsOneLine rest
        → ((report : Report) → IsReportText sig (whole_lines before ++ rest) report → ⊥)
        → CannotGoOn before rest

  -- The line with this number, which counts from 1, is the first that can't continue.
  pub record IsFaultyLine (bytes : List ℕ) (number : ℕ) : Type 0 where
    pub before : List (List ℕ)
    pub rest : List ℕ
    pub whole : bytes ≡ whole_lines before ++ rest
    pub lines : AllByRecursion IsOneLine before
    pub place : number ≡ length before + 1
    pub begun : BeginsSome (whole_lines before)
    pub stuck : CannotGoOn before rest
