-- The next line of a text.
use Rattle.std.specs.Prelude.{◌≡◌, ◌⊎◌, ◌+◌, ◌++◌, [], ℕ, List, codes, length}
use Rattle.spec_core.specs.Sig.{Sig}
use Rattle.proof_script.specs.Faults.{IsOneLine}
use Rattle.proof_script.specs.Words.{Line, line_text}
use Rattle.report_reader.specs.declared.errors.ReportError.{ReportError}
use Rattle.report_reader.specs.declared.errors.ReportError.TheVariants as errors
use Rattle.report_reader.specs.declared.lines.Lines.{Lines}

-- the bytes with a newline after them are the line's text
abbrev pub IsLine : Sig → List ℕ → Line → Type 0
IsLine sig bytes line = bytes ++ codes "\n" ≡ line_text sig line

-- the bytes begin with this line, which is not empty
pub record IsLineAt (bytes line rest : List ℕ) : Type 0 where
  pub single : IsOneLine line
  pub some : line ≡ [] → ⊥
  pub is : bytes ≡ (line ++ codes "\n") ++ rest

-- no newline is in the bytes, or they begin with one
abbrev pub NoLineAt : List ℕ → Type 0
NoLineAt bytes = IsOneLine bytes ⊎ ((rest : List ℕ) × (bytes ≡ codes "\n" ++ rest))

-- this is the next line, with those after it
pub record IsNext (lines : Lines) (line : List ℕ) (behind : Lines) : Type 0 where
  pub at : IsLineAt lines.rest.now line behind.rest.now
  pub read : behind.read ≡ lines.read + (length line + 1)
  pub number : behind.number ≡ lines.number + 1

-- there is no next line, as the error says
pub record HasNoLine (lines : Lines) (error : ReportError) : Type 0 where
  pub none : NoLineAt lines.rest.now
  pub named : error ≡ errors.Line lines.number
