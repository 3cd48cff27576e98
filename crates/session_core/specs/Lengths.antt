-- How many bytes the lines of steps have.
use Rattle.std.specs.Prelude.{ℕ, ◌+◌, List, [], ◌∷◌, codes, length, map}
use Rattle.spec_core.specs.Sig.{Sig}
use Rattle.clause_core.specs.declared.steps.Step.{Step}
use Rattle.proof_script.specs.Steps.{step_line}
use Rattle.proof_script.specs.Words.{fixed, name as name_word, number, Line, line_text, lines_text}

-- the first line of a claim that the goal of this name is proved, with its number of nodes
abbrev pub proved_line : List ℕ → ℕ → Line
proved_line name nodes = record {
  head = codes "proved";
  words = name_word name ∷ fixed (codes "nodes") ∷ number nodes ∷ [];
}

-- the line of one step, and the lines of all of them
abbrev pub step_length : Sig → Step → ℕ
step_length sig step = length (line_text sig (step_line step))

abbrev pub steps_length : Sig → List Step → ℕ
steps_length sig steps = length (lines_text sig (map step_line steps))

-- for each step the bytes up to the end of its line, with those before the first line
abbrev pub lengths_after : Sig → ℕ → List Step → List ℕ
lengths_after sig before [] = []
lengths_after sig before (step ∷ steps) =
    (before + step_length sig step) ∷ lengths_after sig (before + step_length sig step) steps
