-- What the readers of lines find.
use Rattle.std.specs.Prelude.{◌≡◌, ◌++◌, ℕ, List, Option, MatchOption, codes, flat_map}
use Rattle.std.specs.List.{AllByRecursion}
use Rattle.spec_core.specs.Sig.{Sig}
use Rattle.spec_core.specs.Declarations.{IsDeclared}
use Rattle.clause_core.specs.declared.steps.Step.{Step}
use Rattle.proof_script.specs.Delimiters.{AllRun, Ends}
use Rattle.proof_script.specs.Words.{Word, word_text, line_text}
use Rattle.proof_script.specs.Steps.{step_line}
use Rattle.proof_script.specs.Standing.{WordStands, StepStands}

-- the bytes are a blank, a word in which no byte ends a word, and what follows
pub record IsPlainWordAt (bytes word rest : List ℕ) : Type 0 where
  pub is : bytes ≡ codes " " ++ (word ++ rest)
  pub run : AllRun word
  pub ends : Ends rest

module _ (sig : Sig) where
  -- the bytes are a blank, this word, which may appear, and what follows
  pub record IsWordAt (bytes : List ℕ) (word : Word) (rest : List ℕ) : Type 0 where
    pub stands : WordStands sig word
    pub is : bytes ≡ codes " " ++ (word_text sig word ++ rest)
    pub ends : Ends rest

  -- the words may appear, and the bytes are their texts, each after a blank
  pub record AreWords (bytes : List ℕ) (words : List Word) : Type 0 where
    pub stand : AllByRecursion (WordStands sig) words
    pub is : bytes ≡ flat_map (λ w. codes " " ++ word_text sig w) words

  -- the step has this name, it may appear, and the bytes are its words, each after a blank
  pub record IsStepBehind (head words : List ℕ) (step : Step) : Type 0 where
    pub named : (step_line step).head ≡ head
    pub stand : AreWords words (step_line step).words

  -- what is found is the step of this name with these words, and nothing only if there is none
  abbrev pub ReadsStep : List ℕ → List ℕ → Option Step → Type 0
  ReadsStep head words found = MatchOption found
      ((step : Step) → IsStepBehind head words step → ⊥)
      (λ step. IsStepBehind head words step)

  -- the step may appear, and the line with a newline after it is the step's
  pub record IsStepLine (line : List ℕ) (step : Step) : Type 0 where
    pub stands : StepStands sig step
    pub is : line ++ codes "\n" ≡ line_text sig (step_line step)

-- so by each signature, for words that name no symbols
abbrev pub ReadsStepByAny : List ℕ → List ℕ → Option Step → Type 0
ReadsStepByAny head words found = MatchOption found
    ((sig : Sig) → IsDeclared sig → (step : Step) → IsStepBehind sig head words step → ⊥)
    (λ step. (sig : Sig) → IsStepBehind sig head words step)
