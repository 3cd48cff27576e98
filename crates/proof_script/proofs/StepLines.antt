-- The line of a step as its name and its words.
use Rattle.std.proofs.Common.{◌≡◌, ℕ, List, ◌++◌, ap, sym, ◌∙◌, codes, append_assoc}
use Rattle.std.proofs.lemmas.List.{append_cancel_right}
use Rattle.spec_core.specs.Sig.{Sig}
use Rattle.clause_core.specs.declared.steps.Step.{Step}
use Rattle.proof_script.specs.Delimiters.{Run}
use Rattle.proof_script.specs.Steps.{step_line}
use Rattle.proof_script.specs.Reading.{IsFirstWord}
use Rattle.proof_script.specs.LineWords.{IsStepBehind, IsStepLine}
use Rattle.proof_script.proofs.Lists.{Same, run_one}
use Rattle.proof_script.proofs.Runs.{ends_stop}
use Rattle.proof_script.proofs.WordReads.{words_text}
use Rattle.proof_script.proofs.StepReads.{step_run}
use Rattle.proof_script.proofs.LineParts.{text_ends}

module _ (sig : Sig) (line head words : List ℕ) (split : IsFirstWord line head words) where
  -- after its name come its words
  pub step_behind : (step : Step) → IsStepLine sig line step → IsStepBehind sig head words step
  step_behind step h = record { named = sym same.text; stand = record { stand = h.stands; is = same.rest } }
    where
      whole : line ≡ (step_line step).head ++ words_text sig (step_line step).words
      whole = append_cancel_right line ((step_line step).head ++ words_text sig (step_line step).words)
          (codes "\n") (h.is ∙ sym (append_assoc (step_line step).head (words_text sig (step_line step).words)
          (codes "\n")))

      same : Same head (step_line step).head words (words_text sig (step_line step).words)
      same = run_one Run head (step_line step).head words (words_text sig (step_line step).words) split.run
          (step_run step) split.stops
          (ends_stop (words_text sig (step_line step).words) (text_ends sig (step_line step).words))
          (sym split.is ∙ whole)

  pub line_found : (step : Step) → IsStepBehind sig head words step → IsStepLine sig line step
  line_found step h = record {
    stands = h.stand.stand;
    is = ap (λ z. z ++ codes "\n") split.is ∙ append_assoc head words (codes "\n")
        ∙ ap (λ z. z ++ (words ++ codes "\n")) (sym h.named)
        ∙ ap (λ z. (step_line step).head ++ (z ++ codes "\n")) h.stand.is;
  }

  -- what is found after the name is what the line says
  pub line_by_words :
      (name : List ℕ) → name ≡ head → (step : Step) → IsStepBehind sig name words step →
      IsStepLine sig line step
  line_by_words name e step h = line_found step (record { named = h.named ∙ e; stand = h.stand })

  pub no_line_by_words :
      (name : List ℕ) → name ≡ head → ((step : Step) → IsStepBehind sig name words step → ⊥) →
      (step : Step) → IsStepLine sig line step → ⊥
  no_line_by_words name e none step k =
      let b = step_behind step k in
      none step (record { named = b.named ∙ sym e; stand = b.stand })
