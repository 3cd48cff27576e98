use Rattle.std.proofs.Common.{◌≡◌, ◌++◌, drop, map}
use Rattle.std.specs.List.{AllByRecursion}
use Rattle.proof_script.specs.Words.{lines_text}
use Rattle.proof_script.specs.Steps.{step_line}
use Rattle.proof_script.specs.Ranges.{LineIsInRange}
use Rattle.proof_script.proofs.printing.append_steps.Given as goal

-- with the steps that are left all have been appended
abbrev pub invariant-loop-step : goal.invariant-loop-step
invariant-loop-step l =
    record {
      text : l.text.items ++ lines_text l.sig (map step_line (drop l.step-index l.steps)) ≡ l.fn.text.items
          ++ lines_text l.sig (map step_line l.steps);
      rest : AllByRecursion (LineIsInRange l.sig) (map step_line (drop l.step-index l.steps));
    }
