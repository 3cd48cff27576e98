use Rattle.clause_core.proofs.ClosingSteps as closing_steps
use Rattle.clause_core.proofs.SimplifyingSteps as simplifying_steps
use Rattle.clause_core.proofs.SplittingSteps as splitting_steps
use Rattle.clause_core.proofs.ReplacingSteps as replacing_steps
use Rattle.clause_core.proofs.LimitSteps as limit_steps
use Rattle.clause_core.proofs.step_laws.step_examples.Goals as goal

pub returns : goal.returns
returns c = record {
  closing = closing_steps.examples;
  simplifying = simplifying_steps.examples;
  splitting = splitting_steps.examples;
  replacing = replacing_steps.examples;
  limits = limit_steps.examples;
}
