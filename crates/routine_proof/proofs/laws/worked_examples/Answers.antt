use Rattle.sample_specs.specs.SumOrder.{AboveInSums}
use Rattle.clause_core.proofs.OneStep.{one_answer}
use Rattle.routine_proof.proofs.WorkedExamples.{worked_examples}
use Rattle.routine_proof.proofs.laws.worked_examples.Goals as goal

pub returns : goal.returns
returns c = worked_examples (one_answer AboveInSums) c.worked_examples.ensures.well_sorted
