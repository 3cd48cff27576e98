-- What the table says of small clauses, for each kind of step.
use Rattle.clause_core.specs.ClosingExamples.{ClosingExamples}
use Rattle.clause_core.specs.SimplifyingExamples.{SimplifyingExamples}
use Rattle.clause_core.specs.CoveringExamples.{CoveringExamples}
use Rattle.clause_core.specs.ReplacingExamples.{ReplacingExamples}
use Rattle.clause_core.specs.LimitExamples.{LimitExamples}

pub record StepExamples : Type 0 where
  pub closing : ClosingExamples
  pub simplifying : SimplifyingExamples
  pub splitting : CoveringExamples
  pub replacing : ReplacingExamples
  pub limits : LimitExamples
