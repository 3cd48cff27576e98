use Rattle.std.proofs.Common.{subst}
use Rattle.spec_core.specs.WellSorted.{IsWellSorted}
use Rattle.sample_values.specs.Evaluators.{Evaluated}
use Rattle.sample_values.proofs.samples.Samples.spec.Goals as goal

pub returns-clause-fine : goal.returns-clause-fine
returns-clause-fine c = subst (λ (e : Evaluated). IsWellSorted e.spec) c.self.view_is c.spec.ensures.fine
