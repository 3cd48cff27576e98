use Rattle.open_evaluation.proofs.ClosedTerms.{closed_by_entries}
use Rattle.open_evaluation.proofs.laws.closing_keeps_instances.Goals as goal

pub returns : goal.returns
returns a c u xs t below = closed_by_entries c u xs t below
