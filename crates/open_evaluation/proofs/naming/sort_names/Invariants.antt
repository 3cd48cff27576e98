use Rattle.std.proofs.Common.{◌≡◌}
use Rattle.open_evaluation.specs.Marks.{marks_from}
use Rattle.open_evaluation.proofs.naming.sort_names.Given as goal

abbrev pub invariant-loop-number : goal.invariant-loop-number
invariant-loop-number l = l.names ≡ marks_from 5 l.number
