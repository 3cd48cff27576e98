use Rattle.std.proofs.Common.{drop}
use Rattle.term_core.specs.Measure.{list_weight}
use Rattle.rule_code.proofs.Opened.{IsOpening}
use Rattle.rule_code.proofs.opening.open.Given as goal

abbrev pub invariant-loop-slot : goal.invariant-loop-slot
invariant-loop-slot l = IsOpening l.patterns l.opened l.slot l.tests.items

abbrev pub decreases-loop-slot : goal.decreases-loop-slot
decreases-loop-slot l = list_weight (drop l.slot l.opened)
