use Rattle.std.proofs.Common.{take}
use Rattle.term_core.specs.Tree.{trees_of}
use Rattle.term_core.specs.Measure.{weight, list_weight}
use Rattle.proof_script.specs.Reports.{AllAreClosed}
use Rattle.report_reader.proofs.values.+closed.Given as goal

abbrev pub decreases-is_closed : goal.decreases-is_closed
decreases-is_closed l = weight l.term.now

abbrev pub decreases-are_closed : goal.decreases-are_closed
decreases-are_closed l = list_weight l.terms.now

abbrev pub invariant-are_closed-loop-term : goal.invariant-are_closed-loop-term
invariant-are_closed-loop-term l = AllAreClosed l.sig (trees_of (take l.term-index l.terms))
