use Rattle.sample_values.specs.Evaluators.{HaveTerms}
use Rattle.sample_values.proofs.evaluator.Evaluator.is_small.Given as goal

abbrev pub invariant-loop-symbol : goal.invariant-loop-symbol
invariant-loop-symbol l = HaveTerms l.self-inside.bank l.pending.items
