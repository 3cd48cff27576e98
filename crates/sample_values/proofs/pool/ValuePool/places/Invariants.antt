use Rattle.std.proofs.Common.{take}
use Rattle.sample_values.specs.Evaluators.{HaveValues}
use Rattle.sample_values.proofs.pool.ValuePool.places.Given as goal

abbrev pub invariant-loop-number : goal.invariant-loop-number
invariant-loop-number l = HaveValues l.self l.places.items (take l.number l.sorts)
