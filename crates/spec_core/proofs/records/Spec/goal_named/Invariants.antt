use Rattle.std.proofs.Common.{◌≡◌, ℕ, ◌<◌}
use Rattle.std.specs.Prelude.{Some, slice_get}
use Rattle.spec_core.specs.declared.records.Goal.{Goal}
use Rattle.spec_core.proofs.records.Spec.goal_named.Given as goal

abbrev pub invariant-loop-number : goal.invariant-loop-number
invariant-loop-number l = (k : ℕ) → k < l.number → (g : Goal) → slice_get l.self.goals k ≡ Some g → g.name ≡ l.name → ⊥
