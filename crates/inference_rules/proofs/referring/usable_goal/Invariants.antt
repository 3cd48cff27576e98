use Rattle.std.proofs.Common.{◌≡◌, ℕ, ◌<◌, Some, get_or}
use Rattle.std.specs.Prelude.{slice_get}
use Rattle.spec_core.specs.declared.records.Goal.{Goal}
use Rattle.inference_rules.proofs.referring.usable_goal.Given as goal

abbrev pub invariant-loop-number : goal.invariant-loop-number
invariant-loop-number l =
    (k : ℕ) → k < l.number-index → (g : Goal) → slice_get l.spec.goals (get_or l.proved k 0) ≡ Some g →
    g.name ≡ l.name → ⊥
