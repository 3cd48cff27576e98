use Rattle.std.proofs.Common.{◌≡◌, ℕ, ◌<◌, Some}
use Rattle.std.specs.Prelude.{slice_get}
use Rattle.spec_core.specs.declared.records.Rule.{Rule}
use Rattle.spec_core.specs.Linear.{IsLinear}
use Rattle.overlap_check.proofs.linearity.linear.Given as goal

abbrev pub invariant-loop-place : goal.invariant-loop-place
invariant-loop-place l = (k : ℕ) (rule : Rule) → k < l.place → slice_get l.spec.rules k ≡ Some rule → IsLinear rule.left
