use Rattle.std.proofs.Common.{◌≡◌, ◌<◌, ℕ, Some}
use Rattle.std.specs.Prelude.{slice_get}
use Rattle.term_core.specs.Tree.{var}
use Rattle.rule_code.proofs.left_sides.find_home.Given as goal

abbrev pub invariant-loop-slot : goal.invariant-loop-slot
invariant-loop-slot l = (j : ℕ) → j < l.slot → slice_get l.patterns j ≡ Some (var l.number) → ⊥
