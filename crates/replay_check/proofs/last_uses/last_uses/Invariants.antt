-- The last uses so far are right for the steps before this one.
use Rattle.std.proofs.Common.{◌≡◌, ◌<◌, ◌≤◌, ℕ, Some, length}
use Rattle.std.specs.Prelude.{slice_get, slice_index_or}
use Rattle.clause_core.specs.declared.steps.Step.{Step}
use Rattle.replay_check.specs.Kept.{referred}
use Rattle.replay_check.proofs.last_uses.last_uses.Given as goal

abbrev pub invariant-loop-number : goal.invariant-loop-number
invariant-loop-number l =
    (length l.lasts.items ≡ length l.steps)
    × ((k node : ℕ) (step : Step) → k < l.number → slice_get l.steps k ≡ Some step → referred step ≡ Some node →
    node < length l.lasts.items → k ≤ slice_index_or l.lasts.items node 0)
