use Rattle.std.proofs.Common.{◌<◌, ℕ, ◌+◌, ◌*◌, take}
use Rattle.std.specs.Prelude.{slice_index}
use Rattle.spec_core.specs.Small.{Makes, AreSmall}
use Rattle.spec_core.specs.Sizes.{sum_of}
use Rattle.term_core.specs.Tree.{trees_of}
use Rattle.spec_core.proofs.small.+small.Given as goal

abbrev pub decreases-small_by : goal.decreases-small_by
decreases-small_by l = 2 * slice_index l.least.now l.sort.0

abbrev pub decreases-smalls_by : goal.decreases-smalls_by
decreases-smalls_by l = 2 * sum_of l.least.now l.sorts.now + 1

abbrev pub invariant-small_by-loop-number : goal.invariant-small_by-loop-number
invariant-small_by-loop-number l =
    (c : ℕ) → c < l.number → Makes l.tables c l.sort (slice_index l.least l.sort.0) → ⊥

abbrev pub invariant-smalls_by-loop-sort : goal.invariant-smalls_by-loop-sort
invariant-smalls_by-loop-sort l =
    AreSmall l.tables (take l.sort-index l.sorts) (trees_of l.made)
