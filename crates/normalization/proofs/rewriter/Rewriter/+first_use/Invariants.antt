use Rattle.std.proofs.Common.{ℕ, ◌<◌, ◌≡◌, Some}
use Rattle.std.specs.Prelude.{slice_get}
use Rattle.term_core.specs.Tree.{Tree}
use Rattle.term_core.specs.Measure.{weight}
use Rattle.normalization.specs.NormalForms.{IsNormal}
use Rattle.normalization.proofs.rewriter.Rewriter.+first_use.Given as goal

abbrev pub decreases-first_use : goal.decreases-first_use
decreases-first_use l = weight l.term.now

abbrev pub invariant-loop-index : goal.invariant-loop-index
invariant-loop-index l = (k : ℕ) (t : Tree) → k < l.index → slice_get l.arg-items k ≡ Some t → IsNormal l.self t
