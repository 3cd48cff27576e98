use Rattle.std.proofs.Common.{ℕ, ◌<◌, get_or}
use Rattle.term_core.specs.Tree.{var}
use Rattle.spec_core.specs.Declarations.{bool_sort}
use Rattle.spec_core.specs.Sorts.{Sorted}
use Rattle.inference_rules.proofs.terms.have_sorts.Given as goal

abbrev pub invariant-loop-place : goal.invariant-loop-place
invariant-loop-place l =
    (k : ℕ) → k < l.place → Sorted l.sig l.ctx (get_or l.terms k (var 0)) (get_or l.sorts k bool_sort)
