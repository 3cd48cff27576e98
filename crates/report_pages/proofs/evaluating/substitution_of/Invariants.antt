use Rattle.std.proofs.Common.{◌≡◌, Some, map, take}
use Rattle.term_core.specs.Tree.{Tree}
use Rattle.acceptance.specs.Accepting.{values_in}
use Rattle.report_pages.proofs.evaluating.substitution_of.Given as goal

abbrev pub invariant-loop-value : goal.invariant-loop-value
invariant-loop-value l = l.terms.items ≡ map (λ (v : Tree). Some v) (values_in (take l.value-index l.values))
