use Rattle.std.proofs.Common.{◌≡◌, Some, map, take}
use Rattle.term_core.specs.Tree.{Tree}
use Rattle.inference_rules.proofs.terms.entries_of.Given as goal

abbrev pub invariant-loop-term : goal.invariant-loop-term
invariant-loop-term l = l.made.items ≡ map (λ (t : Tree). Some t) (take l.term-index l.terms)
