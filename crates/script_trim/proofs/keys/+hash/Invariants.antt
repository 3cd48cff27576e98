use Rattle.std.proofs.Common.{◌≡◌, drop}
use Rattle.term_core.specs.Tree.{trees_of}
use Rattle.term_core.specs.Measure.{weight, list_weight}
use Rattle.script_trim.specs.Keys.{hashed_all}
use Rattle.script_trim.proofs.keys.+hash.Given as goal

abbrev pub decreases-hash_term : goal.decreases-hash_term
decreases-hash_term l = weight l.term.now

abbrev pub decreases-hash_terms : goal.decreases-hash_terms
decreases-hash_terms l = list_weight l.terms.now

abbrev pub invariant-hash_terms-loop-term : goal.invariant-hash_terms-loop-term
invariant-hash_terms-loop-term l =
    hashed_all l.hash (trees_of (drop l.term-index l.terms)) ≡ hashed_all l.start (trees_of l.terms)
