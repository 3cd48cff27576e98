use Rattle.std.proofs.Common.{◌≡◌, take}
use Rattle.term_core.proofs.tree.copy_all.Given as goal

abbrev pub invariant-loop-term : goal.invariant-loop-term
invariant-loop-term l = l.made.items ≡ take l.term-index l.terms
