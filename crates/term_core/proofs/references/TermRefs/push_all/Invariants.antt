use Rattle.std.proofs.Common.{◌≡◌, ◌++◌, take}
use Rattle.term_core.proofs.references.TermRefs.push_all.Given as goal

abbrev pub invariant-loop-term : goal.invariant-loop-term
invariant-loop-term l = l.self ≡ l.fn.self ++ take l.term-index l.terms
