use Rattle.std.proofs.Common.{◌≡◌, ◌++◌, take}
use Rattle.term_core.specs.References.{terms_of}
use Rattle.term_core.proofs.references.TermRefs.extend.Given as goal

abbrev pub invariant-loop-term : goal.invariant-loop-term
invariant-loop-term l = l.self ≡ l.fn.self ++ terms_of (take l.term-index l.terms)
