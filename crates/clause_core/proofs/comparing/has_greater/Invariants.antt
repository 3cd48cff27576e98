use Rattle.std.proofs.Common.{take}
use Rattle.term_core.specs.References.{terms_of}
use Rattle.clause_core.specs.Multisets.{HasGreater}
use Rattle.clause_core.proofs.comparing.has_greater.Given as goal

abbrev pub invariant-loop-term : goal.invariant-loop-term
invariant-loop-term g l = HasGreater (g.O.TermOrder.above l.order) (terms_of (take l.term-index l.terms)) l.other → ⊥
