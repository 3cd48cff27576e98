use Rattle.std.proofs.Common.{take}
use Rattle.term_core.specs.References.{terms_of}
use Rattle.clause_core.specs.Multisets.{EachHasGreater}
use Rattle.clause_core.proofs.comparing.each_has_greater.Given as goal

abbrev pub invariant-loop-other : goal.invariant-loop-other
invariant-loop-other g l = EachHasGreater (g.O.TermOrder.above l.order) (terms_of l.terms)
    (terms_of (take l.other-index l.others))
