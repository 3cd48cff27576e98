use Rattle.std.proofs.Common.{take}
use Rattle.term_core.specs.References.{terms_of}
use Rattle.clause_core.specs.Multisets.{AreRests}
use Rattle.clause_core.proofs.comparing.cancel.Given as goal

abbrev pub invariant-loop-other : goal.invariant-loop-other
invariant-loop-other l = AreRests (terms_of l.fn.terms.items) (terms_of (take l.other-index l.others))
    (terms_of l.first.items) (terms_of l.second.items)
