use Rattle.std.proofs.Common.{drop}
use Rattle.clause_core.specs.Equations.{Among}
use Rattle.clause_core.proofs.equations.among.Given as goal

abbrev pub invariant-loop-other : goal.invariant-loop-other
invariant-loop-other l = Among l.equation l.equations → Among l.equation (drop l.other-index l.equations)
