use Rattle.std.proofs.Common.{drop}
use Rattle.clause_core.specs.Equations.{Among}
use Rattle.cond_rewrite.specs.Applied.{applied_guard}
use Rattle.cond_rewrite.proofs.guards.is_among.Given as goal

abbrev pub invariant-loop-premise : goal.invariant-loop-premise
invariant-loop-premise l =
    Among (applied_guard l.theta.terms l.guard) l.premises →
    Among (applied_guard l.theta.terms l.guard) (drop l.premise-index l.premises)
