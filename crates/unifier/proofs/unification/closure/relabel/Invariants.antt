use Rattle.std.proofs.Common.{◌≡◌, ◌++◌, take, drop}
use Rattle.unifier.specs.Roots.{relabelled}
use Rattle.unifier.proofs.unification.closure.relabel.Given as goal

abbrev pub invariant-loop-root : goal.invariant-loop-root
invariant-loop-root l = l.roots ≡ relabelled l.from l.to (take l.root-index l.initial.roots)
    ++ drop l.root-index l.initial.roots
