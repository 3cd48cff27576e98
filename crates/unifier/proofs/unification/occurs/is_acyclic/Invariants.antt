use Rattle.std.proofs.Common.{◌≡◌, ◌-◌, length}
use Rattle.unifier.specs.Readiness.{IsMarked, marks}
use Rattle.unifier.proofs.unification.occurs.is_acyclic.Given as goal

abbrev pub invariant-loop : goal.invariant-loop
invariant-loop l =
    record {
      long : length l.ready.items ≡ length l.graph;
      marked : IsMarked l.graph l.roots l.ready.items;
    }

abbrev pub decreases-loop : goal.decreases-loop
decreases-loop l = length l.graph - marks l.ready.items
