use Rattle.std.proofs.Common.{◌≤◌, ◌+◌, ◌*◌, map, take}
use Rattle.term_core.specs.Tree.{trees_of}
use Rattle.substitutions.specs.Substitution.{apply}
use Rattle.known_equations.specs.Uses.{Rewrites}
use Rattle.known_equations.specs.Chains.{Chains}
use Rattle.known_equations.proofs.store.Store.+normal.Given as goal

abbrev pub decreases-normal_instance : goal.decreases-normal_instance
decreases-normal_instance g l = 2 * l.fuel.now

abbrev pub decreases-normal_instances : goal.decreases-normal_instances
decreases-normal_instances g l = 2 * l.fuel.now + 1

abbrev pub decreases-normal_at_root : goal.decreases-normal_at_root
decreases-normal_at_root g l = 2 * l.fuel.now + 1

abbrev pub invariant-normal_instances-loop-pattern : goal.invariant-normal_instances-loop-pattern
invariant-normal_instances-loop-pattern g l = record {
  fuel : l.fuel ≤ l.initial.fuel;
  chains :
      Chains (Rewrites (g.O.TermOrder.above l.self.order) l.self)
      (trees_of (map (apply l.entries.terms) (take l.pattern-index l.patterns))) (trees_of l.made);
}
