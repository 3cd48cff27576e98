use Rattle.std.proofs.Common.{◌≡◌, map}
use Rattle.term_core.specs.Tree.{trees_of}
use Rattle.term_core.specs.Variables.{occurrences_all}
use Rattle.term_core.specs.Gathered.{gathered}
use Rattle.clause_core.specs.Clauses.{sides_of}
use Rattle.clause_core.specs.Tidied.{renumbered_equation}
use Rattle.clause_core.proofs.tidying.renumber_equations.Given as goal

abbrev pub invariant-loop-equation : goal.invariant-loop-equation
invariant-loop-equation l = record {
  met : l.olds.items ≡ gathered l.fn.olds.items (occurrences_all (trees_of (sides_of l.yielded)));
  renumbered : l.made.items ≡ map (renumbered_equation l.olds.items) l.yielded;
}
