use Rattle.std.proofs.Common.{◌≡◌, map, take, drop, length}
use Rattle.term_core.specs.Tree.{trees_of}
use Rattle.term_core.specs.Measure.{weight, list_weight}
use Rattle.term_core.specs.Variables.{occurrences_all}
use Rattle.term_core.specs.Gathered.{gathered}
use Rattle.clause_core.specs.Tidied.{renumbered}
use Rattle.clause_core.proofs.tidying.+renumber.Given as goal

abbrev pub decreases-renumber : goal.decreases-renumber
decreases-renumber l = weight l.term

abbrev pub decreases-renumber_all : goal.decreases-renumber_all
decreases-renumber_all l = list_weight l.terms.items

-- the first terms are renumbered, and the others are still there
abbrev pub invariant-renumber_all-loop-index : goal.invariant-renumber_all-loop-index
invariant-renumber_all-loop-index l = record {
  met : l.olds.items ≡ gathered l.fn.olds.items (occurrences_all (trees_of (take l.index l.fn.terms.items)));
  renumbered : take l.index l.terms.items ≡ map (renumbered l.olds.items) (take l.index l.fn.terms.items);
  others : drop l.index l.terms.items ≡ drop l.index l.fn.terms.items;
  count : length l.terms.items ≡ length l.fn.terms.items;
}
