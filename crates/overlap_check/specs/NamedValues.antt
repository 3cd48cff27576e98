-- The values that are named for two left sides.
use Rattle.std.specs.Prelude.{◌≡◌, ℕ, List, ◌++◌, Option, length}
use Rattle.term_core.specs.Tree.{Tree, Trees, app, instance, trees_of}
use Rattle.term_core.specs.declared.ids.SortId.{SortId}
use Rattle.spec_core.specs.declared.records.Rule.{Rule}
use Rattle.spec_core.specs.Sig.{Sig}
use Rattle.spec_core.specs.Small.{AreSmall}
use Rattle.spec_core.specs.WellSorted.{sorts_of}
use Rattle.substitutions.specs.Substitution.{apply}
use Rattle.unifier.specs.Shifting.{shifted}
use Rattle.unifier.specs.Unification.{IsMostGeneral, KeepsSorts}

-- the left side of the second rule with variables that the first rule lacks
abbrev pub left_apart : Rule → Rule → Tree
left_apart r q = shifted (length r.vars) q.left

-- the sorts of the variables of both
abbrev pub sorts_of_both : Rule → Rule → List SortId
sorts_of_both r q = sorts_of r.vars ++ sorts_of q.vars

-- the values name the overlap: they are the arguments of the left side under a most general
-- unifier, where each variable that is left has the small value of its sort
pub record NamesOverlap (sig : Sig) (r q : Rule) (values : Trees) : Type 0 where
  pub unifier : List (Option Tree)
  pub most_general : IsMostGeneral r.left (left_apart r q) unifier
  pub keeps_sorts : KeepsSorts r.left (left_apart r q) unifier
  pub smalls : List Tree
  pub are_small : AreSmall sig (sorts_of_both r q) (trees_of smalls)
  pub function : ℕ
  pub call : instance smalls (apply unifier r.left) ≡ app function values
