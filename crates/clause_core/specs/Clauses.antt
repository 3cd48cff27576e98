-- Clauses: their sides and their sorts.
use Rattle.std.specs.Prelude.{List, [], ◌∷◌, ◌++◌}
use Rattle.std.specs.List.{AllByRecursion}
use Rattle.term_core.specs.Tree.{Tree}
use Rattle.spec_core.specs.declared.records.Equation.{Equation}
use Rattle.spec_core.specs.Sig.{Sig, IsSort}
use Rattle.spec_core.specs.WellSorted.{EquationsAreSorted}
use Rattle.clause_core.specs.declared.clauses.Clause.{Clause}

abbrev pub sides_of : List Equation → List Tree
sides_of [] = []
sides_of (e ∷ es) = e.left ∷ e.right ∷ sides_of es

-- all sides, premises before conclusions and the left one before the right one
abbrev pub sides : Clause → List Tree
sides c = sides_of c.premises ++ sides_of c.conclusions

-- the sorts of the variables are the signature's, and both sides of each equation have one sort
pub record ClauseIsSorted (sig : Sig) (c : Clause) : Type 0 where
  pub variables : AllByRecursion (IsSort sig) c.ctx
  pub premises : EquationsAreSorted sig c.ctx c.premises
  pub conclusions : EquationsAreSorted sig c.ctx c.conclusions
