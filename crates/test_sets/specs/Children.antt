-- The sorts of a pattern's variables by what is round them, and the children that they make.
use Rattle.std.specs.Prelude.{ℕ, List, [], ◌∷◌, ◌++◌, Option, Some, None}
use Rattle.term_core.specs.Tree.{Tree, Trees, var, app, none, some}
use Rattle.term_core.specs.declared.ids.SortId.{SortId}
use Rattle.spec_core.specs.declared.records.SymInfo.{SymInfo}
use Rattle.spec_core.specs.Sig.{Sig, info_of}
use Rattle.clause_core.specs.declared.clauses.Clause.{Clause}
use Rattle.clause_core.specs.Tidied.{tidied}
use Rattle.clause_core.specs.Patterns.{IsPatternOf}
use Rattle.clause_core.specs.Covering.{covered_by}

-- the sorts of a symbol's arguments, and none if it isn't declared
abbrev pub args_of : Option SymInfo → List SortId
args_of (Some i) = i.args
args_of None = []

-- at each occurrence of a variable from the left, the sort that its place asks for, if the whole
-- is at a place of this sort
abbrev mutual
  pub sorts_in : Sig → SortId → Tree → List SortId
  sorts_in sig s (var n) = s ∷ []
  sorts_in sig s (app f ts) = all_sorts_in sig (args_of (info_of sig f)) ts

  pub all_sorts_in : Sig → List SortId → Trees → List SortId
  all_sorts_in sig ss none = []
  all_sorts_in sig [] (some t ts) = []
  all_sorts_in sig (s ∷ ss) (some t ts) = sorts_in sig s t ++ all_sorts_in sig ss ts

-- a pattern of the sort, over some variables
abbrev pub IsSomePattern : Sig → SortId → Tree → Type 0
IsSomePattern sig s p = (ctx : List SortId) × IsPatternOf sig s ctx p

-- the clause with a pattern of this sort for the variable, tidied
abbrev pub child_by : Sig → Clause → ℕ → SortId → Tree → Clause
child_by sig c n s p = tidied (covered_by c n (sorts_in sig s p, p))
