-- The cases of a variable: one for each constructor of its sort, applied to fresh variables.
use Rattle.std.specs.Prelude.{ℕ, zero, suc, List, [], ◌∷◌, ◌++◌, Option, Some, None, length}
use Rattle.term_core.specs.Tree.{Tree, app, trees_of}
use Rattle.term_core.specs.declared.ids.SortId.{SortId}
use Rattle.substitutions.specs.Substitution.{apply}
use Rattle.clause_core.specs.Instances.{variables}

-- the constructor, which is given with its argument sorts, applied to the variables after those
-- of the context
abbrev pub pattern : List SortId → ℕ × List SortId → Tree
pattern ctx c = app c.0 (trees_of (variables (length ctx) (length c.1)))

-- the substitution of a term for the variable x alone
abbrev pub only : ℕ → Tree → List (Option Tree)
only zero t = Some t ∷ []
only (suc x) t = None ∷ only x t

-- the term with x replaced by the constructor of fresh variables
abbrev pub in_case : List SortId → ℕ → ℕ × List SortId → Tree → Tree
in_case ctx x c t = apply (only x (pattern ctx c)) t

-- the sorts of the variables in the case
abbrev pub case_ctx : List SortId → ℕ × List SortId → List SortId
case_ctx ctx c = ctx ++ c.1
