-- The limits of a clause of one equation.
use Rattle.std.specs.Prelude.{List, [], ◌∷◌}
use Rattle.term_core.specs.Tree.{Tree}
use Rattle.term_core.specs.declared.ids.SortId.{SortId}
use Rattle.clause_core.specs.declared.clauses.Clause.{Clause}
use Rattle.clause_core.specs.Limits.{IsWithin}

-- the clause of one equation, without premises
abbrev pub equation_clause : List SortId → Tree → Tree → Clause
equation_clause ctx left right =
    record { ctx = ctx; premises = []; conclusions = record { left = left; right = right } ∷ [] }

-- the equation of these sides alone is within the limits of a clause in a proof, which don't ask for
-- the sorts of its variables
abbrev pub AreWithin : Tree → Tree → Type 0
AreWithin left right = IsWithin (equation_clause [] left right)
