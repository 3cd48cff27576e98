-- The limits of a clause in a proof.
use Rattle.std.specs.Prelude.{ℕ, ◌+◌, ◌≤◌, length}
use Rattle.term_core.specs.Tree.{trees_of, sizes, depths}
use Rattle.clause_core.specs.declared.clauses.Clause.{Clause}
use Rattle.clause_core.specs.Clauses.{sides}

-- the sum of the sizes of the sides, and the greatest of their depths, or 0 if there is no side
abbrev pub clause_size : Clause → ℕ
clause_size c = sizes (trees_of (sides c))

abbrev pub clause_depth : Clause → ℕ
clause_depth c = depths (trees_of (sides c))

-- the clause has at most 64 equations, a depth of at most 100 and a size of at most 4,000
pub record IsWithin (c : Clause) : Type 0 where
  pub equations : length c.premises + length c.conclusions ≤ 64
  pub depth : clause_depth c ≤ 100
  pub size : clause_size c ≤ 4000
