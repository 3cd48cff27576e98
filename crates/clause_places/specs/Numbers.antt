-- Clauses whose places have numbers that fit: few equations, and few arguments of each symbol.
use Rattle.std.specs.Prelude.{◌+◌, ◌≤◌, length}
use Rattle.std.specs.List.{AllByRecursion}
use Rattle.term_core.specs.Tree.{Tree, Trees, var, app, none, some, list_of}
use Rattle.clause_core.specs.declared.clauses.Clause.{Clause}
use Rattle.clause_core.specs.Clauses.{sides}

-- each symbol of the term has at most 8 arguments
abbrev mutual
  pub IsNarrow : Tree → Type 0
  IsNarrow (var n) = Unit {0}
  IsNarrow (app f ts) = (length (list_of ts) ≤ 8) × AreNarrow ts

  pub AreNarrow : Trees → Type 0
  AreNarrow none = Unit {0}
  AreNarrow (some t ts) = IsNarrow t × AreNarrow ts

-- the clause has at most 64 equations, and each of its symbols at most 8 arguments
pub record NumbersFit (c : Clause) : Type 0 where
  pub equations : length c.premises + length c.conclusions ≤ 64
  pub arguments : AllByRecursion IsNarrow (sides c)
