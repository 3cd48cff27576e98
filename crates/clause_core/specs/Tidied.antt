-- Tidied clauses: the variables are numbered by first occurrence, and those that don't occur are
-- left out.
use Rattle.std.specs.Prelude.{◌≡◌, ℕ, ◌==◌, List, Option, MatchOption, map, length, slice_index_or}
use Rattle.std.specs.List.{position_or_len}
use Rattle.term_core.specs.Tree.{Tree, Trees, var, app, none, some, trees_of}
use Rattle.term_core.specs.Variables.{occurrences_all, firsts, NumberedAll}
use Rattle.term_core.specs.declared.ids.SortId.{SortId}
use Rattle.spec_core.specs.declared.records.Equation.{Equation}
use Rattle.spec_core.specs.declared.records.Goal.{Goal}
use Rattle.spec_core.specs.Declarations.{bool_sort}
use Rattle.spec_core.specs.WellSorted.{sorts_of}
use Rattle.clause_core.specs.declared.clauses.Clause.{Clause}
use Rattle.clause_core.specs.Clauses.{sides}
use Rattle.clause_core.specs.Limits.{IsWithin}

-- the variables that occur in the clause, by first occurrence
abbrev pub variables_of : Clause → List ℕ
variables_of c = firsts (occurrences_all (trees_of (sides c)))

module _ (olds : List ℕ) where
  -- the place of a variable among those of the list
  abbrev pub place_of : ℕ → ℕ
  place_of n = position_or_len (λ m. m == n) olds

  -- the term with each variable numbered by its place in the list
  abbrev mutual
    pub renumbered : Tree → Tree
    renumbered (var n) = var (place_of n)
    renumbered (app f ts) = app f (renumbered_all ts)

    pub renumbered_all : Trees → Trees
    renumbered_all none = none
    renumbered_all (some t ts) = some (renumbered t) (renumbered_all ts)

  abbrev pub renumbered_equation : Equation → Equation
  renumbered_equation e = record { left = renumbered e.left; right = renumbered e.right }

-- the sorts of the variables of the list. Each variable of a sorted clause has one. `Bool` stands
-- for none
abbrev pub sorts_at : List SortId → List ℕ → List SortId
sorts_at ctx olds = map (λ n. slice_index_or ctx n bool_sort) olds

-- the clause with its variables numbered by first occurrence
abbrev pub tidied : Clause → Clause
tidied c = record {
  ctx = sorts_at c.ctx (variables_of c);
  premises = map (renumbered_equation (variables_of c)) c.premises;
  conclusions = map (renumbered_equation (variables_of c)) c.conclusions;
}

-- the clause, tidied, if that is within the limits of a clause in a proof, and else none
abbrev pub IsTidiedWithin : Clause → Option Clause → Type 0
IsTidiedWithin c answer =
    MatchOption answer (IsWithin (tidied c) → ⊥) (λ made. (made ≡ tidied c) × IsWithin made)

-- the variables are numbered by first occurrence, and each of them occurs
abbrev pub IsTidied : Clause → Type 0
IsTidied c = NumberedAll 0 (trees_of (sides c)) (length c.ctx)

-- the clause of a goal, as it is written, and tidied
abbrev pub written_clause : Goal → Clause
written_clause goal =
    record { ctx = sorts_of goal.vars; premises = goal.premises; conclusions = goal.conclusions }

abbrev pub goal_clause : Goal → Clause
goal_clause goal = tidied (written_clause goal)
