-- Clauses with a fresh variable for each occurrence of a term.
use Rattle.std.specs.Prelude.{ℕ, [], ◌∷◌, ◌++◌, cond, map, length}
use Rattle.term_core.specs.Tree.{Tree, Trees, var, app, none, some}
use Rattle.term_core.specs.Same.{same_tree}
use Rattle.term_core.specs.declared.ids.SortId.{SortId}
use Rattle.spec_core.specs.declared.records.Equation.{Equation}
use Rattle.clause_core.specs.declared.clauses.Clause.{Clause}

-- the term with a variable for each occurrence of t, which is no variable
module _ (t : Tree) (n : ℕ) where
  abbrev mutual
    pub abstracted : Tree → Tree
    abstracted (var m) = var m
    abstracted (app f ts) = cond (same_tree t (app f ts)) (var n) (app f (abstracted_all ts))

    pub abstracted_all : Trees → Trees
    abstracted_all none = none
    abstracted_all (some u us) = some (abstracted u) (abstracted_all us)

  abbrev pub abstracted_equation : Equation → Equation
  abstracted_equation e = record { left = abstracted e.left; right = abstracted e.right }

-- the clause with a fresh variable of this sort for each occurrence of the term
abbrev pub generalized : Clause → Tree → SortId → Clause
generalized c t s = record {
  ctx = c.ctx ++ (s ∷ []);
  premises = map (abstracted_equation t (length c.ctx)) c.premises;
  conclusions = map (abstracted_equation t (length c.ctx)) c.conclusions;
}
