-- The row of the step that puts a fresh variable for a term: `generalize`.
use Rattle.std.specs.Prelude.{◌≡◌, List, [], ◌∷◌, Contains}
use Rattle.term_core.specs.Tree.{Tree, var, app}
use Rattle.term_core.specs.Contexts.{Context, plug}
use Rattle.term_core.specs.declared.ids.SortId.{SortId}
use Rattle.spec_core.specs.declared.records.Spec.{Spec}
use Rattle.spec_core.specs.Sig.{Sig}
use Rattle.spec_core.specs.Sorts.{Sorted}
use Rattle.clause_core.specs.declared.clauses.Clause.{Clause}
use Rattle.clause_core.specs.declared.clauses.Relation.TheVariants.{Same}
use Rattle.clause_core.specs.Clauses.{sides}
use Rattle.clause_core.specs.declared.answers.Why.TheVariants.{DoesNotFit, Sort}
use Rattle.clause_core.specs.Rows.{Row, child, needs, makes}
use Rattle.clause_core.specs.Abstracting.{generalized}

-- a term of this sort over the variables, and no variable
abbrev pub IsGeneral : Sig → List SortId → Tree → SortId → Type 0
IsGeneral sig ctx (var n) s = ⊥
IsGeneral sig ctx (app f ts) s = Sorted sig ctx (app f ts) s

-- the term occurs somewhere in the clause
abbrev pub StandsIn : Tree → Clause → Type 0
StandsIn t c = (s : Tree) × (round : Context) × Contains (sides c) s × (plug round t ≡ s)

module _ (spec : Spec) (c : Clause) where
  abbrev pub generalize_row : Tree → Row
  generalize_row t =
      needs ((s : SortId) × IsGeneral spec.sig c.ctx t s) Sort (λ general.
      needs (StandsIn t c) DoesNotFit (λ stands.
      makes (child Same (generalized c t general.0) ∷ []) []))
