-- Steps that rewrite a term to one that is less: whether they do is decided by the two terms. If
-- one side of the equation is above the other one, no step from the other one does.
use Rattle.std.specs.Prelude.{◌≡◌, ℕ, ◌≤◌, Bool, true, List, [], ◌∷◌, Some, slice_get}
use Rattle.std.specs.List.{AllByRecursion}
use Rattle.term_core.specs.Tree.{Tree, instance, tree_size}
use Rattle.term_core.specs.declared.ids.SortId.{SortId}
use Rattle.spec_core.specs.Declarations.{IsDeclared}
use Rattle.spec_core.specs.Sig.{Sig, IsSort}
use Rattle.spec_core.specs.Sorts.{Sorted}
use Rattle.spec_core.specs.WellSorted.{HasFewArguments}
use Rattle.spec_core.specs.declared.records.Equation.{Equation}
use Rattle.spec_core.specs.declared.records.Goal.{Goal}
use Rattle.clause_core.specs.declared.clauses.Clause.{Clause}
use Rattle.clause_core.specs.Clauses.{ClauseIsSorted}
use Rattle.clause_core.specs.Places.{side}
use Rattle.clause_core.specs.Tidied.{goal_clause}
use Rattle.inference_rules.specs.Answers.{clauses_of}
use Rattle.proof_search.specs.declared.at.At.{At}
use Rattle.proof_search.specs.declared.falling_sides.FallingSides.{FallingSides}
use Rattle.proof_search.specs.declared.rewriting.Rewriting.{Rewriting}
use Rattle.proof_search.specs.Referring.{Target, node, goal, target_of}
use Rattle.proof_search.specs.FallingSides.{AreFalling, AreLemmaSides, marked}
use Rattle.proof_search.specs.SideSpines.{side_spines}

-- a goal of this name has this clause
pub record IsGoalClause (at : At) (name : List ℕ) (d : Clause) : Type 0 where
  pub number : ℕ
  pub goal : Goal
  pub is : slice_get at.setting.now.spec.now.goals number ≡ Some goal
  pub named : goal.name ≡ name
  pub clause : d ≡ goal_clause goal

-- the clause is that of the node, or of the goal
abbrev pub IsReferred : At → Target → Clause → Type 0
IsReferred at (node number) d = slice_get (clauses_of at.nodes.now) number ≡ Some d
IsReferred at (goal name) d = IsGoalClause at name d

-- the sides from which the clause of the node rewrites, or that of the goal
abbrev pub AreSides : (Tree → Tree → Type 0) → Target → Clause → FallingSides → Type 0
AreSides above (node number) d sides = AreFalling above d sides
AreSides above (goal name) d sides = AreLemmaSides above d sides

-- the clause is the one that is referred to, with its only conclusion, the sides that may fall, and
-- the spines of both
pub record CanRewrite (above : Tree → Tree → Type 0) (at : At) (r : Rewriting) : Type 0 where
  pub sorted : ClauseIsSorted at.setting.now.spec.now.sig r.clause.now
  pub referred : IsReferred at (target_of r.referral.now) r.clause.now
  pub alone : r.clause.now.conclusions ≡ r.equation.now ∷ []
  pub falling : AreSides above (target_of r.referral.now) r.clause.now r.sides
  pub spines : r.spines ≡ side_spines r.equation.now

-- a side that may fall becomes the term by some list
abbrev pub SideFits : FallingSides → Equation → Tree → Type 0
SideFits sides e t =
    (left : Bool) × (list : List Tree) × (marked left sides ≡ true)
    × (instance list (side left e) ≡ t)

-- the term is above the other one, and both are small enough for the order's test
pub record FallsTo (above : Tree → Tree → Type 0) (t u : Tree) : Type 0 where
  pub falls : above t u
  pub old : tree_size t ≤ 4294967295
  pub new : tree_size u ≤ 4294967295

-- if a term is above another one, no sorted instance of the other one is above that of the term
abbrev pub NeverRises : (Tree → Tree → Type 0) → Type 0
NeverRises above =
    (sig : Sig) (ctx : List SortId) (xs : List Tree) (t u : Tree) (s r : SortId) →
    IsDeclared sig → HasFewArguments sig → AllByRecursion (IsSort sig) ctx →
    Sorted sig ctx (instance xs t) s → Sorted sig ctx (instance xs u) r →
    above t u → above (instance xs u) (instance xs t) → ⊥
