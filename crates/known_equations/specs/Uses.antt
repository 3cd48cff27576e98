-- How a term is rewritten at its root.
use Rattle.std.specs.Prelude.{◌≡◌, ◌⊎◌, ℕ, Bool, not, List, [], ◌∷◌, Option, Some, slice_get}
use Rattle.term_core.specs.Tree.{Tree}
use Rattle.spec_core.specs.declared.records.Equation.{Equation}
use Rattle.spec_core.specs.declared.records.Rule.{Rule}
use Rattle.spec_core.specs.declared.records.Spec.{Spec}
use Rattle.substitutions.specs.Substitution.{apply}
use Rattle.clause_core.specs.declared.clauses.Clause.{Clause}
use Rattle.clause_core.specs.Places.{side}
use Rattle.known_equations.specs.Knowledge.{Knowledge}

-- a rule without guards makes of the one term the other one
pub record IsByRule (spec : Spec) (t s : Tree) : Type 0 where
  pub place : ℕ
  pub rule : Rule
  pub is : slice_get spec.rules place ≡ Some rule
  pub unguarded : rule.guards ≡ []
  pub entries : List (Option Tree)
  pub from : apply entries rule.left ≡ t
  pub to : apply entries rule.right ≡ s

-- an instance of the clause, an equation without premises, does so from one of its sides, and the
-- one term is above the other one
pub record IsByClause (above : Tree → Tree → Type 0) (c : Clause) (t s : Tree) : Type 0 where
  pub premises : c.premises ≡ []
  pub equation : Equation
  pub alone : c.conclusions ≡ equation ∷ []
  pub left : Bool
  pub entries : List (Option Tree)
  pub from : apply entries (side left equation) ≡ t
  pub to : apply entries (side (not left) equation) ≡ s
  pub falls : above t s

-- an instance of one of the clauses does
abbrev pub IsByEquation : (Tree → Tree → Type 0) → List Clause → Tree → Tree → Type 0
IsByEquation above clauses t s =
    (n : ℕ) × (c : Clause) × (slice_get clauses n ≡ Some c) × IsByClause above c t s

module _ {O : Type 0} (above : Tree → Tree → Type 0) (k : Knowledge O) where
  -- a rule or a known equation does
  abbrev pub Rewrites : Tree → Tree → Type 0
  Rewrites t s = IsByRule k.spec t s ⊎ IsByEquation above k.clauses t s

  -- the term is rewritten to some term
  abbrev pub IsReducible : Tree → Type 0
  IsReducible t = (s : Tree) × Rewrites t s
