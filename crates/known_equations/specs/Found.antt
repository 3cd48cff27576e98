-- How a term was found to be rewritten.
use Rattle.std.specs.Prelude.{◌≡◌}
use Rattle.term_core.specs.Tree.{Tree}
use Rattle.substitutions.specs.Substitution.{apply}
use Rattle.clause_core.specs.declared.clauses.Clause.{Clause}
use Rattle.known_equations.specs.Knowledge.{Knowledge}
use Rattle.known_equations.specs.Uses.{Rewrites, IsByClause}
use Rattle.known_equations.specs.declared.rewriting.Rewriting.{Rewriting}

-- the term is the instance of the one side, and becomes that of the other one
pub record Becomes (from to t : Tree) (made : Rewriting) : Type 0 where
  pub is : apply made.entries.terms from ≡ t
  pub other : made.to ≡ to

-- it is rewritten to this instance
abbrev pub IsUse :
    {O : Type 0} → (Tree → Tree → Type 0) → Knowledge O → Tree → Rewriting → Type 0
IsUse above k t made = Rewrites above k t (apply made.entries.terms made.to)

-- the clause rewrites it to this instance
abbrev pub IsUseBy : (Tree → Tree → Type 0) → Clause → Tree → Rewriting → Type 0
IsUseBy above c t made = IsByClause above c t (apply made.entries.terms made.to)
