-- The terms at the places of a clause, without the places, and how many there are in each side.
use Rattle.std.specs.Prelude.{◌≡◌, ℕ, List, map}
use Rattle.std.specs.List.{flat_map}
use Rattle.term_core.specs.Tree.{Tree}
use Rattle.clause_core.specs.declared.clauses.Clause.{Clause}
use Rattle.clause_core.specs.Clauses.{sides}
use Rattle.clause_places.specs.Spots.{paths}
use Rattle.clause_places.specs.Counts.{counts_of}
use Rattle.clause_places.specs.Numbers.{NumbersFit}
use Rattle.clause_places.specs.declared.terms.Counts.{Counts}

-- the terms at the paths of a term, in their order
abbrev pub subterms : Tree → List Tree
subterms t = map (λ (p : List ℕ × Tree). p.1) (paths t)

-- these are the terms at the places of the clause, whose numbers fit, and this many are in the
-- sides of its premises and of its conclusions
pub record AreListed (c : Clause) (ts : List Tree) (before behind : List Counts) : Type 0 where
  pub fit : NumbersFit c
  pub terms : ts ≡ flat_map subterms (sides c)
  pub premises : before ≡ map counts_of c.premises
  pub conclusions : behind ≡ map counts_of c.conclusions
