-- The places of a clause in their order, each with the term that is there: premises before
-- conclusions, each by its number, the left side before the right one, and arguments from the left
-- before their symbol.
use Rattle.std.specs.Prelude.{ℕ, suc, Bool, true, false, List, [], ◌∷◌, ◌++◌, map, slice_index_or}
use Rattle.term_core.specs.Tree.{Tree, Trees, var, app, none, some}
use Rattle.spec_core.specs.declared.records.Equation.{Equation}
use Rattle.clause_core.specs.declared.clauses.Clause.{Clause}
use Rattle.clause_core.specs.declared.steps.Place.{Place}

-- a place and the term there
pub record Spot : Type 0 where
  pub place : Place
  pub term : Tree

-- the paths of a term, each with the subterm there
abbrev mutual
  pub paths : Tree → List (List ℕ × Tree)
  paths (var n) = ([], var n) ∷ []
  paths (app f ts) = argument_paths 1 ts ++ ([], app f ts) ∷ []

  pub argument_paths : ℕ → Trees → List (List ℕ × Tree)
  argument_paths i none = []
  argument_paths i (some t ts) =
      map (λ (p : List ℕ × Tree). (i ∷ p.0, p.1)) (paths t) ++ argument_paths (suc i) ts

abbrev pub side_spots : Bool → ℕ → Bool → Tree → List Spot
side_spots conclusion number left t =
    map
    (λ (p : List ℕ × Tree). record {
      place = record { conclusion = conclusion; number = number; left = left; path = p.0 };
      term = p.1;
    })
    (paths t)

abbrev pub equation_spots : Bool → ℕ → List Equation → List Spot
equation_spots conclusion number [] = []
equation_spots conclusion number (e ∷ es) =
    side_spots conclusion number true e.left
    ++ (side_spots conclusion number false e.right ++ equation_spots conclusion (suc number) es)

abbrev pub spots : Clause → List Spot
spots c = equation_spots false 1 c.premises ++ equation_spots true 1 c.conclusions

abbrev pub places : Clause → List Place
places c = map (λ (s : Spot). s.place) (spots c)

-- the spot of this index in a list, which counts from 0; past its end, some spot
abbrev pub spot_of_index : List Spot → ℕ → Spot
spot_of_index ss k =
    slice_index_or ss k
    (record {
      place = record { conclusion = true; number = 1; left = true; path = [] };
      term = var 0;
    })
