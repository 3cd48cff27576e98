-- The variable that the calls of a clause ask for: one whose value a rule looks at before it fits.
use Rattle.std.specs.Prelude.{ℕ, suc, pred, ◌==◌, nat_lt, ◌&&◌, Bool, false, List, [], ◌∷◌, ◌++◌, map, filter}
use Rattle.std.specs.Prelude.{flat_map, take, slice_get, Option, Some, None}
use Rattle.std.specs.List.{list_any}
use Rattle.term_core.specs.Tree.{Tree, Trees, var, app, none, some, list_of}
use Rattle.spec_core.specs.declared.records.Rule.{Rule}
use Rattle.spec_core.specs.declared.records.Spec.{Spec}
use Rattle.spec_core.specs.Sig.{Sig}
use Rattle.clause_core.specs.declared.clauses.Clause.{Clause}
use Rattle.clause_places.specs.Spots.{Spot, spots}

-- the variables of a term from the left, each occurrence with its path
abbrev mutual
  pub variable_paths : Tree → List (List ℕ × ℕ)
  variable_paths (var n) = ([], n) ∷ []
  variable_paths (app f ts) = variable_paths_from 1 ts

  pub variable_paths_from : ℕ → Trees → List (List ℕ × ℕ)
  variable_paths_from i none = []
  variable_paths_from i (some t ts) =
      map (λ (p : List ℕ × ℕ). (i ∷ p.0, p.1)) (variable_paths t)
      ++ variable_paths_from (suc i) ts

-- a constructor is at the path
abbrev pub constructor_at : Sig → List ℕ → Option Tree → Bool
constructor_at sig path None = false
constructor_at sig path (Some (var n)) = false
constructor_at sig [] (Some (app f ts)) = nat_lt f sig.constructors
constructor_at sig (i ∷ path) (Some (app f ts)) =
    constructor_at sig path (slice_get (list_of ts) (pred i))

abbrev pub is_call_of : ℕ → Tree → Bool
is_call_of f (var n) = false
is_call_of f (app g ts) = g == f

-- the left side of some rule of the function has a constructor at the path
abbrev pub looks_at : Spec → ℕ → List ℕ → Bool
looks_at spec f path =
    list_any
    (λ (rule : Rule). is_call_of f rule.left && constructor_at spec.sig path (Some rule.left))
    spec.rules

-- the variables that a call asks for: those at whose paths a left side of its function has a
-- constructor
abbrev pub asked_by : Spec → Tree → List ℕ
asked_by spec (var n) = []
asked_by spec (app f ts) =
    map (λ (p : List ℕ × ℕ). p.1)
    (filter (λ (p : List ℕ × ℕ). looks_at spec f p.0) (variable_paths (app f ts)))

-- the first variable that the first place asks for, if some place asks
abbrev pub asked : Spec → Clause → List ℕ
asked spec c = take 1 (flat_map (λ (s : Spot). asked_by spec s.term) (spots c))
