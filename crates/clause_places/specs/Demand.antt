-- Variables at whose paths some of a few patterns have constructors, one argument after the other.
use Rattle.std.specs.Prelude.{◌≡◌, ℕ, Bool, List, map, filter, take, slice_get, Option, Some, None, option_map}
use Rattle.std.specs.Prelude.{option_to_list}
use Rattle.std.specs.List.{list_any, flat_map}
use Rattle.term_core.specs.Tree.{Tree, var, app, list_of}
use Rattle.term_core.specs.declared.ids.VarId.{VarId}
use Rattle.spec_core.specs.declared.records.Rule.{Rule}
use Rattle.spec_core.specs.declared.records.Spec.{Spec}
use Rattle.spec_core.specs.Sig.{Sig}
use Rattle.clause_places.specs.Spots.{paths}
use Rattle.clause_places.specs.Asked.{constructor_at, is_call_of, asked_by}

-- the variable is the first of these numbers, or there is none
abbrev pub IsFirst : List ℕ → Option VarId → Type 0
IsFirst ns found = take 1 ns ≡ option_to_list (option_map (λ (v : VarId). v.0) found)

-- the left sides of the function's rules
abbrev pub left_sides_of : List Rule → ℕ → List Tree
left_sides_of rules f =
    map (λ (r : Rule). r.left) (filter (λ (r : Rule). is_call_of f r.left) rules)

-- the argument at this index, which counts from 0
abbrev pub argument_at : ℕ → Tree → Option Tree
argument_at k (var n) = None
argument_at k (app f ts) = slice_get (list_of ts) k

-- those of the terms that have one there
abbrev pub arguments_at : ℕ → List Tree → List Tree
arguments_at k ts = flat_map (λ t. option_to_list (argument_at k t)) ts

module _ (sig : Sig) (patterns : List Tree) where
  -- some pattern has a constructor at the path
  abbrev pub some_look_at : List ℕ → Bool
  some_look_at path = list_any (λ t. constructor_at sig path (Some t)) patterns

  -- the variables on these paths
  abbrev pub looked_at : List (List ℕ × ℕ) → List ℕ
  looked_at ps =
      map (λ (p : List ℕ × ℕ). p.1) (filter (λ (p : List ℕ × ℕ). some_look_at p.0) ps)

-- what the calls in a term ask for, and those in a list of terms
abbrev pub asked_in : Spec → Tree → List ℕ
asked_in spec t = flat_map (λ (p : List ℕ × Tree). asked_by spec p.1) (paths t)

abbrev pub asked_among : Spec → List Tree → List ℕ
asked_among spec ts = flat_map (asked_in spec) ts
