-- The rules of each function, by their places.
use Rattle.std.specs.Prelude.{◌≡◌, ◌≢◌, ℕ, suc, List, [], ◌∷◌, ◌++◌, Bool, false, ◌==◌, if◌then◌else◌, slice_index_or}
use Rattle.term_core.specs.Tree.{Tree, var, app}
use Rattle.spec_core.specs.declared.records.Rule.{Rule}
use Rattle.spec_core.specs.declared.records.Spec.{Spec}

-- whether the term has this symbol at the root
abbrev pub has_head : ℕ → Tree → Bool
has_head f (var n) = false
has_head f (app g ts) = f == g

-- the numbers of the function's rules in their order, where the first of all rules has the number n
abbrev pub numbers_of : ℕ → ℕ → List Rule → List ℕ
numbers_of f n [] = []
numbers_of f n (r ∷ rs) =
    if has_head f r.left then n ∷ numbers_of f (suc n) rs else numbers_of f (suc n) rs

-- the table has for each symbol the places of the rules of its function, from 0
abbrev pub IsTableOf : Spec → List (List ℕ) → Type 0
IsTableOf spec table = (f : ℕ) → slice_index_or table f [] ≡ numbers_of f 0 spec.rules

-- the place goes to the end of the symbol's list, and all else stays
pub record AddsPlace (old new : List (List ℕ)) (f place : ℕ) : Type 0 where
  pub added : slice_index_or new f [] ≡ slice_index_or old f [] ++ place ∷ []
  pub others : (g : ℕ) → g ≢ f → slice_index_or new g [] ≡ slice_index_or old g []

-- a list that is missing is empty
abbrev pub HasSameLists : List (List ℕ) → List (List ℕ) → Type 0
HasSameLists old new = (g : ℕ) → slice_index_or new g [] ≡ slice_index_or old g []
