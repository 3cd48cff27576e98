-- Names that are met one after the other.
use Rattle.std.proofs.Common.{◌≡◌, ℕ, zero, suc, List, [], ◌∷◌, ◌++◌, Bool, true, false, Some, None, set, length, ap}
use Rattle.std.proofs.Common.{sym, ◌∙◌, subst, arith}
use Rattle.std.specs.Prelude.{All, Contains, slice_get}
use Rattle.std.proofs.Common.{inl, inr}
use Rattle.std.proofs.lemmas.List.{length-set}
use Rattle.std.proofs.lemmas.List.Elements.{All-nil, All-push, Contains-push_cases}
use Rattle.node_names.specs.Names.{AreDifferent}
use Rattle.node_names.proofs.Different.{at_contains, different_pushed}

-- the names so far are different ones of the names, and no place of one of them is unseen
pub record HasMet (names : List (List ℕ)) (seen : List Bool) (met : List (List ℕ)) : Type 0 where
  pub long : length seen ≡ length names
  pub among : All (Contains names) met
  pub different : AreDifferent met
  pub unseen : (k : ℕ) (name : List ℕ) → slice_get names k ≡ Some name
      → slice_get seen k ≡ Some false → Contains met name → ⊥

pub met_none : (names : List (List ℕ)) (seen : List Bool) → length seen ≡ length names
    → HasMet names seen []
met_none names seen long = record {
  long = long;
  among = All-nil (Contains names);
  different = λ j k name at_j at_k. absurd (let q : None ≡ Some name = at_j in cc);
  unseen = λ k name at false_at (i, lt, e). omega arith;
}

set_before : (xs : List Bool) (i k : ℕ) → slice_get (set xs i true) k ≡ Some false
    → slice_get xs k ≡ Some false
set_before [] i k at = at
set_before (x ∷ xs) zero zero at = absurd (let q : Some true ≡ Some false = at in cc)
set_before (x ∷ xs) zero (suc k) at = at
set_before (x ∷ xs) (suc i) zero at = at
set_before (x ∷ xs) (suc i) (suc k) at = set_before xs i k at

set_there : (xs : List Bool) (i : ℕ) → slice_get (set xs i true) i ≡ Some false → ⊥
set_there [] i at = let q : None ≡ Some false = at in cc
set_there (x ∷ xs) zero at = let q : Some true ≡ Some false = at in cc
set_there (x ∷ xs) (suc i) at = set_there xs i at

pub met_more : (names : List (List ℕ)) (seen : List Bool) (met : List (List ℕ)) (place : ℕ)
    (name : List ℕ) → AreDifferent names → slice_get names place ≡ Some name
    → slice_get seen place ≡ Some false → HasMet names seen met
    → HasMet names (set seen place true) (met ++ name ∷ [])
met_more names seen met place name apart at new h = record {
  long = length-set seen place true ∙ h.long;
  among = All-push (Contains names) met name h.among (at_contains names place name at);
  different = different_pushed met name h.different (h.unseen place name at new);
  unseen = λ k n at_k new_k there. elim (Contains-push_cases met name n there) [
    | inl p ↦ h.unseen k n at_k (set_before seen place k new_k) p
    | inr e ↦
        let here : slice_get names place ≡ Some n = at ∙ ap (λ m. Some m) e in
        let same : place ≡ k = apart place k n here at_k in
        set_there seen place (subst (λ i. slice_get (set seen place true) i ≡ Some false) (sym same) new_k)
  ];
}

pub met_moved : (names : List (List ℕ)) (seen more : List Bool) (met with : List (List ℕ))
    → more ≡ seen → with ≡ met → HasMet names seen met → HasMet names more with
met_moved names seen more met with seen_is met_is h =
    subst (λ (xs : List Bool). HasMet names xs with) (sym seen_is)
    (subst (λ (xs : List (List ℕ)). HasMet names seen xs) (sym met_is) h)
