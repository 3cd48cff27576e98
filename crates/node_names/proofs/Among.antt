-- Whether a name is among names.
use Rattle.std.proofs.Common.{◌≡◌, ◌≤◌, ◌<◌, ◌+◌, ℕ, zero, suc, List, [], ◌∷◌, Bool, true, false, not, cond, Option}
use Rattle.std.proofs.Common.{Some, None}
use Rattle.std.proofs.Common.{IsTrue, position, get_or, length, refl, ap, sym, ◌∙◌, subst, arith}
use Rattle.std.specs.Prelude.{◌↔◌, Contains, is_some, nat_lt, option_map}
use Rattle.std.specs.List.{AllByRecursion, prefix_len}
use Rattle.std.specs.Str.{bytes_eq}
use Rattle.std.proofs.lemmas.Bool.Decides.{nat_tests}
use Rattle.std.proofs.lemmas.List.Quantifiers.{position-Some}
use Rattle.std.proofs.lemmas.List.Elements.{All-contains, All-from_recursion}
use Rattle.std.proofs.lemmas.Slice.Eq.{bytes_eq-Decides}
use Rattle.term_core.specs.declared.ids.SymId.{SymId}

module _ (name : List ℕ) where
  abbrev is_other : List ℕ → Bool
  is_other n = not (bytes_eq name n)

  -- the first place of a name that is there is before the end
  before_end : (names : List (List ℕ)) (k : ℕ) → k < length names → get_or names k name ≡ name
      → prefix_len is_other names < length names
  before_end [] k lt e = absurd (omega arith)
  before_end (n ∷ ns) zero lt e = by (bytes_eq name n) ((bytes_eq-Decides name n).1 (sym e))
    where
      by : (b : Bool) → b ≡ true → cond (not b) (1 + prefix_len is_other ns) 0 < suc (length ns)
      by true t = omega arith
      by false t = absurd (let q : false ≡ true = t in cc)
  before_end (n ∷ ns) (suc k) lt e =
      by (bytes_eq name n) (before_end ns k (omega arith) e)
    where
      by : (b : Bool) → prefix_len is_other ns < length ns
          → cond (not b) (1 + prefix_len is_other ns) 0 < suc (length ns)
      by true h = omega arith
      by false h = omega arith

  found : (names : List (List ℕ)) (o : Option ℕ) → position (bytes_eq name) names ≡ o
      → IsTrue (is_some o) → Contains names name
  found names None is t = absurd (let q : false ≡ true = t in cc)
  found names (Some i) is t =
      let h = position-Some (bytes_eq name) names i name is in
      (i, h.0, sym ((bytes_eq-Decides name (get_or names i name)).0 h.1))

  some_before : (m n : ℕ) → m < n → is_some (cond (nat_lt m n) (Some m) None) ≡ true
  some_before m n h = grind (arith, nat_tests)

  place_decides : (names : List (List ℕ)) → IsTrue (is_some (position (bytes_eq name) names))
      ↔ Contains names name
  place_decides names = (
    found names (position (bytes_eq name) names) refl,
    λ (k, lt, e). some_before _ _ (before_end names k lt e),
  )

-- the same of a place that is given by a symbol
some_mapped : {A B : Type 0} (f : A → B) (o : Option A) → is_some o ≡ is_some (option_map f o)
some_mapped f None = refl
some_mapped f (Some x) = refl

pub is_place : (name : List ℕ) (names : List (List ℕ)) (b : Bool) (o : Option ℕ)
    → b ≡ is_some o → o ≡ position (bytes_eq name) names → IsTrue b ↔ Contains names name
is_place name names b o is at =
    subst (λ (r : Bool). IsTrue r ↔ Contains names name)
    (sym (is ∙ ap (λ (p : Option ℕ). is_some p) at)) (place_decides name names)

pub is_symbol_place : (name : List ℕ) (names : List (List ℕ)) (b : Bool) (o : Option SymId)
    → b ≡ is_some o → option_map (λ (f : SymId). f.0) o ≡ position (bytes_eq name) names
    → IsTrue b ↔ Contains names name
is_symbol_place name names b o is at =
    is_place name names b (option_map (λ (f : SymId). f.0) o)
    (is ∙ some_mapped (λ (f : SymId). f.0) o) at

-- a name that is longer than each of the names is none of them
pub longer_absent : (most : ℕ) (names : List (List ℕ)) (name : List ℕ)
    → AllByRecursion (λ (n : List ℕ). length n ≤ most) names → most < length name
    → Contains names name → ⊥
longer_absent most names name within long there =
    let all = All-from_recursion (λ (n : List ℕ). length n ≤ most) names within in
    let h : length name ≤ most = All-contains (λ (n : List ℕ). length n ≤ most) names name all there in
    omega arith
