-- The place of a name in a list of names.
use Rattle.std.proofs.Common.{◌≡◌, ℕ, zero, suc, ◌+◌, ◌<◌, ◌≤◌, List, [], ◌∷◌, Bool, true, false, not, cond, Option}
use Rattle.std.proofs.Common.{Some, None, nat_lt, length, get_or, position, ap, sym, ◌∙◌, arith}
use Rattle.std.specs.Prelude.{MatchOption, slice_get, option_map}
use Rattle.std.specs.List.{prefix_len}
use Rattle.std.specs.Str.{bytes_eq}
use Rattle.std.proofs.lemmas.Bool.Decides.{nat_tests}
use Rattle.std.proofs.lemmas.List.Quantifiers.{position-Some}
use Rattle.std.proofs.lemmas.Option.{slice_get-get_or}
use Rattle.std.proofs.lemmas.Slice.Eq.{bytes_eq-Decides}
use Rattle.term_core.specs.declared.ids.SymId.{SymId}

module _ (name : List ℕ) where
  place_is : (names : List (List ℕ)) (i : ℕ) → position (bytes_eq name) names ≡ Some i → slice_get names i ≡ Some name
  place_is names i e =
      let h = position-Some (bytes_eq name) names i [] e in
      slice_get-get_or names i [] h.0 ∙ ap (λ n. Some n) (sym ((bytes_eq-Decides name (get_or names i [])).0 h.1))

  within : (names : List (List ℕ)) (i : ℕ) → slice_get names i ≡ Some name →
      prefix_len (λ n. not (bytes_eq name n)) names < length names
  within [] i at = absurd (let q : None ≡ Some name = at in cc)
  within (n ∷ ns) zero at =
      let q : Some n ≡ Some name = at in
      let same : name ≡ n = cc in
      by (bytes_eq name n) ((bytes_eq-Decides name n).1 same)
    where
      by : (b : Bool) → b ≡ true → cond (not b) (1 + prefix_len (λ m. not (bytes_eq name m)) ns) 0 < suc (length ns)
      by true t = omega arith
      by false t = absurd (let q : false ≡ true = t in cc)
  within (n ∷ ns) (suc i) at = by (within ns i at) (bytes_eq name n)
    where
      by : prefix_len (λ m. not (bytes_eq name m)) ns < length ns → (b : Bool) →
          cond (not b) (1 + prefix_len (λ m. not (bytes_eq name m)) ns) 0 < suc (length ns)
      by lt true = omega arith
      by lt false = omega (arith, lt)

  past_all : (m n : ℕ) → cond (nat_lt m n) (Some m) None ≡ None → n ≤ m
  past_all m n e = grind (arith, nat_tests)

  no_place : (names : List (List ℕ)) → position (bytes_eq name) names ≡ None → (i : ℕ) →
      slice_get names i ≡ Some name → ⊥
  no_place names e = λ i at. omega (
    arith,
    past_all (prefix_len (λ n. not (bytes_eq name n)) names) (length names) e,
    within names i at,
  )

-- what a search by name finds
pub symbol_found : (name : List ℕ) (names : List (List ℕ)) (r : Option SymId) →
    option_map (λ (f : SymId). f.0) r ≡ position (bytes_eq name) names →
    MatchOption r ((i : ℕ) → slice_get names i ≡ Some name → ⊥) (λ (f : SymId). slice_get names f.0 ≡ Some name)
symbol_found name names None is = no_place name names (sym is)
symbol_found name names (Some f) is = place_is name names f.0 (sym is)
