-- Values with the names of their variables: the names and the values again.
use Rattle.std.proofs.Common.{◌≡◌, ◌≤◌, List, [], ◌∷◌, ◌⊎◌, inl, inr, refl, ap, length, arith}
use Rattle.std.specs.Prelude.{map}
use Rattle.term_core.specs.Tree.{Tree}
use Rattle.spec_core.specs.declared.records.Spec.{Spec}
use Rattle.spec_core.specs.declared.records.VarInfo.{VarInfo}
use Rattle.spec_core.specs.TermText.{variable_names}
use Rattle.spec_core.specs.Truth.{AreValuesOf}
use Rattle.spec_core.specs.WellSorted.{sorts_of}
use Rattle.search_claims.specs.Claims.{named}

-- no value is left to be named
pub named_end : (vars : List VarInfo) (values : List Tree) → (vars ≡ []) ⊎ (values ≡ []) → named vars values ≡ []
named_end vars values (inl e) = ap (λ xs. named xs values) e
named_end [] values (inr e) = refl
named_end (v ∷ vars) values (inr e) = ap (λ xs. named (v ∷ vars) xs) e

pub named_few : (vars : List VarInfo) (values : List Tree) → length (named vars values) ≤ length vars
named_few [] values = omega arith
named_few (v ∷ vars) [] = omega arith
named_few (v ∷ vars) (t ∷ values) = omega (arith, named_few vars values)

module _ (spec : Spec) where
  -- the names are those of the variables
  pub names_named : (vars : List VarInfo) (values : List Tree) → AreValuesOf spec (sorts_of vars) values →
      map (λ v. v.0) (named vars values) ≡ variable_names vars
  names_named [] [] h = refl
  names_named [] (t ∷ values) h = absurd h
  names_named (v ∷ vars) [] h = absurd h
  names_named (v ∷ vars) (t ∷ values) h = ap (λ ns. v.name ∷ ns) (names_named vars values h.1)

  -- and the values stay
  pub values_named : (vars : List VarInfo) (values : List Tree) → AreValuesOf spec (sorts_of vars) values →
      map (λ v. v.1) (named vars values) ≡ values
  values_named [] [] h = refl
  values_named [] (t ∷ values) h = absurd h
  values_named (v ∷ vars) [] h = absurd h
  values_named (v ∷ vars) (t ∷ values) h = ap (λ ts. t ∷ ts) (values_named vars values h.1)
