-- Names of things in a list, as a search for the first one with a name tells them.
use Rattle.std.proofs.Common.{◌≡◌, ℕ, List, ◌++◌, true, false, Option, Some, None, inl, inr, position, refl, ◌∙◌}
use Rattle.std.specs.Prelude.{map, is_some, is_none}
use Rattle.std.specs.Str.{bytes_eq}
use Rattle.spec_core.specs.Declarations.{IsNewName}
use Rattle.spec_core.specs.Sig.{Sig, names_of}
use Rattle.spec_core.specs.Findings.{Clean, First}
use Rattle.spec_core.proofs.Names.{position-map}
use Rattle.spec_grammar.specs.declared.raw.RawBind.{RawBind}
use Rattle.sort_check.specs.GoalTests.{bind_names, bind_tests}
use Rattle.sort_check.specs.declared.faults.SortFault.TheVariants.{Sort}
use Rattle.sort_check.specs.declared.faults.SortKind.TheVariants.{RepeatedName, UnknownName}
use Rattle.sort_check.proofs.Names.{new_not, place_is, no_place, new_in_both, new_in_first}

module _ {A : Type 0} (name : List ℕ) (f : A → List ℕ) (xs : List A) where
  -- if one is found the name isn't new
  pub found_old : (n : ℕ) → position (λ x. bytes_eq name (f x)) xs ≡ Some n → IsNewName name (map f xs) → ⊥
  found_old n e new = new_not name (map f xs) n new (place_is name (map f xs) n (position-map (bytes_eq name) f xs ∙ e))

  -- if none is found it is
  pub unfound_new : position (λ x. bytes_eq name (f x)) xs ≡ None → IsNewName name (map f xs)
  unfound_new e = no_place name (map f xs) (position-map (bytes_eq name) f xs ∙ e)

pub some_is : {A : Type 0} (o : Option A) → is_some o ≡ true → (x : A) × (o ≡ Some x)
some_is None e = absurd (let z : false ≡ true = e in cc)
some_is (Some x) e = (x, refl)

pub none_is : {A : Type 0} (o : Option A) → is_some o ≡ false → o ≡ None
none_is None e = refl
none_is (Some x) e = absurd (let z : true ≡ false = e in cc)

pub absent_is : {A : Type 0} (o : Option A) → is_none o ≡ true → o ≡ None
absent_is None e = refl
absent_is (Some x) e = absurd (let z : false ≡ true = e in cc)

pub present_is : {A : Type 0} (o : Option A) → is_none o ≡ false → (x : A) × (o ≡ Some x)
present_is None e = absurd (let z : true ≡ false = e in cc)
present_is (Some x) e = (x, refl)

-- a binding
module _ (sig : Sig) (before : List RawBind) (raw : RawBind) where
  abbrev pub name : List ℕ
  name = raw.name.name

  abbrev pub bound_at : Option ℕ
  bound_at = position (λ (b : RawBind). bytes_eq name b.name.name) before

  pub symbol_repeated : (f : ℕ) → position (bytes_eq name) (names_of sig) ≡ Some f →
      First (bind_tests sig before raw) (Sort raw.name.at RepeatedName)
  symbol_repeated f e = inl (
    (λ new. new_not name (names_of sig) f (new_in_first name (names_of sig) (bind_names before) new).0
        (place_is name (names_of sig) f e)),
    refl,
  )

  pub bind_repeated : (n : ℕ) → bound_at ≡ Some n → First (bind_tests sig before raw) (Sort raw.name.at RepeatedName)
  bind_repeated n e = inl (
    (λ new. found_old name (λ (b : RawBind). b.name.name) before n e
        (new_in_first name (names_of sig) (bind_names before) new).1),
    refl,
  )

  module _ (other : position (bytes_eq name) (names_of sig) ≡ None) (unbound : bound_at ≡ None) where
    name_new : IsNewName name (names_of sig ++ bind_names before)
    name_new = new_in_both name (names_of sig) (bind_names before) (no_place name (names_of sig) other)
        (unfound_new name (λ (b : RawBind). b.name.name) before unbound)

    pub sort_unknown : position (bytes_eq raw.sort.name) sig.sorts ≡ None →
        First (bind_tests sig before raw) (Sort raw.sort.at UnknownName)
    sort_unknown e = inr ((λ old. old name_new), (no_place raw.sort.name sig.sorts e, refl))

    pub bind_clean : (s : ℕ) → position (bytes_eq raw.sort.name) sig.sorts ≡ Some s → Clean (bind_tests sig before raw)
    bind_clean s e = (
      (λ old. old name_new),
      (λ new. new_not raw.sort.name sig.sorts s new (place_is raw.sort.name sig.sorts s e)),
    )
