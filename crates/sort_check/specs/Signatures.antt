-- The signature that raw declarations stand for.
use Rattle.std.specs.Prelude.{◌≡◌, ℕ, suc, List, [], ◌∷◌, ◌++◌, Some, codes, map, slice_get}
use Rattle.std.specs.List.{AllZip}
use Rattle.term_core.specs.declared.ids.SortId.{SortId}
use Rattle.spec_core.specs.declared.records.SymInfo.{SymInfo}
use Rattle.spec_core.specs.Sig.{Sig}
use Rattle.spec_core.specs.Declarations.{declared_by}
use Rattle.spec_grammar.specs.declared.raw.RawName.{RawName}
use Rattle.spec_grammar.specs.declared.raw.RawNames.{RawNames}
use Rattle.spec_grammar.specs.declared.raw.RawSort.{RawSort}
use Rattle.spec_grammar.specs.declared.raw.RawFun.{RawFun}
use Rattle.spec_grammar.specs.declared.raw.RawSpec.{RawSpec}

-- the names of the declared sorts
abbrev pub sort_names : List RawSort → List (List ℕ)
sort_names sorts = map (λ (s : RawSort). s.head.name) sorts

module _ (sorts : List (List ℕ)) where
  -- the sort has this name
  abbrev pub SortStands : RawName → SortId → Type 0
  SortStands raw s = slice_get sorts s.0 ≡ Some raw.name

  -- a constructor of the sort with this number
  abbrev pub ConstructorStands : ℕ → RawNames → List ℕ × SymInfo → Type 0
  ConstructorStands sort raw e =
      (e.0 ≡ raw.name) × AllZip SortStands raw.args e.1.args × (e.1.result.0 ≡ sort)

  -- the constructors of the sorts, of which the first has this number
  abbrev pub ConstructorsStand : ℕ → List RawSort → List (List ℕ × SymInfo) → Type 0
  ConstructorsStand sort [] es = es ≡ []
  ConstructorsStand sort (raw ∷ raws) es = (own : List (List ℕ × SymInfo))
      × (others : List (List ℕ × SymInfo)) × (es ≡ own ++ others)
      × AllZip (ConstructorStands sort) raw.constructors own
      × ConstructorsStand (suc sort) raws others

  abbrev pub FunctionStands : RawFun → List ℕ × SymInfo → Type 0
  FunctionStands raw e = (e.0 ≡ raw.head.name) × AllZip SortStands raw.head.args e.1.args
      × SortStands raw.result e.1.result

-- the signature is made of the sorts, the constructors and the functions in their order, where the sorts are counted from `Bool`
pub record SignatureStands (raw : RawSpec) (sig : Sig) : Type 0 where
  pub constructors : List (List ℕ × SymInfo)
  pub functions : List (List ℕ × SymInfo)
  pub is : sig ≡ declared_by (sort_names raw.sorts) constructors functions
  pub each_constructor : ConstructorsStand (codes "Bool" ∷ sort_names raw.sorts) 1 raw.sorts
      constructors
  pub each_function : AllZip (FunctionStands (codes "Bool" ∷ sort_names raw.sorts)) raw.funs
      functions
