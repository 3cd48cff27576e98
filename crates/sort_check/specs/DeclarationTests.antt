-- What is tested at the declarations of sorts, constructors and functions, and the signature that they give.
use Rattle.std.specs.Prelude.{ℕ, suc, List, [], ◌∷◌, ◌++◌, codes, map, position, unwrap_or}
use Rattle.std.specs.Str.{bytes_eq}
use Rattle.term_core.specs.declared.ids.SortId.{SortId}
use Rattle.spec_core.specs.declared.records.SymInfo.{SymInfo}
use Rattle.spec_core.specs.Sig.{Sig}
use Rattle.spec_core.specs.Small.{HasSmallValue, sort_of_number}
use Rattle.spec_core.specs.Declarations.{IsNewName, declared_by}
use Rattle.spec_core.specs.Findings.{Search, nothing, test, then, each}
use Rattle.spec_grammar.specs.declared.raw.RawName.{RawName}
use Rattle.spec_grammar.specs.declared.raw.RawNames.{RawNames}
use Rattle.spec_grammar.specs.declared.raw.RawSort.{RawSort}
use Rattle.spec_grammar.specs.declared.raw.RawFun.{RawFun}
use Rattle.spec_grammar.specs.declared.raw.RawSpec.{RawSpec}
use Rattle.sort_check.specs.Signatures.{sort_names}
use Rattle.sort_check.specs.declared.faults.SortFault.{SortFault}
use Rattle.sort_check.specs.declared.faults.SortFault.TheVariants.{Sort}
use Rattle.sort_check.specs.declared.faults.SortKind.TheVariants.{UnknownName, RepeatedName, NoSmallValue}

-- names of sorts, none of which is taken
abbrev pub sorts_tests : List (List ℕ) → List RawSort → Search SortFault
sorts_tests taken [] = nothing
sorts_tests taken (s ∷ ss) = then (test (Sort s.head.at RepeatedName)
    (¬ (IsNewName s.head.name taken))) (sorts_tests (taken ++ s.head.name ∷ []) ss)

module _ (sorts : List (List ℕ)) where
  -- a sort that is named has to be declared
  abbrev pub sort_test : RawName → Search SortFault
  sort_test n = test (Sort n.at UnknownName) (IsNewName n.name sorts)

  -- a symbol: its name, and then the sorts of its arguments
  abbrev pub symbol_tests : List (List ℕ) → RawNames → Search SortFault
  symbol_tests taken c = then (test (Sort c.at RepeatedName) (¬ (IsNewName c.name taken)))
      (each sort_test c.args)

  abbrev pub constructors_tests : List (List ℕ) → List RawNames → Search SortFault
  constructors_tests taken [] = nothing
  constructors_tests taken (c ∷ cs) =
      then (symbol_tests taken c) (constructors_tests (taken ++ c.name ∷ []) cs)

  -- the constructors of all sorts
  abbrev pub all_constructors_tests : List (List ℕ) → List RawSort → Search SortFault
  all_constructors_tests taken [] = nothing
  all_constructors_tests taken (s ∷ ss) =
      then (constructors_tests taken s.constructors)
      (all_constructors_tests (taken ++ map (λ (c : RawNames). c.name) s.constructors) ss)

  abbrev pub functions_tests : List (List ℕ) → List RawFun → Search SortFault
  functions_tests taken [] = nothing
  functions_tests taken (f ∷ fs) = then (then (symbol_tests taken f.head) (sort_test f.result))
      (functions_tests (taken ++ f.head.name ∷ []) fs)

-- each sort, of which the first has this number, has a value of at most 255 symbols
abbrev pub small_tests : Sig → ℕ → List RawSort → Search SortFault
small_tests sig n [] = nothing
small_tests sig n (s ∷ ss) = then (test (Sort s.head.at NoSmallValue)
    (¬ (HasSmallValue sig (sort_of_number n)))) (small_tests sig (suc n) ss)

-- The signature that declarations give. If a sort isn't declared its number is that of `Bool`, which matters nowhere,
-- since the test of its name finds it.
module _ (sorts : List (List ℕ)) where
  abbrev pub sort_number : RawName → SortId
  sort_number n = record { 0 = unwrap_or (position (bytes_eq n.name) sorts) 0 }

  abbrev pub constructor_of : ℕ → RawNames → List ℕ × SymInfo
  constructor_of n c = (c.name, record { args = map sort_number c.args; result = record { 0 = n } })

  -- the constructors of sorts, of which the first has this number
  abbrev pub constructors_of : ℕ → List RawSort → List (List ℕ × SymInfo)
  constructors_of n [] = []
  constructors_of n (s ∷ ss) = map (constructor_of n) s.constructors ++ constructors_of (suc n) ss

  abbrev pub function_of : RawFun → List ℕ × SymInfo
  function_of f =
      (f.head.name, record { args = map sort_number f.head.args; result = sort_number f.result })

-- the names of all sorts
abbrev pub all_sorts : RawSpec → List (List ℕ)
all_sorts raw = codes "Bool" ∷ sort_names raw.sorts

abbrev pub all_constructors : RawSpec → List (List ℕ × SymInfo)
all_constructors raw = constructors_of (all_sorts raw) 1 raw.sorts

-- the signature of the sorts and constructors alone
abbrev pub values_sig : RawSpec → Sig
values_sig raw = declared_by (sort_names raw.sorts) (all_constructors raw) []

abbrev pub sig_of : RawSpec → Sig
sig_of raw = declared_by (sort_names raw.sorts) (all_constructors raw)
    (map (function_of (all_sorts raw)) raw.funs)

abbrev pub boolean_names : List (List ℕ)
boolean_names = codes "true" ∷ codes "false" ∷ []

-- the names of the constructors, with those of `Bool`
abbrev pub constructor_names : RawSpec → List (List ℕ)
constructor_names raw = boolean_names ++ map (λ (e : List ℕ × SymInfo). e.0) (all_constructors raw)

-- the declarations: names of sorts, constructors, small values, functions
abbrev pub declarations_tests : RawSpec → Search SortFault
declarations_tests raw = then (sorts_tests (codes "Bool" ∷ []) raw.sorts)
    (then (all_constructors_tests (all_sorts raw) boolean_names raw.sorts)
    (then (small_tests (values_sig raw) 1 raw.sorts)
    (functions_tests (all_sorts raw) (constructor_names raw) raw.funs)))
