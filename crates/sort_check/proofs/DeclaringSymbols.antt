-- What is kept of the symbols that are declared: how many arguments each has, and that their sorts are in range.
use Rattle.std.proofs.Common.{◌≡◌, ℕ, zero, suc, List, [], ◌∷◌, ◌++◌, Some, None, sym, subst, length}
use Rattle.std.specs.Prelude.{slice_get, option_map, map}
use Rattle.std.specs.List.{AllByRecursion}
use Rattle.std.proofs.lemmas.List.{length-map}
use Rattle.spec_core.specs.declared.records.SymInfo.{SymInfo}
use Rattle.spec_core.specs.Sig.{info_of, SortsAreInRange}
use Rattle.spec_core.specs.Declarations.{all_symbols, bool_symbols}
use Rattle.spec_core.specs.Findings.{Clean}
use Rattle.spec_core.proofs.Ranges.{declared_in_range}
use Rattle.spec_grammar.specs.declared.raw.RawNames.{RawNames}
use Rattle.spec_grammar.specs.declared.raw.RawSort.{RawSort}
use Rattle.spec_grammar.specs.declared.raw.RawFun.{RawFun}
use Rattle.spec_grammar.specs.declared.raw.RawSpec.{RawSpec}
use Rattle.sort_check.specs.Signatures.{sort_names}
use Rattle.sort_check.specs.DeclarationTests.{declarations_tests, sort_number, constructor_of, constructors_of}
use Rattle.sort_check.specs.DeclarationTests.{function_of, all_sorts, all_constructors, sig_of}
use Rattle.sort_check.proofs.DeclaringTests.{constructors_in_range, functions_in_range}
use Rattle.term_core.proofs.Items.{all_append}

pub sig_in_range : (raw : RawSpec) → Clean (declarations_tests raw) → SortsAreInRange (sig_of raw)
sig_in_range raw clean = declared_in_range (sort_names raw.sorts) (all_constructors raw)
    (map (function_of (all_sorts raw)) raw.funs) (constructors_in_range raw clean.0 clean.1.0)
    (functions_in_range raw clean.0 clean.1.0 clean.1.1.1)

-- what holds of the number of arguments of each symbol as it is declared holds of that of each symbol
module _ (P : ℕ → Type 0) where
  abbrev Has : List ℕ × SymInfo → Type 0
  Has e = P (length e.1.args)

  entry_has : (es : List (List ℕ × SymInfo)) (f : ℕ) (i : SymInfo) → AllByRecursion Has es →
      option_map (λ (e : List ℕ × SymInfo). e.1) (slice_get es f) ≡ Some i → P (length i.args)
  entry_has [] f i all at = absurd (let q : None ≡ Some i = at in cc)
  entry_has (e ∷ es) zero i all at =
      let q : Some e.1 ≡ Some i = at in
      let k : e.1 ≡ i = cc in
      subst (λ (j : SymInfo). P (length j.args)) k all.0
  entry_has (e ∷ es) (suc f) i all at = entry_has es f i all.1 at

  module _ (sorts : List (List ℕ)) where
    constructors_have : (n : ℕ) (cs : List RawNames) → AllByRecursion (λ (c : RawNames). P (length c.args)) cs →
        AllByRecursion Has (map (constructor_of sorts n) cs)
    constructors_have n [] all = tt
    constructors_have n (c ∷ cs) all = (
      subst P (sym (length-map c.args (sort_number sorts))) all.0,
      constructors_have n cs all.1,
    )

    all_have : (n : ℕ) (ss : List RawSort) →
        AllByRecursion (λ (s : RawSort). AllByRecursion (λ (c : RawNames). P (length c.args)) s.constructors)
        ss → AllByRecursion Has (constructors_of sorts n ss)
    all_have n [] all = tt
    all_have n (s ∷ ss) all = all_append Has (map (constructor_of sorts n) s.constructors)
        (constructors_of sorts (suc n) ss) (constructors_have n s.constructors all.0) (all_have (suc n) ss all.1)

    functions_have : (fs : List RawFun) → AllByRecursion (λ (f : RawFun). P (length f.head.args)) fs →
        AllByRecursion Has (map (function_of sorts) fs)
    functions_have [] all = tt
    functions_have (f ∷ fs) all = (
      subst P (sym (length-map f.head.args (sort_number sorts))) all.0,
      functions_have fs all.1,
    )

  pub arguments_kept : (raw : RawSpec) → P 0 →
      AllByRecursion (λ (s : RawSort). AllByRecursion (λ (c : RawNames). P (length c.args)) s.constructors)
      raw.sorts → AllByRecursion (λ (f : RawFun). P (length f.head.args)) raw.funs → (f : ℕ) (i : SymInfo) →
      info_of (sig_of raw) f ≡ Some i → P (length i.args)
  arguments_kept raw none constructors functions f i at =
      let cs = all_constructors raw in
      let fs = map (function_of (all_sorts raw)) raw.funs in
      entry_has (all_symbols cs fs) f i (all_append Has bool_symbols (cs ++ fs) (
        none,
        (none, tt),
      ) (all_append Has cs fs (all_have (all_sorts raw) 1 raw.sorts constructors)
      (functions_have (all_sorts raw) raw.funs functions))) at
