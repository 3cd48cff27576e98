-- What holds of declarations in which no test finds a fault.
use Rattle.std.proofs.Common.{◌≡◌, ℕ, suc, ◌+◌, ◌<◌, ◌≤◌, ◌^◌, List, [], ◌∷◌, ◌++◌, Option, None, Some, refl, ap, sym}
use Rattle.std.proofs.Common.{◌∙◌, subst, arith, length, position, append_assoc, length-append}
use Rattle.std.specs.Prelude.{slice_get, map, unwrap_or, codes}
use Rattle.std.specs.List.{AllByRecursion, flat_map, AllZip}
use Rattle.std.specs.Str.{bytes_eq}
use Rattle.std.proofs.lemmas.List.{append-nil, map-append, length-map}
use Rattle.std.proofs.lemmas.Option.{slice_get_within}
use Rattle.term_core.specs.declared.ids.SortId.{SortId}
use Rattle.spec_core.specs.declared.records.SymInfo.{SymInfo}
use Rattle.spec_core.specs.Declarations.{IsNew, AreFresh, IsNewName, AreNewNames, AreDistinct, IsBelow, IsNotBool}
use Rattle.spec_core.specs.Declarations.{all_symbols}
use Rattle.spec_core.specs.Findings.{each, Clean}
use Rattle.spec_grammar.specs.declared.raw.RawName.{RawName}
use Rattle.spec_grammar.specs.declared.raw.RawNames.{RawNames}
use Rattle.spec_grammar.specs.declared.raw.RawSort.{RawSort}
use Rattle.spec_grammar.specs.declared.raw.RawFun.{RawFun}
use Rattle.spec_grammar.specs.declared.raw.RawSpec.{RawSpec}
use Rattle.sort_check.specs.Counted.{HasFewDeclarations}
use Rattle.sort_check.specs.Signatures.{sort_names, SortStands, ConstructorStands, ConstructorsStand, FunctionStands}
use Rattle.sort_check.specs.Signatures.{SignatureStands}
use Rattle.sort_check.specs.DeclarationTests.{sorts_tests, sort_test, constructors_tests, all_constructors_tests}
use Rattle.sort_check.specs.DeclarationTests.{functions_tests, sort_number, constructor_of, constructors_of}
use Rattle.sort_check.specs.DeclarationTests.{function_of, all_sorts, all_constructors, boolean_names}
use Rattle.sort_check.specs.DeclarationTests.{constructor_names, sig_of}
use Rattle.sort_check.proofs.Names.{new_not, place_is, no_place}
use Rattle.sort_check.proofs.DeclaringLoops.{names_in}
use Rattle.term_core.proofs.Items.{all_append}

-- a name that can't be one of the names is new
pub new_indeed : (name : List ℕ) (names : List (List ℕ)) → ((IsNewName name names → ⊥) → ⊥) → IsNewName name names
new_indeed name names h = by (position (bytes_eq name) names) refl
  where
    by : (o : Option ℕ) → position (bytes_eq name) names ≡ o → IsNewName name names
    by None e = no_place name names e
    by (Some i) e = absurd (h (λ new. new_not name names i new (place_is name names i e)))

pub new_names_whole : (seen xs ys : List (List ℕ)) → AreNewNames seen xs → AreNewNames (seen ++ xs) ys →
    AreNewNames seen (xs ++ ys)
new_names_whole seen [] ys a b = subst (λ s. AreNewNames s ys) (append-nil seen) b
new_names_whole seen (x ∷ xs) ys a b = (
  a.0,
  new_names_whole (seen ++ x ∷ []) xs ys a.1 (subst (λ s. AreNewNames s ys) (sym (append_assoc seen (x ∷ []) xs)) b),
)

pub sorts_new : (taken : List (List ℕ)) (ss : List RawSort) → Clean (sorts_tests taken ss) →
    AreNewNames taken (sort_names ss)
sorts_new taken [] c = tt
sorts_new taken (s ∷ ss) c = (new_indeed s.head.name taken c.0, sorts_new (taken ++ s.head.name ∷ []) ss c.1)

module _ (sorts : List (List ℕ)) where
  -- a sort that is named
  pub sort_stands : (n : RawName) → Clean (sort_test sorts n) → SortStands sorts n (sort_number sorts n)
  sort_stands n c = by (position (bytes_eq n.name) sorts) refl
    where
      by : (o : Option ℕ) → position (bytes_eq n.name) sorts ≡ o → slice_get sorts (unwrap_or o 0) ≡ Some n.name
      by None e = absurd (c (no_place n.name sorts e))
      by (Some i) e = place_is n.name sorts i e

  pub sort_within : (n : RawName) → Clean (sort_test sorts n) → (sort_number sorts n).0 < length sorts
  sort_within n c = slice_get_within sorts (sort_number sorts n).0 n.name (sort_stands n c)

  pub args_stand : (ns : List RawName) → Clean (each (sort_test sorts) ns) →
      AllZip (SortStands sorts) ns (map (sort_number sorts) ns)
  args_stand [] c = tt
  args_stand (n ∷ ns) c = (sort_stands n c.0, args_stand ns c.1)

  pub args_within : (ns : List RawName) → Clean (each (sort_test sorts) ns) →
      AllByRecursion (λ (s : SortId). s.0 < length sorts) (map (sort_number sorts) ns)
  args_within [] c = tt
  args_within (n ∷ ns) c = (sort_within n c.0, args_within ns c.1)

  -- the constructors of one sort
  constructors_stand : (taken : List (List ℕ)) (n : ℕ) (cs : List RawNames) →
      Clean (constructors_tests sorts taken cs) →
      AllZip (ConstructorStands sorts n) cs (map (constructor_of sorts n) cs)
  constructors_stand taken n [] h = tt
  constructors_stand taken n (c ∷ cs) h = (
    (refl, args_stand c.args h.0.1, refl),
    constructors_stand (taken ++ c.name ∷ []) n cs h.1,
  )

  constructors_below : (taken : List (List ℕ)) (n : ℕ) (cs : List RawNames) → n < length sorts →
      Clean (constructors_tests sorts taken cs) →
      AllByRecursion (IsBelow (length sorts)) (map (constructor_of sorts n) cs)
  constructors_below taken n [] lt h = tt
  constructors_below taken n (c ∷ cs) lt h = (
    (lt, args_within c.args h.0.1),
    constructors_below (taken ++ c.name ∷ []) n cs lt h.1,
  )

  constructors_not_bool : (n : ℕ) (cs : List RawNames) → 0 < n →
      AllByRecursion IsNotBool (map (constructor_of sorts n) cs)
  constructors_not_bool n [] lt = tt
  constructors_not_bool n (c ∷ cs) lt = (λ e. absurd (omega arith), constructors_not_bool n cs lt)

  constructors_names : (n : ℕ) (cs : List RawNames) →
      map (λ (e : List ℕ × SymInfo). e.0) (map (constructor_of sorts n) cs) ≡ map (λ (c : RawNames). c.name) cs
  constructors_names n [] = refl
  constructors_names n (c ∷ cs) = ap (λ ns. c.name ∷ ns) (constructors_names n cs)

  constructors_new : (taken : List (List ℕ)) (cs : List RawNames) → Clean (constructors_tests sorts taken cs) →
      AreNewNames taken (map (λ (c : RawNames). c.name) cs)
  constructors_new taken [] h = tt
  constructors_new taken (c ∷ cs) h = (new_indeed c.name taken h.0.0, constructors_new (taken ++ c.name ∷ []) cs h.1)

  -- the constructors of all sorts
  pub all_stand : (taken : List (List ℕ)) (n : ℕ) (ss : List RawSort) →
      Clean (all_constructors_tests sorts taken ss) → ConstructorsStand sorts n ss (constructors_of sorts n ss)
  all_stand taken n [] h = refl
  all_stand taken n (s ∷ ss) h = (
    map (constructor_of sorts n) s.constructors,
    constructors_of sorts (suc n) ss,
    refl,
    constructors_stand taken n s.constructors h.0,
    all_stand (taken ++ map (λ (c : RawNames). c.name) s.constructors) (suc n) ss h.1,
  )

  pub all_below : (taken : List (List ℕ)) (n : ℕ) (ss : List RawSort) → n + length ss ≤ length sorts →
      Clean (all_constructors_tests sorts taken ss) →
      AllByRecursion (IsBelow (length sorts)) (constructors_of sorts n ss)
  all_below taken n [] le h = tt
  all_below taken n (s ∷ ss) le h = all_append (IsBelow (length sorts))
      (map (constructor_of sorts n) s.constructors) (constructors_of sorts (suc n) ss)
      (constructors_below taken n s.constructors (omega arith) h.0)
      (all_below (taken ++ map (λ (c : RawNames). c.name) s.constructors) (suc n) ss (omega arith) h.1)

  pub all_not_bool : (n : ℕ) (ss : List RawSort) → 0 < n → AllByRecursion IsNotBool (constructors_of sorts n ss)
  all_not_bool n [] lt = tt
  all_not_bool n (s ∷ ss) lt = all_append IsNotBool (map (constructor_of sorts n) s.constructors)
      (constructors_of sorts (suc n) ss) (constructors_not_bool n s.constructors lt)
      (all_not_bool (suc n) ss (omega arith))

  pub all_names : (n : ℕ) (ss : List RawSort) →
      map (λ (e : List ℕ × SymInfo). e.0) (constructors_of sorts n ss) ≡ names_in ss
  all_names n [] = refl
  all_names n (s ∷ ss) =
      let a = constructors_names n s.constructors in
      let b = all_names (suc n) ss in
      map-append (λ (e : List ℕ × SymInfo). e.0) (map (constructor_of sorts n) s.constructors)
      (constructors_of sorts (suc n) ss) ∙ (λ i. a i ++ b i)

  pub all_new : (taken : List (List ℕ)) (ss : List RawSort) → Clean (all_constructors_tests sorts taken ss) →
      AreNewNames taken (names_in ss)
  all_new taken [] h = tt
  all_new taken (s ∷ ss) h = new_names_whole taken (map (λ (c : RawNames). c.name) s.constructors) (names_in ss)
      (constructors_new taken s.constructors h.0)
      (all_new (taken ++ map (λ (c : RawNames). c.name) s.constructors) ss h.1)

  pub all_count : (n : ℕ) (ss : List RawSort) →
      length (constructors_of sorts n ss) ≡ length (flat_map (λ (s : RawSort). s.constructors) ss)
  all_count n [] = refl
  all_count n (s ∷ ss) =
      let a = length-append (map (constructor_of sorts n) s.constructors) (constructors_of sorts (suc n) ss) in
      let b = length-append s.constructors (flat_map (λ (s : RawSort). s.constructors) ss) in
      let c = length-map s.constructors (constructor_of sorts n) in
      omega (arith, all_count (suc n) ss)

  -- the functions
  pub functions_stand : (taken : List (List ℕ)) (fs : List RawFun) → Clean (functions_tests sorts taken fs) →
      AllZip (FunctionStands sorts) fs (map (function_of sorts) fs)
  functions_stand taken [] h = tt
  functions_stand taken (f ∷ fs) h = (
    (refl, args_stand f.head.args h.0.0.1, sort_stands f.result h.0.1),
    functions_stand (taken ++ f.head.name ∷ []) fs h.1,
  )

  pub functions_below : (taken : List (List ℕ)) (fs : List RawFun) → Clean (functions_tests sorts taken fs) →
      AllByRecursion (IsBelow (length sorts)) (map (function_of sorts) fs)
  functions_below taken [] h = tt
  functions_below taken (f ∷ fs) h = (
    (sort_within f.result h.0.1, args_within f.head.args h.0.0.1),
    functions_below (taken ++ f.head.name ∷ []) fs h.1,
  )

  functions_names : (fs : List RawFun) → map (λ (e : List ℕ × SymInfo). e.0) (map (function_of sorts) fs) ≡ map
      (λ (f : RawFun). f.head.name) fs
  functions_names [] = refl
  functions_names (f ∷ fs) = ap (λ ns. f.head.name ∷ ns) (functions_names fs)

  functions_new : (taken : List (List ℕ)) (fs : List RawFun) → Clean (functions_tests sorts taken fs) →
      AreNewNames taken (map (λ (f : RawFun). f.head.name) fs)
  functions_new taken [] h = tt
  functions_new taken (f ∷ fs) h = (
    new_indeed f.head.name taken h.0.0.0,
    functions_new (taken ++ f.head.name ∷ []) fs h.1,
  )

-- names of symbols that are new make a table of which each is fresh
new_symbol : (name : List ℕ) (es : List (List ℕ × SymInfo)) →
    IsNewName name (map (λ (e : List ℕ × SymInfo). e.0) es) → IsNew name es
new_symbol name [] new = tt
new_symbol name (e ∷ es) new = (new.0, new_symbol name es new.1)

fresh_symbols : (seen es : List (List ℕ × SymInfo)) →
    AreNewNames (map (λ (e : List ℕ × SymInfo). e.0) seen) (map (λ (e : List ℕ × SymInfo). e.0) es) → AreFresh seen es
fresh_symbols seen [] all = tt
fresh_symbols seen (e ∷ es) all = (
  new_symbol e.0 seen all.0,
  fresh_symbols (seen ++ e ∷ []) es (subst (λ ns. AreNewNames ns (map (λ (e : List ℕ × SymInfo). e.0) es))
      (sym (map-append (λ (e : List ℕ × SymInfo). e.0) seen (e ∷ []))) all.1),
)

two_booleans : codes "false" ≡ codes "true" → ⊥
two_booleans e = let n : ◌≡◌ {A = ℕ} 5 4 = ap (λ (xs : List ℕ). length xs) e in omega arith

fresh_table : (cs fs : List (List ℕ × SymInfo)) →
    AreNewNames boolean_names (map (λ (e : List ℕ × SymInfo). e.0) cs
    ++ map (λ (e : List ℕ × SymInfo). e.0) fs) → AreFresh [] (all_symbols cs fs)
fresh_table cs fs all = fresh_symbols [] (all_symbols cs fs) (
  tt,
  (
    (two_booleans, tt),
    subst (λ ns. AreNewNames boolean_names ns)
        (sym (map-append (λ (e : List ℕ × SymInfo). e.0) cs fs)) all,
  ),
)

module _ (raw : RawSpec) (sorts : Clean (sorts_tests (codes "Bool" ∷ []) raw.sorts))
    (symbols : Clean (all_constructors_tests (all_sorts raw) boolean_names raw.sorts)) where
  all_sorts_count : length (all_sorts raw) ≡ 1 + length (sort_names raw.sorts)
  all_sorts_count = omega arith

  sorts_distinct : AreNewNames [] (all_sorts raw)
  sorts_distinct = (tt, sorts_new (codes "Bool" ∷ []) raw.sorts sorts)

  constructors_distinct : AreNewNames boolean_names (map (λ (e : List ℕ × SymInfo). e.0) (all_constructors raw))
  constructors_distinct = subst (λ ns. AreNewNames boolean_names ns)
      (sym (all_names (all_sorts raw) 1 raw.sorts)) (all_new (all_sorts raw) boolean_names raw.sorts symbols)

  -- the names of sorts and constructors are distinct
  pub values_distinct : AreDistinct (sort_names raw.sorts) (all_constructors raw) []
  values_distinct = (
    sorts_distinct,
    fresh_table (all_constructors raw) []
        (subst (λ ns. AreNewNames boolean_names ns)
        (sym (append-nil (map (λ (e : List ℕ × SymInfo). e.0) (all_constructors raw)))) constructors_distinct),
  )

  pub constructors_in_range : AllByRecursion (IsBelow (1 + length (sort_names raw.sorts))) (all_constructors raw)
  constructors_in_range =
      let le : 1 + length raw.sorts ≤ length (all_sorts raw) = omega (
        arith,
        length-map raw.sorts (λ (s : RawSort). s.head.name),
      ) in
      subst (λ n. AllByRecursion (IsBelow n) (all_constructors raw)) all_sorts_count
      (all_below (all_sorts raw) boolean_names 1 raw.sorts le symbols)

  module _ (functions : Clean (functions_tests (all_sorts raw) (constructor_names raw) raw.funs)) where
    -- and so are those of all symbols
    pub all_distinct : AreDistinct (sort_names raw.sorts) (all_constructors raw)
        (map (function_of (all_sorts raw)) raw.funs)
    all_distinct =
        let own = subst (λ ns. AreNewNames (constructor_names raw) ns)
        (sym (functions_names (all_sorts raw) raw.funs))
        (functions_new (all_sorts raw) (constructor_names raw) raw.funs functions) in (
          sorts_distinct,
          fresh_table (all_constructors raw) (map (function_of (all_sorts raw)) raw.funs)
              (new_names_whole boolean_names (map (λ (e : List ℕ × SymInfo). e.0) (all_constructors raw))
              (map (λ (e : List ℕ × SymInfo). e.0) (map (function_of (all_sorts raw)) raw.funs))
              constructors_distinct own),
        )

    pub functions_in_range : AllByRecursion (IsBelow (1 + length (sort_names raw.sorts)))
        (map (function_of (all_sorts raw)) raw.funs)
    functions_in_range = subst (λ n. AllByRecursion (IsBelow n) (map (function_of (all_sorts raw)) raw.funs))
        all_sorts_count (functions_below (all_sorts raw) (constructor_names raw) raw.funs functions)

    pub sig_stands : SignatureStands raw (sig_of raw)
    sig_stands = record {
      constructors = all_constructors raw;
      functions = map (function_of (all_sorts raw)) raw.funs;
      is = refl;
      each_constructor = all_stand (all_sorts raw) boolean_names 1 raw.sorts symbols;
      each_function = functions_stand (all_sorts raw) (constructor_names raw) raw.funs functions;
    }

-- the numbers of sorts and symbols fit 32 bits
pub few_sorts : (raw : RawSpec) → HasFewDeclarations raw → length (sort_names raw.sorts) + 1 < 2 ^ 32
few_sorts raw few = omega (arith, length-map raw.sorts (λ (s : RawSort). s.head.name))

pub few_symbols : (raw : RawSpec) → HasFewDeclarations raw →
    length (all_constructors raw) + length (map (function_of (all_sorts raw)) raw.funs) + 2 < 2 ^ 32
few_symbols raw few = omega (
  arith,
  all_count (all_sorts raw) 1 raw.sorts,
  length-map raw.funs (function_of (all_sorts raw)),
)
