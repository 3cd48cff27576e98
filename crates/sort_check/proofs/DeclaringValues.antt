-- Small values over the constructors alone, and over all symbols.
use Rattle.std.proofs.Common.{◌≡◌, ℕ, zero, suc, ◌+◌, ◌-◌, ◌<◌, ◌≤◌, ◌^◌, inl, inr, List, [], ◌∷◌, ◌++◌, None, Some}
use Rattle.std.proofs.Common.{refl, ap, sym, ◌∙◌, subst, arith, get_or, length}
use Rattle.std.specs.Prelude.{Result, Ok, Err, IfOk, OnErr, slice_get, option_map, map, codes}
use Rattle.std.specs.List.{AllByRecursion}
use Rattle.std.proofs.lemmas.List.{length-map}
use Rattle.term_core.specs.Tree.{Tree, Trees, var, app, none, some}
use Rattle.term_core.specs.declared.ids.SortId.{SortId}
use Rattle.spec_core.specs.declared.records.SymInfo.{SymInfo}
use Rattle.spec_core.specs.Sig.{Sig, info_of}
use Rattle.spec_core.specs.Sorts.{Sorted, SortedAll, IsBuilt, AreBuilt}
use Rattle.spec_core.specs.Small.{HasSmallValue, AllHaveSmallValues, IsFirstWithout, sort_of_number}
use Rattle.spec_core.specs.Declarations.{bool_symbol, declared_by, IsDeclared, AreDistinct, IsBelow, IsNotBool}
use Rattle.spec_core.specs.Findings.{Clean, First}
use Rattle.spec_grammar.specs.declared.raw.RawSort.{RawSort}
use Rattle.spec_grammar.specs.declared.raw.RawSpec.{RawSpec}
use Rattle.sort_check.specs.Counted.{HasFewDeclarations}
use Rattle.sort_check.specs.Answers.{Tells, Answers}
use Rattle.sort_check.specs.Signatures.{sort_names, SignatureStands}
use Rattle.sort_check.specs.DeclarationTests.{sorts_tests, all_constructors_tests, small_tests, declarations_tests}
use Rattle.sort_check.specs.DeclarationTests.{function_of, all_sorts, all_constructors, boolean_names, values_sig}
use Rattle.sort_check.specs.DeclarationTests.{sig_of}
use Rattle.sort_check.proofs.DeclaringTests.{all_not_bool, values_distinct, constructors_in_range, all_distinct}
use Rattle.sort_check.proofs.DeclaringTests.{functions_in_range, sig_stands, few_symbols}
use Rattle.sort_check.specs.declared.faults.SortFault.{SortFault}
use Rattle.sort_check.specs.declared.faults.SortFault.TheVariants.{Sort, OutOfMemory}
use Rattle.sort_check.specs.declared.faults.SortKind.TheVariants.{NoSmallValue}

-- the tests of small values, of which the first is of the sort n
module _ (sig : Sig) where
  pub small_clean : (n : ℕ) (ss : List RawSort) → n + length ss ≤ length sig.sorts → AllHaveSmallValues sig →
      Clean (small_tests sig n ss)
  small_clean n [] le all = tt
  small_clean n (s ∷ ss) le all = (λ none_of. none_of (all n (omega arith)), small_clean (suc n) ss (omega arith) all)

  pub small_first : (n : ℕ) (ss : List RawSort) (k m : ℕ) (s : RawSort) → k < length ss → s ≡ get_or ss k s →
      m ≡ n + k → ((j : ℕ) → j < m → HasSmallValue sig (sort_of_number j)) →
      (HasSmallValue sig (sort_of_number m) → ⊥) → First (small_tests sig n ss) (Sort s.head.at NoSmallValue)
  small_first n [] k m s lt is number before without = absurd (omega arith)
  small_first n (t ∷ ss) zero m s lt is number before without =
      let e : m ≡ n = omega arith in
      inl (
        λ h. without (subst (λ j. HasSmallValue sig (sort_of_number j)) (sym e) h),
        ap (λ (x : RawSort). Sort x.head.at NoSmallValue) is,
      )
  small_first n (t ∷ ss) (suc k) m s lt is number before without = inr (
    λ none_of. none_of (before n (omega arith)),
    small_first (suc n) ss k m s (omega arith) is (omega arith) before without,
  )

  -- a sort of which no test finds something
  small_at : (n : ℕ) (ss : List RawSort) (k m : ℕ) → k < length ss → m ≡ n + k → Clean (small_tests sig n ss) →
      (HasSmallValue sig (sort_of_number m) → ⊥) → ⊥
  small_at n [] k m lt number c without = omega arith
  small_at n (s ∷ ss) zero m lt number c without =
      let e : m ≡ n = omega arith in
      c.0 (λ h. without (subst (λ j. HasSmallValue sig (sort_of_number j)) (sym e) h))
  small_at n (s ∷ ss) (suc k) m lt number c without = small_at (suc n) ss k m (omega arith) (omega arith) c.1 without

-- the symbols keep their numbers when others come after them
info_behind : (xs ys : List (List ℕ × SymInfo)) (f : ℕ) (i : SymInfo) →
    option_map (λ (e : List ℕ × SymInfo). e.1) (slice_get (xs ++ []) f) ≡ Some i →
    option_map (λ (e : List ℕ × SymInfo). e.1) (slice_get (xs ++ ys) f) ≡ Some i
info_behind [] ys f i h = absurd (let q : None ≡ Some i = h in cc)
info_behind (x ∷ xs) ys zero i h = h
info_behind (x ∷ xs) ys (suc f) i h = info_behind xs ys f i h

module _ (sorts : List (List ℕ)) (cs fs : List (List ℕ × SymInfo)) where
  abbrev alone : Sig
  alone = declared_by sorts cs []

  abbrev whole : Sig
  whole = declared_by sorts cs fs

  info_whole : (f : ℕ) (i : SymInfo) → info_of alone f ≡ Some i → info_of whole f ≡ Some i
  info_whole zero i h = h
  info_whole (suc zero) i h = h
  info_whole (suc (suc f)) i h = info_behind cs fs f i h

  mutual
    sorted_whole : (t : Tree) (s : SortId) → Sorted alone [] t s → Sorted whole [] t s
    sorted_whole (var n) s h = h
    sorted_whole (app f ts) s h = (h.0, info_whole f h.0 h.1, h.2, sorted_all_whole ts h.0.args h.3)

    sorted_all_whole : (ts : Trees) (ss : List SortId) → SortedAll alone [] ts ss → SortedAll whole [] ts ss
    sorted_all_whole none [] h = tt
    sorted_all_whole (some t ts) (s ∷ ss) h = (sorted_whole t s h.0, sorted_all_whole ts ss h.1)
    sorted_all_whole none (s ∷ ss) h = absurd h
    sorted_all_whole (some t ts) [] h = absurd h

  mutual
    built_whole : (t : Tree) → IsBuilt alone t → IsBuilt whole t
    built_whole (var n) h = h
    built_whole (app f ts) h = (h.0, built_all_whole ts h.1)

    built_all_whole : (ts : Trees) → AreBuilt alone ts → AreBuilt whole ts
    built_all_whole none h = tt
    built_all_whole (some t ts) h = (built_whole t h.0, built_all_whole ts h.1)

  -- a value over the constructors alone is one over all symbols
  pub small_whole : (s : SortId) → HasSmallValue alone s → HasSmallValue whole s
  small_whole s h = (h.0, (sorted_whole h.0 s h.1.0, built_whole h.0 h.1.1), h.2)

  pub bool_small : HasSmallValue whole (sort_of_number 0)
  bool_small = (app 0 none, ((bool_symbol, refl, refl, tt), (omega arith, tt)), omega arith)

  -- if no test finds a sort without small values no sort is one
  pub no_first_without : (ss : List RawSort) (s : SortId) → length sorts ≡ length ss →
      Clean (small_tests alone 1 ss) → IsFirstWithout whole s → ⊥
  no_first_without ss s as_many c w = by s.0 w.in_range w.has_none
    where
      by : (n : ℕ) → n < suc (length sorts) → (HasSmallValue whole (sort_of_number n) → ⊥) → ⊥
      by zero lt without = without bool_small
      by (suc n) lt without = small_at alone 1 ss n (suc n) (omega arith) (omega arith) c
          (λ h. without (small_whole (sort_of_number (suc n)) h))

  -- the first sort without small values isn't `Bool`
  pub place_within : (s : SortId) → IsFirstWithout whole s → (1 ≤ s.0) × (s.0 ≤ length sorts)
  place_within s w = by s.0 w.in_range w.has_none
    where
      by : (n : ℕ) → n < suc (length sorts) → (HasSmallValue whole (sort_of_number n) → ⊥) →
          (1 ≤ n) × (n ≤ length sorts)
      by zero lt without = absurd (without bool_small)
      by (suc n) lt without = (omega arith, omega arith)

-- what is built of the sorts and constructors of a raw specification
module _ (raw : RawSpec) (names : List (List ℕ)) (cs fs : List (List ℕ × SymInfo))
    (of_sorts : names ≡ sort_names raw.sorts) (of_constructors : cs ≡ all_constructors raw) where
  module _ (alone : fs ≡ []) where
    same_values : declared_by names cs fs ≡ values_sig raw
    same_values = λ i. declared_by (of_sorts i) (of_constructors i) (alone i)

    pub values_clean : (sig : Sig) → sig ≡ declared_by names cs fs → IsDeclared sig →
        Clean (small_tests (values_sig raw) 1 raw.sorts)
    values_clean sig is declared =
        let all : AllHaveSmallValues (values_sig raw) = subst (λ s. AllHaveSmallValues s) (is ∙ same_values)
        declared.small in
        small_clean (values_sig raw) 1 raw.sorts
        (omega (arith, length-map raw.sorts (λ (s : RawSort). s.head.name))) all

    pub values_place : (s : SortId) → IsFirstWithout (declared_by names cs fs) s →
        (1 ≤ s.0) × (s.0 - 1 < length raw.sorts)
    values_place s w =
        let h = place_within names cs fs s w in
        let n : length names ≡ length raw.sorts = ap (λ (ns : List (List ℕ)). length ns) of_sorts
        ∙ length-map raw.sorts (λ (s : RawSort). s.head.name) in
        (h.0, omega (arith, h.0, h.1))

    pub values_first : (s : SortId) (x : RawSort) → IsFirstWithout (declared_by names cs fs) s →
        x ≡ get_or raw.sorts (s.0 - 1) x →
        First (small_tests (values_sig raw) 1 raw.sorts) (Sort x.head.at NoSmallValue)
    values_first s x w is =
        let place = values_place s w in
        let v : IsFirstWithout (values_sig raw) s = subst (λ g. IsFirstWithout g s) same_values w in
        small_first (values_sig raw) 1 raw.sorts (s.0 - 1) s.0 x place.1 is (omega (arith, place.0)) v.before v.has_none

    pub values_not_repeated : Clean (sorts_tests (codes "Bool" ∷ []) raw.sorts) →
        Clean (all_constructors_tests (all_sorts raw) boolean_names raw.sorts) → (AreDistinct names cs fs → ⊥) → ⊥
    values_not_repeated sorts symbols repeated = repeated
        (subst (λ ns. AreDistinct ns cs fs) (sym of_sorts)
        (subst (λ xs. AreDistinct (sort_names raw.sorts) xs fs) (sym of_constructors)
        (subst (λ xs. AreDistinct (sort_names raw.sorts) (all_constructors raw) xs) (sym alone)
        (values_distinct raw sorts symbols))))

  pub values_in_range : Clean (sorts_tests (codes "Bool" ∷ []) raw.sorts) →
      Clean (all_constructors_tests (all_sorts raw) boolean_names raw.sorts) →
      AllByRecursion (IsBelow (1 + length names)) cs
  values_in_range sorts symbols = subst (λ ns. AllByRecursion (IsBelow (1 + length ns)) cs) (sym of_sorts)
      (subst (λ xs. AllByRecursion (IsBelow (1 + length (sort_names raw.sorts))) xs) (sym of_constructors)
      (constructors_in_range raw sorts symbols))

  pub values_not_bool : AllByRecursion IsNotBool cs
  values_not_bool = subst (λ xs. AllByRecursion IsNotBool xs) (sym of_constructors)
      (all_not_bool (all_sorts raw) 1 raw.sorts (omega arith))

  -- and of the functions too
  module _ (clean : Clean (declarations_tests raw)) (of_functions : fs ≡ map (function_of (all_sorts raw))
      raw.funs) where
    same_whole : declared_by names cs fs ≡ sig_of raw
    same_whole = λ i. declared_by (of_sorts i) (of_constructors i) (of_functions i)

    pub symbols_in_range : AllByRecursion (IsBelow (1 + length names)) fs
    symbols_in_range = subst (λ ns. AllByRecursion (IsBelow (1 + length ns)) fs) (sym of_sorts)
        (subst (λ xs. AllByRecursion (IsBelow (1 + length (sort_names raw.sorts))) xs) (sym of_functions)
        (functions_in_range raw clean.0 clean.1.0 clean.1.1.1))

    pub symbols_not_repeated : (AreDistinct names cs fs → ⊥) → ⊥
    symbols_not_repeated repeated = repeated
        (subst (λ ns. AreDistinct ns cs fs) (sym of_sorts)
        (subst (λ xs. AreDistinct (sort_names raw.sorts) xs fs) (sym of_constructors)
        (subst (λ xs. AreDistinct (sort_names raw.sorts) (all_constructors raw) xs) (sym of_functions)
        (all_distinct raw clean.0 clean.1.0 clean.1.1.1))))

    pub symbols_not_small : (s : SortId) → IsFirstWithout (declared_by names cs fs) s → ⊥
    symbols_not_small s w =
        let v : IsFirstWithout (sig_of raw) s = subst (λ g. IsFirstWithout g s) same_whole w in
        no_first_without (sort_names raw.sorts) (all_constructors raw)
        (map (function_of (all_sorts raw)) raw.funs) raw.sorts s
        (length-map raw.sorts (λ (s : RawSort). s.head.name)) clean.1.1.0 v

-- the signature of declarations in which no test finds a fault
pub declared_answers : (raw : RawSpec) (r : Result Sig SortFault) → Clean (declarations_tests raw) →
    IfOk r (λ sig. (sig ≡ sig_of raw) × IsDeclared sig) → OnErr r (r ≡ Err OutOfMemory) →
    Answers (declarations_tests raw) (λ sig. (sig ≡ sig_of raw) × IsDeclared sig × SignatureStands raw sig) r
declared_answers raw (Ok sig) clean made failed = (
  clean,
  (made.0, made.1, subst (λ s. SignatureStands raw s) (sym made.0) (sig_stands raw clean.0 clean.1.0 clean.1.1.1)),
)
declared_answers raw (Err e) clean made failed = let q : e ≡ OutOfMemory = cc in
    subst (λ x. Tells (declarations_tests raw) x) (sym q) tt

-- the numbers of symbols fit 32 bits
pub few_values : (raw : RawSpec) (cs fs : List (List ℕ × SymInfo)) → HasFewDeclarations raw →
    cs ≡ all_constructors raw → fs ≡ [] → length cs + length fs + 2 < 2 ^ 32
few_values raw cs fs few of_constructors alone = omega (
  arith,
  few_symbols raw few,
  ap (λ (es : List (List ℕ × SymInfo)). length es) of_constructors,
  ap (λ (es : List (List ℕ × SymInfo)). length es) alone,
)

pub few_whole : (raw : RawSpec) (cs fs : List (List ℕ × SymInfo)) → HasFewDeclarations raw →
    cs ≡ all_constructors raw → fs ≡ map (function_of (all_sorts raw)) raw.funs → length cs + length fs + 2 < 2 ^ 32
few_whole raw cs fs few of_constructors of_functions = omega (
  arith,
  few_symbols raw few,
  ap (λ (es : List (List ℕ × SymInfo)). length es) of_constructors,
  ap (λ (es : List (List ℕ × SymInfo)). length es) of_functions,
)
