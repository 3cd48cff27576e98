-- Declarations that are the same apart from places: they make the same signature, and their tests
-- find something in both or in neither.
use Rattle.std.proofs.Common.{◌≡◌, ℕ, suc, List, [], ◌∷◌, ◌++◌, Some, refl, ap, sym, ◌∙◌, subst}
use Rattle.std.specs.Prelude.{map, codes}
use Rattle.std.specs.List.{AllZip}
use Rattle.term_core.specs.declared.ids.SortId.{SortId}
use Rattle.spec_core.specs.declared.records.SymInfo.{SymInfo}
use Rattle.spec_core.specs.Sig.{Sig}
use Rattle.spec_core.specs.Declarations.{IsNewName, declared_by}
use Rattle.spec_core.specs.Findings.{Search, Clean, each, each_after}
use Rattle.spec_grammar.specs.declared.raw.RawName.{RawName}
use Rattle.spec_grammar.specs.declared.raw.RawNames.{RawNames}
use Rattle.spec_grammar.specs.declared.raw.RawSort.{RawSort}
use Rattle.spec_grammar.specs.declared.raw.RawFun.{RawFun}
use Rattle.spec_grammar.specs.declared.raw.RawSpec.{RawSpec}
use Rattle.spec_printing.specs.SamePlaces.{SameName, SameNames, SameSort, SameFun, IsSameButPlaces}
use Rattle.sort_check.specs.Signatures.{sort_names, SortStands, ConstructorStands, ConstructorsStand, FunctionStands}
use Rattle.sort_check.specs.Signatures.{SignatureStands}
use Rattle.sort_check.specs.DeclarationTests.{sorts_tests, sort_test, symbol_tests, constructors_tests}
use Rattle.sort_check.specs.DeclarationTests.{all_constructors_tests, functions_tests, small_tests, sort_number}
use Rattle.sort_check.specs.DeclarationTests.{constructor_of, constructors_of, function_of, all_sorts}
use Rattle.sort_check.specs.DeclarationTests.{all_constructors, values_sig, sig_of, boolean_names, constructor_names}
use Rattle.sort_check.specs.DeclarationTests.{declarations_tests}

-- Lists whose elements are the same place by place.

pub same_map : {X Y : Type 0} (Same : X → X → Type 0) (f : X → Y) →
    ((a b : X) → Same a b → f a ≡ f b) → (xs ys : List X) → AllZip Same xs ys → map f xs ≡ map f ys
same_map Same f h [] [] p = refl
same_map Same f h [] (y ∷ ys) p = absurd p
same_map Same f h (x ∷ xs) [] p = absurd p
same_map Same f h (x ∷ xs) (y ∷ ys) p =
    let a : f x ≡ f y = h x y p.0 in
    let b : map f xs ≡ map f ys = same_map Same f h xs ys p.1 in
    λ i. a i ∷ b i

-- what is beside the second list is beside the first
pub same_zip : {X Y : Type 0} (Same : X → X → Type 0) (R : X → Y → Type 0) →
    ((a b : X) (y : Y) → Same a b → R b y → R a y) → (xs ys : List X) (zs : List Y) →
    AllZip Same xs ys → AllZip R ys zs → AllZip R xs zs
same_zip Same R h [] [] zs p q = q
same_zip Same R h [] (y ∷ ys) zs p q = absurd p
same_zip Same R h (x ∷ xs) [] zs p q = absurd p
same_zip Same R h (x ∷ xs) (y ∷ ys) [] p q = absurd q
same_zip Same R h (x ∷ xs) (y ∷ ys) (z ∷ zs) p q =
    (h x y z p.0 q.0, same_zip Same R h xs ys zs p.1 q.1)

pub same_each : {F X : Type 0} (Same : X → X → Type 0) (f : X → Search F) →
    ((a b : X) → Same a b → Clean (f b) → Clean (f a)) → (xs ys : List X) → AllZip Same xs ys →
    Clean (each f ys) → Clean (each f xs)
same_each Same f h [] [] p k = tt
same_each Same f h [] (y ∷ ys) p k = absurd p
same_each Same f h (x ∷ xs) [] p k = absurd p
same_each Same f h (x ∷ xs) (y ∷ ys) p k = (h x y p.0 k.0, same_each Same f h xs ys p.1 k.1)

pub same_pushed : {X : Type 0} (Same : X → X → Type 0) (xs ys : List X) (x y : X) →
    AllZip Same xs ys → Same x y → AllZip Same (xs ++ x ∷ []) (ys ++ y ∷ [])
same_pushed Same [] [] x y p h = (h, tt)
same_pushed Same [] (b ∷ ys) x y p h = absurd p
same_pushed Same (a ∷ xs) [] x y p h = absurd p
same_pushed Same (a ∷ xs) (b ∷ ys) x y p h = (p.0, same_pushed Same xs ys x y p.1 h)

pub same_each_after : {F X : Type 0} (Same : X → X → Type 0) (f : List X → X → Search F) →
    ((before others : List X) (a b : X) → AllZip Same before others → Same a b →
    Clean (f others b) → Clean (f before a)) → (before others xs ys : List X) →
    AllZip Same before others → AllZip Same xs ys → Clean (each_after f others ys) →
    Clean (each_after f before xs)
same_each_after Same f h before others [] [] q p k = tt
same_each_after Same f h before others [] (y ∷ ys) q p k = absurd p
same_each_after Same f h before others (x ∷ xs) [] q p k = absurd p
same_each_after Same f h before others (x ∷ xs) (y ∷ ys) q p k = (
  h before others x y q p.0 k.0,
  same_each_after Same f h (before ++ x ∷ []) (others ++ y ∷ []) xs ys
      (same_pushed Same before others x y q p.0) p.1 k.1,
)

-- The signature.

pub same_sort_names : (xs ys : List RawSort) → AllZip SameSort xs ys → sort_names xs ≡ sort_names ys
same_sort_names = same_map SameSort (λ (s : RawSort). s.head.name) (λ a b h. h.0)

same_constructor_names : (xs ys : List RawNames) → AllZip SameNames xs ys →
    map (λ (c : RawNames). c.name) xs ≡ map (λ (c : RawNames). c.name) ys
same_constructor_names = same_map SameNames (λ (c : RawNames). c.name) (λ a b h. h.0)

module _ (sorts : List (List ℕ)) where
  same_number : (m n : RawName) → SameName m n → sort_number sorts m ≡ sort_number sorts n
  same_number m n h = ap (λ (name : List ℕ). sort_number sorts (record { name = name; at = 0 })) h

  same_numbers : (ms ns : List RawName) → AllZip SameName ms ns →
      map (sort_number sorts) ms ≡ map (sort_number sorts) ns
  same_numbers = same_map SameName (sort_number sorts) same_number

  same_constructor : (n : ℕ) (c d : RawNames) → SameNames c d →
      constructor_of sorts n c ≡ constructor_of sorts n d
  same_constructor n c d h =
      let a : c.name ≡ d.name = h.0 in
      let b : map (sort_number sorts) c.args ≡ map (sort_number sorts) d.args =
      same_numbers c.args d.args h.1 in
      λ i. (a i, record { args = b i; result = record { 0 = n } })

  same_constructors : (n : ℕ) (xs ys : List RawSort) → AllZip SameSort xs ys →
      constructors_of sorts n xs ≡ constructors_of sorts n ys
  same_constructors n [] [] p = refl
  same_constructors n [] (y ∷ ys) p = absurd p
  same_constructors n (x ∷ xs) [] p = absurd p
  same_constructors n (x ∷ xs) (y ∷ ys) p =
      let a : map (constructor_of sorts n) x.constructors ≡ map (constructor_of sorts n)
      y.constructors = same_map SameNames (constructor_of sorts n) (same_constructor n)
      x.constructors y.constructors p.0.1 in
      let b : constructors_of sorts (suc n) xs ≡ constructors_of sorts (suc n) ys =
      same_constructors (suc n) xs ys p.1 in
      λ i. a i ++ b i

  same_function : (f g : RawFun) → SameFun f g → function_of sorts f ≡ function_of sorts g
  same_function f g h =
      let a : f.head.name ≡ g.head.name = h.0.0 in
      let b : map (sort_number sorts) f.head.args ≡ map (sort_number sorts) g.head.args =
      same_numbers f.head.args g.head.args h.0.1 in
      let c : sort_number sorts f.result ≡ sort_number sorts g.result =
      same_number f.result g.result h.1 in
      λ i. (a i, record { args = b i; result = c i })

module _ (raw other : RawSpec) (same : IsSameButPlaces raw other) where
  pub same_sorts : all_sorts raw ≡ all_sorts other
  same_sorts = ap (λ (ns : List (List ℕ)). codes "Bool" ∷ ns)
      (same_sort_names raw.sorts other.sorts same.sorts)

  same_all_constructors : all_constructors raw ≡ all_constructors other
  same_all_constructors = ap (λ (ns : List (List ℕ)). constructors_of ns 1 raw.sorts) same_sorts
      ∙ same_constructors (all_sorts other) 1 raw.sorts other.sorts same.sorts

  same_functions : map (function_of (all_sorts raw)) raw.funs ≡ map (function_of (all_sorts other))
      other.funs
  same_functions = ap (λ (ns : List (List ℕ)). map (function_of ns) raw.funs) same_sorts
      ∙ same_map SameFun (function_of (all_sorts other)) (same_function (all_sorts other))
      raw.funs other.funs same.funs

  same_values_sig : values_sig raw ≡ values_sig other
  same_values_sig =
      let a : sort_names raw.sorts ≡ sort_names other.sorts =
      same_sort_names raw.sorts other.sorts same.sorts in
      λ i. declared_by (a i) (same_all_constructors i) []

  pub same_sig : sig_of raw ≡ sig_of other
  same_sig =
      let a : sort_names raw.sorts ≡ sort_names other.sorts =
      same_sort_names raw.sorts other.sorts same.sorts in
      λ i. declared_by (a i) (same_all_constructors i) (same_functions i)

-- Tests.

clean_sorts : (taken : List (List ℕ)) (xs ys : List RawSort) → AllZip SameSort xs ys →
    Clean (sorts_tests taken ys) → Clean (sorts_tests taken xs)
clean_sorts taken [] [] p k = tt
clean_sorts taken [] (y ∷ ys) p k = absurd p
clean_sorts taken (x ∷ xs) [] p k = absurd p
clean_sorts taken (x ∷ xs) (y ∷ ys) p k =
    let e : x.head.name ≡ y.head.name = p.0.0 in (
      subst (λ (name : List ℕ). ¬ (¬ (IsNewName name taken))) (sym e) k.0,
      clean_sorts (taken ++ x.head.name ∷ []) xs ys p.1
          (subst (λ (name : List ℕ). Clean (sorts_tests (taken ++ name ∷ []) ys)) (sym e) k.1),
    )

module _ (sorts : List (List ℕ)) where
  clean_sort : (m n : RawName) → SameName m n → Clean (sort_test sorts n) →
      Clean (sort_test sorts m)
  clean_sort m n h k = subst (λ (name : List ℕ). ¬ (IsNewName name sorts)) (sym h) k

  clean_symbol : (taken : List (List ℕ)) (c d : RawNames) → SameNames c d →
      Clean (symbol_tests sorts taken d) → Clean (symbol_tests sorts taken c)
  clean_symbol taken c d h k = (
    subst (λ (name : List ℕ). ¬ (¬ (IsNewName name taken))) (sym h.0)
        k.0,
    same_each SameName (sort_test sorts) clean_sort c.args d.args h.1 k.1,
  )

  clean_constructors : (taken : List (List ℕ)) (cs ds : List RawNames) → AllZip SameNames cs ds →
      Clean (constructors_tests sorts taken ds) → Clean (constructors_tests sorts taken cs)
  clean_constructors taken [] [] p k = tt
  clean_constructors taken [] (d ∷ ds) p k = absurd p
  clean_constructors taken (c ∷ cs) [] p k = absurd p
  clean_constructors taken (c ∷ cs) (d ∷ ds) p k = (
    clean_symbol taken c d p.0 k.0,
    clean_constructors (taken ++ c.name ∷ []) cs ds p.1
        (subst (λ (name : List ℕ). Clean (constructors_tests sorts (taken ++ name ∷ []) ds))
        (sym p.0.0) k.1),
  )

  clean_all_constructors : (taken : List (List ℕ)) (xs ys : List RawSort) → AllZip SameSort xs ys →
      Clean (all_constructors_tests sorts taken ys) → Clean (all_constructors_tests sorts taken xs)
  clean_all_constructors taken [] [] p k = tt
  clean_all_constructors taken [] (y ∷ ys) p k = absurd p
  clean_all_constructors taken (x ∷ xs) [] p k = absurd p
  clean_all_constructors taken (x ∷ xs) (y ∷ ys) p k =
      let e = same_constructor_names x.constructors y.constructors p.0.1 in (
        clean_constructors taken x.constructors y.constructors p.0.1 k.0,
        clean_all_constructors (taken ++ map (λ (c : RawNames). c.name) x.constructors) xs ys p.1
            (subst (λ (names : List (List ℕ)). Clean
            (all_constructors_tests sorts (taken ++ names) ys)) (sym e) k.1),
      )

  clean_functions : (taken : List (List ℕ)) (fs gs : List RawFun) → AllZip SameFun fs gs →
      Clean (functions_tests sorts taken gs) → Clean (functions_tests sorts taken fs)
  clean_functions taken [] [] p k = tt
  clean_functions taken [] (g ∷ gs) p k = absurd p
  clean_functions taken (f ∷ fs) [] p k = absurd p
  clean_functions taken (f ∷ fs) (g ∷ gs) p k = (
    (clean_symbol taken f.head g.head p.0.0 k.0.0, clean_sort f.result g.result p.0.1 k.0.1),
    clean_functions (taken ++ f.head.name ∷ []) fs gs p.1
        (subst (λ (name : List ℕ). Clean (functions_tests sorts (taken ++ name ∷ []) gs))
        (sym p.0.0.0) k.1),
  )

clean_small : (sig : Sig) (n : ℕ) (xs ys : List RawSort) → AllZip SameSort xs ys →
    Clean (small_tests sig n ys) → Clean (small_tests sig n xs)
clean_small sig n [] [] p k = tt
clean_small sig n [] (y ∷ ys) p k = absurd p
clean_small sig n (x ∷ xs) [] p k = absurd p
clean_small sig n (x ∷ xs) (y ∷ ys) p k = (k.0, clean_small sig (suc n) xs ys p.1 k.1)

module _ (raw other : RawSpec) (same : IsSameButPlaces raw other) where
  pub clean_declarations : Clean (declarations_tests other) → Clean (declarations_tests raw)
  clean_declarations k =
      let sorts : all_sorts other ≡ all_sorts raw = sym (same_sorts raw other same) in
      let values : values_sig other ≡ values_sig raw = sym (same_values_sig raw other same) in
      let names : constructor_names other ≡ constructor_names raw =
      ap (λ (cs : List (List ℕ × SymInfo)). boolean_names ++ map
      (λ (e : List ℕ × SymInfo). e.0) cs) (sym (same_all_constructors raw other same)) in
      let functions : Clean (functions_tests (all_sorts raw) (constructor_names raw) other.funs) =
      subst (λ (ns : List (List ℕ)). Clean
      (functions_tests ns (constructor_names raw) other.funs)) sorts
      (subst (λ (ns : List (List ℕ)). Clean (functions_tests (all_sorts other) ns other.funs))
      names k.1.1.1) in (
        clean_sorts (codes "Bool" ∷ []) raw.sorts other.sorts same.sorts k.0,
        (
          clean_all_constructors (all_sorts raw) boolean_names raw.sorts other.sorts same.sorts
              (subst (λ (ns : List (List ℕ)). Clean
              (all_constructors_tests ns boolean_names other.sorts)) sorts k.1.0),
          (
            clean_small (values_sig raw) 1 raw.sorts other.sorts same.sorts
                (subst (λ (sig : Sig). Clean (small_tests sig 1 other.sorts)) values k.1.1.0),
            clean_functions (all_sorts raw) (constructor_names raw)
                raw.funs other.funs same.funs functions,
          ),
        ),
      )

-- What declarations stand for.

module _ (sorts : List (List ℕ)) where
  sort_stands : (m n : RawName) (s : SortId) → SameName m n → SortStands sorts n s →
      SortStands sorts m s
  sort_stands m n s h p = p ∙ ap (λ (name : List ℕ). Some name) (sym h)

  constructor_stands : (i : ℕ) (c d : RawNames) (e : List ℕ × SymInfo) → SameNames c d →
      ConstructorStands sorts i d e → ConstructorStands sorts i c e
  constructor_stands i c d e h p = (
    p.0 ∙ sym h.0,
    same_zip SameName (SortStands sorts)
        sort_stands c.args d.args e.1.args h.1 p.1,
    p.2,
  )

  constructors_stand : (i : ℕ) (xs ys : List RawSort) (es : List (List ℕ × SymInfo)) →
      AllZip SameSort xs ys → ConstructorsStand sorts i ys es → ConstructorsStand sorts i xs es
  constructors_stand i [] [] es p h = h
  constructors_stand i [] (y ∷ ys) es p h = absurd p
  constructors_stand i (x ∷ xs) [] es p h = absurd p
  constructors_stand i (x ∷ xs) (y ∷ ys) es p h = (
    h.0,
    h.1,
    h.2,
    same_zip SameNames (ConstructorStands sorts i) (constructor_stands i)
        x.constructors y.constructors h.0 p.0.1 h.3,
    constructors_stand (suc i) xs ys h.1 p.1 h.4,
  )

  function_stands : (f g : RawFun) (e : List ℕ × SymInfo) → SameFun f g →
      FunctionStands sorts g e → FunctionStands sorts f e
  function_stands f g e h p = (
    p.0 ∙ sym h.0.0,
    same_zip SameName (SortStands sorts)
        sort_stands f.head.args g.head.args e.1.args h.0.1 p.1,
    sort_stands f.result g.result e.1.result h.1 p.2,
  )

pub signature_stands : (raw other : RawSpec) (sig : Sig) → IsSameButPlaces raw other →
    SignatureStands other sig → SignatureStands raw sig
signature_stands raw other sig same h =
    let names : sort_names other.sorts ≡ sort_names raw.sorts =
    sym (same_sort_names raw.sorts other.sorts same.sorts) in
    let sorts : all_sorts other ≡ all_sorts raw = sym (same_sorts raw other same) in
    record {
      constructors = h.constructors;
      functions = h.functions;
      is = h.is ∙ ap (λ (ns : List (List ℕ)). declared_by ns h.constructors h.functions) names;
      each_constructor = constructors_stand (all_sorts raw)
          1 raw.sorts other.sorts h.constructors same.sorts
          (subst (λ (ns : List (List ℕ)). ConstructorsStand ns 1 other.sorts h.constructors)
          sorts h.each_constructor);
      each_function = same_zip SameFun (FunctionStands (all_sorts raw))
          (function_stands (all_sorts raw)) raw.funs other.funs h.functions same.funs
          (subst (λ (ns : List (List ℕ)). AllZip (FunctionStands ns) other.funs h.functions)
          sorts h.each_function);
    }
