-- Lines that give an order and are the same apart from places: their tests find something in both or
-- in neither, and they give the same levels and statuses, or the same weights.
use Rattle.std.proofs.Common.{◌≡◌, ◌≢◌, ◌∙◌, ◌≤◌, ◌⊎◌, inl, inr, ℕ, List, [], ◌∷◌, ◌++◌, Option, Some, None, refl, ap}
use Rattle.std.proofs.Common.{sym, subst}
use Rattle.std.specs.Prelude.{map, if◌then◌else◌, ◌==◌, IsTrue}
use Rattle.std.specs.List.{AllZip}
use Rattle.spec_core.specs.Sig.{Sig}
use Rattle.spec_core.specs.Findings.{Clean, each_after}
use Rattle.spec_core.specs.declared.records.OrderInfo.{OrderInfo}
use Rattle.spec_core.specs.declared.records.OrderInfo.TheVariants.{Path, Weights}
use Rattle.spec_grammar.specs.declared.raw.RawName.{RawName}
use Rattle.spec_grammar.specs.declared.raw.RawEqual.{RawEqual}
use Rattle.spec_grammar.specs.declared.raw.RawStatus.{RawStatus}
use Rattle.spec_grammar.specs.declared.raw.RawWeight.{RawWeight}
use Rattle.spec_grammar.specs.declared.raw.RawOrder.{RawOrder}
use Rattle.spec_grammar.specs.declared.raw.RawSpec.{RawSpec}
use Rattle.spec_printing.specs.SamePlaces.{SameName, SameEqual, SameStatus, SameWeight, SameOrder, IsSameButPlaces}
use Rattle.sort_check.specs.Orders.{is_among, greatest, symbol_number, symbol_numbers, level_in, status_in, weight_in}
use Rattle.sort_check.specs.Orders.{all_numbers, OrderStands}
use Rattle.sort_check.specs.OrderTests.{names_in, heads_of, weighed_names, arity, function_tests, IsUnlikeFirst}
use Rattle.sort_check.specs.OrderTests.{name_tests, equal_tests, IsOrderOfArguments, status_tests, weight_tests}
use Rattle.sort_check.specs.OrderTests.{order_line_tests, order_tests}
use Rattle.sort_check.specs.Words.{symbol_named}
use Rattle.sort_check.specs.declared.faults.SortKind.{SortKind}
use Rattle.sort_check.specs.declared.faults.SortKind.TheVariants.{EqualTwice, StatusTwice}
use Rattle.spec_meaning.proofs.SameDeclarations.{same_map, same_each_after}

-- the names of lines, one after the other
appended : (xs ys zs ws : List RawName) → AllZip SameName xs ys → AllZip SameName zs ws →
    AllZip SameName (xs ++ zs) (ys ++ ws)
appended [] [] zs ws p q = q
appended [] (y ∷ ys) zs ws p q = absurd p
appended (x ∷ xs) [] zs ws p q = absurd p
appended (x ∷ xs) (y ∷ ys) zs ws p q = (p.0, appended xs ys zs ws p.1 q)

same_names_in : (xs ys : List RawEqual) → AllZip SameEqual xs ys → AllZip SameName (names_in xs) (names_in ys)
same_names_in [] [] p = tt
same_names_in [] (y ∷ ys) p = absurd p
same_names_in (x ∷ xs) [] p = absurd p
same_names_in (x ∷ xs) (y ∷ ys) p =
    appended x.names y.names (names_in xs) (names_in ys) p.0 (same_names_in xs ys p.1)

-- the names at the heads of lines
same_names_of : {X : Type 0} (Same : X → X → Type 0) (name : X → RawName) →
    ((x y : X) → Same x y → SameName (name x) (name y)) → (xs ys : List X) → AllZip Same xs ys →
    AllZip SameName (map name xs) (map name ys)
same_names_of Same name h [] [] p = tt
same_names_of Same name h [] (y ∷ ys) p = absurd p
same_names_of Same name h (x ∷ xs) [] p = absurd p
same_names_of Same name h (x ∷ xs) (y ∷ ys) p = (h x y p.0, same_names_of Same name h xs ys p.1)

same_heads : (xs ys : List RawStatus) → AllZip SameStatus xs ys → AllZip SameName (heads_of xs) (heads_of ys)
same_heads = same_names_of SameStatus (λ (s : RawStatus). s.head) (λ x y same. same.0)

same_weighed : (xs ys : List RawWeight) → AllZip SameWeight xs ys →
    AllZip SameName (weighed_names xs) (weighed_names ys)
same_weighed = same_names_of SameWeight (λ (w : RawWeight). w.name) (λ x y same. same.0)

-- no lines
both_empty : {X : Type 0} (Same : X → X → Type 0) (xs ys : List X) → AllZip Same xs ys → ys ≡ [] → xs ≡ []
both_empty Same [] ys p e = refl
both_empty Same (x ∷ xs) [] p e = absurd p
both_empty Same (x ∷ xs) (y ∷ ys) p e = absurd (cc)

no_order : (o p : Option RawOrder) → SameOrder o p → p ≡ None → o ≡ None
no_order None p same e = refl
no_order (Some line) None same e = absurd same
no_order (Some line) (Some other) same e = absurd (cc)

-- a line with the weights of another one
same_line : (o p : Option RawOrder) (other : RawOrder) → SameOrder o p → p ≡ Some other →
    (line : RawOrder) × (o ≡ Some line) × AllZip SameWeight line.weights other.weights
same_line None None other same e = absurd (let q : None ≡ Some other = e in cc)
same_line None (Some third) other same e = absurd same
same_line (Some line) None other same e = absurd same
same_line (Some line) (Some third) other same e =
    let q : Some third ≡ Some other = e in
    let is : third ≡ other = cc in
    (line, refl, subst (λ (l : RawOrder). AllZip SameWeight line.weights l.weights) is same.1)

-- a name alone, whatever its place
abbrev placeless : List ℕ → RawName
placeless name = record { name = name; at = 0 }

module _ (sig : Sig) where
  same_number : (n m : RawName) → SameName n m → symbol_number sig n ≡ symbol_number sig m
  same_number n m same = ap (λ name. symbol_number sig (placeless name)) same

  same_numbers : (ns ms : List RawName) → AllZip SameName ns ms → symbol_numbers sig ns ≡ symbol_numbers sig ms
  same_numbers = same_map SameName (symbol_number sig) same_number

  same_arity : (n m : RawName) → SameName n m → arity sig n ≡ arity sig m
  same_arity n m same = ap (λ name. arity sig (placeless name)) same

  -- What is tested.

  clean_function : (twice : SortKind) (seen others : List ℕ) (n m : RawName) → seen ≡ others → SameName n m →
      Clean (function_tests sig twice others m) → Clean (function_tests sig twice seen n)
  clean_function twice seen others n m e same k =
      subst (λ ns. Clean (function_tests sig twice ns n)) (sym e)
      (subst (λ name. Clean (function_tests sig twice others (placeless name))) (sym same) k)

  clean_first : (line other : List RawName) (n m : RawName) → AllZip SameName line other → SameName n m →
      ¬ (IsUnlikeFirst sig other m) → ¬ (IsUnlikeFirst sig line n)
  clean_first [] [] n m p same k = k
  clean_first [] (y ∷ ys) n m p same k = absurd p
  clean_first (x ∷ xs) [] n m p same k = absurd p
  clean_first (x ∷ xs) (y ∷ ys) n m p same k =
      λ unlike. k (λ e. unlike (same_arity n m same ∙ e ∙ sym (same_arity x y p.0)))

  clean_name : (seen : List ℕ) (line other : List RawName) (n m : RawName) → AllZip SameName line other →
      SameName n m → Clean (name_tests sig seen other m) → Clean (name_tests sig seen line n)
  clean_name seen line other n m p same k =
      let numbers = ap (λ ns. seen ++ ns) (same_numbers line other p) in
      let named = clean_function EqualTwice (seen ++ symbol_numbers sig line) (seen ++ symbol_numbers sig other)
      n m numbers same k.0 in
      (named, clean_first line other n m p same k.1)

  clean_equal : (before others : List RawEqual) (line other : RawEqual) → AllZip SameEqual before others →
      SameEqual line other → Clean (equal_tests sig others other) → Clean (equal_tests sig before line)
  clean_equal before others line other p same k =
      let seen = symbol_numbers sig (names_in before) in
      let numbers = same_numbers (names_in before) (names_in others) (same_names_in before others p) in
      same_each_after SameName (name_tests sig seen) (clean_name seen) [] [] line.names other.names tt same
      (subst (λ ns. Clean (each_after (name_tests sig ns) [] other.names)) (sym numbers) k)

  clean_status : (before others : List RawStatus) (line other : RawStatus) → AllZip SameStatus before others →
      SameStatus line other → Clean (status_tests sig others other) → Clean (status_tests sig before line)
  clean_status before others line other p same k =
      let seen = symbol_numbers sig (heads_of before) in
      let numbers = same_numbers (heads_of before) (heads_of others) (same_heads before others p) in
      let named = clean_function StatusTwice seen (symbol_numbers sig (heads_of others)) line.head other.head
      numbers same.0 k.0 in
      let count = same_arity line.head other.head same.0 in
      let here = subst (λ a. ¬ (¬ (IsOrderOfArguments a other.numbers))) (sym count) k.1 in
      (named, subst (λ is. ¬ (¬ (IsOrderOfArguments (arity sig line.head) is))) (sym same.1) here)

  clean_weight : (before others : List RawWeight) (w other : RawWeight) → AllZip SameWeight before others →
      SameWeight w other → Clean (weight_tests sig others other) → Clean (weight_tests sig before w)
  clean_weight before others w other p same k =
      let seen = symbol_numbers sig (weighed_names others) in
      let numbers =
      same_numbers (weighed_names before) (weighed_names others) (same_weighed before others p) in
      let number = same_number w.name other.name same.0 in (
        subst (λ name. ¬ (symbol_named sig name ≡ None)) (sym same.0) k.0,
        (
          subst (λ ns. ¬ (IsTrue (is_among (symbol_number sig w.name) ns))) (sym numbers)
              (subst (λ n. ¬ (IsTrue (is_among n seen))) (sym number) k.1.0),
          subst (λ n. ¬ (¬ ((1 ≤ n) × (n ≤ 1000)))) (sym same.1) k.1.1,
        ),
      )

  module _ (raw other : RawSpec) (same : IsSameButPlaces raw other) where
    some_lines : (raw.equals ≢ []) ⊎ (raw.statuses ≢ []) → (other.equals ≢ []) ⊎ (other.statuses ≢ [])
    some_lines (inl some) = inl (λ e. some (both_empty SameEqual raw.equals other.equals same.equals e))
    some_lines (inr some) =
        inr (λ e. some (both_empty SameStatus raw.statuses other.statuses same.statuses e))

    clean_line : (o p : Option RawOrder) → SameOrder o p →
        Clean (order_line_tests sig other.equals other.statuses p) →
        Clean (order_line_tests sig raw.equals raw.statuses o)
    clean_line None p alike k = tt
    clean_line (Some line) None alike k = absurd alike
    clean_line (Some line) (Some next) alike k = (
      (λ wrong. k.0 (λ e. wrong (alike.0 ∙ e))),
      (
        (λ some. k.1.0 (some_lines some)),
        same_each_after SameWeight (weight_tests sig) clean_weight [] [] line.weights next.weights tt alike.1
            k.1.1,
      ),
    )

    pub clean_orders : Clean (order_tests sig other) → Clean (order_tests sig raw)
    clean_orders k = (
      (
        same_each_after SameEqual (equal_tests sig) clean_equal [] [] raw.equals other.equals tt same.equals
            k.0.0,
        same_each_after SameStatus (status_tests sig) clean_status [] [] raw.statuses other.statuses tt
            same.statuses k.0.1,
      ),
      clean_line raw.order other.order same.order k.1,
    )

  -- What lines stand for.

  same_level : (xs ys : List RawEqual) → AllZip SameEqual xs ys → (f : ℕ) → level_in sig xs f ≡ level_in sig ys f
  same_level [] [] p f = refl
  same_level [] (y ∷ ys) p f = absurd p
  same_level (x ∷ xs) [] p f = absurd p
  same_level (x ∷ xs) (y ∷ ys) p f =
      let numbers = same_numbers x.names y.names p.0 in
      let rest = same_level xs ys p.1 f in
      λ i. if is_among f (numbers i) then greatest (numbers i) else rest i

  same_status : (xs ys : List RawStatus) → AllZip SameStatus xs ys → (f : ℕ) → status_in sig xs f ≡ status_in sig ys f
  same_status [] [] p f = refl
  same_status [] (y ∷ ys) p f = absurd p
  same_status (x ∷ xs) [] p f = absurd p
  same_status (x ∷ xs) (y ∷ ys) p f =
      let number = same_number x.head y.head p.0.0 in
      let numbers : x.numbers ≡ y.numbers = p.0.1 in
      let rest = same_status xs ys p.1 f in
      λ i. if number i == f then numbers i else rest i

  same_weight : (xs ys : List RawWeight) → AllZip SameWeight xs ys → (f : ℕ) → weight_in sig xs f ≡ weight_in sig ys f
  same_weight [] [] p f = refl
  same_weight [] (y ∷ ys) p f = absurd p
  same_weight (x ∷ xs) [] p f = absurd p
  same_weight (x ∷ xs) (y ∷ ys) p f =
      let number = same_number x.name y.name p.0.0 in
      let weight : x.weight ≡ y.weight = p.0.1 in
      let rest = same_weight xs ys p.1 f in
      λ i. if number i == f then weight i else rest i

  pub orders_stand : (raw other : RawSpec) → IsSameButPlaces raw other → (order : OrderInfo) →
      OrderStands other sig order → OrderStands raw sig order
  orders_stand raw other same (Path levels statuses) (none, levels_are, statuses_are) = (
    no_order raw.order other.order same.order none,
    levels_are ∙ sym (λ i. map (λ f. same_level raw.equals other.equals same.equals f i) (all_numbers sig)),
    statuses_are
        ∙ sym (λ i. map (λ f. same_status raw.statuses other.statuses same.statuses f i) (all_numbers sig)),
  )
  orders_stand raw other same (Weights given) (line, there, given_are) =
      let own = same_line raw.order other.order line same.order there in (
        own.0,
        own.1,
        given_are ∙ sym (λ i. map (λ f. same_weight own.0.weights line.weights own.2 f i) (all_numbers sig)),
      )
