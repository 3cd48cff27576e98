-- If no test of the lines finds a fault, they make an order. Their levels and statuses make a precedence: the level
-- of a symbol is the number of a symbol that has as many arguments.
use Rattle.std.proofs.Common.{◌≡◌, ◌≢◌, ℕ, ◌<◌, ◌⊎◌, inl, inr, Bool, true, false, Option, Some, None, List, [], ◌∷◌}
use Rattle.std.proofs.Common.{◌++◌, length, map, get_or, refl, ap, sym, ◌∙◌, subst, arith}
use Rattle.std.specs.Prelude.{◌==◌, ◌||◌, if◌then◌else◌, IsTrue, unwrap_or, slice_index}
use Rattle.std.specs.Str.{bytes_eq}
use Rattle.std.specs.List.{AllByRecursion, range_with_len}
use Rattle.std.proofs.lemmas.Bool.{eqb-true, false_from_ne_true}
use Rattle.std.proofs.lemmas.Bool.Decides.{eqb_tells}
use Rattle.std.proofs.lemmas.List.{length-map, ext_get_or, get_or-map}
use Rattle.std.proofs.lemmas.List.FromFn.{length-range_with_len, length-map-range_with_len, get_or-map-range_with_len}
use Rattle.std.proofs.lemmas.List.Quantifiers.{position-Some}
use Rattle.term_core.specs.Precedence.{Precedence, IsPrecedence, is_status, level}
use Rattle.term_core.proofs.Statuses.{range-is-status}
use Rattle.term_core.proofs.Numbers.{same_or_not}
use Rattle.spec_core.specs.Sig.{Sig, names_of}
use Rattle.spec_core.specs.Orders.{IsOrderOf, arities, order_by_number}
use Rattle.spec_core.specs.Findings.{Clean, each_after}
use Rattle.spec_core.specs.declared.records.OrderInfo.{OrderInfo}
use Rattle.spec_core.specs.declared.records.OrderInfo.TheVariants.{Path, Weights}
use Rattle.spec_core.proofs.ByNumber.{count-arities}
use Rattle.spec_grammar.specs.declared.raw.RawName.{RawName}
use Rattle.spec_grammar.specs.declared.raw.RawEqual.{RawEqual}
use Rattle.spec_grammar.specs.declared.raw.RawStatus.{RawStatus}
use Rattle.spec_grammar.specs.declared.raw.RawOrder.{RawOrder}
use Rattle.spec_grammar.specs.declared.raw.RawSpec.{RawSpec}
use Rattle.sort_check.specs.Orders.{is_among, greatest, symbol_number, symbol_numbers, level_in, status_in, weight_in}
use Rattle.sort_check.specs.Orders.{all_numbers, OrderStands}
use Rattle.sort_check.specs.OrderTests.{names_in, arity, name_tests, equal_tests, status_tests, order_line_tests}
use Rattle.sort_check.specs.OrderTests.{order_tests, IsOrderOfArguments}
use Rattle.sort_check.specs.Words.{symbol_named}
use Rattle.sort_check.proofs.Levels.{among-first, among-has, greatest-has}
use Rattle.sort_check.proofs.Weighings.{given_are_weights}

-- a map that changes nothing
map-same : (g : ℕ → ℕ) → ((n : ℕ) → g n ≡ n) → (ns : List ℕ) → map g ns ≡ ns
map-same g same [] = refl
map-same g same (n ∷ ns) =
    let a : g n ≡ n = same n in
    let b : map g ns ≡ ns = map-same g same ns in
    λ i. a i ∷ b i

all-map : {X : Type 0} (P : X → Type 0) (g : ℕ → X) → ((n : ℕ) → P (g n)) → (ns : List ℕ) → AllByRecursion P (map g ns)
all-map P g all [] = tt
all-map P g all (n ∷ ns) = (all n, all-map P g all ns)

module _ (sig : Sig) where
  -- how many arguments the symbol with this number has
  abbrev arity_at : ℕ → ℕ
  arity_at f = slice_index (arities sig) f

  -- the number of a symbol that there is
  number_within : (n : RawName) → (symbol_named sig n.name ≡ None → ⊥) → symbol_number sig n < length sig.table
  number_within n known = by (symbol_named sig n.name) refl
    where
      by : (o : Option ℕ) → symbol_named sig n.name ≡ o → unwrap_or o (length sig.table) < length sig.table
      by (Some f) e =
          let p = position-Some (bytes_eq n.name) (names_of sig) f [] e in
          omega (arith, p.0, length-map sig.table (λ (e : List ℕ × _). e.0))
      by None e = absurd (known e)

  -- a symbol with this many arguments
  abbrev HasArity : ℕ → ℕ → Type 0
  HasArity a f = (f < length sig.table) × (arity_at f ≡ a)

  -- Equal lines.

  module _ (seen : List ℕ) where
    -- a line names no function that is seen
    pub line-apart :
        (before names : List RawName) → Clean (each_after (name_tests sig seen) before names) →
        (f : ℕ) → is_among f (symbol_numbers sig names) ≡ true → is_among f seen ≡ false
    line-apart before [] c f h = absurd (let q : false ≡ true = h in cc)
    line-apart before (n ∷ ns) c f h =
        elim (eqb_tells (symbol_number sig n) f) [
          | inl e ↦
              subst (λ k. is_among k seen ≡ false) e.1
              (among-first (symbol_number sig n) seen (symbol_numbers sig before)
              (false_from_ne_true _ c.0.0.1.1))
          | inr d ↦
              line-apart (before ++ n ∷ []) ns c.1 f
              (sym (ap (λ b. b || is_among f (symbol_numbers sig ns)) d.0) ∙ h)
        ]

    line-alike :
        (first : RawName) (others names : List RawName) →
        Clean (each_after (name_tests sig seen) (first ∷ others) names) →
        AllByRecursion (HasArity (arity sig first)) (symbol_numbers sig names)
    line-alike first others [] c = tt
    line-alike first others (n ∷ ns) c = (
      (number_within n c.0.0.0, same (same_or_not (arity sig n) (arity sig first))),
      line-alike first (others ++ n ∷ []) ns c.1,
    )
      where
        same : (arity sig n ≡ arity sig first) ⊎ (arity sig n ≢ arity sig first) → arity sig n ≡ arity sig first
        same (inl e) = e
        same (inr d) = absurd (c.0.1 d)

    line-level :
        (names : List RawName) → Clean (each_after (name_tests sig seen) [] names) → (f : ℕ) →
        is_among f (symbol_numbers sig names) ≡ true →
        HasArity (arity_at f) (greatest (symbol_numbers sig names))
    line-level [] c f h = absurd (let q : false ≡ true = h in cc)
    line-level (n ∷ ns) c f h =
        let first : HasArity (arity sig n) (symbol_number sig n) = (number_within n c.0.0.0, refl) in
        let others = line-alike n [] ns c.1 in
        let top = greatest-has (HasArity (arity sig n)) (symbol_number sig n) (symbol_numbers sig ns) first others in
        let own = among-has (HasArity (arity sig n)) f (symbol_numbers sig (n ∷ ns)) (first, others) h in
        (top.0, top.1 ∙ sym own.1)

  pub level-has :
      (before lines : List RawEqual) → Clean (each_after (equal_tests sig) before lines) →
      (f : ℕ) → f < length sig.table →
      HasArity (arity_at f) (level_in sig lines f)
  level-has before [] c f lt = (lt, refl)
  level-has before (line ∷ lines) c f lt =
      by (is_among f (symbol_numbers sig line.names)) refl (level-has (before ++ line ∷ []) lines c.1 f lt)
    where
      by :
          (b : Bool) → is_among f (symbol_numbers sig line.names) ≡ b → HasArity (arity_at f) (level_in sig lines f) →
          HasArity (arity_at f) (if b then greatest (symbol_numbers sig line.names) else level_in sig lines f)
      by true q later = line-level (symbol_numbers sig (names_in before)) line.names c.0 f q
      by false q later = later

  -- Status lines.

  numbers-order :
      (a : ℕ) (ns : List ℕ) → (¬ (IsOrderOfArguments a ns) → ⊥) → IsOrderOfArguments a ns
  numbers-order a ns h = by (same_or_not (length ns) a) (is_status ns) refl
    where
      by : (length ns ≡ a) ⊎ (length ns ≢ a) → (b : Bool) → is_status ns ≡ b → IsOrderOfArguments a ns
      by (inl e) true q = (e, q)
      by (inl e) false q = absurd (h (λ o. let w : false ≡ true = sym q ∙ o.1 in cc))
      by (inr d) b q = absurd (h (λ o. d o.0))

  pub status-orders :
      (before lines : List RawStatus) → Clean (each_after (status_tests sig) before lines) →
      (f : ℕ) → IsOrderOfArguments (arity_at f) (status_in sig lines f)
  status-orders before [] c f = (length-range_with_len 1 (arity_at f), range-is-status (arity_at f))
  status-orders before (line ∷ lines) c f =
      by (symbol_number sig line.head == f) refl (status-orders (before ++ line ∷ []) lines c.1 f)
    where
      by :
          (b : Bool) → (symbol_number sig line.head == f) ≡ b →
          IsOrderOfArguments (arity_at f) (status_in sig lines f) →
          IsOrderOfArguments (arity_at f) (if b then line.numbers else status_in sig lines f)
      by true q later =
          subst (λ k. IsOrderOfArguments (arity_at k) line.numbers)
          (eqb-true (symbol_number sig line.head) f q) (numbers-order (arity sig line.head) line.numbers c.0.1)
      by false q later = later

  -- The order.

  module _ (equals : List RawEqual) (statuses : List RawStatus) where
    abbrev made : Precedence
    made = record {
      levels = map (level_in sig equals) (all_numbers sig);
      statuses = map (status_in sig statuses) (all_numbers sig);
    }

    levels-long : length made.levels ≡ length sig.table
    levels-long = length-map-range_with_len (level_in sig equals) 0 (length sig.table)

    level-is : (f : ℕ) → f < length made.levels → level made f ≡ level_in sig equals f
    level-is f lt =
        get_or-map-range_with_len (level_in sig equals) 0 (length sig.table) f f f
        (omega (arith, lt, levels-long)) (omega arith)

    status-is : (f : ℕ) → f < length made.levels → get_or made.statuses f [] ≡ status_in sig statuses f
    status-is f lt =
        get_or-map-range_with_len (status_in sig statuses) 0 (length sig.table) f f []
        (omega (arith, lt, levels-long)) (omega arith)

    module _
        (equals_clean : Clean (each_after (equal_tests sig) [] equals))
        (statuses_clean : Clean (each_after (status_tests sig) [] statuses)) where
      status-long : (f : ℕ) → f < length made.levels → length (get_or made.statuses f []) ≡ arity_at (level made f)
      status-long f lt =
          let within : f < length sig.table = omega (arith, lt, levels-long) in
          ap length (status-is f lt) ∙ (status-orders [] statuses statuses_clean f).0
          ∙ sym (ap arity_at (level-is f lt) ∙ (level-has [] equals equals_clean f within).1)

      pub made-is-precedence : IsPrecedence made
      made-is-precedence = record {
        one_length = length-map-range_with_len (status_in sig statuses) 0 (length sig.table) ∙ sym levels-long;
        below = λ f lt.
            let within : f < length sig.table = omega (arith, lt, levels-long) in
            let l = (level-has [] equals equals_clean f within).0 in
            omega (arith, l, level-is f lt, levels-long);
        in_order =
            all-map (λ ps. IsTrue (is_status ps)) (status_in sig statuses)
            (λ f. (status-orders [] statuses statuses_clean f).1) (all_numbers sig);
        one_arity = λ f g l k e. status-long f l ∙ ap arity_at e ∙ sym (status-long g k);
      }

  -- the weights of an order line without a fault are weights
  line_is_order :
      (raw : RawSpec) (line : RawOrder) → raw.order ≡ Some line →
      Clean (order_line_tests sig raw.equals raw.statuses raw.order) →
      IsOrderOf sig (Weights (map (weight_in sig line.weights) (all_numbers sig)))
  line_is_order raw line there clean =
      let tested = subst (λ o. Clean (order_line_tests sig raw.equals raw.statuses o)) there clean in (
        length-map-range_with_len (weight_in sig line.weights) 0 (length sig.table),
        given_are_weights sig line.weights tested.1.1 (all_numbers sig),
      )

  -- the order that lines without a fault stand for is an order
  pub stands_is_order :
      (raw : RawSpec) (order : OrderInfo) → Clean (order_tests sig raw) →
      OrderStands raw sig order → IsOrderOf sig order
  stands_is_order raw (Path levels statuses) c stands =
      subst (λ (o : OrderInfo). IsOrderOf sig o) (sym (λ i. Path (stands.1 i) (stands.2 i)))
      (levels-long raw.equals raw.statuses, made-is-precedence raw.equals raw.statuses c.0.0 c.0.1)
  stands_is_order raw (Weights given) c stands =
      subst (λ (o : OrderInfo). IsOrderOf sig o) (sym (λ i. Weights (stands.2 i)))
      (line_is_order raw stands.0 stands.1 c.1)

  -- one order stands for lines
  pub one_order :
      (raw : RawSpec) (o u : OrderInfo) → OrderStands raw sig o → OrderStands raw sig u → o ≡ u
  one_order raw (Path ls ss) (Path ms us) p q =
      let a : ls ≡ ms = p.1 ∙ sym q.1 in
      let b : ss ≡ us = p.2 ∙ sym q.2 in
      λ i. Path (a i) (b i)
  one_order raw (Weights ws) (Weights vs) p q =
      let some : Some p.0 ≡ Some q.0 = sym p.1 ∙ q.1 in
      let same : p.0 ≡ q.0 = cc in
      let e : ws ≡ vs =
      p.2 ∙ ap (λ (line : RawOrder). map (weight_in sig line.weights) (all_numbers sig)) same ∙ sym q.2 in
      λ i. Weights (e i)
  one_order raw (Path ls ss) (Weights vs) p q = absurd (let e : None ≡ Some q.0 = sym p.0 ∙ q.1 in cc)
  one_order raw (Weights ws) (Path ms us) p q = absurd (let e : None ≡ Some p.0 = sym q.0 ∙ p.1 in cc)

  -- Without lines it is the order by number.

  pub levels_by_number : map (level_in sig []) (all_numbers sig) ≡ range_with_len 0 (length (arities sig))
  levels_by_number =
      map-same (level_in sig []) (λ f. refl) (all_numbers sig)
      ∙ ap (range_with_len 0) (sym (count-arities sig))

  pub statuses_by_number : map (status_in sig []) (all_numbers sig) ≡ map (range_with_len 1) (arities sig)
  statuses_by_number =
      ext_get_or [] (map (status_in sig []) (all_numbers sig)) (map (range_with_len 1) (arities sig))
      (long ∙ sym (length-map (arities sig) (range_with_len 1) ∙ count-arities sig)) at
    where
      long : length (map (status_in sig []) (all_numbers sig)) ≡ length sig.table
      long = length-map-range_with_len (status_in sig []) 0 (length sig.table)

      at :
          (f : ℕ) → f < length (map (status_in sig []) (all_numbers sig)) →
          get_or (map (status_in sig []) (all_numbers sig)) f []
          ≡ get_or (map (range_with_len 1) (arities sig)) f []
      at f lt =
          get_or-map-range_with_len (status_in sig []) 0 (length sig.table) f f []
          (omega (arith, lt, long)) (omega arith)
          ∙ sym (get_or-map (range_with_len 1) (arities sig) f 0 [] (omega (arith, lt, long, count-arities sig)))

  pub stands_by_number :
      (raw : RawSpec) → raw.equals ≡ [] → raw.statuses ≡ [] → raw.order ≡ None →
      OrderStands raw sig (order_by_number sig)
  stands_by_number raw no_equals no_statuses no_order = (
    no_order,
    sym (ap (λ ls. map (level_in sig ls) (all_numbers sig)) no_equals ∙ levels_by_number),
    sym (ap (λ ls. map (status_in sig ls) (all_numbers sig)) no_statuses ∙ statuses_by_number),
  )
