-- What the lines that give an order are answered, from what their parts are.
use Rattle.std.proofs.Common.{◌≡◌, ◌≢◌, ◌⊎◌, inl, inr, List, [], Some, None, Ok, Err, ap, sym, subst}
use Rattle.std.specs.Prelude.{Result, ℕ, map, codes}
use Rattle.spec_core.specs.Sig.{Sig}
use Rattle.spec_core.specs.Findings.{Clean, test, then, each_after}
use Rattle.spec_core.specs.declared.records.OrderInfo.{OrderInfo}
use Rattle.spec_core.specs.declared.records.OrderInfo.TheVariants.{Path, Weights}
use Rattle.spec_grammar.specs.declared.raw.RawEqual.{RawEqual}
use Rattle.spec_grammar.specs.declared.raw.RawStatus.{RawStatus}
use Rattle.spec_grammar.specs.declared.raw.RawWeight.{RawWeight}
use Rattle.spec_grammar.specs.declared.raw.RawOrder.{RawOrder}
use Rattle.spec_grammar.specs.declared.raw.RawSpec.{RawSpec}
use Rattle.sort_check.specs.Answers.{Answers, Tells}
use Rattle.sort_check.specs.Orders.{level_in, status_in, weight_in, all_numbers, OrderStands}
use Rattle.sort_check.specs.OrderTests.{weight_tests, line_tests, order_line_tests, path_tests, order_tests}
use Rattle.sort_check.specs.declared.faults.SortFault.{SortFault}
use Rattle.sort_check.specs.declared.faults.SortFault.TheVariants.{Sort}
use Rattle.sort_check.specs.declared.faults.SortKind.TheVariants.{UnknownName, EqualOrStatusWithKbo}
use Rattle.sort_check.proofs.Telling.{tells_then}

module _ (sig : Sig) (equals : List RawEqual) (statuses : List RawStatus) where
  -- an order line with the name of the ordering by weights, alone
  module _
      (line : RawOrder) (named : line.name.name ≡ codes "kbo") (no_equals : equals ≡ [])
      (no_statuses : statuses ≡ []) where
    alone : (equals ≢ []) ⊎ (statuses ≢ []) → ⊥
    alone (inl some) = some no_equals
    alone (inr some) = some no_statuses

    pub line_answers :
        (raws : List RawWeight) (r : Result (List ℕ) SortFault) → raws ≡ line.weights →
        Answers (each_after (weight_tests sig) [] raws) (λ ws. ws ≡ map (weight_in sig raws) (all_numbers sig)) r →
        Answers (line_tests sig equals statuses line)
        (λ ws. ws ≡ map (weight_in sig line.weights) (all_numbers sig)) r
    line_answers raws r is a =
        by r (subst (λ (us : List RawWeight). Answers (each_after (weight_tests sig) [] us)
        (λ ws. ws ≡ map (weight_in sig us) (all_numbers sig)) r) is a)
      where
        by :
            (q : Result (List ℕ) SortFault) →
            Answers (each_after (weight_tests sig) [] line.weights)
            (λ ws. ws ≡ map (weight_in sig line.weights) (all_numbers sig)) q →
            Answers (line_tests sig equals statuses line)
            (λ ws. ws ≡ map (weight_in sig line.weights) (all_numbers sig)) q
        by (Ok ws) b = (((λ other. other named), (alone, b.0)), b.1)
        by (Err e) b =
            tells_then (test (Sort line.name.at UnknownName) (line.name.name ≢ codes "kbo"))
            (then (test (Sort line.name.at EqualOrStatusWithKbo) ((equals ≢ []) ⊎ (statuses ≢ [])))
            (each_after (weight_tests sig) [] line.weights))
            e (λ other. other named)
            (tells_then (test (Sort line.name.at EqualOrStatusWithKbo) ((equals ≢ []) ⊎ (statuses ≢ [])))
            (each_after (weight_tests sig) [] line.weights) e alone b)

  module _
      (raw : RawSpec) (equals_are : equals ≡ raw.equals) (statuses_are : statuses ≡ raw.statuses)
      (clean : Clean (path_tests sig equals statuses)) where
    path_clean : Clean (path_tests sig raw.equals raw.statuses)
    path_clean =
        subst (λ es. Clean (path_tests sig es raw.statuses)) equals_are
        (subst (λ ss. Clean (path_tests sig equals ss)) statuses_are clean)

    -- no order line
    pub path_stands :
        (order : OrderInfo) → raw.order ≡ None →
        order ≡ Path (map (level_in sig equals) (all_numbers sig)) (map (status_in sig statuses) (all_numbers sig)) →
        Clean (order_tests sig raw) × OrderStands raw sig order
    path_stands order none is = (
      (path_clean, subst (λ o. Clean (order_line_tests sig raw.equals raw.statuses o)) (sym none) tt),
      subst (λ (o : OrderInfo). OrderStands raw sig o) (sym is) (
        none,
        ap (λ es. map (level_in sig es) (all_numbers sig)) equals_are,
        ap (λ ss. map (status_in sig ss) (all_numbers sig)) statuses_are,
      ),
    )

    -- an order line
    module _ (line : RawOrder) (there : raw.order ≡ Some line) where
      pub line_stands :
          (weights : List ℕ) → Clean (line_tests sig equals statuses line) →
          weights ≡ map (weight_in sig line.weights) (all_numbers sig) →
          Clean (order_tests sig raw) × OrderStands raw sig (Weights weights)
      line_stands weights c is = (
        (
          path_clean,
          subst (λ o. Clean (order_line_tests sig raw.equals raw.statuses o)) (sym there)
              (subst (λ es. Clean (line_tests sig es raw.statuses line)) equals_are
              (subst (λ ss. Clean (line_tests sig equals ss line)) statuses_are c)),
        ),
        (line, there, is),
      )

      pub line_tells : (e : SortFault) → Tells (line_tests sig equals statuses line) e → Tells (order_tests sig raw) e
      line_tells e told =
          tells_then (path_tests sig raw.equals raw.statuses) (order_line_tests sig raw.equals raw.statuses raw.order) e
          path_clean
          (subst (λ o. Tells (order_line_tests sig raw.equals raw.statuses o) e) (sym there)
          (subst (λ es. Tells (line_tests sig es raw.statuses line) e) equals_are
          (subst (λ ss. Tells (line_tests sig equals ss line) e) statuses_are told)))
