-- The first faults of a few raw specifications whose lines for an order have some.
use Rattle.std.proofs.Common.{rules, ◌≡◌, ◌≢◌, ℕ, true, false, List, [], ◌∷◌, Option, Some, None, inl, inr, refl, ap}
use Rattle.std.proofs.Common.{arith, get_or}
use Rattle.std.specs.Prelude.{codes}
use Rattle.term_core.specs.Tree.{app, none}
use Rattle.spec_core.specs.Small.{HasSmallValue, sort_of_number}
use Rattle.spec_core.specs.Findings.{Clean, First, each_after}
use Rattle.spec_grammar.specs.declared.raw.RawEqual.{RawEqual}
use Rattle.spec_grammar.specs.declared.raw.RawStatus.{RawStatus}
use Rattle.spec_grammar.specs.declared.raw.RawWeight.{RawWeight}
use Rattle.spec_grammar.specs.declared.raw.RawOrder.{RawOrder}
use Rattle.spec_grammar.specs.declared.raw.RawRule.{RawRule}
use Rattle.spec_grammar.specs.declared.raw.RawSpec.{RawSpec}
use Rattle.sort_check.specs.DeclarationTests.{declarations_tests, values_sig, sig_of}
use Rattle.sort_check.specs.OrderTests.{path_tests, line_tests, weight_tests}
use Rattle.sort_check.specs.FirstFault.{HasFirstFault, HasNoFault}
use Rattle.sort_check.specs.Examples.{equal, status, weight, order, weights, naturals_by, ordered_with, weighed_with}
use Rattle.sort_check.specs.Examples.{weighed_naturals, plus_at, times_at, double_at, half_at, name_at, loose_rule}
use Rattle.sort_check.specs.declared.faults.SortFault.TheVariants.{Sort}
use Rattle.sort_check.specs.declared.faults.SortKind.{SortKind}
use Rattle.sort_check.specs.declared.faults.SortKind.TheVariants.{UnknownName, RepeatedName, WrongNumberOfArguments}
use Rattle.sort_check.specs.declared.faults.SortKind.TheVariants.{NotAFunction, EqualTwice, StatusTwice}
use Rattle.sort_check.specs.declared.faults.SortKind.TheVariants.{NoOrderOfArguments, EqualOrStatusWithKbo}
use Rattle.sort_check.specs.declared.faults.SortKind.TheVariants.{WrongWeight}

same : {A : Type 0} {x : A} → x ≢ x → ⊥
same h = h refl

some_is_not_none : {A : Type 0} {x : A} → Some x ≡ None → ⊥
some_is_not_none e = cc

false_is_not_true : false ≡ true → ⊥
false_is_not_true e = cc

module _
    (equals : List RawEqual) (statuses : List RawStatus) (line : Option RawOrder) (rules_of_plus : List RawRule) where
  zero_is_small : HasSmallValue (values_sig (naturals_by equals statuses line rules_of_plus)) (sort_of_number 1)
  zero_is_small = (app 2 none, ((_, refl, refl, tt), (omega arith, tt)), omega arith)

  declarations_clean : Clean (declarations_tests (naturals_by equals statuses line rules_of_plus))
  declarations_clean = (
    (λ h. h (search rules), tt),
    (
      ((((λ h. h (search rules)), tt), (((λ h. h (search rules)), ((λ h. h.1.0 refl), tt)), tt)), tt),
      (
        ((λ h. h zero_is_small), tt),
        (
          (((λ h. h (search rules)), ((λ h. h.1.0 refl), ((λ h. h.1.0 refl), tt))), (λ h. h.1.0 refl)),
          (
            (((λ h. h (search rules)), ((λ h. h.1.0 refl), ((λ h. h.1.0 refl), tt))), (λ h. h.1.0 refl)),
            (
              (((λ h. h (search rules)), ((λ h. h.1.0 refl), tt)), (λ h. h.1.0 refl)),
              ((((λ h. h (search rules)), ((λ h. h.1.0 refl), tt)), (λ h. h.1.0 refl)), tt),
            ),
          ),
        ),
      ),
    ),
  )

pub no_symbol_first :
    HasFirstFault (ordered_with (equal (plus_at 0 ∷ name_at (codes "minus") 5 ∷ []) ∷ []) [] []) 5 UnknownName
no_symbol_first = inr (
  declarations_clean (equal (plus_at 0 ∷ name_at (codes "minus") 5 ∷ []) ∷ []) [] None [],
  inl (inl (inl (inl (inr (
    ((some_is_not_none, (λ h. omega arith, false_is_not_true)), λ h. h),
    inl (inl (inl (refl, refl))),
  ))))),
)

pub constructor_first :
    HasFirstFault
    (ordered_with (equal (plus_at 0 ∷ name_at (codes "succ") 5 ∷ []) ∷ [])
    (status (name_at (codes "minus") 3) (1 ∷ []) ∷ []) [])
    5 NotAFunction
constructor_first = inr (
  declarations_clean (equal (plus_at 0 ∷ name_at (codes "succ") 5 ∷ []) ∷ [])
      (status (name_at (codes "minus") 3) (1 ∷ []) ∷ []) None [],
  inl (inl (inl (inl (inr (
    ((some_is_not_none, (λ h. omega arith, false_is_not_true)), λ h. h),
    inl (inl (inr (some_is_not_none, inl (omega arith, refl)))),
  ))))),
)

pub same_line_first :
    HasFirstFault (ordered_with (equal (plus_at 0 ∷ plus_at 5 ∷ []) ∷ []) [] []) 5 EqualTwice
same_line_first = inr (
  declarations_clean (equal (plus_at 0 ∷ plus_at 5 ∷ []) ∷ []) [] None [],
  inl (inl (inl (inl (inr (
    ((some_is_not_none, (λ h. omega arith, false_is_not_true)), λ h. h),
    inl (inl (inr (some_is_not_none, inr (λ h. omega arith, (refl, refl))))),
  ))))),
)

pub other_line_first :
    HasFirstFault
    (ordered_with (equal (double_at 0 ∷ half_at 0 ∷ []) ∷ equal (plus_at 0 ∷ half_at 5 ∷ []) ∷ []) [] [])
    5 EqualTwice
other_line_first = inr (
  declarations_clean (equal (double_at 0 ∷ half_at 0 ∷ []) ∷ equal (plus_at 0 ∷ half_at 5 ∷ []) ∷ []) [] None [],
  inl (inl (inl (inr (
    (
      ((some_is_not_none, (λ h. omega arith, false_is_not_true)), λ h. h),
      (((some_is_not_none, (λ h. omega arith, false_is_not_true)), same), tt),
    ),
    inl (inr (
      ((some_is_not_none, (λ h. omega arith, false_is_not_true)), λ h. h),
      inl (inl (inr (some_is_not_none, inr (λ h. omega arith, (refl, refl))))),
    )),
  )))),
)

pub unlike_first :
    HasFirstFault (ordered_with (equal (plus_at 0 ∷ double_at 5 ∷ []) ∷ []) [] []) 5 WrongNumberOfArguments
unlike_first = inr (
  declarations_clean (equal (plus_at 0 ∷ double_at 5 ∷ []) ∷ []) [] None [],
  inl (inl (inl (inl (inr (
    ((some_is_not_none, (λ h. omega arith, false_is_not_true)), λ h. h),
    inl (inr ((some_is_not_none, (λ h. omega arith, false_is_not_true)), (omega arith, refl))),
  ))))),
)

pub second_status_first :
    HasFirstFault
    (ordered_with [] (status (plus_at 0) (2 ∷ 1 ∷ []) ∷ status (plus_at 5) (2 ∷ 2 ∷ []) ∷ []) [])
    5 StatusTwice
second_status_first = inr (
  declarations_clean [] (status (plus_at 0) (2 ∷ 1 ∷ []) ∷ status (plus_at 5) (2 ∷ 2 ∷ []) ∷ []) None [],
  inl (inl (inr (
    tt,
    inr (
      ((some_is_not_none, (λ h. omega arith, false_is_not_true)), λ h. h (refl, refl)),
      inl (inl (inr (some_is_not_none, inr (λ h. omega arith, (refl, refl))))),
    ),
  ))),
)

pub no_order_first :
    HasFirstFault (ordered_with [] (status (plus_at 9) (2 ∷ 2 ∷ []) ∷ []) (loose_rule ∷ []))
    9 NoOrderOfArguments
no_order_first = inr (
  declarations_clean [] (status (plus_at 9) (2 ∷ 2 ∷ []) ∷ []) None (loose_rule ∷ []),
  inl (inl (inr (
    tt,
    inl (inr (
      (some_is_not_none, (λ h. omega arith, false_is_not_true)),
      ((λ o. false_is_not_true o.1), refl),
    )),
  ))),
)

pub few_numbers_first :
    HasFirstFault (ordered_with [] (status (plus_at 5) (1 ∷ []) ∷ []) []) 5 NoOrderOfArguments
few_numbers_first = inr (
  declarations_clean [] (status (plus_at 5) (1 ∷ []) ∷ []) None [],
  inl (inl (inr (
    tt,
    inl (inr (
      (some_is_not_none, (λ h. omega arith, false_is_not_true)),
      ((λ o. omega arith), refl),
    )),
  ))),
)

-- Order lines.

other_name : codes "lpo" ≡ codes "kbo" → ⊥
other_name e = let first : 108 ≡ 107 = ap (λ name. get_or name 0 0) e in omega (arith, first)

some_are_not_none : {A : Type 0} {x : A} {xs : List A} → x ∷ xs ≡ [] → ⊥
some_are_not_none e = cc

pub weighed_clean : HasNoFault weighed_naturals
weighed_clean = (
  declarations_clean [] [] (Some (order (codes "kbo") weights)) [],
  (
    (
      (tt, tt),
      (
        same,
        (
          (λ some. elim some [ inl e ↦ e refl | inr e ↦ e refl ]),
          (
            (some_is_not_none, (false_is_not_true, λ h. h (omega arith, omega arith))),
            ((some_is_not_none, (false_is_not_true, λ h. h (omega arith, omega arith))), tt),
          ),
        ),
      ),
    ),
    (tt, tt),
  ),
)

pub equal_before_order_first :
    HasFirstFault
    (weighed_with (equal (plus_at 0 ∷ name_at (codes "minus") 3 ∷ []) ∷ []) [] (order (codes "lpo") []) [])
    3 UnknownName
equal_before_order_first = inr (
  declarations_clean (equal (plus_at 0 ∷ name_at (codes "minus") 3 ∷ []) ∷ []) []
      (Some (order (codes "lpo") [])) [],
  inl (inl (inl (inl (inr (
    ((some_is_not_none, (λ h. omega arith, false_is_not_true)), λ h. h),
    inl (inl (inl (refl, refl))),
  ))))),
)

-- what is found at the line order NAME : WEIGHTS, after these lines for the path ordering
module _
    (equals : List RawEqual) (statuses : List RawStatus) (line : RawOrder) (rules_of_plus : List RawRule)
    (path_clean : Clean (path_tests (sig_of (weighed_with equals statuses line rules_of_plus)) equals statuses))
    (at : ℕ) (kind : SortKind) where
  line_first :
      First (line_tests (sig_of (weighed_with equals statuses line rules_of_plus)) equals statuses line)
      (Sort at kind) → HasFirstFault (weighed_with equals statuses line rules_of_plus) at kind
  line_first first =
      inr (declarations_clean equals statuses (Some line) rules_of_plus, inl (inr (path_clean, first)))

module _ (weights_given : List RawWeight) (rules_of_plus : List RawRule) (at : ℕ) (kind : SortKind) where
  abbrev weighed_so : RawSpec
  weighed_so = weighed_with [] [] (order (codes "kbo") weights_given) rules_of_plus

  weight_first :
      First (each_after (weight_tests (sig_of weighed_so)) [] weights_given) (Sort at kind) →
      HasFirstFault weighed_so at kind
  weight_first first =
      line_first [] [] (order (codes "kbo") weights_given) rules_of_plus (tt, tt) at kind
      (inr (same, inr (λ some. elim some [ inl e ↦ e refl | inr e ↦ e refl ], first)))

pub no_ordering_first :
    HasFirstFault
    (weighed_with [] (status (plus_at 0) (2 ∷ 1 ∷ []) ∷ []) (order (codes "lpo") (weight (codes "minus") 9 1 ∷ [])) [])
    5 UnknownName
no_ordering_first =
    line_first [] (status (plus_at 0) (2 ∷ 1 ∷ []) ∷ []) (order (codes "lpo") (weight (codes "minus") 9 1 ∷ [])) []
    (tt, (((some_is_not_none, (λ h. omega arith, false_is_not_true)), λ h. h (refl, refl)), tt))
    5 UnknownName (inl (other_name, refl))

pub status_with_weights_first :
    HasFirstFault
    (weighed_with [] (status (plus_at 0) (2 ∷ 1 ∷ []) ∷ []) (order (codes "kbo") (weight (codes "minus") 9 1 ∷ [])) [])
    5 EqualOrStatusWithKbo
status_with_weights_first =
    line_first [] (status (plus_at 0) (2 ∷ 1 ∷ []) ∷ []) (order (codes "kbo") (weight (codes "minus") 9 1 ∷ [])) []
    (tt, (((some_is_not_none, (λ h. omega arith, false_is_not_true)), λ h. h (refl, refl)), tt))
    5 EqualOrStatusWithKbo (inr (same, inl (inr some_are_not_none, refl)))

pub equal_with_weights_first :
    HasFirstFault
    (weighed_with (equal (plus_at 0 ∷ times_at 0 ∷ []) ∷ []) [] (order (codes "kbo") []) [])
    5 EqualOrStatusWithKbo
equal_with_weights_first =
    line_first (equal (plus_at 0 ∷ times_at 0 ∷ []) ∷ []) [] (order (codes "kbo") []) [] (
      (
        (
          ((some_is_not_none, (λ h. omega arith, false_is_not_true)), λ h. h),
          (((some_is_not_none, (λ h. omega arith, false_is_not_true)), same), tt),
        ),
        tt,
      ),
      tt,
    )
    5 EqualOrStatusWithKbo (inr (same, inl (inl some_are_not_none, refl)))

pub no_weighed_symbol_first :
    HasFirstFault
    (weighed_with [] [] (order (codes "kbo") (weight (codes "minus") 9 1 ∷ weight (codes "plus") 20 0 ∷ [])) [])
    9 UnknownName
no_weighed_symbol_first =
    weight_first (weight (codes "minus") 9 1 ∷ weight (codes "plus") 20 0 ∷ []) [] 9 UnknownName
    (inl (inl (refl, refl)))

pub weighed_twice_first :
    HasFirstFault
    (weighed_with [] [] (order (codes "kbo") (weight (codes "plus") 9 2 ∷ weight (codes "plus") 20 0 ∷ [])) [])
    20 RepeatedName
weighed_twice_first =
    weight_first (weight (codes "plus") 9 2 ∷ weight (codes "plus") 20 0 ∷ []) [] 20 RepeatedName
    (inr (
      (some_is_not_none, (false_is_not_true, λ h. h (omega arith, omega arith))),
      inl (inr (some_is_not_none, inl (refl, refl))),
    ))

pub no_weight_first :
    HasFirstFault (weighed_with [] [] (order (codes "kbo") (weight (codes "true") 9 0 ∷ [])) []) 9 WrongWeight
no_weight_first =
    weight_first (weight (codes "true") 9 0 ∷ []) [] 9 WrongWeight
    (inl (inr (some_is_not_none, inr (false_is_not_true, (λ fits. omega (arith, fits.0), refl)))))

pub too_heavy_first :
    HasFirstFault
    (weighed_with [] [] (order (codes "kbo") (weight (codes "plus") 9 1000 ∷ weight (codes "succ") 20 1001 ∷ []))
    (loose_rule ∷ []))
    20 WrongWeight
too_heavy_first =
    weight_first (weight (codes "plus") 9 1000 ∷ weight (codes "succ") 20 1001 ∷ []) (loose_rule ∷ []) 20 WrongWeight
    (inr (
      (some_is_not_none, (false_is_not_true, λ h. h (omega arith, omega arith))),
      inl (inr (some_is_not_none, inr (false_is_not_true, (λ fits. omega (arith, fits.1), refl)))),
    ))
