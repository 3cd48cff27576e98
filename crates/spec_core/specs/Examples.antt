-- What the definitions say of naturals with addition, and of a few sorts.
use Rattle.std.specs.Prelude.{◌≡◌, [], ◌∷◌, true, false, codes}
use Rattle.term_core.specs.Tree.{Tree, var, app, none}
use Rattle.spec_core.specs.declared.records.Verdict.TheVariants.{Holds, Fails}
use Rattle.spec_core.specs.Sorts.{Sorted, IsValue}
use Rattle.spec_core.specs.Small.{HasSmallValue, IsFirstWithout, IsSmall}
use Rattle.spec_core.specs.Declarations.{IsDeclared, bool_sort}
use Rattle.term_core.specs.Variables.{Numbered}
use Rattle.spec_core.specs.WellSorted.{RuleIsSorted, GoalIsSorted, IsWellSorted}
use Rattle.spec_core.specs.Gives.{Gives}
use Rattle.spec_core.specs.Truth.{GoalFails, GoalHolds}
use Rattle.spec_core.specs.Linear.{IsLinear, LeftSidesAreLinear}
use Rattle.spec_core.specs.Overlap.{NoOverlap}
use Rattle.spec_core.specs.Groups.{Whole}
use Rattle.spec_core.specs.Covering.{IsCovering}
use Rattle.spec_core.specs.Verdict.{IsVerdict}
use Rattle.spec_core.specs.Order.{is_small, values, substitutions}
use Rattle.spec_core.specs.TermText.{term_text}
use Rattle.spec_core.specs.Naturals.{nat, naturals_sig, repeated_sig, endless_sig, naturals, twice, overlapping}
use Rattle.spec_core.specs.Naturals.{uncovered, plus_zero_rule, plus_succ_rule, loose_rule, same_goal, mixed_goal}
use Rattle.spec_core.specs.Naturals.{number, zero_term, succ_term, plus_term}
use Rattle.spec_core.specs.Shapes.{shape, tree_sig, color_sig, wide_sig}

pub record WorkedExamples : Type 0 where
  -- succ(zero) is a value of the sort Nat, and plus(x, zero) has this sort if x has it
  pub one_is_a_value : IsValue naturals_sig nat (succ_term zero_term)
  pub open_sum_is_sorted : Sorted naturals_sig (nat ∷ []) (plus_term (var 0) zero_term) nat
  pub zero_is_no_boolean : Sorted naturals_sig [] zero_term bool_sort → ⊥
  -- plus(x, y) is numbered by first occurrence, and plus(y, x) isn't
  pub numbered : Numbered 0 (plus_term (var 0) (var 1)) 2
  pub not_numbered : Numbered 0 (plus_term (var 1) (var 0)) 2 → ⊥
  -- the declarations of naturals are in order, and those in which zero is also a function aren't
  pub declared : IsDeclared naturals_sig
  pub not_declared : IsDeclared repeated_sig → ⊥
  -- Nat has a small value, and has none if succ is its one constructor
  pub nat_has_a_small_value : HasSmallValue naturals_sig nat
  pub no_small_value : IsFirstWithout endless_sig nat
  -- nor has a sort of which each value has 256 symbols
  pub no_small_wide_value : IsFirstWithout (wide_sig 255) shape
  -- the small value of Nat is zero, that of Tree = node(Tree, Tree) | leaf is leaf, and that of Color = red | green is red
  pub small_nat : IsSmall naturals_sig nat zero_term
  pub small_tree : IsSmall tree_sig shape (app 3 none)
  pub small_color : IsSmall color_sig shape (app 2 none)
  -- a value of 255 symbols is small, and one of 256 isn't
  pub last_small : is_small (number 254) ≡ true
  pub first_large : is_small (number 255) ≡ false
  -- the rules of plus are well sorted, and plus(zero, y) = x isn't
  pub zero_rule_is_sorted : RuleIsSorted naturals_sig plus_zero_rule
  pub succ_rule_is_sorted : RuleIsSorted naturals_sig plus_succ_rule
  pub loose_rule_is_not : RuleIsSorted naturals_sig loose_rule → ⊥
  -- plus(x, y) = plus(x, x) is well sorted, and zero = true isn't
  pub same_goal_is_sorted : GoalIsSorted naturals_sig same_goal
  pub mixed_goal_is_not : GoalIsSorted naturals_sig mixed_goal → ⊥
  -- naturals are well sorted as a whole, and aren't if a goal occurs twice
  pub well_sorted : IsWellSorted naturals
  pub not_well_sorted : IsWellSorted twice → ⊥
  -- plus(succ(zero), zero) gives succ(zero) by two uses of rules
  pub one_plus_zero : Gives naturals (plus_term (succ_term zero_term) zero_term)
      (succ_term zero_term) 2
  pub zero_gives_itself : Gives naturals zero_term zero_term 0
  -- plus(x, y) = plus(x, x) fails at x = zero, y = succ(zero), and holds at x = y = zero
  pub same_fails : GoalFails naturals (zero_term ∷ succ_term zero_term ∷ []) same_goal
  pub same_holds : GoalHolds naturals (zero_term ∷ zero_term ∷ []) same_goal
  -- and so say its verdicts within a budget of one rule use for each side
  pub verdict_fails : IsVerdict naturals (zero_term ∷ succ_term zero_term ∷ []) 1 same_goal Fails
  pub verdict_holds : IsVerdict naturals (zero_term ∷ zero_term ∷ []) 1 same_goal Holds
  -- one rule without guards is a whole group, and so are two that want one test true and false
  pub unguarded : Whole ((0, []) ∷ [])
  pub guarded : (test : Tree) → Whole
      ((0, record { test = test; wanted = true } ∷ [])
      ∷ (1, record { test = test; wanted = false } ∷ []) ∷ [])
  -- plus(zero, y) and plus(succ(x), y) don't overlap, and plus(zero, y) and plus(x, y) do
  pub apart : NoOverlap naturals
  pub not_apart : NoOverlap overlapping → ⊥
  -- plus(zero, y) and plus(succ(x), y) are linear, and plus(x, x) isn't
  pub linear : LeftSidesAreLinear naturals
  pub not_linear : IsLinear (plus_term (var 0) (var 0)) → ⊥
  -- they match all values together, and plus(zero, y) alone doesn't
  pub covering : IsCovering naturals
  pub not_covering : IsCovering uncovered → ⊥
  -- the values of Nat of depth at most 3, and the substitutions of two variables at depth 2
  pub three_values : values naturals_sig 3 nat
      ≡ zero_term ∷ succ_term zero_term ∷ succ_term (succ_term zero_term) ∷ []
  pub no_values : values naturals_sig 0 nat ≡ []
  pub four_substitutions : substitutions naturals same_goal 2
      ≡ (zero_term ∷ zero_term ∷ []) ∷ (zero_term ∷ succ_term zero_term ∷ [])
      ∷ (succ_term zero_term ∷ zero_term ∷ []) ∷ (succ_term zero_term ∷ succ_term zero_term ∷ [])
      ∷ []
  -- the text of plus(x, ?1) if only the variable 0 has a name
  pub text : term_text naturals_sig (codes "x" ∷ []) (plus_term (var 0) (succ_term (var 1)))
      ≡ codes "plus(x, succ(?1))"
  -- the text of the variable 10 without a name has both digits
  pub ten : term_text naturals_sig [] (var 10) ≡ codes "?10"
