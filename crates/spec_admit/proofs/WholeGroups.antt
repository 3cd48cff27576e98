-- Rules whose groups are whole, and the first one whose group isn't.
use Rattle.std.proofs.Common.{◌≡◌, ◌≢◌, ◌<◌, ◌+◌, ◌∙◌, ℕ, List, Some, ap, sym, subst, arith, length, take, get_or}
use Rattle.std.specs.Prelude.{slice_get}
use Rattle.std.specs.List.{AllByRecursion, Any}
use Rattle.std.proofs.lemmas.List.{length-take, get_or-take}
use Rattle.std.proofs.lemmas.Option.{slice_get-get_or}
use Rattle.term_core.specs.Tree.{Tree}
use Rattle.spec_core.specs.declared.records.Rule.{Rule}
use Rattle.spec_core.specs.declared.records.Spec.{Spec}
use Rattle.spec_core.specs.Findings.{First}
use Rattle.spec_core.specs.Groups.{Whole as FormTree, group}
use Rattle.coverage_check.specs.declared.answers.Tree.{Tree as Answer}
use Rattle.coverage_check.specs.GroupTree.{IsRuleNumber, numbered_guards, rules_with, IsTree}
use Rattle.coverage_check.specs.Laws.{TreeDecidesGroups}
use Rattle.spec_admit.specs.Tests.{guards_test, all_guards_tests}
use Rattle.spec_admit.proofs.Searches.{first_at, first_found}
use Rattle.spec_admit.proofs.Earlier.{Earlier}

module _ (spec : Spec) where
  -- the group of this rule's left side is whole
  abbrev pub HasWholeGroup : Rule → Type 0
  HasWholeGroup rule = FormTree (group rule.left 0 spec.rules)

  module _ (n : ℕ) (rule : Rule) (earlier : Earlier HasWholeGroup spec.rules n) where
    -- a rule with the left side of an earlier one has its group
    pub seen_before : (rules : List Rule) → rules ≡ spec.rules →
        Any (λ (r : Rule). r.left ≡ rule.left) (take n rules) → HasWholeGroup rule
    seen_before rules all (k, r, within, is, same) =
        let below : k < n = omega (arith, within, length-take n rules) in
        let inside : k < length spec.rules = omega (arith, within, length-take n rules, ap length all) in
        let read : get_or spec.rules k r ≡ r = ap (λ rs. get_or rs k r) (sym all)
        ∙ sym (get_or-take n rules k r below) ∙ is in
        let at : slice_get spec.rules k ≡ Some r = slice_get-get_or spec.rules k r inside ∙ ap (λ x. Some x) read in
        subst (λ left. FormTree (group left 0 spec.rules)) same (earlier k r below at)

    pub first_gap : slice_get spec.rules n ≡ Some rule → (HasWholeGroup rule → ⊥) →
        First (all_guards_tests spec) (n + 1)
    first_gap at gap =
        first_at (guards_test spec) spec.rules n rule (n + 1)
        at (λ j r before l there. λ h. h (earlier j r l there)) (λ before l. (gap, omega (arith, l)))

  module _ (decides : TreeDecidesGroups) (left : Tree) (numbers : List ℕ)
      (all : numbers ≡ rules_with left spec.rules) where
    pub are_numbers : AllByRecursion (IsRuleNumber spec) numbers
    are_numbers = subst (AllByRecursion (IsRuleNumber spec)) (sym all) (decides spec left).0

    pub decided : (answer : Answer) → IsTree (numbered_guards spec numbers) answer →
        IsTree (group left 0 spec.rules) answer
    decided answer h = ((decides spec left).1 answer).0 (subst (λ ns. IsTree (numbered_guards spec ns) answer) all h)

-- the first rule whose group isn't whole is the first with its left side
pub first_of_group : (spec : Spec) (number : ℕ) → First (all_guards_tests spec) number →
    (place : ℕ) × (rule : Rule) × (number ≡ place + 1) × (slice_get spec.rules place ≡ Some rule)
    × ((k : ℕ) (other : Rule) → k < place → slice_get spec.rules k ≡ Some other → other.left ≢ rule.left)
first_of_group spec number h =
    let r = first_found (guards_test spec) spec.rules number h in (
      r.0,
      r.1,
      omega (arith, r.4, r.5.1),
      r.3,
      λ k other l at same. (r.6 k other l at).1
          (λ w. r.5.0 (subst (λ left. FormTree (group left 0 spec.rules)) same w)),
    )
