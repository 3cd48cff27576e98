-- The rules with one left side, by their numbers, have the guards of the left side's group.
use Rattle.std.proofs.Common.{◌≡◌, ◌↔◌, ℕ, suc, ◌+◌, ◌-◌, ◌≤◌, List, [], ◌∷◌, Bool, true, false, cond, map, length}
use Rattle.std.proofs.Common.{refl, ap, sym, ◌∙◌, arith}
use Rattle.std.specs.Prelude.{slice_get}
use Rattle.std.specs.List.{AllByRecursion}
use Rattle.term_core.specs.Tree.{Tree}
use Rattle.spec_core.specs.declared.records.Guard.{Guard}
use Rattle.spec_core.specs.declared.records.Rule.{Rule}
use Rattle.spec_core.specs.declared.records.Spec.{Spec}
use Rattle.term_core.specs.Same.{same_tree}
use Rattle.spec_core.specs.Groups.{Whole as FormTree, group}
use Rattle.coverage_check.specs.declared.answers.Tree.{Tree as Answer}
use Rattle.coverage_check.specs.declared.answers.Tree.TheVariants.{Whole, Gap}
use Rattle.coverage_check.specs.GroupTree.{IsRuleNumber, guards_of, numbered_guards, rules_with, IsTree}
use Rattle.coverage_check.specs.GuardLists.{unnumbered}
use Rattle.coverage_check.proofs.GuardLists.{whole_same}

-- the numbers that a group lists
abbrev numbers : List (ℕ × List Guard) → List ℕ
numbers ms = map (λ (m : ℕ × List Guard). m.0) ms

module _ (spec : Spec) (left : Tree) where
  -- the rules after the first n are those of a list, and by their numbers they have their guards
  have_guards : (n : ℕ) (rs : List Rule) → ((k : ℕ) → slice_get spec.rules (n + k) ≡ slice_get rs k) →
      numbered_guards spec (numbers (group left (suc n) rs)) ≡ group left (suc n) rs
  have_guards n [] h = refl
  have_guards n (r ∷ rs) h =
      by (same_tree left r.left) (have_guards (suc n) rs (λ k. let e : suc n + k ≡ n + suc k = omega arith in
      ap (λ j. slice_get spec.rules j) e ∙ h (suc k)))
    where
      more : List (ℕ × List Guard)
      more = group left (suc (suc n)) rs

      here : guards_of (slice_get spec.rules (suc n - 1)) ≡ r.guards
      here = let e : suc n - 1 ≡ n + 0 = omega arith in ap (λ j. guards_of (slice_get spec.rules j)) e
          ∙ ap (λ o. guards_of o) (h 0)

      by : (b : Bool) → numbered_guards spec (numbers more) ≡ more →
          numbered_guards spec (numbers (cond b ((suc n, r.guards) ∷ more) more)) ≡ cond b
          ((suc n, r.guards) ∷ more) more
      by true further =
          ap (λ gs. (suc n, gs) ∷ numbered_guards spec (numbers more)) here
          ∙ ap (λ ms. (suc n, r.guards) ∷ ms) further
      by false further = further

  are_rules : (n : ℕ) (rs : List Rule) → n + length rs ≡ length spec.rules →
      AllByRecursion (IsRuleNumber spec) (numbers (group left (suc n) rs))
  are_rules n [] h = tt
  are_rules n (r ∷ rs) h = by (same_tree left r.left) (are_rules (suc n) rs (omega arith))
    where
      more : List (ℕ × List Guard)
      more = group left (suc (suc n)) rs

      by : (b : Bool) → AllByRecursion (IsRuleNumber spec) (numbers more) →
          AllByRecursion (IsRuleNumber spec) (numbers (cond b ((suc n, r.guards) ∷ more) more))
      by true further = ((omega arith, omega arith), further)
      by false further = further

-- a group has the same guards, whatever number its first rule has
same_guards : (left : Tree) (n m : ℕ) (rs : List Rule) → unnumbered (group left n rs) ≡ unnumbered (group left m rs)
same_guards left n m [] = refl
same_guards left n m (r ∷ rs) = by (same_tree left r.left) (same_guards left (suc n) (suc m) rs)
  where
    by : (b : Bool) → unnumbered (group left (suc n) rs) ≡ unnumbered (group left (suc m) rs) →
        unnumbered (cond b ((n, r.guards) ∷ group left (suc n) rs) (group left (suc n) rs)) ≡ unnumbered
        (cond b ((m, r.guards) ∷ group left (suc m) rs) (group left (suc m) rs))
    by true further = ap (λ lists. r.guards ∷ lists) further
    by false further = further

pub taken : (spec : Spec) (left : Tree) → AllByRecursion (IsRuleNumber spec) (rules_with left spec.rules)
taken spec left = are_rules spec left 0 spec.rules (omega arith)

pub decided : (spec : Spec) (left : Tree) (answer : Answer) →
    IsTree (numbered_guards spec (rules_with left spec.rules)) answer ↔ IsTree (group left 0 spec.rules) answer
decided spec left answer = by answer
  where
    listed : List (ℕ × List Guard)
    listed = numbered_guards spec (rules_with left spec.rules)

    grouped : List (ℕ × List Guard)
    grouped = group left 0 spec.rules

    same : unnumbered listed ≡ unnumbered grouped
    same =
        ap (λ ms. unnumbered ms) (have_guards spec left 0 spec.rules (λ k. let e : 0 + k ≡ k = omega arith in
        ap (λ j. slice_get spec.rules j) e))
        ∙ same_guards left 1 0 spec.rules

    by : (a : Answer) → IsTree listed a ↔ IsTree grouped a
    by Whole = (λ w. whole_same w grouped same, λ w. whole_same w listed (sym same))
    by Gap = (λ g w. g (whole_same w listed (sym same)), λ g w. g (whole_same w grouped same))
