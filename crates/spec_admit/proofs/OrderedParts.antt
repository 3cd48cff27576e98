-- Rules whose left side is above their parts, and the first part that it isn't above.
use Rattle.std.proofs.Common.{◌≡◌, ◌≤◌, ◌+◌, ℕ, suc, Some, inl, inr, refl, subst, arith, length}
use Rattle.std.specs.Prelude.{slice_get}
use Rattle.term_core.specs.Tree.{Tree}
use Rattle.spec_core.specs.declared.records.Guard.{Guard}
use Rattle.spec_core.specs.declared.records.Rule.{Rule}
use Rattle.spec_core.specs.declared.records.Spec.{Spec}
use Rattle.spec_core.specs.Findings.{First, test}
use Rattle.clause_core.specs.Admitted.{GuardIsOrdered, RuleIsOrdered}
use Rattle.spec_admit.specs.Tests.{order_tests, all_order_tests}
use Rattle.spec_admit.specs.Parts.{IsUnorderedPart}
use Rattle.spec_admit.proofs.Searches.{first_at}
use Rattle.spec_admit.proofs.NoFault.{rule_clean}
use Rattle.spec_admit.proofs.Earlier.{Earlier, earlier_all, all_of}

module _ (above : Tree → Tree → Type 0) where
  module _ (rule : Rule) where
    pub ordered : above rule.left rule.right → (n : ℕ) → length rule.guards ≤ n →
        Earlier (GuardIsOrdered above rule.left) rule.guards n → RuleIsOrdered above rule
    ordered right n end before = record {
      right = right;
      guards = all_of (GuardIsOrdered above rule.left)
          rule.guards (earlier_all _ rule.guards n end before);
    }

    pub right_unordered : (above rule.left rule.right → ⊥) → IsUnorderedPart above rule 0
    right_unordered h before = inl (h, refl)

    pub guard_unordered : above rule.left rule.right → (n : ℕ) (guard : Guard) →
        slice_get rule.guards n ≡ Some guard → Earlier (GuardIsOrdered above rule.left) rule.guards n →
        (GuardIsOrdered above rule.left guard → ⊥) → IsUnorderedPart above rule (n + 1)
    guard_unordered right n guard at earlier not before =
        inr (
          λ k. k right,
          first_at (λ guards g. test (suc (length before), suc (length guards))
              (¬ (GuardIsOrdered above rule.left g))) rule.guards n guard (
                suc (length before),
                n + 1,
              ) at (λ j g guards l there. λ k. k (earlier j g l there))
              (λ guards l. let e : n + 1 ≡ suc (length guards) = omega arith in (not, λ i. (suc (length before), e i))),
        )

  pub unordered : (spec : Spec) (n : ℕ) (rule : Rule) (part : ℕ) → slice_get spec.rules n ≡ Some rule →
      Earlier (RuleIsOrdered above) spec.rules n → IsUnorderedPart above rule part →
      First (all_order_tests above spec) (n + 1, part)
  unordered spec n rule part at earlier first =
      first_at (order_tests above) spec.rules n rule (
        n + 1,
        part,
      ) at (λ j r before l there. rule_clean above r (earlier j r l there) before)
      (λ before l. let e : suc (length before) ≡ n + 1 = omega arith in
      subst (λ m. First (order_tests above before rule) (m, part)) e (first before))
