-- What is admitted has no fault.
use Rattle.std.proofs.Common.{◌≡◌, ℕ, List, [], refl, arith, ◌-◌, ◌≤◌, length}
use Rattle.term_core.specs.Tree.{Tree}
use Rattle.term_core.proofs.Items.{all_at}
use Rattle.spec_core.specs.declared.records.Rule.{Rule}
use Rattle.spec_core.specs.declared.records.Spec.{Spec}
use Rattle.spec_core.specs.Groups.{GroupsAreWhole}
use Rattle.spec_core.specs.Findings.{test, Clean}
use Rattle.spec_core.proofs.Findings.{not_both}
use Rattle.overlap_check.specs.declared.answers.Linear.TheVariants.{Fine, Repeated}
use Rattle.overlap_check.specs.Repetition.{IsLinearity}
use Rattle.overlap_check.specs.Laws.{OneLinearity, BothOverlap}
use Rattle.clause_core.specs.Admitted.{GuardIsOrdered, RuleIsOrdered, RulesAreOrdered, IsAdmitted}
use Rattle.spec_admit.specs.Tests.{order_tests, guards_test, FunctionIsCovered, all_order_tests, all_guards_tests}
use Rattle.spec_admit.specs.Tests.{all_coverage_tests}
use Rattle.spec_admit.specs.FirstFault.{IsRepeated, Tells}
use Rattle.spec_admit.specs.declared.faults.AdmitFault.{AdmitFault}
use Rattle.spec_admit.specs.declared.faults.AdmitFault.TheVariants.{Linear, Order, Overlap, Guards, Coverage}
use Rattle.spec_admit.specs.declared.faults.AdmitFault.TheVariants.{OutOfMemory}
use Rattle.spec_admit.proofs.Searches.{after_clean, from_clean}

module _ (above : Tree → Tree → Type 0) where
  pub rule_clean : (rule : Rule) → RuleIsOrdered above rule → (before : List Rule) →
      Clean (order_tests above before rule)
  rule_clean rule o before = (
    λ n. n o.right,
    after_clean _ [] rule.guards
        (λ k g guards at. λ n. n (all_at (GuardIsOrdered above rule.left) rule.guards o.guards k g at)),
  )

  pub order_clean : (spec : Spec) → RulesAreOrdered above spec → Clean (all_order_tests above spec)
  order_clean spec o = after_clean (order_tests above) [] spec.rules
      (λ k rule before at. rule_clean rule (o k rule at) before)

pub guards_clean : (spec : Spec) → GroupsAreWhole spec → Clean (all_guards_tests spec)
guards_clean spec w = after_clean (guards_test spec) [] spec.rules (λ k rule before at. λ n. n (w k rule at))

-- if some left side isn't linear
pub as_linearity : (spec : Spec) (number : ℕ) (name : List ℕ) → (t : IsRepeated spec number name) →
    IsLinearity spec (Repeated number (record { 0 = t.var }))
as_linearity spec number name t = (t.place, t.counts, t.first)

module _ (above : Tree → Tree → Type 0) (spec : Spec) (a : IsAdmitted above spec) where
  covered : (f : ℕ) → spec.sig.constructors ≤ f → FunctionIsCovered spec f
  covered f l i vs at sorted built = a.covering f i vs at (λ c. omega (arith, c, l)) sorted built

  coverage_clean : Clean (all_coverage_tests spec)
  coverage_clean = from_clean (λ f. test f (¬ (FunctionIsCovered spec f))) spec.sig.constructors
      (length spec.sig.table - spec.sig.constructors) (λ f l. λ n. n (covered f l))

  pub no_fault : OneLinearity → BothOverlap → (fault : AdmitFault) → Tells above spec fault → fault ≡ OutOfMemory
  no_fault one both (Linear rule name) t = absurd (let e : Fine ≡ Repeated rule (record { 0 = t.var }) = one
      spec Fine (Repeated rule (record { 0 = t.var })) a.linear (as_linearity spec rule name t) in cc)
  no_fault one both (Order rule part) t = absurd (not_both (all_order_tests above spec) (
    rule,
    part,
  ) (order_clean above spec a.ordered) t.1)
  no_fault one both (Overlap first second values) t = absurd (both spec first second values t.2 a.apart)
  no_fault one both (Guards rule) t = absurd (not_both (all_guards_tests spec) rule (guards_clean spec a.whole) t.3)
  no_fault one both (Coverage f values) t = absurd (not_both (all_coverage_tests spec) f.0 coverage_clean t.4.first)
  no_fault one both OutOfMemory t = refl
