-- What a walk over one guard answers.
use Rattle.std.proofs.Common.{◌≡◌, List, Some, refl, ap, ◌∙◌, subst}
use Rattle.term_core.specs.Tree.{Tree}
use Rattle.spec_core.specs.Declarations.{bool_sort}
use Rattle.spec_core.specs.Sig.{Sig}
use Rattle.spec_core.specs.Findings.{Clean}
use Rattle.spec_grammar.specs.declared.raw.RawGuard.{RawGuard}
use Rattle.sort_check.specs.Answers.{Tells}
use Rattle.sort_check.specs.Words.{term_tests, entries_after}
use Rattle.sort_check.specs.RuleTests.{guard_tests}
use Rattle.sort_check.specs.Over.{IsOver, IsGuardOver}
use Rattle.sort_check.specs.Parts.{AreSorted}
use Rattle.sort_check.specs.declared.entries.Entry.{Entry}
use Rattle.sort_check.specs.declared.faults.SortFault.{SortFault}
use Rattle.sort_check.specs.declared.faults.SortKind.TheVariants.{GuardNotBool}
use Rattle.sort_check.specs.declared.faults.Part.{Part}
use Rattle.sort_check.specs.declared.faults.Part.TheVariants.{Right}
use Rattle.sort_check.proofs.Facts.{right_same}

module _ (sig : Sig) (part : Part) where
  pub guard_fault : (es fs : List Entry) (raw : RawGuard) (e : SortFault) → part ≡ Right → fs ≡ es →
      Tells (term_tests sig part fs GuardNotBool raw.test (Some bool_sort)) e → Tells (guard_tests sig es raw) e
  guard_fault es fs raw e is same h = subst
      (λ p. Tells (term_tests sig p es GuardNotBool raw.test (Some bool_sort)) e) is
      (subst (λ gs. Tells (term_tests sig part gs GuardNotBool raw.test (Some bool_sort)) e) same h)

  pub guard_over : (es fs gs : List Entry) (raw : RawGuard) (t : Tree) → part ≡ Right → AreSorted es → fs ≡ es →
      Clean (term_tests sig part fs GuardNotBool raw.test (Some bool_sort))
      × ((gs ≡ entries_after sig fs raw.test (Some bool_sort)) × IsOver sig gs raw.test t) →
      Clean (guard_tests sig es raw) × ((gs ≡ es) × IsGuardOver sig es raw (record { test = t; wanted = raw.wanted }))
  guard_over es fs gs raw t is sorted same h =
      let clean : Clean (guard_tests sig es raw) = subst
      (λ p. Clean (term_tests sig p es GuardNotBool raw.test (Some bool_sort))) is
      (subst (λ xs. Clean (term_tests sig part xs GuardNotBool raw.test (Some bool_sort))) same h.0) in
      let after : gs ≡ es = h.1.0 ∙ ap (λ xs. entries_after sig xs raw.test (Some bool_sort)) same
      ∙ right_same sig es GuardNotBool raw.test (Some bool_sort) sorted clean in
      (clean, (after, (subst (λ xs. IsOver sig xs raw.test t) after h.1.1, refl)))
