-- What the steps of accepting a text say of it.
use Rattle.std.proofs.Common.{◌≡◌, ◌≤◌, ℕ, List, [], ◌∷◌, subst, sym, arith}
use Rattle.std.specs.List.{AllByRecursion}
use Rattle.term_core.specs.Tree.{tree_size}
use Rattle.spec_core.specs.declared.records.Guard.{Guard}
use Rattle.spec_core.specs.declared.records.Rule.{Rule}
use Rattle.spec_core.specs.declared.records.Spec.{Spec}
use Rattle.spec_core.specs.RuleSizes.{RuleIsWithin, RulesAreWithin}
use Rattle.spec_order.specs.Orders.{above_of}
use Rattle.coverage_check.proofs.Namings.{named_missing}
use Rattle.spec_admit.specs.FirstFault.{Tells as IsFirstFault}
use Rattle.spec_admit.specs.declared.faults.AdmitFault.{AdmitFault}
use Rattle.spec_admit.specs.declared.faults.AdmitFault.TheVariants.{Linear, Order, Overlap, Guards, Coverage}
use Rattle.spec_admit.specs.declared.faults.AdmitFault.TheVariants.{OutOfMemory as no_memory}
use Rattle.accepted_spec.specs.declared.refusals.Refusal.{Refusal}
use Rattle.accepted_spec.specs.declared.refusals.Refusal.TheVariants.{Line, OutOfMemory}
use Rattle.accepted_spec.specs.Tellings.{Tells}
use Rattle.accepted_spec.specs.Ranges.{IsPrintableFault}
use Rattle.spec_grammar.specs.Derives.{TextDerives}
use Rattle.spec_grammar.specs.Grammar.{IsSpecText}
use Rattle.spec_grammar.specs.declared.raw.RawSpec.{RawSpec}
use Rattle.sort_check.specs.StandsFor.{StandsFor}
use Rattle.clause_core.specs.Admitted.{IsAdmitted}
use Rattle.accepted_spec.specs.Meanings.{TextStandsFor, IsAcceptedAs}
use Rattle.accepted_spec.specs.AdmitLines.{IsAdmitLine}
use Rattle.accepted_spec.specs.Refusals.{IsTextRefusal, IsRefusalOf, no_specification, not_admitted}
use Rattle.accepted_spec.proofs.SymbolsInRange.{values_in_range, symbol_in_range}

-- what is within a bound is within a greater one
module _ (n m : ℕ) (more : n ≤ m) where
  guards_within : (guards : List Guard) → AllByRecursion (λ (g : Guard). tree_size g.test ≤ n) guards →
      AllByRecursion (λ (g : Guard). tree_size g.test ≤ m) guards
  guards_within [] all = tt
  guards_within (g ∷ guards) all = (omega (arith, all.0), guards_within guards all.1)

  rule_within : (rule : Rule) → RuleIsWithin n rule → RuleIsWithin m rule
  rule_within rule r = (omega (arith, r.0), omega (arith, r.1), guards_within rule.guards r.2)

  rules_within : (rules : List Rule) → AllByRecursion (RuleIsWithin n) rules → AllByRecursion (RuleIsWithin m) rules
  rules_within [] all = tt
  rules_within (rule ∷ rules) all = (rule_within rule all.0, rules_within rules all.1)

  pub spec_within : (spec : Spec) → RulesAreWithin n spec → RulesAreWithin m spec
  spec_within spec all = rules_within spec.rules all

-- the values that a first fault names can be printed
pub fault_printable :
    (spec : Spec) (fault : AdmitFault) → IsFirstFault (above_of spec) spec fault →
    IsPrintableFault spec.sig fault
fault_printable spec (Linear rule name) f = tt
fault_printable spec (Order rule part) f = tt
fault_printable spec (Overlap first second values) f = let m = f.2.5.match_both in
    values_in_range spec.sig values m.info.args m.sorted
fault_printable spec (Guards rule) f = tt
fault_printable spec (Coverage fun values) f =
    let missing = named_missing spec.sig f.4.named in (
      symbol_in_range spec.sig.table fun.0 f.4.info f.4.declared,
      values_in_range spec.sig values f.4.info.args missing.0.0,
    )
fault_printable spec no_memory f = tt

-- a refusal of a text that stands for nothing
pub text_told : (bytes : List ℕ) (r : Refusal) → Tells (IsTextRefusal bytes) r → Tells (IsRefusalOf bytes) r
text_told bytes (Line line) t = no_specification t
text_told bytes OutOfMemory t = tt

-- a refusal of one that stands for a specification with this first fault
pub admit_told :
    (bytes : List ℕ) (spec : Spec) (fault : AdmitFault) → TextStandsFor bytes spec →
    IsFirstFault (above_of spec) spec fault → (r : Refusal) → Tells (IsAdmitLine spec.sig fault) r →
    Tells (IsRefusalOf bytes) r
admit_told bytes spec fault stands first (Line line) t = not_admitted spec fault stands first t
admit_told bytes spec fault stands first OutOfMemory t = tt

-- the specification that admission answers, and the one that it hands back
module _ (bytes : List ℕ) (raw : RawSpec) (spec : Spec) (derived : TextDerives IsSpecText bytes raw)
    (stands : StandsFor raw spec) where
  pub accepted_as : (made : Spec) → made ≡ spec → IsAdmitted (above_of spec) spec → IsAcceptedAs bytes raw made
  accepted_as made same admitted = record {
    derived = derived;
    stands = subst (λ (s : Spec). StandsFor raw s) (sym same) stands;
    admitted = subst (λ (s : Spec). IsAdmitted (above_of s) s) (sym same) admitted;
  }

  pub refused_as :
      (back : Spec) (fault : AdmitFault) → back ≡ spec → IsFirstFault (above_of spec) spec fault →
      (r : Refusal) → Tells (IsAdmitLine back.sig fault) r → Tells (IsRefusalOf bytes) r
  refused_as back fault same first r t =
      admit_told bytes spec fault (raw, derived, stands) first r
      (subst (λ (s : Spec). Tells (IsAdmitLine s.sig fault) r) same t)

pub back_printable :
    (spec back : Spec) (fault : AdmitFault) → back ≡ spec →
    IsFirstFault (above_of spec) spec fault → IsPrintableFault back.sig fault
back_printable spec back fault same first =
    subst (λ (s : Spec). IsPrintableFault s.sig fault) (sym same) (fault_printable spec fault first)
