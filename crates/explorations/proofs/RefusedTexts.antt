-- A text that is refused is accepted as no specification.
use Rattle.std.proofs.Common.{◌≡◌, ℕ, ◌≤◌, List, Bool, true, false, subst, arith, take, codes}
use Rattle.std.specs.Prelude.{if◌then◌else◌}
use Rattle.std.specs.Str.{bytes_eq}
use Rattle.spec_core.specs.declared.records.Spec.{Spec}
use Rattle.spec_grammar.specs.declared.raw.RawSpec.{RawSpec}
use Rattle.spec_grammar.specs.Laws.{OneReading}
use Rattle.spec_grammar.specs.Limits.{file_limit}
use Rattle.spec_syntax.specs.Laws.{OneFault}
use Rattle.sort_check.specs.StandsFor.{StandsFor}
use Rattle.sort_check.specs.Laws.{FaultyStandsForNone, OneSpecification}
use Rattle.spec_order.specs.Orders.{above_of}
use Rattle.spec_admit.specs.FirstFault.{Tells as IsFirstFault}
use Rattle.spec_admit.specs.Laws.{NoFaultWhereAdmitted}
use Rattle.spec_admit.specs.declared.faults.AdmitFault.{AdmitFault}
use Rattle.spec_admit.specs.declared.faults.AdmitFault.TheVariants.{OutOfMemory}
use Rattle.accepted_spec.specs.AdmitLines.{IsAdmitLine}
use Rattle.accepted_spec.specs.Meanings.{IsAcceptedAs}
use Rattle.accepted_spec.specs.Refusals.{faulty, unsorted, no_specification, not_admitted, IsRefusalOf, IsTextRefusal}

-- no file may have more bytes than any format allows
pub limit_within : (bytes : List ℕ) → file_limit bytes ≤ 4194304
limit_within bytes = by (bytes_eq (take 7 bytes) (codes "spike 2"))
  where
    by : (b : Bool) → (if b then 4194304 else 1048576) ≤ 4194304
    by true = omega arith
    by false = omega arith

module _ (reading : OneReading) (meaning : OneSpecification) where
  -- a text is accepted as one specification
  pub one_accepted : (bytes : List ℕ) (raw again : RawSpec) (spec other : Spec) →
      IsAcceptedAs bytes raw spec → IsAcceptedAs bytes again other → (raw ≡ again) × (spec ≡ other)
  one_accepted bytes raw again spec other a b =
      let same = reading.one_spec bytes raw again a.derived b.derived in
      (same, meaning.one again spec other (subst (λ (r : RawSpec). StandsFor r spec) same a.stands) b.stands)

  module _ (faults : OneFault) (none : FaultyStandsForNone)
      (admission : (spec : Spec) → NoFaultWhereAdmitted (above_of spec)) where
    no_text_refusal : (bytes line : List ℕ) (raw : RawSpec) (spec : Spec) → IsAcceptedAs bytes raw spec →
        IsTextRefusal bytes line → ⊥
    no_text_refusal bytes line raw spec a (faulty fault has is) = faults.none bytes raw fault a.derived has
    no_text_refusal bytes line raw spec a (unsorted other at kind derived first is) =
        none.specification other at kind first spec
        (subst (λ (r : RawSpec). StandsFor r spec) (reading.one_spec bytes raw other a.derived derived) a.stands)

    pub no_refusal : (bytes line : List ℕ) (raw : RawSpec) (spec : Spec) → IsAcceptedAs bytes raw spec →
        IsRefusalOf bytes line → ⊥
    no_refusal bytes line raw spec a (no_specification refusal) = no_text_refusal bytes line raw spec a refusal
    no_refusal bytes line raw spec a (not_admitted other fault stands first is) =
        let same_raw = reading.one_spec bytes stands.0 raw stands.1 a.derived in
        let same : other ≡ spec =
        meaning.one raw other spec (subst (λ (r : RawSpec). StandsFor r other) same_raw stands.2) a.stands in
        let free : fault ≡ OutOfMemory =
        admission spec spec fault a.admitted
        (subst (λ (s : Spec). IsFirstFault (above_of s) s fault) same first) in
        subst (λ (f : AdmitFault). IsAdmitLine other.sig f line) free is
