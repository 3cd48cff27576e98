-- What the text of a file leads to is one thing, and that of a term over a signature too.
use Rattle.std.proofs.Common.{◌≡◌, ℕ, List, [], sym, subst, ◌∙◌, inl, inr}
use Rattle.term_core.specs.Tree.{Tree}
use Rattle.spec_core.specs.declared.records.Spec.{Spec}
use Rattle.spec_core.specs.Sig.{Sig}
use Rattle.spec_core.specs.Declarations.{IsDeclared}
use Rattle.spec_core.specs.WellSorted.{IsWellSorted}
use Rattle.spec_core.proofs.Findings.{not_both}
use Rattle.spec_grammar.specs.RawTree.{RawTree}
use Rattle.spec_grammar.specs.declared.raw.RawSpec.{RawSpec}
use Rattle.spec_grammar.specs.Derives.{TextDerives}
use Rattle.spec_grammar.specs.Grammar.{IsSpecText, IsTermText}
use Rattle.spec_grammar.specs.Symbols.{spec_symbols, term_symbols}
use Rattle.spec_grammar.proofs.Agrees.{spec_agrees, term_text_agrees}
use Rattle.spec_grammar.proofs.Means.{spec_means, term_means}
use Rattle.spec_grammar.proofs.Unique.{one_spec as one_spec_text, one_term_text as one_raw_term}
use Rattle.sort_check.specs.StandsFor.{StandsFor, TermStandsFor}
use Rattle.sort_check.specs.FirstFault.{spec_tests, ground_tests}
use Rattle.sort_check.proofs.OneSpec.{one_spec}
use Rattle.sort_check.proofs.Names.{symbols_distinct}
use Rattle.sort_check.proofs.OneTerm.{one_term}
use Rattle.spec_order.specs.Orders.{above_of}
use Rattle.spec_admit.specs.FirstFault.{Tells as IsFirstFault}
use Rattle.spec_admit.specs.Laws.{NoFaultWhereAdmitted, OneFault}
use Rattle.spec_admit.specs.declared.faults.AdmitFault.{AdmitFault}
use Rattle.spec_admit.specs.declared.faults.AdmitFault.TheVariants.{Linear, Order, Overlap, Guards, Coverage}
use Rattle.spec_admit.specs.declared.faults.AdmitFault.TheVariants.{OutOfMemory}
use Rattle.accepted_spec.specs.AdmitLines.{IsAdmitLine}
use Rattle.accepted_spec.specs.declared.refusals.Subject.TheVariants.{File, Term}
use Rattle.accepted_spec.specs.Meanings.{TextStandsFor, IsAcceptedAs, TermTextStandsFor}
use Rattle.accepted_spec.specs.Refusals.{IsTextRefusal, IsRefusalOf, no_specification, not_admitted, IsTermRefusal}
use Rattle.file_replies.proofs.Reported.{well_sorted_meaning}
use Rattle.spike_cli.proofs.OneText.{one_raw, taken_or_refused, same_refusal}

same_raw : (bytes : List ℕ) (raw other : RawSpec) → TextDerives IsSpecText bytes raw →
    TextDerives IsSpecText bytes other → raw ≡ other
same_raw bytes raw other a b = one_raw spec_symbols IsSpecText spec_agrees spec_means one_spec_text bytes raw other a b

one_meaning : (bytes : List ℕ) (spec other : Spec) → TextStandsFor bytes spec → TextStandsFor bytes other → spec ≡ other
one_meaning bytes spec other a b = one_spec a.0 spec other a.2
    (subst (λ (raw : RawSpec). StandsFor raw other) (same_raw bytes b.0 a.0 b.1 a.1) b.2)

-- a text that stands for a specification has no fault before admission
no_text_refusal : (bytes line : List ℕ) (spec : Spec) → TextStandsFor bytes spec → IsTextRefusal bytes line → ⊥
no_text_refusal bytes line spec a r = taken_or_refused spec_symbols IsSpecText spec_agrees spec_means
    one_spec_text bytes File spec_tests a.0 line a.1 (λ fault first. not_both (spec_tests a.0) fault a.2.clean first) r

pub one_specification : (bytes : List ℕ) (raw again : RawSpec) (spec other : Spec) →
    IsAcceptedAs bytes raw spec → IsAcceptedAs bytes again other → (raw ≡ again) × (spec ≡ other)
one_specification bytes raw again spec other a b = (
  same_raw bytes raw again a.derived b.derived,
  one_meaning bytes spec other (raw, a.derived, a.stands) (again, b.derived, b.stands),
)

pub no_refusal :
    ((spec : Spec) → NoFaultWhereAdmitted (above_of spec)) → (bytes line : List ℕ) (raw : RawSpec)
    (spec : Spec) → IsAcceptedAs bytes raw spec → IsRefusalOf bytes line → ⊥
no_refusal none bytes line raw spec a (no_specification r) = no_text_refusal bytes line spec (
  raw,
  a.derived,
  a.stands,
) r
no_refusal none bytes line raw spec a (not_admitted other fault stands first is) =
    let same : other ≡ spec = one_meaning bytes other spec stands (raw, a.derived, a.stands) in
    let free : fault ≡ OutOfMemory =
    none spec spec fault a.admitted
    (subst (λ (s : Spec). IsFirstFault (above_of s) s fault) same first) in
    subst (λ (f : AdmitFault). IsAdmitLine other.sig f line) free is

-- a fault of admission has one line
one_admit_line : (sig : Sig) (fault : AdmitFault) (line other : List ℕ) → IsAdmitLine sig fault line →
    IsAdmitLine sig fault other → line ≡ other
one_admit_line sig (Linear rule name) line other a b = a ∙ sym b
one_admit_line sig (Order rule part) line other a b = a ∙ sym b
one_admit_line sig (Overlap first second values) line other a b = a ∙ sym b
one_admit_line sig (Guards rule) line other a b = a ∙ sym b
one_admit_line sig (Coverage f values) line other a b = a ∙ sym b
one_admit_line sig OutOfMemory line other a b = absurd a

module _ (one : (spec : Spec) → OneFault (above_of spec)) where
  same_admit_line :
      (spec : Spec) (fault another : AdmitFault) (line other : List ℕ) → IsWellSorted spec →
      IsFirstFault (above_of spec) spec fault → IsFirstFault (above_of spec) spec another →
      IsAdmitLine spec.sig fault line → IsAdmitLine spec.sig another other → line ≡ other
  same_admit_line spec fault another line other fine first second a b =
      elim (one spec spec fault another fine first second) [
        | inl same ↦ one_admit_line spec.sig fault line other a
            (subst (λ (f : AdmitFault). IsAdmitLine spec.sig f other) (sym same) b)
        | inr none ↦ elim none [
          | inl e ↦ absurd (subst (λ (f : AdmitFault). IsAdmitLine spec.sig f line) e a)
          | inr e ↦ absurd (subst (λ (f : AdmitFault). IsAdmitLine spec.sig f other) e b)
        ]
      ]

  pub one_refusal : (bytes line other : List ℕ) → IsRefusalOf bytes line → IsRefusalOf bytes other → line ≡ other
  one_refusal bytes line other (no_specification a) (no_specification b) = same_refusal spec_symbols IsSpecText
      spec_agrees spec_means one_spec_text bytes File spec_tests line other a b
  one_refusal bytes line other (no_specification a) (not_admitted spec fault stands first is) = absurd
      (no_text_refusal bytes line spec stands a)
  one_refusal bytes line other (not_admitted spec fault stands first is) (no_specification b) = absurd
      (no_text_refusal bytes other spec stands b)
  one_refusal bytes line other (not_admitted spec fault stands first is) (not_admitted again another means second it) =
      let same : again ≡ spec = one_meaning bytes again spec means stands in
      same_admit_line spec fault another line other (well_sorted_meaning bytes spec stands) first
      (subst (λ (s : Spec). IsFirstFault (above_of s) s another) same second) is
      (subst (λ (s : Spec). IsAdmitLine s.sig another other) same it)

pub one_term_text : (sig : Sig) (bytes : List ℕ) (t other : Tree) → IsDeclared sig →
    TermTextStandsFor sig bytes t → TermTextStandsFor sig bytes other → t ≡ other
one_term_text sig bytes t other declared a b =
    let same : b.0 ≡ a.0 = one_raw term_symbols IsTermText term_text_agrees term_means one_raw_term bytes b.0
    a.0 b.1 a.1 in
    let stands : TermStandsFor sig a.0 other = subst (λ (raw : RawTree). TermStandsFor sig raw other) same b.2 in
    one_term sig (symbols_distinct sig declared) [] tt a.0 t other a.2.numbered stands.numbered

pub no_term_refusal : (sig : Sig) (bytes line : List ℕ) (t : Tree) → TermTextStandsFor sig bytes t →
    IsTermRefusal sig bytes line → ⊥
no_term_refusal sig bytes line t a r = taken_or_refused term_symbols IsTermText term_text_agrees term_means
    one_raw_term bytes Term (ground_tests sig) a.0 line a.1
    (λ fault first. not_both (ground_tests sig a.0) fault a.2.clean first) r

pub one_term_refusal : (sig : Sig) (bytes line other : List ℕ) → IsTermRefusal sig bytes line →
    IsTermRefusal sig bytes other → line ≡ other
one_term_refusal sig bytes line other a b = same_refusal term_symbols IsTermText term_text_agrees term_means
    one_raw_term bytes Term (ground_tests sig) line other a b
