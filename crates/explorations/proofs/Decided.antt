-- Two texts are an exploration if and only if each of them passes its tests.
use Rattle.std.proofs.Common.{◌≡◌, ℕ, List, sym, subst}
use Rattle.std.specs.Prelude.{None}
use Rattle.spec_core.specs.declared.records.Spec.{Spec}
use Rattle.spec_grammar.specs.declared.raw.RawSpec.{RawSpec}
use Rattle.spec_grammar.specs.Laws.{OneReading}
use Rattle.sort_check.specs.Laws.{OneSpecification}
use Rattle.clause_core.specs.declared.reports.Report.{Report}
use Rattle.proof_script.specs.Laws.{OneReport}
use Rattle.proof_script.specs.Texts.{IsReportText}
use Rattle.soundness.specs.ReportTruth.{ReportIsTrue}
use Rattle.added_goals.specs.Additions.{AddsGoals}
use Rattle.explorations.specs.Answers.{AcceptsReport, AcceptsText, IsAcceptedText, IsShortTextOf, ProvesEnough}
use Rattle.explorations.specs.Explorations.{IsExploration, IsExplorationAs}
use Rattle.explorations.proofs.RefusedTexts.{one_accepted}

module _ (old : Spec) (base : Report) (text report_text : List ℕ) where
  -- the parts of an exploration
  pub has_text : {raw : RawSpec} {new : Spec} {report : Report} →
      IsExplorationAs old base text raw new report_text report → IsShortTextOf text raw new
  has_text e = record { short = e.short; accepted = e.accepted }

  pub has_report : {raw : RawSpec} {new : Spec} {report : Report} →
      IsExplorationAs old base text raw new report_text report → IsAcceptedText new report_text report
  has_report e = record { is_report = e.is_report; replayed = e.replayed }

  pub has_enough : {raw : RawSpec} {new : Spec} {report : Report} →
      IsExplorationAs old base text raw new report_text report → ProvesEnough old base new report
  has_enough e = record { further = e.further; kept = e.kept }

  -- and what they make
  pub is_exploration : {raw : RawSpec} {new : Spec} {report : Report} → IsShortTextOf text raw new →
      AddsGoals old new → IsAcceptedText new report_text report → ReportIsTrue new report →
      ProvesEnough old base new report → IsExplorationAs old base text raw new report_text report
  is_exploration t adds r is_true enough = record {
    short = t.short;
    accepted = t.accepted;
    adds = adds;
    is_report = r.is_report;
    replayed = r.replayed;
    true = is_true;
    further = enough.further;
    kept = enough.kept;
  }

  pub no_text : AcceptsText text None → IsExploration old base text report_text → ⊥
  no_text none e = none e.0 e.1 (has_text e.3)

  module _ (reading : OneReading) (meaning : OneSpecification) (raw : RawSpec) (new : Spec)
      (t : IsShortTextOf text raw new) where
    -- an exploration of these texts is one with this specification
    with_new : IsExploration old base text report_text →
        (report : Report) × IsExplorationAs old base text raw new report_text report
    with_new e =
        let same = one_accepted reading meaning text e.0 raw e.1 new e.3.accepted t.accepted in (
          e.2,
          subst (λ (s : Spec). IsExplorationAs old base text raw s report_text e.2) same.1
              (subst (λ (r : RawSpec). IsExplorationAs old base text r e.1 report_text e.2) same.0 e.3),
        )

    pub no_addition : (AddsGoals old new → ⊥) → IsExploration old base text report_text → ⊥
    no_addition other e = other (with_new e).1.adds

    pub no_report : AcceptsReport new report_text None → IsExploration old base text report_text → ⊥
    no_report none e = let w = with_new e in none w.0 (has_report w.1)

    pub too_little : OneReport → (report : Report) → IsAcceptedText new report_text report →
        (ProvesEnough old base new report → ⊥) → IsExploration old base text report_text → ⊥
    too_little reports report r little e =
        let w = with_new e in
        let same =
        reports.one new.sig report_text w.0 report t.accepted.stands.numbered.declared w.1.is_report r.is_report in
        little (subst (λ (o : Report). ProvesEnough old base new o) same (has_enough w.1))

pub one_exploration : OneReading → OneSpecification → OneReport → (old : Spec) (base : Report)
    (text report_text : List ℕ) (raw again : RawSpec) (new other : Spec) (report second : Report) →
    IsExplorationAs old base text raw new report_text report →
    IsExplorationAs old base text again other report_text second →
    (raw ≡ again) × (new ≡ other) × (report ≡ second)
one_exploration reading meaning reports old base text report_text raw again new other report second a b =
    let same = one_accepted reading meaning text raw again new other a.accepted b.accepted in
    let moved = subst (λ (s : Spec). IsReportText s.sig report_text second) (sym same.1) b.is_report in (
      same.0,
      same.1,
      reports.one new.sig report_text report second a.accepted.stands.numbered.declared a.is_report moved,
    )
