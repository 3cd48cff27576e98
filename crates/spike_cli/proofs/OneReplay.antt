-- What the bytes of a report lead to is one thing, if what is written for an accepted one is.
use Rattle.std.proofs.Common.{◌≡◌, ℕ, List, ap, refl, sym, subst, ◌∙◌}
use Rattle.std.specs.Prelude.{codes}
use Rattle.spec_core.specs.declared.records.Spec.{Spec}
use Rattle.spec_core.specs.WellSorted.{IsWellSorted}
use Rattle.spec_order.specs.Orders.{above_of}
use Rattle.clause_core.specs.declared.reports.Report.{Report}
use Rattle.clause_core.specs.declared.reports.ReplayWhy.{ReplayWhy}
use Rattle.clause_core.proofs.OneRelation.{one_relation}
use Rattle.proof_script.specs.Claims.{report_text}
use Rattle.proof_script.specs.Laws.{OneFault, OneReport}
use Rattle.proof_script.specs.Texts.{IsReportText}
use Rattle.acceptance.specs.Accepting.{IsAccepted}
use Rattle.acceptance.specs.Laws.{OneVerdict}
use Rattle.acceptance.specs.Refusals.{IsFirstRefusal}
use Rattle.script_trim.proofs.FirstCuts.{reports_one}
use Rattle.file_replies.specs.declared.statuses.Status.{Status}
use Rattle.file_replies.specs.declared.statuses.Status.TheVariants as status
use Rattle.spike_cli.specs.Outcomes.{OneReply}
use Rattle.file_replies.specs.Replies.{IsReply, accepted, no_report, refused}
use Rattle.spike_cli.specs.Replays.{IsYesLine}
use Rattle.spike_cli.specs.Trims.{IsTrimmedText}
use Rattle.reply_lines.specs.Lines.{no_line, why_text}

-- what is written for an accepted report is one text
abbrev pub OneYes : (Spec → Report → List ℕ → Type 0) → Type 0
OneYes IsYes =
    (spec : Spec) (report : Report) (text other : List ℕ) → IsWellSorted spec →
    IsYes spec report text → IsYes spec report other → text ≡ other

pub one_line : OneYes IsYesLine
one_line spec report text other fine is is_too = is ∙ sym is_too

pub one_trimmed : OneYes IsTrimmedText
one_trimmed spec report text other fine is is_too =
    let same =
    reports_one (above_of spec) spec (one_relation (above_of spec)) fine report is.trimmed
    is_too.trimmed is.leads is_too.leads in
    is.stands.is ∙ ap (λ (r : Report). report_text spec.sig r) same ∙ sym is_too.stands.is

module _
    (IsYes : Spec → Report → List ℕ → Type 0) (one_yes : OneYes IsYes)
    (reports : OneReport) (faults : OneFault) (verdict : (spec : Spec) → OneVerdict (above_of spec)) where
  module _ (spec : Spec) (bytes : List ℕ) (fine : IsWellSorted spec) where
    same_report :
        (report other : Report) → IsReportText spec.sig bytes report →
        IsReportText spec.sig bytes other → other ≡ report
    same_report report other is it = reports.one spec.sig bytes other report fine.signature it is

    -- a report isn't both accepted and refused
    not_both :
        (report other : Report) (line : ℕ) (why : ReplayWhy) → IsReportText spec.sig bytes report →
        IsAccepted (above_of spec) spec report → IsReportText spec.sig bytes other →
        IsFirstRefusal (above_of spec) spec other line why → ⊥
    not_both report other line why is ok it first =
        (verdict spec).not_both spec report line why fine ok
        (subst (λ (r : Report). IsFirstRefusal (above_of spec) spec r line why)
        (same_report report other is it) first)

    one :
        (text other : List ℕ) (s again : Status) → IsReply IsYes spec bytes text s →
        IsReply IsYes spec bytes other again → (text ≡ other) × (s ≡ again)
    one text other s again (accepted report is ok true said) (accepted second it too shown told) =
        let moved =
        subst (λ (r : Report). IsYes spec r other) (same_report report second is it) told in
        (one_yes spec report text other fine said moved, refl)
    one text other s again (accepted report is ok true said) (no_report line fault) =
        absurd (faults.none spec.sig bytes report line is fault)
    one text other s again (accepted report is ok true said) (refused second line why it first) =
        absurd (not_both report second line why is ok it first)
    one text other s again (no_report line fault) (accepted report is ok true said) =
        absurd (faults.none spec.sig bytes report line is fault)
    one text other s again (no_report line fault) (no_report place stuck) =
        (ap (λ n. no_line n (codes "not a report")) (faults.one spec.sig bytes line place fault stuck), refl)
    one text other s again (no_report line fault) (refused report place why is first) =
        absurd (faults.none spec.sig bytes report line is fault)
    one text other s again (refused report line why is first) (accepted second it ok true said) =
        absurd (not_both second report line why it ok is first)
    one text other s again (refused report line why is first) (no_report place fault) =
        absurd (faults.none spec.sig bytes report place is fault)
    one text other s again (refused report line why is first) (refused second place reason it other_first) =
        let moved =
        subst (λ (r : Report). IsFirstRefusal (above_of spec) spec r place reason)
        (same_report report second is it) other_first in
        let same = (verdict spec).one_refusal spec report line place why reason first moved in
        (λ i. no_line (same.0 i) (why_text (same.1 i)), refl)

    done :
        (text : List ℕ) (s : Status) (report : Report) → IsReportText spec.sig bytes report →
        IsAccepted (above_of spec) spec report → IsReply IsYes spec bytes text s → s ≡ status.Done
    done text s report is ok (accepted second it too true said) = refl
    done text s report is ok (no_report line fault) =
        absurd (faults.none spec.sig bytes report line is fault)
    done text s report is ok (refused second line why it first) =
        absurd (not_both report second line why is ok it first)

  pub one_reply : OneReply IsYes
  one_reply = record {
    one = λ spec bytes text other s again fine. one spec bytes fine text other s again;
    done = λ spec bytes text s report fine. done spec bytes fine text s report;
  }
