-- A finished report is read again and accepted.
use Rattle.std.proofs.Common.{◌≡◌, ◌<◌, ◌≤◌, ℕ, List, Some, refl, subst, arith, length}
use Rattle.std.specs.Prelude.{Option, None}
use Rattle.spec_core.specs.declared.records.Spec.{Spec}
use Rattle.spec_core.specs.WellSorted.{IsWellSorted}
use Rattle.spec_order.specs.Orders.{above_of}
use Rattle.clause_core.specs.declared.reports.Report.{Report}
use Rattle.proof_script.specs.Claims.{report_text}
use Rattle.proof_script.specs.Texts.{IsReportText}
use Rattle.acceptance.specs.Accepting.{IsAccepted}
use Rattle.soundness.specs.ReportTruth.{ReportIsTrue}
use Rattle.search_claims.specs.Claims.{report_of}
use Rattle.file_replies.specs.Reads.{most_report_bytes}
use Rattle.file_replies.specs.declared.statuses.Status.{Status}
use Rattle.file_replies.specs.declared.statuses.Status.TheVariants.{Done}
use Rattle.spike_cli.specs.FinishedReports.{FinishedReportsAreAccepted, IsAnsweredByYes}
use Rattle.spike_cli.specs.Outcomes.{OneReplay}
use Rattle.spike_cli.specs.Replays.{IsReplay, IsFileReplay}
use Rattle.file_replies.specs.Replies.{accepted, replied, too_long_report}
use Rattle.reply_lines.specs.Lines.{yes_line}

module _ (one : OneReplay) (spec : Spec) (fine : IsWellSorted spec) (bytes line : List ℕ)
    (yes : IsReplay spec bytes line Done) (short : length bytes ≤ most_report_bytes) where
  only_yes : (held : Option (List ℕ)) → held ≡ Some bytes → (text : List ℕ) (s : Status) →
      IsFileReplay spec held text s → (text ≡ line) × (s ≡ Done)
  only_yes None e text s r = absurd (let q : None ≡ Some bytes = e in cc)
  only_yes (Some told) e text s (replied read are is) =
      let q : Some told ≡ Some bytes = e in
      let k : told ≡ bytes = cc in
      let same : read ≡ bytes = subst (λ w. read ≡ w) k are.told in
      one.one spec bytes text line s Done fine (subst (λ b. IsReplay spec b text s) same is) yes
  only_yes (Some told) e text s (too_long_report long) =
      let q : Some told ≡ Some bytes = e in
      let k : told ≡ bytes = cc in
      let far : most_report_bytes < length bytes = subst (λ w. most_report_bytes < length w) k long in
      absurd (omega (arith, far, short))

-- an accepted report that is true and has this text
answered :
    OneReplay → (spec : Spec) → IsWellSorted spec → (report : Report) (text : List ℕ) →
    IsReportText spec.sig text report → IsAccepted (above_of spec) spec report →
    ReportIsTrue spec report → length text ≤ most_report_bytes → IsAnsweredByYes spec text
answered one spec fine report text stands ok true short =
    let yes : IsReplay spec text (yes_line report.claims) Done = accepted report stands ok true refl in
    record {
      claims = report.claims;
      answer = replied text (record { told = refl; within = short }) yes;
      only = only_yes one spec fine text (yes_line report.claims) yes short (Some text) refl;
    }

pub finished_accepted : OneReplay → FinishedReportsAreAccepted
finished_accepted one = record {
  made = λ bounds spec text status fine r.
      answered one spec fine (report_of bounds.search.steps r.claims) text r.stands r.accepted r.true
      r.short;
  trimmed = λ spec report text fine t.
      answered one spec fine t.trimmed text t.stands t.trims.accepted t.true t.short;
  by_hand = λ spec report fine r.
      answered one spec fine report (report_text spec.sig report) r.stands r.accepted r.true r.short;
}
