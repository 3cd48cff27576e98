-- An accepted report that has a text, a trimmed one among them, isn't too long for `replay`.
use Rattle.std.proofs.Common.{◌≡◌, ◌≤◌, ◌+◌, ◌*◌, ℕ, List, [], ◌∷◌, subst, sym, arith, length, length-append}
use Rattle.std.specs.List.{AllByRecursion}
use Rattle.spec_core.specs.declared.records.Goal.{Goal}
use Rattle.spec_core.specs.declared.records.Spec.{Spec}
use Rattle.spec_order.specs.Orders.{above_of}
use Rattle.clause_core.specs.declared.reports.Report.{Report}
use Rattle.acceptance.specs.Accepting.{IsAccepted}
use Rattle.proof_script.specs.Claims.{header_lines, last_line, report_text}
use Rattle.proof_script.specs.Names.{IsReportName}
use Rattle.proof_script.specs.Standing.{IsShort}
use Rattle.proof_script.specs.Texts.{IsReportText}
use Rattle.proof_script.specs.Words.{line_text, lines_text}
use Rattle.script_trim.specs.Standing.{HasText, TrimmedReportsStand}
use Rattle.script_trim.specs.Trimmed.{LeadsTo, Trims}
use Rattle.search_claims.proofs.Bytes.{line_bytes}
use Rattle.search_claims.specs.Names.{GoalNamesStand}
use Rattle.soundness.specs.AcceptedAreTrue.{AcceptedAreTrue}
use Rattle.spike_cli.specs.Trims.{IsTrimmedText}
use Rattle.file_replies.specs.Reported.{HasReports}
use Rattle.spike_cli.proofs.FewClaims.{few_claims}
use Rattle.spike_cli.proofs.ReportedClaims.{header_bytes}

pub goal_names :
    (goals : List Goal) → AllByRecursion GoalNamesStand goals →
    AllByRecursion (λ (goal : Goal). IsReportName goal.name) goals
goal_names [] all = tt
goal_names (goal ∷ goals) all = (all.0.goal_name, goal_names goals all.1)

-- the text of an accepted report isn't too long for `replay`
pub text_short :
    (spec : Spec) → HasReports spec → (report : Report) →
    IsReportText spec.sig (report_text spec.sig report) report →
    length (report_text spec.sig report)
    ≤ length (lines_text spec.sig (header_lines report.steps)) + 300000 * length report.claims
    + length (lines_text spec.sig (last_line ∷ [])) →
    IsAccepted (above_of spec) spec report → length (report_text spec.sig report) ≤ 67108864
text_short spec reports report text bytes ok =
    let short : IsShort report.steps = omega (arith, text.stands.steps.1) in
    omega (
      arith,
      reports.few_goals,
      bytes,
      few_claims (above_of spec) spec report.steps report.claims ok,
      header_bytes spec.sig report.steps short,
      line_bytes spec.sig last_line,
      length-append (line_text spec.sig last_line) [],
    )

module _
    (spec : Spec) (reports : HasReports spec) (stand : TrimmedReportsStand (above_of spec))
    (report : Report) (read : (bytes : List ℕ) × IsReportText spec.sig bytes report)
    (accepted : IsAccepted (above_of spec) spec report) where
  pub has_text :
      (trimmed : Report) → LeadsTo (above_of spec) spec report trimmed → HasText spec.sig trimmed
  has_text trimmed leads =
      stand spec read.0 report trimmed reports.fine (goal_names spec.goals reports.names.goals) read.1
      accepted leads

  pub trimmed_text :
      AcceptedAreTrue (above_of spec) → (trimmed : Report) →
      LeadsTo (above_of spec) spec report trimmed → Trims (above_of spec) spec report trimmed →
      (text : List ℕ) → text ≡ report_text spec.sig trimmed → IsTrimmedText spec report text
  trimmed_text sound trimmed leads trims text is =
      let has = has_text trimmed leads in
      record {
        trimmed = trimmed;
        leads = leads;
        trims = trims;
        true = sound spec trimmed reports.fine reports.admitted trims.accepted;
        stands = subst (λ t. IsReportText spec.sig t trimmed) (sym is) has.text;
        short =
            subst (λ t. length t ≤ 67108864) (sym is)
            (text_short spec reports trimmed has.text has.short trims.accepted);
      }
