-- The report that a session writes is accepted, true, and not too long for `replay`.
use Rattle.std.proofs.Common.{◌≡◌, ◌≤◌, ◌+◌, ◌*◌, ℕ, List, [], ◌∷◌, arith, length}
use Rattle.std.specs.Prelude.{Bool}
use Rattle.spec_core.specs.declared.records.Spec.{Spec}
use Rattle.spec_order.specs.Orders.{above_of}
use Rattle.clause_core.specs.declared.reports.Report.{Report}
use Rattle.acceptance.specs.Accepting.{IsAccepted}
use Rattle.proof_script.specs.Claims.{header_lines, last_line, report_text}
use Rattle.proof_script.specs.Texts.{IsReportText}
use Rattle.proof_script.specs.Words.{lines_text}
use Rattle.script_trim.proofs.StandingReports.{claims_length, report_length}
use Rattle.session_core.specs.declared.commands.Command.{Command}
use Rattle.session_core.specs.CommandText.{AreCommands}
use Rattle.session_core.specs.SessionText.{IsSessionText}
use Rattle.session_core.specs.Sound.{report_of, IsSound}
use Rattle.session_core.proofs.Sound.{states_sound}
use Rattle.session_core.proofs.WrittenReports.{written_report_stands}
use Rattle.soundness.specs.AcceptedAreTrue.{AcceptedAreTrue}
use Rattle.spike_cli.specs.Sessions.{IsRightReport}
use Rattle.file_replies.specs.Reported.{HasReports}
use Rattle.spike_cli.proofs.TrimmedReports.{text_short}

pub right_report :
    (spec : Spec) → HasReports spec → AcceptedAreTrue (above_of spec) → (bytes : List ℕ)
    (commands : List Command) (text : List ℕ) (busy : Bool) → AreCommands spec.sig bytes commands →
    (said : IsSessionText (above_of spec) spec commands text busy) →
    IsRightReport spec (report_of 1000 said.state)
right_report spec reports true_if bytes commands text busy are said =
    let sound : IsSound (above_of spec) spec said.state =
    states_sound (above_of spec) spec said.left said.state said.state_is in
    let report : Report = report_of 1000 said.state in
    let ok : IsAccepted (above_of spec) spec report = sound.accepted 1000 in
    let stands : IsReportText spec.sig (report_text spec.sig report) report =
    written_report_stands (above_of spec) spec bytes commands text busy are said in
    let bytes_are : length (report_text spec.sig report)
    ≤ length (lines_text spec.sig (header_lines report.steps)) + 300000 * length report.claims
    + length (lines_text spec.sig (last_line ∷ [])) =
    omega (arith, report_length spec.sig report, claims_length spec.sig said.state.claims sound.short) in
    record {
      accepted = ok;
      true = true_if spec report reports.fine reports.admitted ok;
      stands = stands;
      short = text_short spec reports report stands bytes_are ok;
    }
