use Rattle.std.proofs.Common.{◌≡◌, ◌∙◌, Some, subst, sym}
use Rattle.report_reader.specs.Answers.{TellsFault}
use Rattle.report_reader.specs.declared.errors.ReportError.{ReportError}
use Rattle.explore_cli.proofs.bases.base_of.Goals as goal

pub unreachable-requires : goal.unreachable-requires
unreachable-requires c =
    let sig = c.args.admitted.now.spec.sig in
    let bytes = c.deref.result.now in
    let told =
    subst (λ a. TellsFault a.spec.sig bytes c.in-Err-Line.field-0) c.admitted.view_is
    c.in-Err-Line.ensures in
    let fault =
    subst (λ (e : ReportError). TellsFault sig bytes e) c.in-Err-Line.field-0-is told in
    let written : Some c.in_ok-sink.sink ≡ Some c.bytes.result.now = c.bytes.ensures in
    let all : c.in_ok-sink.sink ≡ c.bytes.result.now = cc in
    let same = c.deref.ensures.value ∙ c.in_ok-text.ensures.items ∙ sym all in
    let report = c.in_ok-sink.ensures.1 in
    let is_text = rw (← same) at report.stands in
    c.one_fault.ensures.none sig bytes _ c.in-Err-Line.field-0-0 is_text fault
