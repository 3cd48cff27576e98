use Rattle.std.proofs.Common.{sym, ◌∙◌, subst}
use Rattle.std.proofs.lemmas.Slice.Eq.{bytes_eq-Decides}
use Rattle.std.proofs.lemmas.Result.{err_from_is_err_and}
use Rattle.proof_script.proofs.NextWords.{no_match}
use Rattle.report_reader.specs.Answers.{TellsFault}
use Rattle.report_reader.specs.Stages.{start}
use Rattle.report_reader.proofs.Moves.{at_start, title_moved}
use Rattle.report_reader.proofs.Stops.{stops, no_title}
use Rattle.report_reader.proofs.headers.read_header.Goals as goal

pub returns-in_err-title : goal.returns-in_err-title
returns-in_err-title c =
    let text = c.args.text.now in
    let first = c.of-first in
    let p = err_from_is_err_and c.from_residual.result c.from_residual.ensures.1 in
    λ sig d. rw (p.1, p.2)
    (stops sig d text first.result start
    (at_start sig text first.result first.ensures.rest first.ensures.read first.ensures.number)
    c.in_err-title.field-0.0 tt c.in_err-title.ensures)

pub returns-then-eq : goal.returns-then-eq
returns-then-eq c =
    let text = c.args.text.now in
    let first = c.of-first in
    let w = c.in_ok-title in
    let same = (bytes_eq-Decides w.title.now c.as_slice.result.now).0 (sym c.if-eq.ensures) ∙ c.as_slice.ensures in
    λ sig d. c.read_steps_line.ensures sig text d (title_moved sig text first.result w.title.now w.second
    (at_start sig text first.result first.ensures.rest first.ensures.read first.ensures.number) w.ensures same)

pub returns : goal.returns
returns c =
    let text = c.args.text.now in
    let first = c.of-first in
    let w = c.in_ok-title in
    λ sig d. subst (λ e. TellsFault sig text e) (sym c.fault.ensures)
    (no_title sig d text first.result w.title.now w.second w.ensures
    (at_start sig text first.result first.ensures.rest first.ensures.read first.ensures.number)
    (λ e. no_match w.title.now c.as_slice.result.now c.if-eq.ensures (e ∙ sym c.as_slice.ensures)))
