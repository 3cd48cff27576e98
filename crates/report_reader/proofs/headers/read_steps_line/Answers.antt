use Rattle.std.proofs.Common.{sym, subst}
use Rattle.std.proofs.lemmas.Result.{err_from_is_err_and}
use Rattle.report_reader.specs.Answers.{TellsFault}
use Rattle.report_reader.specs.Stages.{titled}
use Rattle.report_reader.proofs.Moves.{steps_moved}
use Rattle.report_reader.proofs.Stops.{stops, no_steps}
use Rattle.report_reader.proofs.headers.read_steps_line.Goals as goal

pub returns-in_err-line : goal.returns-in_err-line
returns-in_err-line c =
    let p = err_from_is_err_and c.from_residual.result c.from_residual.ensures.1 in
    λ sig text d b. rw (p.1, p.2) (stops sig d text c.args.at titled b c.in_err-line.field-0.0 tt c.in_err-line.ensures)

pub returns-in-Some : goal.returns-in-Some
returns-in-Some c = λ sig text d b. steps_moved sig text c.args.at c.in_ok-line.line.now c.in_ok-line.behind
    c.in-Some.steps b c.in_ok-line.ensures c.in-Some.ensures

pub returns-in-None : goal.returns-in-None
returns-in-None c = λ sig text d b. subst (λ e. TellsFault sig text e) (sym c.fault.ensures)
    (no_steps sig d text c.args.at c.in_ok-line.line.now c.in_ok-line.behind c.in_ok-line.ensures b c.in-None.ensures)
